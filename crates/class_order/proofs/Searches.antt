-- A search downwards that appends each class when all below it have been searched.
use Rattle.std.proofs.Common.{◌≡◌, ℕ, zero, suc, ◌+◌, ◌<◌, ◌≤◌, ◌⊎◌, Bool, true, false, Some, List, [], ◌∷◌, ◌++◌, length, length-set, get_or, slice_get, set, replicate, true≢false, refl, sym, ap, subst, ◌∙◌, inl, inr, arith, eqb, eqb-true, ◌-◌, add-zero, length-append}
use Rattle.std.specs.List.{Contains, sum_by}
use Rattle.std.specs.Prelude.{MatchBool}
use Rattle.std.specs.Cmp.{unsigned_Decides}
use Rattle.std.proofs.lemmas.Bool.{cases_eq}
use Rattle.std.proofs.lemmas.List.{length-replicate, get_or-replicate, get_or-take, length-take-le}
use Rattle.std.proofs.lemmas.List.Elements.{Contains-get_or, Contains-push, Contains-push_cases, Contains-append_left}
use Rattle.std.proofs.lemmas.List.Sums.{sum_by-set}
use Rattle.std.proofs.lemmas.Map.Keys.{IsDistinct-from_apart}
use Rattle.std.proofs.lemmas.Map.Made.{is_member-Decides}
use Rattle.std.proofs.lemmas.Map.Steps.{length-le_from_distinct_below}
use Rattle.std.proofs.lemmas.Option.{slice_get-get_or, slice_get_within, get_or_from_slice_get}
use Rattle.class_order.specs.declared.finish.Stage.{Stage}
use Rattle.class_order.specs.declared.finish.Stage.TheVariants.{New, Open, Done}
use Rattle.class_order.specs.declared.finish.Visit.{Visit}
use Rattle.class_order.specs.Groups.{group}
use Rattle.class_rules.specs.Paths.{Path, here, step, ProperPath}
use Rattle.class_order.specs.Tables.{IsFinishing, Under, IsDepthFirst, IsSettled, IsSearch, IsStraight, HasBegun}
use Rattle.lists.proofs.Elements.{Contains-nil, slice_get-push_cases, slice_get-take_push, same_read}
use Rattle.lists.proofs.Places.{slice_get-append_left, slice_get-push, slice_get-set_same, slice_get-set_other}

-- ---- how many classes are new

abbrev pub newness : Stage → ℕ
newness New = 1
newness Open = 0
newness Done = 0

abbrev pub new_count : List Stage → ℕ
new_count stages = sum_by newness stages

pub new_count-opened : (stages : List Stage) (c : ℕ) → slice_get stages c ≡ Some New → new_count (set stages c Open) + 1 ≡ new_count stages
new_count-opened stages c is =
    let e = sum_by-set newness stages c Open New (slice_get_within stages c New is) in
    let one : newness (get_or stages c New) ≡ 1 = ap newness (get_or_from_slice_get stages c New New is) in
    omega (arith, e, one)

pub new_count-done : (stages : List Stage) (c : ℕ) → slice_get stages c ≡ Some Open → new_count (set stages c Done) ≡ new_count stages
new_count-done stages c is =
    let e = sum_by-set newness stages c Done Open (slice_get_within stages c Open is) in
    let none : newness (get_or stages c Open) ≡ 0 = ap newness (get_or_from_slice_get stages c Open Open is) in
    omega (arith, e, none)

-- ---- the order

-- a path, and then one or more steps
proper_after : {Step : ℕ → ℕ → Type 0} {a b c : ℕ} → Path Step a b → ProperPath Step b c → ProperPath Step a c
proper_after here q = q
proper_after (step {b = x} t p) q = let r = proper_after p q in (x, t, step r.1 r.2)

depth_first_none : (below : List (List ℕ)) → IsDepthFirst (Under below) []
depth_first_none below = record { once = λ i c e m. cc; back = λ i c d e p none. cc }

depth_first_push : (below : List (List ℕ)) (order : List ℕ) (c : ℕ) → IsDepthFirst (Under below) order → (Contains order c → ⊥)
    → ((d : ℕ) → ProperPath (Under below) d c → (Contains order d → ⊥) → ProperPath (Under below) c c) → IsDepthFirst (Under below) (order ++ c ∷ [])
depth_first_push below order c s none last = record {
  once = slice_get-take_push (λ xs y. Contains xs y → ⊥) order c s.once none;
  back = λ i b d e. slice_get-take_push (λ xs y. (d : ℕ) → ProperPath (Under below) d y → (Contains xs d → ⊥) → ProperPath (Under below) y y) order c (λ i y e d. s.back i y d e) last i b e d;
}

-- one more class stands in the order, after all that are one step below it
pub straight_push : (below : List (List ℕ)) (order : List ℕ) (c : ℕ) → IsStraight below order → ((d : ℕ) → Under below d c → Contains order d) → IsStraight below (order ++ c ∷ [])
straight_push below order c s under i b d e u = slice_get-take_push (λ xs y. (d : ℕ) → Under below d y → Contains xs d) order c (λ i y e d. s i y d e) under i b e d u

pub straight_none : (below : List (List ℕ)) → IsStraight below []
straight_none below i c d e u = cc

-- what follows where the order is straight
pub straight_map : (P Q C : Type 0) (straight : Bool) → (P → Q) → MatchBool straight P C → MatchBool straight Q C
straight_map P Q C true f p = f p
straight_map P Q C false f p = p

-- what is said where it isn't straight, and where it is
pub bent : (P C : Type 0) (straight : Bool) → straight ≡ false → MatchBool straight P C → C
bent P C true e m = absurd (true≢false e)
bent P C false e m = m

pub unbent : (P C : Type 0) (straight : Bool) → straight ≡ true → MatchBool straight P C → P
unbent P C true e m = m
unbent P C false e m = absurd (true≢false (sym e))

-- where no class is below itself, the order is straight
pub finishing_by : (below : List (List ℕ)) (order : List ℕ) (straight : Bool) → MatchBool straight (IsFinishing below order) ((a : ℕ) × ProperPath (Under below) a a)
    → ((a : ℕ) → ProperPath (Under below) a a → ⊥) → IsFinishing below order
finishing_by below order true m acyclic = m
finishing_by below order false m acyclic = absurd (acyclic m.0 m.1)

-- no more classes stand in the order than there are
pub settled_bound : (below : List (List ℕ)) (order : List ℕ) → IsSettled below order → length order ≤ length below
settled_bound below order s = length-le_from_distinct_below order (length below) (IsDistinct-from_apart eqb order apart) (λ q m. s.within q ((is_member-Decides unsigned_Decides order q).0 m))
  where
    apart : (i j d : ℕ) → i < j → j < length order → eqb (get_or order i d) (get_or order j d) ≡ false
    apart i j d lt h = by (eqb (get_or order i d) (get_or order j d)) refl
      where
        by : (b : Bool) → eqb (get_or order i d) (get_or order j d) ≡ b → b ≡ false
        by true e = absurd (s.once j (get_or order j d) (slice_get-get_or order j d h) (i, omega (arith, length-take-le j order (omega arith)), get_or-take j order i _ lt ∙ same_read order i _ d (omega arith) ∙ eqb-true _ _ e))
        by false e = refl

-- ---- the search

start_stages : (n c : ℕ) (t : Stage) → slice_get (replicate n New) c ≡ Some t → t ≡ New
start_stages n c t e =
    let within : c < n = rw length-replicate at (slice_get_within (replicate n New) c t e) in
    sym (get_or_from_slice_get (replicate n New) c t New e) ∙ get_or-replicate n c New New within

pub search_none : (below : List (List ℕ)) → IsSearch below (replicate (length below) New) [] []
search_none below = record {
  len = length-replicate (length below) New;
  within = λ c m. absurd (Contains-nil c m);
  depth_first = depth_first_none below;
  left = λ c d e u new. let t = start_stages (length below) c Done e in cc;
  done = λ c e. let t = start_stages (length below) c Done e in cc;
  ordered = λ c m. absurd (Contains-nil c m);
  under_way = λ c e. let t = start_stages (length below) c Open e in cc;
  opened = λ k v e. cc;
  apart = λ j k v w lt e f. cc;
  skipped = λ k j v e lt. cc;
  counted = λ k v e. cc;
  linked = λ k v w e f. cc;
}

module _ (below : List (List ℕ)) (stages : List Stage) (order : List ℕ) where
  -- a class that is new or done isn't one of the path
  not_on_path : (path : List Visit) → IsSearch below stages order path → (k : ℕ) (v : Visit) → slice_get path k ≡ Some v → (slice_get stages v.class ≡ Some New → ⊥) × (slice_get stages v.class ≡ Some Done → ⊥)
  not_on_path path s k v e = let o = s.opened k v e in (λ f. cc, λ f. cc)

  -- the search goes on at a new class
  pub search_open : (path : List Visit) (c : ℕ) → IsSearch below stages order path → slice_get stages c ≡ Some New
      → ((k : ℕ) (v : Visit) → slice_get path k ≡ Some v → k + 1 ≡ length path → Under below c v.class)
      → IsSearch below (set stages c Open) order (path ++ record { class = c; next = 0 } ∷ [])
  search_open path c s new under = record {
    len = length-set stages c Open ∙ s.len;
    within = s.within;
    depth_first = s.depth_first;
    left = λ b d e u f. elim (cases_eq b c) [
      | inl at ↦ absurd (not_done b at e)
      | inr apart ↦ s.left b d (sym (slice_get-set_other stages c b Open apart) ∙ e) u (still_new d f)
    ];
    done = λ b e. elim (cases_eq b c) [
      | inl at ↦ let f = same in absurd (not_done b at e)
      | inr apart ↦ s.done b (sym (slice_get-set_other stages c b Open apart) ∙ e)
    ];
    ordered = λ b m. let d = s.ordered b m in slice_get-set_other stages c b Open (λ at. let f = ap (slice_get stages) at in cc) ∙ d;
    under_way = λ b e. elim (cases_eq b c) [
      | inl at ↦ (length path, visit, slice_get-push path visit, sym at)
      | inr apart ↦ let p = s.under_way b (sym (slice_get-set_other stages c b Open apart) ∙ e) in (p.0, p.1, slice_get-append_left path _ p.0 p.1 p.2, p.3)
    ];
    opened = λ k v e. elim (slice_get-push_cases path visit v k e) [
      | inl old ↦ slice_get-set_other stages c v.class Open (λ at. (not_on_path path s k v old).0 (ap (slice_get stages) at ∙ new)) ∙ s.opened k v old
      | inr last ↦ ap (λ (w : Visit). slice_get (set stages c Open) w.class) (sym last.1) ∙ same
    ];
    apart = λ j k v w lt e f at. elim (slice_get-push_cases path visit w k f) [
      | inl old ↦ elim (slice_get-push_cases path visit v j e) [
        | inl first ↦ s.apart j k v w lt first old at
        | inr last ↦ absurd (omega (arith, lt, last.0, slice_get_within path k w old))
      ]
      | inr last ↦ elim (slice_get-push_cases path visit v j e) [
        | inl first ↦ (not_on_path path s j v first).0 (ap (slice_get stages) (at ∙ ap (λ (u : Visit). u.class) (sym last.1)) ∙ new)
        | inr both ↦ absurd (omega (arith, lt, last.0, both.0))
      ]
    ];
    skipped = λ k j v e lt. elim (slice_get-push_cases path visit v k e) [
      | inl old ↦ λ f. s.skipped k j v old lt (still_new _ f)
      | inr last ↦ absurd (omega (arith, lt, ap (λ (w : Visit). w.next) last.1))
    ];
    counted = λ k v e. elim (slice_get-push_cases path visit v k e) [
      | inl old ↦ s.counted k v old
      | inr last ↦ let none = ap (λ (w : Visit). w.next) last.1 in omega (arith, none)
    ];
    linked = λ k v w e f. elim (slice_get-push_cases path visit w (k + 1) f) [
      | inl old ↦ elim (slice_get-push_cases path visit v k e) [
        | inl first ↦ s.linked k v w first old
        | inr last ↦ absurd (omega (arith, last.0, slice_get_within path (k + 1) w old))
      ]
      | inr last ↦ elim (slice_get-push_cases path visit v k e) [
        | inl first ↦ subst (λ (x : ℕ). Under below x v.class) (ap (λ (u : Visit). u.class) last.1) (under k v first last.0)
        | inr both ↦ absurd (omega (arith, last.0, both.0))
      ]
    ];
  }
    where
      visit : Visit
      visit = record { class = c; next = 0 }

      same : slice_get (set stages c Open) c ≡ Some Open
      same = slice_get-set_same stages c Open (slice_get_within stages c New new)

      not_done : (b : ℕ) → b ≡ c → slice_get (set stages c Open) b ≡ Some Done → ⊥
      not_done b at e = let f = sym (ap (slice_get (set stages c Open)) at) ∙ e in cc same

      still_new : (b : ℕ) → slice_get (set stages c Open) b ≡ Some New → slice_get stages b ≡ Some New
      still_new b e = elim (cases_eq b c) [
        | inl at ↦ ap (slice_get stages) at ∙ new
        | inr apart ↦ sym (slice_get-set_other stages c b Open apart) ∙ e
      ]

  -- more of the classes below the last one of the path have begun
  pub search_next : (path : List Visit) (v : Visit) (n : ℕ) → IsSearch below stages order (path ++ v ∷ []) → n ≤ length (group below v.class)
      → ((j : ℕ) → j < n → slice_get stages (get_or (group below v.class) j 0) ≡ Some New → ⊥)
      → IsSearch below stages order (path ++ record { class = v.class; next = n } ∷ [])
  search_next path v n s within skipped = record {
    len = s.len;
    within = s.within;
    depth_first = s.depth_first;
    left = s.left;
    done = s.done;
    ordered = s.ordered;
    under_way = λ b e. let p = s.under_way b e in elim (slice_get-push_cases path v p.1 p.0 p.2) [
      | inl old ↦ (p.0, p.1, slice_get-append_left path _ p.0 p.1 old, p.3)
      | inr last ↦ (length path, visit, slice_get-push path visit, ap (λ (w : Visit). w.class) last.1 ∙ p.3)
    ];
    opened = λ k w e. let o = old_of k w e in subst (λ x. slice_get stages x ≡ Some Open) o.2 (s.opened k o.0 o.1);
    apart = λ j k u w lt e f at. let a = old_of j u e in let b = old_of k w f in s.apart j k a.0 b.0 lt a.1 b.1 (a.2 ∙ at ∙ sym b.2);
    skipped = λ k j w e lt. elim (slice_get-push_cases path visit w k e) [
      | inl old ↦ s.skipped k j w (slice_get-append_left path _ k w old) lt
      | inr last ↦ subst (λ (u : Visit). slice_get stages (get_or (group below u.class) j 0) ≡ Some New → ⊥) last.1 (skipped j (omega (arith, lt, ap (λ (u : Visit). u.next) last.1)))
    ];
    counted = λ k w e. elim (slice_get-push_cases path visit w k e) [
      | inl old ↦ s.counted k w (slice_get-append_left path _ k w old)
      | inr last ↦ subst (λ (u : Visit). u.next ≤ length (group below u.class)) last.1 within
    ];
    linked = λ k u w e f. let a = old_of k u e in let b = old_of (k + 1) w f in subst (λ x. Under below x u.class) b.2 (subst (Under below b.0.class) a.2 (s.linked k a.0 b.0 a.1 b.1));
  }
    where
      visit : Visit
      visit = record { class = v.class; next = n }

      old_of : (k : ℕ) (w : Visit) → slice_get (path ++ visit ∷ []) k ≡ Some w → (u : Visit) × (slice_get (path ++ v ∷ []) k ≡ Some u) × (u.class ≡ w.class)
      old_of k w e = elim (slice_get-push_cases path visit w k e) [
        | inl old ↦ (w, slice_get-append_left path _ k w old, refl)
        | inr last ↦ (v, ap (slice_get (path ++ v ∷ [])) last.0 ∙ slice_get-push path v, ap (λ (u : Visit). u.class) last.1)
      ]

  -- a class of the path is below those before it
  path_down : (path : List Visit) → IsSearch below stages order path → (n k : ℕ) (v w : Visit) → slice_get path k ≡ Some v → slice_get path (k + n) ≡ Some w → Path (Under below) w.class v.class
  path_down path s zero k v w e f = let same : w ≡ v = cc (f, e, ap (slice_get path) (add-zero k)) in subst (λ (u : Visit). Path (Under below) w.class u.class) same here
  path_down path s (suc n) k v w e f =
      let next : k + suc n ≡ (k + n) + 1 = omega arith in
      let there = sym (ap (slice_get path) next) ∙ f in
      let before = slice_get-get_or path (k + n) v (omega (arith, slice_get_within path ((k + n) + 1) w there)) in
      step (s.linked (k + n) _ w before there) (path_down path s n k v _ e before)

  -- the last class of the path is below each whose search goes on
  path_above : (path : List Visit) (v : Visit) (c : ℕ) → IsSearch below stages order (path ++ v ∷ []) → slice_get stages c ≡ Some Open → Path (Under below) v.class c
  path_above path v c s e =
      let p = s.under_way c e in
      let within = slice_get_within (path ++ v ∷ []) p.0 p.1 p.2 in
      let last : p.0 + (length path - p.0) ≡ length path = omega (arith, within, length-append path (v ∷ [])) in
      let down = path_down (path ++ v ∷ []) s (length path - p.0) p.0 p.1 v p.2 (ap (slice_get (path ++ v ∷ [])) last ∙ slice_get-push path v) in
      subst (Path (Under below) v.class) p.3 down

  -- a class one step below the last one is one whose search goes on
  pub search_back : (path : List Visit) (v : Visit) (c : ℕ) → IsSearch below stages order (path ++ v ∷ []) → Under below c v.class → slice_get stages c ≡ Some Open → (a : ℕ) × ProperPath (Under below) a a
  search_back path v c s u e = (c, (v.class, u, path_above path v c s e))

  -- a class that isn't new is done, or its search goes on
  done_or_open : (c : ℕ) → c < length stages → (slice_get stages c ≡ Some New → ⊥) → (slice_get stages c ≡ Some Done) ⊎ (slice_get stages c ≡ Some Open)
  done_or_open c h not_new = by (get_or stages c Done) refl
    where
      read : slice_get stages c ≡ Some (get_or stages c Done)
      read = slice_get-get_or stages c Done h

      by : (t : Stage) → get_or stages c Done ≡ t → (slice_get stages c ≡ Some Done) ⊎ (slice_get stages c ≡ Some Open)
      by New e = absurd (not_new (read ∙ ap Some e))
      by Open e = inr (read ∙ ap Some e)
      by Done e = inl (read ∙ ap Some e)

  module _ (path : List Visit) (v : Visit) (known : (a b : ℕ) → Under below a b → a < length below) (s : IsSearch below stages order (path ++ v ∷ []))
      (under : (d : ℕ) → Under below d v.class → slice_get stages d ≡ Some New → ⊥) where
    -- the search goes on below a class that the last one is above
    abbrev GoesOn : Type 0
    GoesOn = (u : ℕ) × (slice_get stages u ≡ Some Open) × ProperPath (Under below) u v.class

    begun : (x b : ℕ) {y : ℕ} → Under below x b → Path (Under below) b y → y ≡ v.class → (slice_get stages x ≡ Some New → ⊥) → (slice_get stages x ≡ Some Done) ⊎ GoesOn
    begun x b u p e not_new = elim (done_or_open x (omega (arith, known x b u, s.len)) not_new) [
      | inl done ↦ inl done
      | inr on ↦ inr (x, on, (b, u, subst (Path (Under below) b) e p))
    ]

    -- what is below the last class is done, or below one whose search goes on
    done_or_below : {x b y : ℕ} → Under below x b → Path (Under below) b y → y ≡ v.class → (slice_get stages x ≡ Some Done) ⊎ GoesOn
    done_or_below {x} {b} u here e = begun x b u here e (λ new. under x (subst (Under below x) e u) new)
    done_or_below {x} {b} u (step t p) e = elim (done_or_below t p e) [
      | inl done ↦ begun x b u (step t p) e (λ new. s.left b x done u new)
      | inr on ↦ inr on
    ]

    -- the last class comes back to itself, if what is below it isn't done
    comes_back : (d : ℕ) → ProperPath (Under below) d v.class → (slice_get stages d ≡ Some Done → ⊥) → ProperPath (Under below) v.class v.class
    comes_back d (b, u, p) not_done = elim (done_or_below u p refl) [
      | inl done ↦ absurd (not_done done)
      | inr on ↦ proper_after (path_above path v on.0 s on.1) on.2
    ]

  -- all classes below the last one of the path have begun
  pub search_leave : (path : List Visit) (v : Visit) → ((a b : ℕ) → Under below a b → a < length below) → IsSearch below stages order (path ++ v ∷ [])
      → ((d : ℕ) → Under below d v.class → slice_get stages d ≡ Some New → ⊥)
      → IsSearch below (set stages v.class Done) (order ++ v.class ∷ []) path
  search_leave path v known s under = record {
    len = length-set stages v.class Done ∙ s.len;
    within = λ b m. elim (Contains-push_cases order v.class b m) [ inl old ↦ s.within b old | inr new ↦ omega (arith, new, within, s.len) ];
    depth_first = depth_first_push below order v.class s.depth_first (λ m. let d = s.ordered v.class m in cc here_open)
        (λ d p none. comes_back path v known s under d p (λ done. none (s.done d done)));
    left = λ b d e u f. elim (cases_eq b v.class) [
      | inl at ↦ under d (subst (Under below d) at u) (still_new d f)
      | inr apart ↦ s.left b d (sym (slice_get-set_other stages v.class b Done apart) ∙ e) u (still_new d f)
    ];
    done = λ b e. elim (cases_eq b v.class) [
      | inl at ↦ subst (Contains (order ++ v.class ∷ [])) (sym at) (Contains-push order v.class)
      | inr apart ↦ Contains-append_left order _ b (s.done b (sym (slice_get-set_other stages v.class b Done apart) ∙ e))
    ];
    ordered = λ b m. elim (Contains-push_cases order v.class b m) [
      | inl old ↦ stays b (s.ordered b old)
      | inr new ↦ subst (λ x. slice_get (set stages v.class Done) x ≡ Some Done) new same
    ];
    under_way = λ b e. elim (cases_eq b v.class) [
      | inl at ↦ absurd (not_open b at e)
      | inr apart ↦ let p = s.under_way b (sym (slice_get-set_other stages v.class b Done apart) ∙ e) in elim (slice_get-push_cases path v p.1 p.0 p.2) [
        | inl old ↦ (p.0, p.1, old, p.3)
        | inr last ↦ absurd (apart (sym p.3 ∙ sym (ap (λ (w : Visit). w.class) last.1)))
      ]
    ];
    opened = λ k w e. slice_get-set_other stages v.class w.class Done (λ at. s.apart k (length path) w v (slice_get_within path k w e) (kept k w e) (slice_get-push path v) at) ∙ s.opened k w (kept k w e);
    apart = λ j k u w lt e f. s.apart j k u w lt (kept j u e) (kept k w f);
    skipped = λ k j w e lt f. s.skipped k j w (kept k w e) lt (still_new _ f);
    counted = λ k w e. s.counted k w (kept k w e);
    linked = λ k u w e f. s.linked k u w (kept k u e) (kept (k + 1) w f);
  }
    where
      here_open : slice_get stages v.class ≡ Some Open
      here_open = s.opened (length path) v (slice_get-push path v)

      within : v.class < length stages
      within = slice_get_within stages v.class Open here_open

      same : slice_get (set stages v.class Done) v.class ≡ Some Done
      same = slice_get-set_same stages v.class Done within

      not_open : (b : ℕ) → b ≡ v.class → slice_get (set stages v.class Done) b ≡ Some Open → ⊥
      not_open b at e = let f = sym (ap (slice_get (set stages v.class Done)) at) ∙ e in let g = same in cc

      stays : (b : ℕ) → slice_get stages b ≡ Some Done → slice_get (set stages v.class Done) b ≡ Some Done
      stays b e = elim (cases_eq b v.class) [ inl at ↦ ap (slice_get (set stages v.class Done)) at ∙ same | inr apart ↦ slice_get-set_other stages v.class b Done apart ∙ e ]

      still_new : (b : ℕ) → slice_get (set stages v.class Done) b ≡ Some New → slice_get stages b ≡ Some New
      still_new b e = elim (cases_eq b v.class) [
        | inl at ↦ absurd (let f = sym (ap (slice_get (set stages v.class Done)) at) ∙ e in let g = same in cc)
        | inr apart ↦ sym (slice_get-set_other stages v.class b Done apart) ∙ e
      ]

      kept : (k : ℕ) (w : Visit) → slice_get path k ≡ Some w → slice_get (path ++ v ∷ []) k ≡ Some w
      kept k w e = slice_get-append_left path _ k w e

  -- the last class of the path is known
  pub search_last : (path : List Visit) (v : Visit) → IsSearch below stages order (path ++ v ∷ []) → (v.class < length stages) × (v.class < length below) × (v.next ≤ length (group below v.class))
  search_last path v s =
      let within : v.class < length stages = slice_get_within stages v.class Open (s.opened (length path) v (slice_get-push path v)) in
      (within, omega (arith, s.len), s.counted (length path) v (slice_get-push path v))

  module _ (path : List Visit) (v : Visit) (n : ℕ) (s : IsSearch below stages order (path ++ v ∷ []))
      (more : (j : ℕ) → v.next ≤ j → j < n → slice_get stages (get_or (group below v.class) j 0) ≡ Some New → ⊥) where
    first_begun : (j : ℕ) → j < n → slice_get stages (get_or (group below v.class) j 0) ≡ Some New → ⊥
    first_begun j lt = by (below_or j v.next)
      where
        below_or : (a b : ℕ) → (a < b) ⊎ (b ≤ a)
        below_or a b = grind arith

        by : (j < v.next) ⊎ (v.next ≤ j) → slice_get stages (get_or (group below v.class) j 0) ≡ Some New → ⊥
        by (inl h) = s.skipped (length path) j v (slice_get-push path v) h
        by (inr h) = more j h lt

    -- the search goes on at the class at index n below the last one
    pub search_enter : n < length (group below v.class) → slice_get stages (get_or (group below v.class) n 0) ≡ Some New
        → IsSearch below (set stages (get_or (group below v.class) n 0) Open) order ((path ++ record { class = v.class; next = n } ∷ []) ++ record { class = get_or (group below v.class) n 0; next = 0 } ∷ [])
    search_enter h new = search_open (path ++ visit ∷ []) (get_or (group below v.class) n 0) (search_next path v n s (omega arith) first_begun) new under
      where
        visit : Visit
        visit = record { class = v.class; next = n }

        under : (k : ℕ) (w : Visit) → slice_get (path ++ visit ∷ []) k ≡ Some w → k + 1 ≡ length (path ++ visit ∷ []) → Under below (get_or (group below v.class) n 0) w.class
        under k w e last = elim (slice_get-push_cases path visit w k e) [
          | inl old ↦ absurd (omega (arith, last, length-append path (visit ∷ []), slice_get_within path k w old))
          | inr at ↦ subst (λ (u : Visit). Under below (get_or (group below v.class) n 0) u.class) at.1 (Contains-get_or (group below v.class) n 0 h)
        ]

    -- all classes below the last one have begun
    pub all_begun : n ≡ length (group below v.class) → (d : ℕ) → Under below d v.class → slice_get stages d ≡ Some New → ⊥
    all_begun e d u = subst (λ x. slice_get stages x ≡ Some New → ⊥) (same_read (group below v.class) u.0 0 d u.1 ∙ u.2) (first_begun u.0 (omega (arith, e, u.1)))

    pub search_finish : ((a b : ℕ) → Under below a b → a < length below) → n ≡ length (group below v.class) → IsSearch below (set stages v.class Done) (order ++ v.class ∷ []) path
    search_finish known e = search_leave path v known s (all_begun e)

    -- one of them isn't done
    pub search_bent : ((a b : ℕ) → Under below a b → a < length below) → n ≡ length (group below v.class) → (d : ℕ) → Under below d v.class → (slice_get stages d ≡ Some Done → ⊥)
        → (a : ℕ) × ProperPath (Under below) a a
    search_bent known e d u not_done = elim (done_or_open d (omega (arith, known d v.class u, s.len)) (all_begun e d u)) [
      | inl done ↦ absurd (not_done done)
      | inr on ↦ search_back path v d s u on
    ]

-- ---- what has begun

pub begun_first : (stages : List Stage) (c : ℕ) → slice_get stages c ≡ Some New → HasBegun stages c (set stages c Open)
begun_first stages c new b e = elim (cases_eq b c) [
  | inl at ↦ absurd (let f = sym (ap (slice_get (set stages c Open)) at) ∙ e in not_new f)
  | inr apart ↦ (sym (slice_get-set_other stages c b Open apart) ∙ e, apart)
]
  where
    not_new : slice_get (set stages c Open) c ≡ Some New → ⊥
    not_new f = let g = slice_get-set_same stages c Open (slice_get_within stages c New new) in cc

pub begun_more : (old stages : List Stage) (start c : ℕ) (t : Stage) → c < length stages → (t ≡ New → ⊥) → HasBegun old start stages → HasBegun old start (set stages c t)
begun_more old stages start c t h other begun b e = elim (cases_eq b c) [
  | inl at ↦ absurd (other (let f = sym (ap (slice_get (set stages c t)) at) ∙ e in let g = slice_get-set_same stages c t h in cc))
  | inr apart ↦ begun b (sym (slice_get-set_other stages c b t apart) ∙ e)
]

-- where no search goes on, a class that isn't new is done
pub none_open : (below : List (List ℕ)) (stages : List Stage) (order : List ℕ) → IsSearch below stages order [] → (c : ℕ) → c < length below → (slice_get stages c ≡ Some New → ⊥) → slice_get stages c ≡ Some Done
none_open below stages order s c h not_new = by (get_or stages c Done) refl
  where
    read : slice_get stages c ≡ Some (get_or stages c Done)
    read = slice_get-get_or stages c Done (omega (arith, h, s.len))

    by : (t : Stage) → get_or stages c Done ≡ t → slice_get stages c ≡ Some Done
    by New e = absurd (not_new (read ∙ ap Some e))
    by Open e = let p = s.under_way c (read ∙ ap Some e) in let none = p.2 in cc
    by Done e = read ∙ ap Some e
