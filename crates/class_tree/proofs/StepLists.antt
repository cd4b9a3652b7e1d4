-- The lists of the classes one step below, and of the interfaces, when a row is added.
use Rattle.std.proofs.Common.{◌≡◌, ◌≢◌, ℕ, ◌+◌, ◌<◌, ◌⊎◌, ◌↔◌, ◌==◌, Bool, true, false, cond, List, [], ◌∷◌, ◌++◌, length, get_or, set, map, Some, refl, sym, ap, subst, ◌∙◌, inl, inr, arith, take, get_or-set_same, get_or-set_other, eqb-true, eq-eqb, true≢false}
use Rattle.std.specs.List.{Contains, filter}
use Rattle.std.proofs.lemmas.List.{map-append, append-nil}
use Rattle.std.proofs.lemmas.List.Elements.{filter_more}
use Rattle.class_rules.specs.declared.rows.ClassRow.{ClassRow}
use Rattle.class_order.specs.Groups.{group}
use Rattle.class_rules.specs.Rows.{HasInterface, HasParent, Step, interfaces_of}
use Rattle.class_order.specs.Tables.{Under}
use Rattle.class_order.proofs.Listed.{Under-push, Under-pushed, Under-kept}
use Rattle.lists.proofs.Elements.{Contains-take_more, Contains-take_kept, Contains-take_last}
use Rattle.class_rules.proofs.Parents.{interface_listed, interface_named, parent_from, parent_same, parent_at}

below_or_at : (a i : ℕ) → a < i + 1 → (a < i) ⊎ (a ≡ i)
below_or_at a i h = grind arith

-- the class at i of the order has the parent p
pub children_more : (classes : List ClassRow) (below : List (List ℕ)) (order : List ℕ) (i p : ℕ) (d : ClassRow) → i < length order → get_or order i 0 < length classes → p < length below
    → (get_or classes (get_or order i 0) d).parent ≡ Some p → ((a b : ℕ) → Under below a b ↔ (Contains (take i order) a × HasParent classes a b))
    → (a b : ℕ) → Under (set below p (group below p ++ get_or order i 0 ∷ [])) a b ↔ (Contains (take (i + 1) order) a × HasParent classes a b)
children_more classes below order i p d h known hp e inv a b = (
  λ u. elim (Under-push below p class a b hp u) [
    | inl old ↦ let q = (inv a b).0 old in (Contains-take_kept order i 0 a h q.0, q.1)
    | inr new ↦ (
      subst (Contains (take (i + 1) order)) (sym new.1) (Contains-take_last order i 0 h),
      subst (λ k. HasParent classes k b) (sym new.1) (subst (HasParent classes class) (sym new.0) (parent_from classes class p d known e)),
    )
  ],
  λ q. elim (Contains-take_more order i 0 a h q.0) [
    | inl old ↦ Under-kept below p class a b hp ((inv a b).1 (old, q.1))
    | inr at ↦ let same : b ≡ p = parent_same classes class b p d (subst (λ k. HasParent classes k b) (sym at) q.1) e in
        subst (λ k. Under (set below p (group below p ++ class ∷ [])) k b) at (subst (Under (set below p (group below p ++ class ∷ [])) class) (sym same) (Under-pushed below p class hp))
  ],
)
  where
    class : ℕ
    class = get_or order i 0

-- it has none
pub children_none : (classes : List ClassRow) (below : List (List ℕ)) (order : List ℕ) (i : ℕ) (d : ClassRow) → i < length order
    → ((p : ℕ) → (get_or classes (get_or order i 0) d).parent ≡ Some p → ⊥) → ((a b : ℕ) → Under below a b ↔ (Contains (take i order) a × HasParent classes a b))
    → (a b : ℕ) → Under below a b ↔ (Contains (take (i + 1) order) a × HasParent classes a b)
children_none classes below order i d h none inv a b = (
  λ u. let q = (inv a b).0 u in (Contains-take_kept order i 0 a h q.0, q.1),
  λ q. elim (Contains-take_more order i 0 a h q.0) [
    | inl old ↦ (inv a b).1 (old, q.1)
    | inr at ↦ absurd (none b (parent_at classes (get_or order i 0) b d (subst (λ k. HasParent classes k b) (sym at) q.1)))
  ],
)

-- the row at i names p, which goes to the list of i
pub up_more : (classes : List ClassRow) (implements : List (ℕ × ℕ)) (above : List (List ℕ)) (i p : ℕ) (d : ClassRow) → i < length classes → i < length above → (get_or classes i d).parent ≡ Some p
    → ((a b : ℕ) → Under above b a ↔ (HasInterface implements a b ⊎ ((a < i) × HasParent classes a b)))
    → (a b : ℕ) → Under (set above i (group above i ++ p ∷ [])) b a ↔ (HasInterface implements a b ⊎ ((a < i + 1) × HasParent classes a b))
up_more classes implements above i p d h hi e inv a b = (
  λ u. elim (Under-push above i p b a hi u) [
    | inl old ↦ elim ((inv a b).0 old) [ inl m ↦ inl m | inr q ↦ inr (omega (arith, q.0), q.1) ]
    | inr new ↦ inr (omega (arith, new.0), subst (λ k. HasParent classes k b) (sym new.0) (subst (HasParent classes i) (sym new.1) (parent_from classes i p d h e)))
  ],
  λ s. elim s [
    | inl m ↦ Under-kept above i p b a hi ((inv a b).1 (inl m))
    | inr q ↦ elim (below_or_at a i q.0) [
      | inl lt ↦ Under-kept above i p b a hi ((inv a b).1 (inr (lt, q.1)))
      | inr at ↦ let same : b ≡ p = parent_same classes i b p d (subst (λ k. HasParent classes k b) at q.1) e in
          subst (λ k. Under (set above i (group above i ++ p ∷ [])) b k) (sym at) (subst (λ k. Under (set above i (group above i ++ p ∷ [])) k i) (sym same) (Under-pushed above i p hi))
    ]
  ],
)

-- it names none
pub up_none : (classes : List ClassRow) (implements : List (ℕ × ℕ)) (above : List (List ℕ)) (i : ℕ) (d : ClassRow) → ((p : ℕ) → (get_or classes i d).parent ≡ Some p → ⊥)
    → ((a b : ℕ) → Under above b a ↔ (HasInterface implements a b ⊎ ((a < i) × HasParent classes a b))) → (a b : ℕ) → Under above b a ↔ (HasInterface implements a b ⊎ ((a < i + 1) × HasParent classes a b))
up_none classes implements above i d none inv a b = (
  λ u. elim ((inv a b).0 u) [ inl m ↦ inl m | inr q ↦ inr (omega (arith, q.0), q.1) ],
  λ s. elim s [
    | inl m ↦ (inv a b).1 (inl m)
    | inr q ↦ elim (below_or_at a i q.0) [
      | inl lt ↦ (inv a b).1 (inr (lt, q.1))
      | inr at ↦ absurd (none b (parent_at classes i b d (subst (λ k. HasParent classes k b) at q.1)))
    ]
  ],
)

-- the interfaces alone
pub up_interfaces : (classes : List ClassRow) (implements : List (ℕ × ℕ)) (lists : List (List ℕ)) → ((a : ℕ) → group lists a ≡ interfaces_of implements a)
    → (a b : ℕ) → Under lists b a ↔ (HasInterface implements a b ⊎ ((a < 0) × HasParent classes a b))
up_interfaces classes implements lists are a b = (
  λ u. inl (interface_named implements a b (subst (λ xs. Contains xs b) (are a) u)),
  λ s. elim s [
    | inl m ↦ subst (λ xs. Contains xs b) (sym (are a)) (interface_listed implements a b m)
    | inr q ↦ absurd (omega (arith, q.0))
  ],
)

-- one more pair of a class and an interface
pub steps_more : (classes : List ClassRow) (implements : List (ℕ × ℕ)) (below : List (List ℕ)) (i : ℕ) (d : ℕ × ℕ) → i < length implements
    → (get_or implements i d).1 < length below
    → ((a b : ℕ) → Under below a b ↔ Step classes (take i implements) a b)
    → (a b : ℕ) → Under (set below (get_or implements i d).1 (group below (get_or implements i d).1 ++ (get_or implements i d).0 ∷ [])) a b ↔ Step classes (take (i + 1) implements) a b
steps_more classes implements below i d h hp inv a b = (
  λ u. elim (Under-push below y x a b hp u) [
    | inl old ↦ elim ((inv a b).0 old) [ inl p ↦ inl p | inr c ↦ inr (Contains-take_kept implements i d (a, b) h c) ]
    | inr new ↦ inr (subst (Contains (take (i + 1) implements)) (λ j. (sym new.1 j, sym new.0 j)) (Contains-take_last implements i d h))
  ],
  λ s. elim s [
    | inl p ↦ Under-kept below y x a b hp ((inv a b).1 (inl p))
    | inr c ↦ elim (Contains-take_more implements i d (a, b) h c) [
      | inl old ↦ Under-kept below y x a b hp ((inv a b).1 (inr old))
      | inr e ↦ subst (λ (p : ℕ × ℕ). Under (set below y (group below y ++ x ∷ [])) p.0 p.1) e (Under-pushed below y x hp)
    ]
  ],
)
  where
    x : ℕ
    x = (get_or implements i d).0

    y : ℕ
    y = (get_or implements i d).1

pub lists_more : (implements : List (ℕ × ℕ)) (lists : List (List ℕ)) (i : ℕ) (d : ℕ × ℕ) → i < length implements → (get_or implements i d).0 < length lists
    → ((a : ℕ) → group lists a ≡ interfaces_of (take i implements) a)
    → (a : ℕ) → group (set lists (get_or implements i d).0 (group lists (get_or implements i d).0 ++ (get_or implements i d).1 ∷ [])) a ≡ interfaces_of (take (i + 1) implements) a
lists_more implements lists i d h hp inv a = by (x == a) refl ∙ sym (ap (map second) (filter_more (λ (p : ℕ × ℕ). p.0 == a) implements i d h) ∙ map-append second (filter (λ (p : ℕ × ℕ). p.0 == a) (take i implements)) _)
  where
    second : ℕ × ℕ → ℕ
    second = λ p. p.1

    x : ℕ
    x = (get_or implements i d).0

    y : ℕ
    y = (get_or implements i d).1

    by : (t : Bool) → (x == a) ≡ t → group (set lists x (group lists x ++ y ∷ [])) a ≡ interfaces_of (take i implements) a ++ map second (cond (x == a) (get_or implements i d ∷ []) [])
    by true e =
        let at : x ≡ a = eqb-true x a e in
        ap (group (set lists x (group lists x ++ y ∷ []))) (sym at) ∙ get_or-set_same lists x _ [] hp
        ∙ ap (λ ys. ys ++ y ∷ []) (ap (group lists) at ∙ inv a) ∙ ap (λ t. interfaces_of (take i implements) a ++ map second (cond t (get_or implements i d ∷ []) [])) (sym e)
    by false e =
        let apart : a ≢ x = λ at. true≢false (sym (eq-eqb x a (sym at)) ∙ e) in
        get_or-set_other lists x a _ [] apart ∙ inv a ∙ sym (append-nil (interfaces_of (take i implements) a))
        ∙ ap (λ t. interfaces_of (take i implements) a ++ map second (cond t (get_or implements i d ∷ []) [])) (sym e)

-- one more pair, among the interfaces alone
pub implementers_more : (implements : List (ℕ × ℕ)) (below : List (List ℕ)) (i : ℕ) (d : ℕ × ℕ) → i < length implements → (get_or implements i d).1 < length below
    → ((a b : ℕ) → Under below a b ↔ Contains (take i implements) (a, b))
    → (a b : ℕ) → Under (set below (get_or implements i d).1 (group below (get_or implements i d).1 ++ (get_or implements i d).0 ∷ [])) a b ↔ Contains (take (i + 1) implements) (a, b)
implementers_more implements below i d h hp inv a b = (
  λ u. elim (Under-push below (get_or implements i d).1 (get_or implements i d).0 a b hp u) [
    | inl old ↦ Contains-take_kept implements i d (a, b) h ((inv a b).0 old)
    | inr new ↦ subst (Contains (take (i + 1) implements)) (λ j. (sym new.1 j, sym new.0 j)) (Contains-take_last implements i d h)
  ],
  λ m. elim (Contains-take_more implements i d (a, b) h m) [
    | inl old ↦ Under-kept below (get_or implements i d).1 (get_or implements i d).0 a b hp ((inv a b).1 old)
    | inr e ↦ subst (λ (p : ℕ × ℕ). Under (set below (get_or implements i d).1 (group below (get_or implements i d).1 ++ (get_or implements i d).0 ∷ [])) p.0 p.1) e (Under-pushed below (get_or implements i d).1 (get_or implements i d).0 hp)
  ],
)
