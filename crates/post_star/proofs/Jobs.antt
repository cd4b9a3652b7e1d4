-- What each step of a work leaves.
use Rattle.std.proofs.Common.{◌≡◌, ◌⊎◌, inl, inr, ◌∙◌, ℕ, suc, ◌+◌, ◌<◌, ◌≤◌, List, [], ◌∷◌, ◌++◌, length, take, get_or, slice_get, Some, Bool, true, false, ◌&&◌, nat_eq, refl, sym, ap, subst, arith, rules, eq-eqb, length-append}
use Rattle.auto_table.specs.declared.rule.Rule.{Rule}
use Rattle.lists.specs.Lists.{Has}
use Rattle.auto_table.specs.Cells.{Cells, IsBlank}
use Rattle.std.proofs.lemmas.List.{append_assoc, take_all, take_more, take-append-le}
use Rattle.lists.proofs.Places.{slice_get-pushed, slice_get-below}
use Rattle.lists.proofs.Joined.{Has-either, Has-left, Has-right}
use Rattle.post_star.specs.declared.bases.Start.{Start}
use Rattle.post_star.specs.declared.bases.BaseStep.{BaseStep}
use Rattle.post_star.specs.Derivations.{Leads, by_start, by_base, by_below, IsLed}
use Rattle.post_star.specs.declared.index.Index.{Index}
use Rattle.post_star.specs.Index.{from_of, IsIndex}
use Rattle.post_star.specs.Jobs.{all_taken, IsWork, Stock}
use Rattle.post_star.specs.Readings.{IsSaturated}
use Rattle.post_star.specs.Works.{weight_of, AreTold, IsClosedTo, IsSound, IsClosed, IsTold}
use Rattle.post_star.proofs.Grows.{sound_more}
use Rattle.post_star.proofs.Loops.{zero_done}
use Rattle.post_star.proofs.Sounds.{sound_blank}
use Rattle.post_star.proofs.Values.{saturated}
use Rattle.weight_laws.specs.Law.{Domain, IsLawful}
use Rattle.post_star.proofs.Scopes.{length_pushed}

-- an element that was put last is new, or the element was there
pushed_or : {X : Type 0} (xs : List X) (x y : X) → Has (xs ++ x ∷ []) y → Has xs y ⊎ (y ≡ x)
pushed_or xs x y h = elim (slice_get-pushed xs x h.0 y h.1) [ inl q ↦ inl (h.0, q) | inr q ↦ inr q.1 ]

none_has : {X : Type 0} (xs : List X) (x : X) → xs ≡ [] → Has xs x → ⊥
none_has {X} xs x e h = let p : slice_get [] h.0 ≡ Some x = subst (λ (ys : List X). slice_get ys h.0 ≡ Some x) e h.1 in cc

-- below the old length the elements are the old ones
pushed_below : {X : Type 0} (xs : List X) (x y : X) (i n : ℕ) → i < n → n ≤ length xs → slice_get (xs ++ x ∷ []) i ≡ Some y → slice_get xs i ≡ Some y
pushed_below xs x y i n h k at = elim (slice_get-pushed xs x i y at) [ inl q ↦ q | inr q ↦ let e : i ≡ length xs = q.0 in absurd (omega arith) ]

not_equal : (a b : ℕ) → (a ≡ b → ⊥) → nat_eq a b ≡ false
not_equal a b n = by (nat_eq a b) refl
  where
    by : (t : Bool) → nat_eq a b ≡ t → nat_eq a b ≡ false
    by true e = absurd (n (grind (arith, rules)))
    by false e = e

is_equal : (a b : ℕ) → nat_eq a b ≡ true → a ≡ b
is_equal a b e = grind (arith, rules)

both_true : (a b : Bool) → (a && b) ≡ true → (a ≡ true) × (b ≡ true)
both_true true true e = (refl, refl)
both_true true false e = cc
both_true false b e = cc

module _ {W : Type 0} where
  -- all are taken in
  pub all_now : (rules : List (Rule W)) (starts : List (Start W)) → all_taken rules starts (length rules) (length starts) ≡ true
  all_now rules starts = ap (λ (t : Bool). t && nat_eq (length starts) (length starts)) (eq-eqb (length rules) (length rules) refl) ∙ eq-eqb (length starts) (length starts) refl

  pub all_at_last : (rules : List (Rule W)) (starts : List (Start W)) (taken begun : ℕ) → all_taken rules starts taken begun ≡ true → (taken ≡ length rules) × (begun ≡ length starts)
  all_at_last rules starts taken begun e =
      let p = both_true (nat_eq taken (length rules)) (nat_eq begun (length starts)) e in
      (is_equal taken (length rules) p.0, is_equal begun (length starts) p.1)

  -- a rule or a start that came in is not
  pub not_all_rules : (rules : List (Rule W)) (rule : Rule W) (more : List (Rule W)) (starts : List (Start W)) (taken begun : ℕ) → more ≡ rules ++ rule ∷ [] → taken ≤ length rules → all_taken more starts taken begun ≡ false
  not_all_rules rules rule more starts taken begun e h =
      let long : length more ≡ suc (length rules) = ap length e ∙ length_pushed rules rule in
      ap (λ (t : Bool). t && nat_eq begun (length starts)) (not_equal taken (length more) (λ q. absurd (omega arith)))

  pub not_all_starts : (rules : List (Rule W)) (starts : List (Start W)) (start : Start W) (more : List (Start W)) (taken begun : ℕ) → more ≡ starts ++ start ∷ [] → begun ≤ length starts → all_taken rules more taken begun ≡ false
  not_all_starts rules starts start more taken begun e h =
      let long : length more ≡ suc (length starts) = ap length e ∙ length_pushed starts start in
      ap (λ (t : Bool). nat_eq taken (length rules) && t) (not_equal begun (length more) (λ q. absurd (omega arith))) ∙ and_false (nat_eq taken (length rules))
    where
      and_false : (a : Bool) → (a && false) ≡ false
      and_false true = refl
      and_false false = refl

  -- what wasn't all taken in isn't so from the beginning
  pub not_all_anew : (rules : List (Rule W)) (starts : List (Start W)) (taken begun : ℕ) → taken ≤ length rules → begun ≤ length starts → all_taken rules starts taken begun ≡ false → all_taken rules starts 0 0 ≡ false
  not_all_anew rules starts taken begun h k e = by (all_taken rules starts 0 0) refl
    where
      by : (t : Bool) → all_taken rules starts 0 0 ≡ t → all_taken rules starts 0 0 ≡ false
      by false q = q
      by true q =
          let p = all_at_last rules starts 0 0 q in
          let first : 0 ≡ length rules = p.0 in
          let second : 0 ≡ length starts = p.1 in
          let one : taken ≡ length rules = omega arith in
          let two : begun ≡ length starts = omega arith in
          let all : all_taken rules starts taken begun ≡ true = ap (λ (t : Bool). t && nat_eq begun (length starts)) (eq-eqb taken (length rules) one) ∙ eq-eqb begun (length starts) two in
          cc

-- of no rules the first ones are indexed
index_none : {W : Type 0} (own : List (Rule W)) (index : Index W) (taken : ℕ) → taken ≡ 0 → IsIndex {W = W} [] [] index → IsIndex (take taken own) [] index
index_none {W} own index taken n x =
    let none : take taken own ≡ [] = ap (λ (k : ℕ). take k own) n in
    subst (λ (rs : List (Rule W)). IsIndex rs [] index) (sym none) x

-- a system with no starts leads where one with starts does
pub led_fewer : {W : Type 0} {starts : List (Start W)} {steps : List BaseStep} {last : ℕ} → IsLed starts steps last → IsLed {W = W} [] steps last
led_fewer led b (by_start s h k) = let p = h.1 in cc
led_fewer led b (by_base s h k) = led b (by_base s h k)
led_fewer led b (by_below s h k) = led b (by_below s h k)

module _ {W : Type 0} {d : Domain W} (l : IsLawful W d) (common : Stock W) (own : List (Rule W)) {starts : List (Start W)} (told : IsTold d (common.rules ++ own) starts) where
  -- in a table with nothing in it all rules are done
  blank_closed : (table : Cells W) (taken begun : ℕ) → IsBlank d table → taken ≡ 0 → begun ≡ 0
      → IsClosedTo d (common.rules ++ own) (length common.rules + taken) starts begun common.steps table
  blank_closed table taken begun blank n m = record {
    rules_done = λ i rule h at e e'. zero_done l common.steps told (sound_blank table blank) rule (i, at) e e' (blank.weights e (from_of rule));
    starts_in = λ i q h. absurd (omega arith);
  }

  work_blank : (index : Index W) (table : Cells W) (taken begun : ℕ) → IsLed starts common.steps common.last → IsIndex {W = W} [] [] index → IsBlank d table → taken ≡ 0 → begun ≡ 0
      → IsWork d common own index starts table taken begun
  work_blank index table taken begun led x blank n m = record {
    told = told;
    led = led;
    indexed = index_none own index taken n x;
    sound = sound_blank table blank;
    closed = blank_closed table taken begun blank n m;
    taken_in = omega arith;
    begun_in = omega arith;
  }

-- a work with no rules of its own and no starts
pub work_new : {W : Type 0} {d : Domain W} (l : IsLawful W d) (common : Stock W) (own : List (Rule W)) (starts : List (Start W)) (index : Index W) (table : Cells W) (taken begun : ℕ) → own ≡ [] → starts ≡ []
    → AreTold d common.rules → IsLed {W = W} [] common.steps common.last → IsIndex {W = W} [] [] index → IsBlank d table → taken ≡ 0 → begun ≡ 0 → IsWork d common own index starts table taken begun
work_new {W} {d} l common own starts index table taken begun r s told led x blank n m =
    work_blank l common own (record {
      rule = λ q h. elim (Has-either common.rules own q h) [ inl a ↦ told q a | inr b ↦ absurd (none_has own q r b) ];
      start = λ q h. absurd (none_has starts q s h);
    }) index table taken begun (subst (λ (ss : List (Start W)). IsLed ss common.steps common.last) (sym s) led) x blank n m

module _ {W : Type 0} {d : Domain W} where
  module _ (l : IsLawful W d) {common : Stock W} {own : List (Rule W)} {index : Index W} {starts : List (Start W)} {table : Cells W} {taken begun : ℕ} (w : IsWork d common own index starts table taken begun) where
    pub rule_added : (rule : Rule W) → d.IsMeant (weight_of rule) → (more : List (Rule W)) → more ≡ own ++ rule ∷ [] → IsWork d common more index starts table taken begun
    rule_added rule m more e = subst (λ (rs : List (Rule W)). IsWork d common rs index starts table taken begun) (sym e) (record {
      told = record {
        rule = λ q h. elim (Has-either common.rules (own ++ rule ∷ []) q h) [
          | inl k ↦ w.told.rule q (Has-left common.rules own q k)
          | inr p ↦ elim (pushed_or own rule q p) [ inl k ↦ w.told.rule q (Has-right common.rules own q k) | inr k ↦ subst (λ (z : Rule W). d.IsMeant (weight_of z)) (sym k) m ]
        ];
        start = w.told.start;
      };
      led = w.led;
      indexed = subst (λ (rs : List (Rule W)). IsIndex rs [] index) (sym (take-append-le taken own (rule ∷ []) w.taken_in)) w.indexed;
      sound = sound_more d (common.rules ++ own) (common.rules ++ (own ++ rule ∷ [])) more_has starts starts common.steps (λ q h. h) l table w.sound;
      closed = record { rules_done = λ i q h at. w.closed.rules_done i q h (below i q h at); starts_in = w.closed.starts_in };
      taken_in = (let h = w.taken_in in let long : length (own ++ rule ∷ []) ≡ suc (length own) = length_pushed own rule in omega arith);
      begun_in = w.begun_in;
    })
      where
        more_has : (q : Rule W) → Has (common.rules ++ own) q → Has (common.rules ++ (own ++ rule ∷ [])) q
        more_has q h = elim (Has-either common.rules own q h) [
          | inl k ↦ Has-left common.rules (own ++ rule ∷ []) q k
          | inr k ↦ Has-right common.rules (own ++ rule ∷ []) q (Has-left own (rule ∷ []) q k)
        ]

        below : (i : ℕ) (q : Rule W) → i < length common.rules + taken → slice_get (common.rules ++ (own ++ rule ∷ [])) i ≡ Some q → slice_get (common.rules ++ own) i ≡ Some q
        below i q h at =
            let all : length (common.rules ++ own) ≡ length common.rules + length own = length-append common.rules own in
            pushed_below (common.rules ++ own) rule q i (length common.rules + taken) h (let k = w.taken_in in omega arith)
            (subst (λ (xs : List (Rule W)). slice_get xs i ≡ Some q) (sym (append_assoc common.rules own (rule ∷ []))) at)

    pub start_added : (start : Start W) → d.IsMeant start.weight → (word : List ℕ) × Leads common.steps start.base word common.last → (more : List (Start W)) → more ≡ starts ++ start ∷ [] → IsWork d common own index more table taken begun
    start_added start m path more e = subst (λ (ss : List (Start W)). IsWork d common own index ss table taken begun) (sym e) (record {
      told = record { rule = w.told.rule; start = λ q h. elim (pushed_or starts start q h) [ inl k ↦ w.told.start q k | inr k ↦ subst (λ (z : Start W). d.IsMeant z.weight) (sym k) m ] };
      led = led;
      indexed = w.indexed;
      sound = sound_more d (common.rules ++ own) (common.rules ++ own) (λ q h. h) starts (starts ++ start ∷ []) common.steps (λ q h. Has-left starts _ q h) l table w.sound;
      closed = record { rules_done = w.closed.rules_done; starts_in = λ i q h at. w.closed.starts_in i q h (pushed_below starts start q i begun h w.begun_in at) };
      taken_in = w.taken_in;
      begun_in = (let h = w.begun_in in let long : length (starts ++ start ∷ []) ≡ suc (length starts) = length_pushed starts start in omega arith);
    })
      where
        from_start : (b : ℕ) (s : Start W) → s.base ≡ b → Has starts s ⊎ (s ≡ start) → (word : List ℕ) × Leads common.steps b word common.last
        from_start b s e (inl h) = w.led b (by_start s h e)
        from_start b s e (inr h) = subst (λ (a : ℕ). (word : List ℕ) × Leads common.steps a word common.last) (sym (ap (λ (z : Start W). z.base) h) ∙ e) path

        led : IsLed (starts ++ start ∷ []) common.steps common.last
        led b (by_start s h k) = from_start b s k (pushed_or starts start s h)
        led b (by_base s h k) = w.led b (by_base s h k)
        led b (by_below s h k) = w.led b (by_below s h k)

    -- the table is given up
    pub work_anew : (none : Index W) (blank : Cells W) (taken begun : ℕ) → IsIndex {W = W} [] [] none → IsBlank d blank → taken ≡ 0 → begun ≡ 0 → IsWork d common own none starts blank taken begun
    work_anew none blank taken begun x b n m = work_blank l common own w.told none blank taken begun w.led x b n m

    -- the table has come to the end
    pub work_settled : (found : Index W) → IsIndex own [] found → (done : Cells W) → IsSound d (common.rules ++ own) starts common.steps done → IsClosed d (common.rules ++ own) starts common.steps done → (n m : ℕ) → n ≡ length own → m ≡ length starts
        → IsWork d common own found starts done n m
    work_settled found x done s c n m e f = record {
      told = w.told;
      led = w.led;
      indexed =
          let all : take n own ≡ own = take_all n own (omega arith) in
          subst (λ (rs : List (Rule W)). IsIndex rs [] found) (sym all) x;
      sound = s;
      closed = record { rules_done = λ i q h at. c.0 q (i, at); starts_in = λ i q h at. c.1 q (i, at) };
      taken_in = omega arith;
      begun_in = omega arith;
    }

    -- the table of a settled work
    pub work_saturated : all_taken own starts taken begun ≡ true → IsSaturated d (common.rules ++ own) starts common.steps common.last table
    work_saturated e =
        let p = all_at_last own starts taken begun e in
        saturated l common.steps w.told common.last w.led table w.sound (
          (λ q h. w.closed.rules_done h.0 q (
              let low : h.0 < length (common.rules ++ own) = slice_get-below (common.rules ++ own) h.0 q h.1 in
              let all : length (common.rules ++ own) ≡ length common.rules + length own = length-append common.rules own in
              let is = p.0 in omega arith) h.1),
          (λ q h. w.closed.starts_in h.0 q (let low : h.0 < length starts = slice_get-below starts h.0 q h.1 in let is = p.1 in omega arith) h.1),
        )

-- a list of which one more element has come behind another list
pub grown : {X : Type 0} (old xs now : List X) (k : ℕ) (x : X) → now ≡ old ++ take k xs → x ≡ get_or xs k x → k < length xs → now ++ x ∷ [] ≡ old ++ take (k + 1) xs
grown {X} old xs now k x e is low =
    ap (λ (ys : List X). ys ++ x ∷ []) e ∙ append_assoc old (take k xs) (x ∷ [])
    ∙ ap (λ (ys : List X). old ++ ys) (ap (λ (y : X). take k xs ++ y ∷ []) is ∙ sym (take_more xs k x low))

-- no base is named where there are no starts and no steps
pub led_none : {W : Type 0} (last : ℕ) → IsLed {W = W} [] [] last
led_none last b (by_start s h k) = let p = h.1 in cc
led_none last b (by_base s h k) = let p = h.1 in cc
led_none last b (by_below s h k) = let p = h.1 in cc
