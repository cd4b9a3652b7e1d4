-- Rules are split one by one.
use Rattle.std.proofs.Common.{◌≡◌, ◌↔◌, ◌⊎◌, inl, inr, ℕ, zero, suc, Bool, true, false, List, [], ◌∷◌, ◌++◌, get_or, slice_set, refl, sym, ap, ◌∙◌, subst}
use Rattle.std.proofs.lemmas.Bool.{cases_eq}
use Rattle.std.proofs.lemmas.List.{get_or-set_other}
use Rattle.auto_table.specs.declared.rule.Rule.{Rule}
use Rattle.auto_table.specs.declared.rule.Rule.TheVariants.{Flow, Push, Pop}
use Rattle.lists.specs.Lists.{Has}
use Rattle.lists.proofs.Joined.{Has-either, Has-left, Has-right}
use Rattle.post_star.proofs.Scopes.{has_last}
use Rattle.post_star.specs.declared.bases.BaseStep.{BaseStep}
use Rattle.post_star.specs.Derivations.{step_of}
use Rattle.weight_laws.specs.Law.{Domain}
use Rattle.rule_marks.specs.Split.{IsSplitRule, Splitting, flow, pop, pop_common, pop_exit, push, push_common, push_entry, IsSplitStep, step, step_below, step_common}
use Rattle.rule_marks.specs.Making.{AreAdded, AreStepsOf, IsWriting}

has_one : {X : Type 0} (q x : X) → Has (q ∷ []) x → x ≡ q
has_one q x (zero, h) = cc
has_one q x (suc i, h) = cc

the_one : {X : Type 0} (q : X) → Has (q ∷ []) q
the_one q = (0, refl)

pub has_put : {X : Type 0} (xs : List X) (x y : X) → Has (xs ++ x ∷ []) y → Has xs y ⊎ (y ≡ x)
has_put xs x y h = elim (Has-either xs (x ∷ []) y h) [ inl old ↦ inl old | inr new ↦ inr (has_one x y new) ]

module _ {X : Type 0} where
  -- both are put, or the second was there
  pub both_put : (old : List X) (a b r : X) → Has ((old ++ a ∷ []) ++ b ∷ []) r ↔ (Has old r ⊎ ((r ≡ a) ⊎ (r ≡ b)))
  both_put old a b r = (
    (λ has. elim (has_put (old ++ a ∷ []) b r has) [
      | inl x ↦ elim (has_put old a r x) [ inl o ↦ inl o | inr y ↦ inr (inl y) ]
      | inr y ↦ inr (inr y)
    ]),
    (λ p. elim p [
      | inl o ↦ Has-left (old ++ a ∷ []) (b ∷ []) r (Has-left old (a ∷ []) r o)
      | inr n ↦ elim n [
        | inl y ↦ subst (λ (x : X). Has ((old ++ a ∷ []) ++ b ∷ []) x) (sym y) (Has-left (old ++ a ∷ []) (b ∷ []) a (has_last old a))
        | inr y ↦ subst (λ (x : X). Has ((old ++ a ∷ []) ++ b ∷ []) x) (sym y) (has_last (old ++ a ∷ []) b)
      ]
    ]),
  )

  pub first_put : (old : List (X)) (a b r : X) → Has old b → Has (old ++ a ∷ []) r ↔ (Has old r ⊎ ((r ≡ a) ⊎ (r ≡ b)))
  first_put old a b r there = (
    (λ has. elim (has_put old a r has) [ inl o ↦ inl o | inr y ↦ inr (inl y) ]),
    (λ p. elim p [
      | inl o ↦ Has-left old (a ∷ []) r o
      | inr n ↦ elim n [
        | inl y ↦ subst (λ (x : X). Has (old ++ a ∷ []) x) (sym y) (has_last old a)
        | inr y ↦ Has-left old (a ∷ []) r (subst (λ (x : X). Has old x) (sym y) there)
      ]
    ]),
  )

module _ {W : Type 0} (d : Domain W) (s : Splitting) where
  -- rules of a longer list
  split_more : (rules more : List (Rule W)) (r : Rule W) → ((q : Rule W) → Has rules q → Has more q) → IsSplitRule d s rules r → IsSplitRule d s more r
  split_more rules more r f (flow m n w has e) = flow m n w (f _ has) e
  split_more rules more r f (push m n k w has t e) = push m n k w (f _ has) t e
  split_more rules more r f (push_entry m n k w has t e) = push_entry m n k w (f _ has) t e
  split_more rules more r f (push_common m n k w has t e) = push_common m n k w (f _ has) t e
  split_more rules more r f (pop m k n w has t e) = pop m k n w (f _ has) t e
  split_more rules more r f (pop_common m k n w has t e) = pop_common m k n w (f _ has) t e
  split_more rules more r f (pop_exit m k n w has t e) = pop_exit m k n w (f _ has) t e

  -- those of one list or of the other
  abbrev OfEither : List (Rule W) → List (Rule W) → Rule W → Type 0
  OfEither rules more r = IsSplitRule d s rules r ⊎ IsSplitRule d s more r

  split_either : (rules more : List (Rule W)) (r : Rule W) → IsSplitRule d s (rules ++ more) r → OfEither rules more r
  split_either rules more r (flow m n w has e) =
      elim (Has-either rules more (Flow m n w) has) [ inl a ↦ inl (flow m n w a e) | inr b ↦ inr (flow m n w b e) ]
  split_either rules more r (push m n k w has t e) =
      elim (Has-either rules more (Push m n k w) has) [ inl a ↦ inl (push m n k w a t e) | inr b ↦ inr (push m n k w b t e) ]
  split_either rules more r (push_entry m n k w has t e) =
      elim (Has-either rules more (Push m n k w) has) [ inl a ↦ inl (push_entry m n k w a t e) | inr b ↦ inr (push_entry m n k w b t e) ]
  split_either rules more r (push_common m n k w has t e) =
      elim (Has-either rules more (Push m n k w) has) [ inl a ↦ inl (push_common m n k w a t e) | inr b ↦ inr (push_common m n k w b t e) ]
  split_either rules more r (pop m k n w has t e) =
      elim (Has-either rules more (Pop m k n w) has) [ inl a ↦ inl (pop m k n w a t e) | inr b ↦ inr (pop m k n w b t e) ]
  split_either rules more r (pop_common m k n w has t e) =
      elim (Has-either rules more (Pop m k n w) has) [ inl a ↦ inl (pop_common m k n w a t e) | inr b ↦ inr (pop_common m k n w b t e) ]
  split_either rules more r (pop_exit m k n w has t e) =
      elim (Has-either rules more (Pop m k n w) has) [ inl a ↦ inl (pop_exit m k n w a t e) | inr b ↦ inr (pop_exit m k n w b t e) ]

  -- the rules that are written for one more
  pub record AreWritten (q : Rule W) (old new : List (Rule W)) : Type 0 where
    pub parts : (r : Rule W) → Has new r → Has old r ⊎ IsSplitRule d s (q ∷ []) r
    pub stay : (r : Rule W) → Has old r → Has new r
    pub added : (r : Rule W) → IsSplitRule d s (q ∷ []) r → Has new r

  pub written : (rules : List (Rule W)) (q : Rule W) (old new : List (Rule W)) (entries exits more_entries more_exits : List Bool) → IsWriting d s rules old entries exits
      → AreWritten q old new
      → ((n : ℕ) → get_or more_entries n false ≡ true → (get_or entries n false ≡ true) ⊎ Has new (Push (s.entry n) n s.common d.one))
      → ((n : ℕ) → get_or more_exits n false ≡ true → (get_or exits n false ≡ true) ⊎ Has new (Pop n s.common (s.exit n) d.one))
      → IsWriting d s (rules ++ q ∷ []) new more_entries more_exits
  written rules q old new entries exits more_entries more_exits was are entered left = record {
    rules_are = λ r. (
      (λ has. elim (are.parts r has) [
        | inl a ↦ split_more rules (rules ++ q ∷ []) r (λ x h. Has-left rules (q ∷ []) x h) ((was.rules_are r).0 a)
        | inr b ↦ split_more (q ∷ []) (rules ++ q ∷ []) r (λ x h. Has-right rules (q ∷ []) x h) b
      ]),
      (λ is. elim (split_either rules (q ∷ []) r is) [ inl a ↦ are.stay r ((was.rules_are r).1 a) | inr b ↦ are.added r b ]),
    );
    entries_there = λ n flag. elim (entered n flag) [ inl a ↦ are.stay _ (was.entries_there n a) | inr b ↦ b ];
    exits_there = λ n flag. elim (left n flag) [ inl a ↦ are.stay _ (was.exits_there n a) | inr b ↦ b ];
  }

  -- a rule that stays as it is
  abbrev pub IsWhole : Rule W → Type 0
  IsWhole (Flow from to weight) = Unit {0}
  IsWhole (Push from to mark weight) = s.is_split (s.room to) mark ≡ false
  IsWhole (Pop from mark to weight) = s.is_split (s.room from) mark ≡ false

  whole_self : (q : Rule W) → IsWhole q → IsSplitRule d s (q ∷ []) q
  whole_self (Flow from to weight) whole = flow from to weight (the_one _) refl
  whole_self (Push from to mark weight) whole = push from to mark weight (the_one _) whole refl
  whole_self (Pop from mark to weight) whole = pop from mark to weight (the_one _) whole refl

  not_both : (b : Bool) → b ≡ false → b ≡ true → ⊥
  not_both b e f = cc

  whole_alone : (q r : Rule W) → IsWhole q → IsSplitRule d s (q ∷ []) r → r ≡ q
  whole_alone q r whole (flow m n w has e) = e ∙ has_one q _ has
  whole_alone q r whole (push m n k w has t e) = e ∙ has_one q _ has
  whole_alone q r whole (push_entry m n k w has t e) = absurd (not_both (s.is_split (s.room n) k) (subst (λ (p : Rule W). IsWhole p) (sym (has_one q (Push m n k w) has)) whole) t)
  whole_alone q r whole (push_common m n k w has t e) = absurd (not_both (s.is_split (s.room n) k) (subst (λ (p : Rule W). IsWhole p) (sym (has_one q (Push m n k w) has)) whole) t)
  whole_alone q r whole (pop m k n w has t e) = e ∙ has_one q _ has
  whole_alone q r whole (pop_common m k n w has t e) = absurd (not_both (s.is_split (s.room m) k) (subst (λ (p : Rule W). IsWhole p) (sym (has_one q (Pop m k n w) has)) whole) t)
  whole_alone q r whole (pop_exit m k n w has t e) = absurd (not_both (s.is_split (s.room m) k) (subst (λ (p : Rule W). IsWhole p) (sym (has_one q (Pop m k n w) has)) whole) t)

  pub written_whole : (q : Rule W) (old : List (Rule W)) → IsWhole q → AreWritten q old (old ++ q ∷ [])
  written_whole q old whole = record {
    parts = λ r has. elim (has_put old q r has) [
      | inl a ↦ inl a
      | inr b ↦ inr (subst (λ (x : Rule W). IsSplitRule d s (q ∷ []) x) (sym b) (whole_self q whole))
    ];
    stay = λ r has. Has-left old (q ∷ []) r has;
    added = λ r is. subst (λ (x : Rule W). Has (old ++ q ∷ []) x) (sym (whole_alone q r whole is)) (has_last old q);
  }

  -- a push into a split room, and a pop from one
  push_parts : (from to mark : ℕ) (weight : W) (r : Rule W) → s.is_split (s.room to) mark ≡ true → IsSplitRule d s (Push from to mark weight ∷ []) r
      → (r ≡ Push from (s.entry to) mark weight) ⊎ (r ≡ Push (s.entry to) to s.common d.one)
  push_parts from to mark weight r split (flow m n w has e) = let one = has_one _ (Flow m n w) has in cc
  push_parts from to mark weight r split (push m n k w has t e) =
      let one = has_one _ (Push m n k w) has in
      let node : n ≡ to = cc in
      let mark_is : k ≡ mark = cc in
      absurd (not_both (s.is_split (s.room to) mark) (sym (ap (λ (j : ℕ). s.is_split (s.room j) k) node ∙ ap (s.is_split (s.room to)) mark_is) ∙ t) split)
  push_parts from to mark weight r split (push_entry m n k w has t e) = let one = has_one _ (Push m n k w) has in inl cc
  push_parts from to mark weight r split (push_common m n k w has t e) = let one = has_one _ (Push m n k w) has in inr cc
  push_parts from to mark weight r split (pop m k n w has t e) = let one = has_one _ (Pop m k n w) has in cc
  push_parts from to mark weight r split (pop_common m k n w has t e) = let one = has_one _ (Pop m k n w) has in cc
  push_parts from to mark weight r split (pop_exit m k n w has t e) = let one = has_one _ (Pop m k n w) has in cc

  pop_parts : (from mark to : ℕ) (weight : W) (r : Rule W) → s.is_split (s.room from) mark ≡ true → IsSplitRule d s (Pop from mark to weight ∷ []) r
      → (r ≡ Pop (s.exit from) mark to weight) ⊎ (r ≡ Pop from s.common (s.exit from) d.one)
  pop_parts from mark to weight r split (flow m n w has e) = let one = has_one _ (Flow m n w) has in cc
  pop_parts from mark to weight r split (push m n k w has t e) = let one = has_one _ (Push m n k w) has in cc
  pop_parts from mark to weight r split (push_entry m n k w has t e) = let one = has_one _ (Push m n k w) has in cc
  pop_parts from mark to weight r split (push_common m n k w has t e) = let one = has_one _ (Push m n k w) has in cc
  pop_parts from mark to weight r split (pop m k n w has t e) =
      let one = has_one _ (Pop m k n w) has in
      let node : m ≡ from = cc in
      let mark_is : k ≡ mark = cc in
      absurd (not_both (s.is_split (s.room from) mark) (sym (ap (λ (j : ℕ). s.is_split (s.room j) k) node ∙ ap (s.is_split (s.room from)) mark_is) ∙ t) split)
  pop_parts from mark to weight r split (pop_common m k n w has t e) = let one = has_one _ (Pop m k n w) has in inr cc
  pop_parts from mark to weight r split (pop_exit m k n w has t e) = let one = has_one _ (Pop m k n w) has in inl cc

  -- two rules are written for one
  written_both : (q a b : Rule W) (old new : List (Rule W)) → IsSplitRule d s (q ∷ []) a → IsSplitRule d s (q ∷ []) b
      → ((r : Rule W) → IsSplitRule d s (q ∷ []) r → (r ≡ a) ⊎ (r ≡ b)) → AreAdded old a b new → AreWritten q old new
  written_both q a b old new is_a is_b parts_are new_are = record {
    parts = λ r has. elim ((new_are r).0 has) [
      | inl o ↦ inl o
      | inr n ↦ elim n [
        | inl x ↦ inr (subst (λ (y : Rule W). IsSplitRule d s (q ∷ []) y) (sym x) is_a)
        | inr x ↦ inr (subst (λ (y : Rule W). IsSplitRule d s (q ∷ []) y) (sym x) is_b)
      ]
    ];
    stay = λ r has. (new_are r).1 (inl has);
    added = λ r is. (new_are r).1 (inr (parts_are r is));
  }

  pub writes_whole : (rules : List (Rule W)) (q : Rule W) (old new : List (Rule W)) (entries exits : List Bool) → IsWhole q → new ≡ old ++ q ∷ []
      → IsWriting d s rules old entries exits → IsWriting d s (rules ++ q ∷ []) new entries exits
  writes_whole rules q old new entries exits whole is was =
      subst (λ (xs : List (Rule W)). IsWriting d s (rules ++ q ∷ []) xs entries exits) (sym is)
      (written rules q old (old ++ q ∷ []) entries exits entries exits was (written_whole q old whole) (λ n flag. inl flag) (λ n flag. inl flag))

  -- a rule at the entry or the exit, and the common one where it isn't there
  pub writes_push : (rules : List (Rule W)) (from to mark : ℕ) (weight : W) (a b : Rule W) (old new : List (Rule W)) (entries exits more : List Bool)
      → s.is_split (s.room to) mark ≡ true → a ≡ Push from (s.entry to) mark weight → b ≡ Push (s.entry to) to s.common d.one
      → ((get_or entries to false ≡ true → Has old b) → AreAdded old a b new)
      → ((n : ℕ) → get_or more n false ≡ true → (get_or entries n false ≡ true) ⊎ (n ≡ to))
      → IsWriting d s rules old entries exits → IsWriting d s (rules ++ Push from to mark weight ∷ []) new more exits
  writes_push rules from to mark weight a b old new entries exits more split a_is b_is adds flags was =
      written rules (Push from to mark weight) old new entries exits more exits was
      (written_both (Push from to mark weight) a b old new (push_entry from to mark weight (the_one _) split a_is) (push_common from to mark weight (the_one _) split b_is)
      (λ r is. elim (push_parts from to mark weight r split is) [ inl e ↦ inl (e ∙ sym a_is) | inr e ↦ inr (e ∙ sym b_is) ]) added)
      (λ n flag. elim (flags n flag) [
        | inl u ↦ inl u
        | inr same ↦ inr (subst (λ (k : ℕ). Has new (Push (s.entry k) k s.common d.one)) (sym same)
            (subst (λ (x : Rule W). Has new x) b_is ((added b).1 (inr (inr refl)))))
      ])
      (λ n flag. inl flag)
    where
      added : AreAdded old a b new
      added = adds (λ flag. subst (λ (x : Rule W). Has old x) (sym b_is) (was.entries_there to flag))

  pub writes_pop : (rules : List (Rule W)) (from mark to : ℕ) (weight : W) (a b : Rule W) (old new : List (Rule W)) (entries exits more : List Bool)
      → s.is_split (s.room from) mark ≡ true → a ≡ Pop (s.exit from) mark to weight → b ≡ Pop from s.common (s.exit from) d.one
      → ((get_or exits from false ≡ true → Has old b) → AreAdded old a b new)
      → ((n : ℕ) → get_or more n false ≡ true → (get_or exits n false ≡ true) ⊎ (n ≡ from))
      → IsWriting d s rules old entries exits → IsWriting d s (rules ++ Pop from mark to weight ∷ []) new entries more
  writes_pop rules from mark to weight a b old new entries exits more split a_is b_is adds flags was =
      written rules (Pop from mark to weight) old new entries exits entries more was
      (written_both (Pop from mark to weight) a b old new (pop_exit from mark to weight (the_one _) split a_is) (pop_common from mark to weight (the_one _) split b_is)
      (λ r is. elim (pop_parts from mark to weight r split is) [ inl e ↦ inl (e ∙ sym a_is) | inr e ↦ inr (e ∙ sym b_is) ]) added)
      (λ n flag. inl flag)
      (λ n flag. elim (flags n flag) [
        | inl u ↦ inl u
        | inr same ↦ inr (subst (λ (k : ℕ). Has new (Pop k s.common (s.exit k) d.one)) (sym same)
            (subst (λ (x : Rule W). Has new x) b_is ((added b).1 (inr (inr refl)))))
      ])
    where
      added : AreAdded old a b new
      added = adds (λ flag. subst (λ (x : Rule W). Has old x) (sym b_is) (was.exits_there from flag))

  -- nothing is written yet
  pub writing_none : (entries exits : List Bool) → ((n : ℕ) → get_or entries n false ≡ false) → ((n : ℕ) → get_or exits n false ≡ false)
      → IsWriting d s [] [] entries exits
  writing_none entries exits no_entry no_exit = record {
    rules_are = λ r. ((λ has. absurd (none has)), (λ is. absurd (nothing r is)));
    entries_there = λ n flag. absurd (not_both (get_or entries n false) (no_entry n) flag);
    exits_there = λ n flag. absurd (not_both (get_or exits n false) (no_exit n) flag);
  }
    where
      none : {r : Rule W} → Has [] r → ⊥
      none has = cc has.1

      nothing : (r : Rule W) → IsSplitRule d s [] r → ⊥
      nothing r (flow m n w has e) = none has
      nothing r (push m n k w has t e) = none has
      nothing r (push_entry m n k w has t e) = none has
      nothing r (push_common m n k w has t e) = none has
      nothing r (pop m k n w has t e) = none has
      nothing r (pop_common m k n w has t e) = none has
      nothing r (pop_exit m k n w has t e) = none has

module _ (s : Splitting) where
  step_more : (steps more : List BaseStep) (x : BaseStep) → ((q : BaseStep) → Has steps q → Has more q) → IsSplitStep s steps x → IsSplitStep s more x
  step_more steps more x f (step b k c has t e) = step b k c (f _ has) t e
  step_more steps more x f (step_common b k c has t e) = step_common b k c (f _ has) t e
  step_more steps more x f (step_below b k c has t e) = step_below b k c (f _ has) t e

  step_either : (steps more : List BaseStep) (x : BaseStep) → IsSplitStep s (steps ++ more) x → IsSplitStep s steps x ⊎ IsSplitStep s more x
  step_either steps more x (step b k c has t e) =
      elim (Has-either steps more (step_of b k c) has) [ inl u ↦ inl (step b k c u t e) | inr v ↦ inr (step b k c v t e) ]
  step_either steps more x (step_common b k c has t e) =
      elim (Has-either steps more (step_of b k c) has) [ inl u ↦ inl (step_common b k c u t e) | inr v ↦ inr (step_common b k c v t e) ]
  step_either steps more x (step_below b k c has t e) =
      elim (Has-either steps more (step_of b k c) has) [ inl u ↦ inl (step_below b k c u t e) | inr v ↦ inr (step_below b k c v t e) ]

  step_written : (steps old new : List BaseStep) (q : BaseStep) → AreStepsOf s steps old → ((x : BaseStep) → Has new x → Has old x ⊎ IsSplitStep s (q ∷ []) x)
      → ((x : BaseStep) → Has old x → Has new x) → ((x : BaseStep) → IsSplitStep s (q ∷ []) x → Has new x) → AreStepsOf s (steps ++ q ∷ []) new
  step_written steps old new q was parts stay added = record {
    steps_are = λ x. (
      (λ has. elim (parts x has) [
        | inl u ↦ step_more steps (steps ++ q ∷ []) x (λ y h. Has-left steps (q ∷ []) y h) ((was.steps_are x).0 u)
        | inr v ↦ step_more (q ∷ []) (steps ++ q ∷ []) x (λ y h. Has-right steps (q ∷ []) y h) v
      ]),
      (λ is. elim (step_either steps (q ∷ []) x is) [ inl u ↦ stay x ((was.steps_are x).1 u) | inr v ↦ added x v ]),
    );
  }

  -- whether the mark of a step is split
  abbrev splits_step : BaseStep → Bool
  splits_step q = s.is_split (s.base_room q.base) q.mark

  not_split : (q : BaseStep) (b k c : ℕ) → Has (q ∷ []) (step_of b k c) → splits_step q ≡ false → splits_step (step_of b k c) ≡ true → ⊥
  not_split q b k c has whole t = let same = ap splits_step (has_one q (step_of b k c) has) in cc

  step_whole : (q x : BaseStep) → splits_step q ≡ false → IsSplitStep s (q ∷ []) x → x ≡ q
  step_whole q x whole (step b k c has t e) = e ∙ has_one q (step_of b k c) has
  step_whole q x whole (step_common b k c has t e) = absurd (not_split q b k c has whole t)
  step_whole q x whole (step_below b k c has t e) = absurd (not_split q b k c has whole t)

  pub steps_whole : (steps old : List BaseStep) (q : BaseStep) → splits_step q ≡ false → AreStepsOf s steps old → AreStepsOf s (steps ++ q ∷ []) (old ++ q ∷ [])
  steps_whole steps old q whole was = step_written steps old (old ++ q ∷ []) q was
      (λ x has. elim (has_put old q x has) [
        | inl u ↦ inl u
        | inr v ↦ inr (subst (λ (y : BaseStep). IsSplitStep s (q ∷ []) y) (sym v) (step q.base q.mark q.below (the_one q) whole refl))
      ])
      (λ x has. Has-left old (q ∷ []) x has) (λ x is. subst (λ (y : BaseStep). Has (old ++ q ∷ []) y) (sym (step_whole q x whole is)) (has_last old q))

  step_parts : (q x : BaseStep) → splits_step q ≡ true → IsSplitStep s (q ∷ []) x
      → (x ≡ step_of q.base s.common (s.below q.base)) ⊎ (x ≡ step_of (s.below q.base) q.mark q.below)
  step_parts q x split (step b k c has t e) = let same = ap splits_step (has_one q (step_of b k c) has) in absurd (let both : false ≡ true = cc in cc)
  step_parts q x split (step_common b k c has t e) = inl (e ∙ ap (λ (y : BaseStep). step_of y.base s.common (s.below y.base)) (has_one q (step_of b k c) has))
  step_parts q x split (step_below b k c has t e) =
      inr (e ∙ ap (λ (y : BaseStep). step_of (s.below y.base) y.mark y.below) (has_one q (step_of b k c) has))

  pub steps_split : (steps old : List BaseStep) (q : BaseStep) → splits_step q ≡ true → AreStepsOf s steps old
      → AreStepsOf s (steps ++ q ∷ []) ((old ++ step_of q.base s.common (s.below q.base) ∷ []) ++ step_of (s.below q.base) q.mark q.below ∷ [])
  steps_split steps old q split was = step_written steps old _ q was
      (λ x has. elim ((both_put old (step_of q.base s.common (s.below q.base)) (step_of (s.below q.base) q.mark q.below) x).0 has) [
        | inl u ↦ inl u
        | inr v ↦ elim v [
          | inl y ↦ inr (step_common q.base q.mark q.below (the_one q) split y)
          | inr y ↦ inr (step_below q.base q.mark q.below (the_one q) split y)
        ]
      ])
      (λ x has. (both_put old (step_of q.base s.common (s.below q.base)) (step_of (s.below q.base) q.mark q.below) x).1 (inl has))
      (λ x is. (both_put old (step_of q.base s.common (s.below q.base)) (step_of (s.below q.base) q.mark q.below) x).1 (inr (step_parts q x split is)))

  pub steps_none : AreStepsOf s [] []
  steps_none = record { steps_are = λ x. ((λ has. absurd (none x has)), (λ is. absurd (nothing x is))) }
    where
      none : (x : BaseStep) → Has [] x → ⊥
      none x has = cc has.1

      nothing : (x : BaseStep) → IsSplitStep s [] x → ⊥
      nothing x (step b k c has t e) = none _ has
      nothing x (step_common b k c has t e) = none _ has
      nothing x (step_below b k c has t e) = none _ has

-- flags are set one by one
pub flag_set : (flags : List Bool) (at n : ℕ) → get_or (slice_set flags at true) n false ≡ true → (get_or flags n false ≡ true) ⊎ (n ≡ at)
flag_set flags at n set = elim (cases_eq n at) [
  | inl same ↦ inr same
  | inr apart ↦ inl (sym (get_or-set_other flags at n true false apart) ∙ set)
]

pub flag_pushed : (flags : List Bool) → ((n : ℕ) → get_or flags n false ≡ false) → (n : ℕ) → get_or (flags ++ false ∷ []) n false ≡ false
flag_pushed [] none zero = refl
flag_pushed [] none (suc n) = refl
flag_pushed (b ∷ flags) none zero = none zero
flag_pushed (b ∷ flags) none (suc n) = flag_pushed flags (λ k. none (suc k)) n
