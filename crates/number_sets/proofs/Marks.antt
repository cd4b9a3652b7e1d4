-- Marks that are added and set.
use Rattle.std.proofs.Common.{◌≡◌, ◌≢◌, ◌⊎◌, ◌<◌, ℕ, Bool, true, false, List, [], ◌∷◌, ◌++◌, get_or, length, set, refl, sym, ◌∙◌, inl, inr, arith, true≢false, eqb, get_or-set_same, get_or-set_other}
use Rattle.std.specs.Cmp.{nat_eq_equiv, unsigned_Decides}
use Rattle.std.specs.List.{Contains, IsDistinct, list_any}
use Rattle.std.proofs.lemmas.List.{get_or_past}
use Rattle.std.proofs.lemmas.List.Elements.{Contains-append_left, Contains-push, Contains-push_cases}
use Rattle.std.proofs.lemmas.Map.Keys.{IsDistinct-from_apart, IsDistinct-push}
use Rattle.std.proofs.lemmas.Map.Made.{is_member-Decides}
use Rattle.number_sets.specs.Marks.{AreMarked}

-- equal or not
same_or : (a b : ℕ) → (a ≡ b) ⊎ (a ≢ b)
same_or a b = grind arith

-- a number that a list doesn't have isn't found in it
list_any-absent : (numbers : List ℕ) (n : ℕ) → (Contains numbers n → ⊥) → list_any (eqb n) numbers ≡ false
list_any-absent numbers n absent = by (list_any (eqb n) numbers) refl
  where
    by : (b : Bool) → list_any (eqb n) numbers ≡ b → b ≡ false
    by true e = absurd (absent ((is_member-Decides unsigned_Decides numbers n).0 e))
    by false e = refl

-- no marks
pub marked_none : AreMarked [] []
marked_none = record {
  distinct = distinct_none;
  marked = λ n. ((λ h. absurd (true≢false (sym h ∙ get_or_past [] n false (omega arith)))), (λ m. absurd (omega (arith, m.1))));
}
  where
    distinct_none : IsDistinct eqb []
    distinct_none = IsDistinct-from_apart eqb [] (λ i j d lt h. absurd (omega (arith, h)))

-- marks that read the same
pub marked_same : (marks more : List Bool) (numbers : List ℕ) → ((n : ℕ) → get_or more n false ≡ get_or marks n false) → AreMarked marks numbers → AreMarked more numbers
marked_same marks more numbers same are = record {
  distinct = are.distinct;
  marked = λ n. rw (same n) (are.marked n);
}

-- a mark that is set
pub marked_put : (marks : List Bool) (numbers : List ℕ) (number : ℕ) → number < length marks → (Contains numbers number → ⊥) → AreMarked marks numbers
    → AreMarked (set marks number true) (numbers ++ number ∷ [])
marked_put marks numbers number low absent are = record {
  distinct = IsDistinct-push nat_eq_equiv numbers number are.distinct (list_any-absent numbers number absent);
  marked = λ n. elim (same_or n number) [
    | inl same ↦ rw same ((λ _. Contains-push numbers number), (λ _. get_or-set_same marks number true false low))
    | inr other ↦ rw (get_or-set_other marks number n true false other) (
      (λ h. Contains-append_left numbers _ n ((are.marked n).0 h)),
      (λ m. elim (Contains-push_cases numbers number n m) [ inl old ↦ (are.marked n).1 old | inr at ↦ absurd (other (sym at)) ]),
    )
  ];
}
