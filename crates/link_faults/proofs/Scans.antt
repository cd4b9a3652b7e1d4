-- Loops that look for an element with a fact.
use Rattle.std.proofs.Common.{◌≡◌, ℕ, true, false, ◌+◌, ◌<◌, ◌≤◌, ◌↔◌, List, length, get_or, Option, None, Some, is_some, IsTrue, slice_get, eqb, refl, ap, sym, subst, inl, inr, true≢false, arith}
use Rattle.std.specs.Option.{option_eq}
use Rattle.std.proofs.lemmas.Bool.{cases_order, eqb-false, eqb-true, false≢true}
use Rattle.std.proofs.lemmas.Option.{get_or_from_slice_get, slice_get-get_or}
use Rattle.lists.specs.Lists.{Has}
use Rattle.lists.proofs.Places.{slice_get-below}

-- a test that is true, or false, says the fact
pub yes : {P : Type 0} → P → IsTrue true ↔ P
yes p = (λ _. p, λ _. refl)

pub no : {P : Type 0} → (P → ⊥) → IsTrue false ↔ P
no {P} none = (λ e. absurd (true≢false (sym e)), λ (p : P). absurd (none p))

-- no element before the place has the fact
abbrev pub NoneBefore : {X : Type 0} → (X → Type 0) → List X → ℕ → Type 0
NoneBefore {X} P xs n = (i : ℕ) (x : X) → i < n → slice_get xs i ≡ Some x → P x → ⊥

module _ {X : Type 0} (P : X → Type 0) where
  -- one more that doesn't have it
  pub none_more : (xs : List X) (n : ℕ) (d : X) → NoneBefore P xs n → n < length xs → (P (get_or xs n d) → ⊥) → NoneBefore P xs (n + 1)
  none_more xs n d none below here i y before there p = elim (cases_order i n) [
    | inl same ↦ let at : slice_get xs n ≡ Some y = subst (λ k. slice_get xs k ≡ Some y) same there in here (subst P (sym (get_or_from_slice_get xs n y d at)) p)
    | inr apart ↦ none i y (omega arith) there p
  ]

  -- one that has it is found
  pub found : (xs : List X) (n : ℕ) (d : X) → n < length xs → P (get_or xs n d) → IsTrue true ↔ ((y : X) × Has xs y × P y)
  found xs n d below p = yes (get_or xs n d, (n, slice_get-get_or xs n d below), p)

  -- none has it
  pub none_found : (xs : List X) (n : ℕ) → NoneBefore P xs n → length xs ≤ n → IsTrue false ↔ ((y : X) × Has xs y × P y)
  none_found xs n none all = no (λ (y, h, p). none h.0 y (omega (arith, slice_get-below xs h.0 y h.1)) h.1 p)

  pub none_of : (xs : List X) (n : ℕ) → NoneBefore P xs n → length xs ≤ n → (y : X) → Has xs y → P y → ⊥
  none_of xs n none all y h p = none h.0 y (omega (arith, slice_get-below xs h.0 y h.1)) h.1 p

-- what a comparison with a number says
pub same_some : (o : Option ℕ) (n : ℕ) → option_eq eqb o (Some n) ≡ true → o ≡ Some n
same_some None n e = absurd (false≢true e)
same_some (Some m) n e = ap Some (eqb-true m n e)

pub other_some : (o : Option ℕ) (n : ℕ) → option_eq eqb o (Some n) ≡ false → o ≡ Some n → ⊥
other_some None n e same = cc (same)
other_some (Some m) n e same = let one : m ≡ n = cc (same) in eqb-false m n e one
