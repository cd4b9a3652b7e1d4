-- Where no method is there to be selected.
use Rattle.std.proofs.Common.{◌≡◌, ℕ, Bool, true, false, ◌&&◌, List, [], ◌∷◌, Some, None, IsTrue, refl, inl, inr}
use Rattle.std.specs.Prelude.{◌↔◌}
use Rattle.std.proofs.lemmas.Bool.{cases_eq, false≢true}
use Rattle.class_rules.specs.Lookups.{IsAmbiguous, IsDefault, OnPath, Resolve, ambiguous, by_default, nowhere}
use Rattle.class_rules.specs.Rows.{Rows}
use Rattle.class_rules.proofs.Selected.{selection_one}
use Rattle.lists.specs.Lists.{Has}
use Rattle.link_faults.proofs.Scans.{no, yes}

nothing_has : (xs : List ℕ) (x : ℕ) → xs ≡ [] → Has xs x → ⊥
nothing_has xs x none h = cc (none, h.1)

has_nothing : (xs : List ℕ) → ((x : ℕ) → Has xs x → ⊥) → xs ≡ []
has_nothing [] none = refl
has_nothing (x ∷ xs) none = absurd (none x (0, refl))

some_is_not_none : (row : ℕ) → Some row ≡ None → ⊥
some_is_not_none row e = cc

-- no method is selected, several default methods apart
abbrev NoneIs : Rows → ℕ → ℕ → Type 0
NoneIs rows class key = Resolve rows class key None × (IsAmbiguous rows class key → ⊥)

off_path_of : (rows : Rows) (class key : ℕ) → Resolve rows class key None → OnPath rows class key None
off_path_of rows class key (nowhere off none) = off
off_path_of rows class key (ambiguous several) = several.off_path

-- the rows that a call may run are known, and whether several default methods are there
module _ (rows : Rows) (class key : ℕ) (found : List ℕ) (several : Bool) (each : (row : ℕ) → Has found row ↔ Resolve rows class key (Some row)) (is_several : IsTrue several ↔ IsAmbiguous rows class key) where
  -- a default method would be the only one, so it would be among them
  no_default : found ≡ [] → (IsAmbiguous rows class key → ⊥) → OnPath rows class key None → (row : ℕ) → IsDefault rows class key row → ⊥
  no_default none one off row is = nothing_has found row none ((each row).1 (by_default off is (λ other o. elim (cases_eq other row) [
    | inl same ↦ same
    | inr apart ↦ absurd (one (record { off_path = off; one = other; other = row; is_one = o; is_other = is; apart = apart }))
  ])))

  none_of : OnPath rows class key None → (found ≡ []) × (IsTrue several → ⊥) → NoneIs rows class key
  none_of off (none, said) = let one : IsAmbiguous rows class key → ⊥ = λ a. said (is_several.1 a) in (nowhere off (no_default none one off), one)

  nothing_of : NoneIs rows class key → (found ≡ []) × (IsTrue several → ⊥)
  nothing_of (finds, one) = (
    has_nothing found (λ row h. some_is_not_none row (selection_one rows class key (Some row) None ((each row).0 h) finds)),
    (λ e. one (is_several.0 e)),
  )

  pub selects_none_by : (off nothing : Bool) → IsTrue off ↔ OnPath rows class key None → IsTrue nothing ↔ ((found ≡ []) × (IsTrue several → ⊥)) → IsTrue (off && nothing) ↔ NoneIs rows class key
  selects_none_by true true is_off is_nothing = yes (none_of (is_off.0 refl) (is_nothing.0 refl))
  selects_none_by true false is_off is_nothing = no (λ h. false≢true (is_nothing.1 (nothing_of h)))
  selects_none_by false nothing is_off is_nothing = no (λ h. false≢true (is_off.1 (off_path_of rows class key h.0)))
