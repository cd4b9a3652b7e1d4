-- Formals that are settled.
use Rattle.std.proofs.Common.{◌≡◌, ℕ, zero, suc, ◌+◌, ◌&&◌, true, if◌then◌else◌, List, [], ◌∷◌, Some, drop, is_some, slice_get, refl, sym, ap, add-one}
use Rattle.std.proofs.lemmas.Option.{same_Some}
use Rattle.link_rules.specs.declared.code.Code.{Code}
use Rattle.spds_rules.specs.declared.node.Var.{Var}
use Rattle.spds_rules.specs.declared.node.Var.TheVariants.{Local}
use Rattle.spds_rules.specs.Formals.{formal, identity_of}
use Rattle.track_systems.specs.Settled.{comes_first, is_identity, is_settled, is_settled_by}

-- a formal that is a local is settled where its identity comes first
pub settled_local : (statements : List Code) (v : Var) (x : ℕ) → formal statements v ≡ Local x → comes_first v statements ≡ is_settled statements v
settled_local statements v x is = sym (ap (λ w. is_settled_by w statements v) is)

-- and each other is
pub settled_other : (statements : List Code) (v : Var) → ((x : ℕ) → formal statements v ≡ Local x → ⊥) → true ≡ is_settled statements v
settled_other statements v not = by (formal statements v) not
  where
    by : (w : Var) → ((x : ℕ) → w ≡ Local x → ⊥) → true ≡ is_settled_by w statements v
    by (Local x) not = absurd (not x refl)
    by _ not = refl

-- from one statement on
first_from : (v : Var) (statements : List Code) (i : ℕ) (c : Code) → slice_get statements i ≡ Some c
    → comes_first v (drop i statements) ≡ (if is_some (identity_of c v) then true else (is_identity c && comes_first v (drop (suc i) statements)))
first_from v [] i c there = absurd (cc (there))
first_from v (d ∷ statements) zero c there =
    ap (λ (e : Code). if is_some (identity_of e v) then true else (is_identity e && comes_first v statements)) (same_Some d c there)
first_from v (d ∷ statements) (suc i) c there = first_from v statements i c there

pub first_at : (v : Var) (statements : List Code) (i : ℕ) (c : Code) → slice_get statements i ≡ Some c
    → comes_first v (drop i statements) ≡ (if is_some (identity_of c v) then true else (is_identity c && comes_first v (drop (i + 1) statements)))
first_at v statements i c there = rw add-one (first_from v statements i c there)
