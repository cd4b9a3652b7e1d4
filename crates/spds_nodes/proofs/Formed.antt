-- Formals that are locals.
use Rattle.std.proofs.Common.{◌≡◌, ◌↔◌, ℕ, Bool, true, false, if◌then◌else◌, List, Option, Some, None, filter_map, refl, sym, ap, ◌∙◌}
use Rattle.std.proofs.lemmas.Option.{same_Some}
use Rattle.link_rules.specs.declared.code.Code.{Code}
use Rattle.spds_rules.specs.declared.node.Var.{Var}
use Rattle.spds_rules.specs.declared.node.Var.TheVariants.{Local}
use Rattle.spds_rules.specs.Formals.{formal, formal_by, identity_of, is_assigned_once, only}
use Rattle.spds_nodes.specs.declared.formals.Position.{Position}
use Rattle.spds_nodes.specs.declared.formals.Position.TheVariants as position
use Rattle.spds_nodes.specs.Positions.{var_of}

-- a position is no local
no_local : (position : Position) (x : ℕ) → var_of position ≡ Local x → ⊥
no_local position.This x is = cc (is)
no_local (position.Param number) x is = cc (is)

module _ (statements : List Code) (position : Position) where
  -- the local of the only identity of the position
  abbrev pub only_one : Option ℕ
  only_one = only (filter_map (λ c. identity_of c (var_of position)) statements)

  -- where it is assigned once, it is the formal
  pub formal_local : (y : ℕ) → only_one ≡ Some y → is_assigned_once statements y ≡ true → (x : ℕ)
      → (Some y ≡ Some x) ↔ (formal statements (var_of position) ≡ Local x)
  formal_local y found once x =
      let is : formal statements (var_of position) ≡ Local y =
      ap (formal_by statements (var_of position)) found ∙ ap (λ (b : Bool). if b then Local y else var_of position) once in (
        λ same. is ∙ ap Local (same_Some y x same),
        λ other. let same : Local y ≡ Local x = sym is ∙ other in let e : y ≡ x = cc (same) in ap Some e,
      )

  -- else the formal is the position
  itself : formal statements (var_of position) ≡ var_of position → (x : ℕ) → (None ≡ Some x) ↔ (formal statements (var_of position) ≡ Local x)
  itself is x = (λ none. absurd (cc (none)), λ other. absurd (no_local position x (sym is ∙ other)))

  pub formal_shared : (y : ℕ) → only_one ≡ Some y → is_assigned_once statements y ≡ false → (x : ℕ)
      → (None ≡ Some x) ↔ (formal statements (var_of position) ≡ Local x)
  formal_shared y found more =
      itself (ap (formal_by statements (var_of position)) found ∙ ap (λ (b : Bool). if b then Local y else var_of position) more)

  pub formal_none : only_one ≡ None → (x : ℕ) → (None ≡ Some x) ↔ (formal statements (var_of position) ≡ Local x)
  formal_none found = itself (ap (formal_by statements (var_of position)) found)

-- what isn't a local is the position itself
pub formal_itself : (statements : List Code) (v : Var) → ((x : ℕ) → formal statements v ≡ Local x → ⊥) → v ≡ formal statements v
formal_itself statements v not = by_local (only (filter_map (λ c. identity_of c v) statements)) not
  where
    by_times : (x : ℕ) (once : Bool) → ((y : ℕ) → (if once then Local x else v) ≡ Local y → ⊥) → v ≡ (if once then Local x else v)
    by_times x true not = absurd (not x refl)
    by_times x false not = refl

    by_local : (o : Option ℕ) → ((x : ℕ) → formal_by statements v o ≡ Local x → ⊥) → v ≡ formal_by statements v o
    by_local (Some x) not = by_times x (is_assigned_once statements x) not
    by_local None not = refl
