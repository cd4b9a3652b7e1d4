-- What plans list.
use Rattle.std.proofs.Common.{◌≡◌, ℕ, zero, suc, ◌+◌, ◌<◌, ◌≤◌, List, [], ◌∷◌, ◌++◌, Option, Some, None, length, map, slice_get, refl, sym, subst, arith, length-append, add-one, get_or}
use Rattle.std.specs.Option.{option_to_list}
use Rattle.std.proofs.lemmas.List.{length-map}
use Rattle.jim_step.specs.declared.plan.Effect.{Effect as Planned}
use Rattle.jim_step.specs.declared.plan.Plan.{Plan}
use Rattle.jim_step.specs.declared.plan.Plan.TheVariants as plan
use Rattle.jim_step.specs.Plans.{count_of, listed, listed_behind, listed_cells, meant}
use Rattle.link_rules.specs.Linked.{LinkedProgram}
use Rattle.step_rules.specs.declared.parts.Value.{Value}
use Rattle.step_rules.specs.Effects.{Effect}
use Rattle.step_rules.specs.Effects as effect
use Rattle.step_rules.specs.States.{Frame}

-- a plan lists as many effects as it has choices
pub length-listed : (p : LinkedProgram) (top : Frame) (some : Plan) → length (listed p top some) ≡ count_of some
length-listed p top (plan.One only) = refl
length-listed p top (plan.Two first second) = refl
length-listed p top (plan.Three first second third) = refl
length-listed p top (plan.Cells to cells more) = omega (
  arith,
  length-append (map (λ cell. effect.gets to cell) cells.now) (listed_behind p top more),
  length-map cells.now (λ cell. effect.gets to cell),
  length-map (option_to_list more) (λ e. meant p top e),
)
length-listed p top (plan.Jumps jumps) = length-map jumps.now (λ jump. effect.goes jump)

-- a choice behind the first of a load takes an element
pub cell_chosen : (p : LinkedProgram) (top : Frame) (to : ℕ) (cells : List Value) (more : Option Planned) (choice at : ℕ) (cell : Value) → choice ≡ at + 1
    → slice_get cells at ≡ Some cell → slice_get (listed_cells p top to cells more) choice ≡ Some (effect.gets to cell)
cell_chosen p top to cells more choice at cell e h = rw (e, add-one) (behind cells at h) where
  behind : (cells : List Value) (at : ℕ) → slice_get cells at ≡ Some cell
      → slice_get (map (λ cell. effect.gets to cell) cells ++ listed_behind p top more) at ≡ Some (effect.gets to cell)
  behind [] at h = cc
  behind (c ∷ cells) zero h = cc
  behind (c ∷ cells) (suc at) h = behind cells at h

-- a choice behind the elements of a load
pub behind_chosen : (p : LinkedProgram) (top : Frame) (to : ℕ) (cells : List Value) (more : Option Planned) (choice at beyond : ℕ) (e : Effect) → choice ≡ at + 1
    → at ≡ length cells + beyond → slice_get (listed_behind p top more) beyond ≡ Some e → slice_get (listed_cells p top to cells more) choice ≡ Some e
behind_chosen p top to cells more choice at beyond e is there h = rw (is, add-one, there) (behind cells) where
  behind : (cells : List Value) → slice_get (map (λ cell. effect.gets to cell) cells ++ listed_behind p top more) (length cells + beyond) ≡ Some e
  behind [] = let same : 0 + beyond ≡ beyond = omega arith in subst (λ (n : ℕ). slice_get (listed_behind p top more) n ≡ Some e) (sym same) h
  behind (c ∷ cells) =
      let same : suc (length cells) + beyond ≡ suc (length cells + beyond) = omega arith in
      subst (λ (n : ℕ). slice_get (effect.gets to c ∷ map (λ cell. effect.gets to cell) cells ++ listed_behind p top more) n ≡ Some e) (sym same) (behind cells)

-- what isn't among the elements stands behind them
pub past_cells : (cells : List Value) (at : ℕ) → slice_get cells at ≡ None → length cells ≤ at
past_cells [] at h = omega arith
past_cells (c ∷ cells) zero h = cc
past_cells (c ∷ cells) (suc at) h = let past = past_cells cells at h in omega (arith, past)

-- what a choice of a switch does
pub jump_chosen : (jumps : List ℕ) (choice : ℕ) → choice < length jumps
    → slice_get (map (λ jump. effect.goes jump) jumps) choice ≡ Some (effect.goes (get_or jumps choice 0))
jump_chosen [] choice h = absurd (omega arith)
jump_chosen (j ∷ jumps) zero h = refl
jump_chosen (j ∷ jumps) (suc choice) h = jump_chosen jumps choice (omega arith)
