-- The stores into instance fields and into elements of arrays.
use Rattle.std.specs.Prelude.{◌≡◌, ℕ, zero, suc, ◌+◌, ◌<◌, Some, false}
use Rattle.link_rules.specs.declared.code.Code.{Code}
use Rattle.link_rules.specs.declared.code.Code.TheVariants as code
use Rattle.link_rules.specs.Linked.{LinkedProgram}
use Rattle.link_sites.specs.Places.{HasCode}
use Rattle.spds_rules.specs.declared.node.Var.{Var}
use Rattle.spds_rules.specs.declared.node.Var.TheVariants.{Local, Made, Nested}
use Rattle.spds_rules.specs.declared.store.StoreAt.{StoreAt}
use Rattle.spds_rules.specs.Nodes.{arg_var}

-- the arrays of a level of those that a statement makes
abbrev pub level_var : ℕ → Var
level_var zero = Made
level_var (suc level) = Nested (suc level)

-- the statement stores v into the field of w. A store of null or of a number stores nothing. Where arrays of arrays are made, the arrays of each inner
-- level are stored into those of the level outside it
abbrev pub StoresInto : Code → ℕ → Var → Var → Type 0
StoresInto (code.Store base field a) f w v = (f ≡ field) × (w ≡ Local base) × (arg_var a ≡ Some v)
StoresInto (code.StoreCell base a) f w v = (f ≡ 0) × (w ≡ Local base) × (arg_var a ≡ Some v)
StoresInto (code.This to) f w v = ⊥
StoresInto (code.Param to number) f w v = ⊥
StoresInto (code.Caught to) f w v = ⊥
StoresInto (code.Copy to a) f w v = ⊥
StoresInto (code.Cast to a) f w v = ⊥
StoresInto (code.New to class) f w v = ⊥
StoresInto (code.NewArray to) f w v = ⊥
StoresInto (code.NewMulti to levels) f w v = (f ≡ 0) × (outer : ℕ) × (outer + 1 < levels) × (w ≡ level_var outer) × (v ≡ Nested (outer + 1))
StoresInto (code.Numeric to divides) f w v = ⊥
StoresInto (code.Length to a) f w v = ⊥
StoresInto (code.Load to base field) f w v = ⊥
StoresInto (code.LoadCell to base) f w v = ⊥
StoresInto (code.LoadStatic to field) f w v = ⊥
StoresInto (code.StoreStatic field a) f w v = ⊥
StoresInto (code.Call to mode class key receiver args targets) f w v = ⊥
StoresInto (code.If jump) f w v = ⊥
StoresInto (code.Goto jump) f w v = ⊥
StoresInto (code.Switch jumps) f w v = ⊥
StoresInto (code.Return a) f w v = ⊥
StoresInto (code.Throw a) f w v = ⊥
StoresInto (code.Monitor a) f w v = ⊥
StoresInto code.Skip f w v = ⊥

-- a store of the program
pub record IsStore (p : LinkedProgram) (s : StoreAt) : Type 0 where
  pub unraised : s.place.raised ≡ false
  pub base_there : s.base.place ≡ s.place
  pub arg_there : s.arg.place ≡ s.place
  pub stores : HasCode p s.place.method s.place.index (λ c. StoresInto c s.field s.base.var s.arg.var)
