-- What a statement brings into locals and into flight.
use Rattle.std.proofs.Common.{◌≡◌, ℕ, ◌+◌, ◌<◌, ◌≤◌, ◌↔◌, ◌⊎◌, Some, ap, inl, inr, arith}
use Rattle.std.proofs.lemmas.Bool.{cases_order}
use Rattle.link_rules.specs.declared.code.Arg.{Arg}
use Rattle.link_rules.specs.declared.code.Arg.TheVariants as arg
use Rattle.link_rules.specs.declared.code.Code.{Code}
use Rattle.link_rules.specs.declared.code.Code.TheVariants as code
use Rattle.link_rules.specs.Flow.{MayRaise}
use Rattle.spds_rules.specs.declared.edge.EdgeKind.{EdgeKind}
use Rattle.spds_rules.specs.declared.edge.EdgeKind.TheVariants.{Flow, Load, Call, Return, Jump}
use Rattle.spds_rules.specs.declared.node.Var.{Var}
use Rattle.spds_rules.specs.declared.node.Var.TheVariants.{Local, This, Param, Caught, Thrown, Made, Nested, Raised, Text, Class}
use Rattle.spds_rules.specs.Edges.{Assigns, AssignsTo, IsThrownBy, LoadsInto}
use Rattle.spds_rules.specs.Nodes.{arg_var}
use Rattle.spds_nodes.specs.Codes.{Brings, IsKindIn, Throws}

-- a local that is named twice
local_to : (to x : ℕ) → Local x ≡ Local to → Some to ≡ Some x
local_to to x h = let same : to ≡ x = cc (h) in ap Some same

-- what is assigned to a local is to one that the statement assigns
pub Assigns-local : (c : Code) (v : Var) (x : ℕ) → Assigns c v (Local x) → AssignsTo c x
Assigns-local (code.This to) v x h = local_to to x h.1
Assigns-local (code.Param to number) v x h = local_to to x h.1
Assigns-local (code.Caught to) v x h = local_to to x h.1
Assigns-local (code.Copy to a) v x h = local_to to x h.1
Assigns-local (code.Cast to a) v x h = local_to to x h.1
Assigns-local (code.New to class) v x h = local_to to x h.1
Assigns-local (code.NewArray to) v x h = local_to to x h.1
Assigns-local (code.NewMulti to levels) v x h = local_to to x h.1
Assigns-local _ v x h = absurd h

-- what is loaded is, too
pub LoadsInto-local : (c : Code) (v : Var) (field x : ℕ) → LoadsInto c v field (Local x) → AssignsTo c x
LoadsInto-local (code.Load to base number) v field x h = local_to to x h.2
LoadsInto-local (code.LoadCell to base) v field x h = local_to to x h.2
LoadsInto-local _ v field x h = absurd h

pub Brings-local : (c : Code) (x : ℕ) (v : Var) (kind : EdgeKind) → Brings c x v kind → AssignsTo c x
Brings-local c x v Flow h = Assigns-local c v x h
Brings-local c x v (Load field) h = LoadsInto-local c v field x h
Brings-local c x v (Call call) h = absurd h
Brings-local c x v (Return call) h = absurd h
Brings-local c x v Jump h = absurd h

-- where there is no exception, there is the operand
no_kind : (P : Type 0) → (⊥ ⊎ P) ↔ P
no_kind P = ((λ either. elim either [ inl none ↦ absurd none | inr holds ↦ holds ]), (λ holds. inr holds))

-- no operand is an exception
no_raised : (a : Arg) (kind : ℕ) → arg_var a ≡ Some (Raised kind) → ⊥
no_raised (arg.Local x) kind h = cc (h)
no_raised arg.Number kind h = cc (h)
no_raised arg.Null kind h = cc (h)
no_raised (arg.Text number) kind h = cc (h)
no_raised (arg.Class number) kind h = cc (h)

pub Throws-raised : (c : Code) (kind : ℕ) → Throws c (Raised kind) → ⊥
Throws-raised (code.Throw a) kind h = no_raised a kind h
Throws-raised _ kind h = h

-- what is thrown is an implicit exception, or the operand
pub thrown_by : (c : Code) (from to : ℕ) → ((kind : ℕ) → ((from ≤ kind) × (kind < to)) ↔ MayRaise c kind) → (v : Var)
    → (IsKindIn from to v ⊎ Throws c v) ↔ IsThrownBy c v
thrown_by c from to kinds (Raised kind) = (
  (λ either. elim either [ inl is ↦ (kinds kind).0 is | inr throws ↦ absurd (Throws-raised c kind throws) ]),
  (λ may. inl ((kinds kind).1 may)),
)
thrown_by (code.Throw a) from to kinds (Local x) = no_kind _
thrown_by (code.Throw a) from to kinds This = no_kind _
thrown_by (code.Throw a) from to kinds (Param x) = no_kind _
thrown_by (code.Throw a) from to kinds Caught = no_kind _
thrown_by (code.Throw a) from to kinds Thrown = no_kind _
thrown_by (code.Throw a) from to kinds Made = no_kind _
thrown_by (code.Throw a) from to kinds (Nested x) = no_kind _
thrown_by (code.Throw a) from to kinds (Text x) = no_kind _
thrown_by (code.Throw a) from to kinds (Class x) = no_kind _
thrown_by _ from to kinds (Local x) = no_kind _
thrown_by _ from to kinds This = no_kind _
thrown_by _ from to kinds (Param x) = no_kind _
thrown_by _ from to kinds Caught = no_kind _
thrown_by _ from to kinds Thrown = no_kind _
thrown_by _ from to kinds Made = no_kind _
thrown_by _ from to kinds (Nested x) = no_kind _
thrown_by _ from to kinds (Text x) = no_kind _
thrown_by _ from to kinds (Class x) = no_kind _

-- an exception of a kind below the next is one of a kind below, or of this one
pub IsKindIn-more : (from kind : ℕ) → from ≤ kind → (v : Var) → (IsKindIn from kind v ⊎ (Some (Raised kind) ≡ Some v)) ↔ IsKindIn from (kind + 1) v
IsKindIn-more from kind below (Raised other) = (
  (λ either. elim either [ inl is ↦ (is.0, omega (arith, is.1)) | inr same ↦ let equal : kind ≡ other = cc (same) in (omega arith, omega arith) ]),
  (λ is. elim (cases_order other kind) [
    | inl same ↦ inr (cc (same))
    | inr apart ↦ elim apart [ inl less ↦ inl (is.0, less) | inr more ↦ absurd (omega (arith, is.1, more)) ]
  ]),
)
IsKindIn-more from kind below (Local x) = ((λ either. elim either [ inl is ↦ is | inr same ↦ absurd (cc (same)) ]), (λ is. absurd is))
IsKindIn-more from kind below This = ((λ either. elim either [ inl is ↦ is | inr same ↦ absurd (cc (same)) ]), (λ is. absurd is))
IsKindIn-more from kind below (Param x) = ((λ either. elim either [ inl is ↦ is | inr same ↦ absurd (cc (same)) ]), (λ is. absurd is))
IsKindIn-more from kind below Caught = ((λ either. elim either [ inl is ↦ is | inr same ↦ absurd (cc (same)) ]), (λ is. absurd is))
IsKindIn-more from kind below Thrown = ((λ either. elim either [ inl is ↦ is | inr same ↦ absurd (cc (same)) ]), (λ is. absurd is))
IsKindIn-more from kind below Made = ((λ either. elim either [ inl is ↦ is | inr same ↦ absurd (cc (same)) ]), (λ is. absurd is))
IsKindIn-more from kind below (Nested x) = ((λ either. elim either [ inl is ↦ is | inr same ↦ absurd (cc (same)) ]), (λ is. absurd is))
IsKindIn-more from kind below (Text x) = ((λ either. elim either [ inl is ↦ is | inr same ↦ absurd (cc (same)) ]), (λ is. absurd is))
IsKindIn-more from kind below (Class x) = ((λ either. elim either [ inl is ↦ is | inr same ↦ absurd (cc (same)) ]), (λ is. absurd is))

-- the kind isn't one of those below it
pub IsKindIn-not : (from kind : ℕ) (v : Var) → IsKindIn from kind v → Some (Raised kind) ≡ Some v → ⊥
IsKindIn-not from kind (Raised other) is same = let equal : kind ≡ other = cc (same) in omega (arith, is.1, equal)
IsKindIn-not from kind _ is same = absurd is

-- no exception is of a kind below the first
pub IsKindIn-none : (from : ℕ) (v : Var) → IsKindIn from from v → ⊥
IsKindIn-none from (Raised kind) is = omega (arith, is.0, is.1)
IsKindIn-none from _ is = is

-- no operand is an implicit exception
pub IsKindIn-throws : (c : Code) (from to : ℕ) (v : Var) → IsKindIn from to v → Throws c v → ⊥
IsKindIn-throws c from to (Raised kind) is throws = Throws-raised c kind throws
IsKindIn-throws c from to _ is throws = is
