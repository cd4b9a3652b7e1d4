-- What a call passes, and the formals that hold it from their identity on, whichever way a run goes through their method.
use Rattle.std.specs.Prelude.{◌≡◌, ℕ, ◌&&◌, Bool, true, false, if◌then◌else◌, List, [], ◌∷◌, Option, Some, is_some, slice_get}
use Rattle.lists.specs.Lists.{Has}
use Rattle.jim_ast.specs.declared.syntax.Mode.{Mode}
use Rattle.link_rules.specs.declared.code.Arg.{Arg}
use Rattle.link_rules.specs.declared.code.Code.{Code}
use Rattle.link_rules.specs.declared.code.Code.TheVariants as code
use Rattle.link_rules.specs.Linked.{LinkedMethod, LinkedProgram}
use Rattle.link_sites.specs.declared.place.Place.{Place}
use Rattle.link_sites.specs.Places.{CodeAt}
use Rattle.spds_rules.specs.declared.node.Var.{Var}
use Rattle.spds_rules.specs.declared.node.Var.TheVariants.{Local}
use Rattle.spds_rules.specs.Edges.{Passes}
use Rattle.spds_rules.specs.Formals.{formal, identity_of}

-- the place stands before a call
pub record CallAt (p : LinkedProgram) (c : Place) : Type 0 where
  pub unraised : c.raised ≡ false
  pub to : Option ℕ
  pub mode : Mode
  pub class : ℕ
  pub key : ℕ
  pub receiver : Option ℕ
  pub args : List Arg
  pub targets : List ℕ
  pub here : CodeAt p c.method c.index (code.Call to mode class key receiver args targets)

-- whether a statement is an identity: it assigns the receiver, a parameter or what was caught
abbrev pub is_identity : Code → Bool
is_identity (code.This to) = true
is_identity (code.Param to number) = true
is_identity (code.Caught to) = true
is_identity _ = false

-- whether no other statement than identities stands before that of the position
abbrev pub comes_first : Var → List Code → Bool
comes_first position [] = true
comes_first position (c ∷ rest) = if is_some (identity_of c position) then true else (is_identity c && comes_first position rest)

-- whether the formal is settled: the receiver or a parameter always is, and a local where only identities stand before its own
abbrev pub is_settled_by : Var → List Code → Var → Bool
is_settled_by (Local x) statements position = comes_first position statements
is_settled_by _ statements position = true

-- whether the formal of what is passed at the position is settled
abbrev pub is_settled : List Code → Var → Bool
is_settled statements position = is_settled_by (formal statements position) statements position

module _ {p : LinkedProgram} {c : Place} (call : CallAt p c) (v : Var) where
  -- v is a local that the call passes at the position
  abbrev pub PassesAt : Var → Type 0
  PassesAt position = (x : ℕ) × (v ≡ Local x) × Passes call.receiver call.args v position

  -- the call doesn't pass it
  abbrev pub IsKept : Type 0
  IsKept = (position : Var) → PassesAt position → ⊥

  -- the call passes it at the position to this target
  pub record IsPassedTo (position : Var) (method : LinkedMethod) : Type 0 where
    pub passes : PassesAt position
    pub target : ℕ
    pub has : Has call.targets target
    pub there : slice_get p.methods target ≡ Some method

  -- the call passes it, and all of its formals, at each position and in each target, are settled
  pub record IsSettled : Type 0 where
    pub position : Var
    pub passes : PassesAt position
    pub all : (other : Var) (method : LinkedMethod) → IsPassedTo other method → is_settled method.code other ≡ true

  -- the call passes it, and some formal of it in some target isn't settled
  pub record IsUnsettled : Type 0 where
    pub position : Var
    pub method : LinkedMethod
    pub passed : IsPassedTo position method
    pub unsettled : is_settled method.code position ≡ false
