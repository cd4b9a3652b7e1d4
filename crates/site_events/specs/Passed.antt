-- What a call does with a variable, as it is found: by the positions at which the call passes it.
use Rattle.std.specs.Prelude.{◌≡◌, ℕ, List, Option, Some, false, true, slice_get}
use Rattle.lists.specs.Lists.{Has}
use Rattle.link_rules.specs.declared.code.Arg.{Arg}
use Rattle.link_rules.specs.Linked.{LinkedMethod, LinkedProgram}
use Rattle.link_sites.specs.declared.place.Place.{Place}
use Rattle.spds_rules.specs.declared.node.Var.{Var}
use Rattle.spds_rules.specs.declared.node.Var.TheVariants.{Local}
use Rattle.spds_rules.specs.Edges.{Passes}
use Rattle.track_systems.specs.Events.{IsReceiver}
use Rattle.track_systems.specs.Settled.{CallAt, IsKept, IsSettled, IsUnsettled, is_settled}
use Rattle.site_events.specs.declared.passed.Passing.{Passing}
use Rattle.site_events.specs.declared.passed.Passing.TheVariants.{Kept, Settled, Unsettled}

-- its formal is settled in each of the methods
abbrev pub AreSettledIn : LinkedProgram → List ℕ → Var → Type 0
AreSettledIn p targets v = (target : ℕ) (method : LinkedMethod) → Has targets target → slice_get p.methods target ≡ Some method → is_settled method.code v ≡ true

-- in the method with the number it isn't
pub record IsUnsettledIn (p : LinkedProgram) (target : ℕ) (v : Var) : Type 0 where
  pub method : LinkedMethod
  pub there : slice_get p.methods target ≡ Some method
  pub unsettled : is_settled method.code v ≡ false

-- in one of the methods
abbrev pub HasUnsettledIn : LinkedProgram → List ℕ → Var → Type 0
HasUnsettledIn p targets v = (target : ℕ) × Has targets target × IsUnsettledIn p target v

-- of some positions: there is none, all their formals are settled, or some formal isn't
abbrev pub IsPassingAt : LinkedProgram → List ℕ → (Var → Type 0) → Passing → Type 0
IsPassingAt p targets At Kept = (v : Var) → At v → ⊥
IsPassingAt p targets At Settled = ((v : Var) × At v) × ((v : Var) → At v → AreSettledIn p targets v)
IsPassingAt p targets At Unsettled = (v : Var) × At v × HasUnsettledIn p targets v

-- of some positions and others together
abbrev pub joined : Passing → Passing → Passing
joined Kept y = y
joined Settled Kept = Settled
joined Settled y = y
joined Unsettled y = Unsettled

-- v is a local that is passed at the position
abbrev pub IsPassedLocal : Option ℕ → List Arg → Var → Var → Type 0
IsPassedLocal receiver args v position = (x : ℕ) × (v ≡ Local x) × Passes receiver args v position

-- what the call does with the variable
abbrev pub IsPassing : {p : LinkedProgram} {c : Place} → CallAt p c → Var → Passing → Type 0
IsPassing call v Kept = IsKept call v
IsPassing call v Settled = IsSettled call v
IsPassing call v Unsettled = IsUnsettled call v

-- the receiver of the call at the place is another variable
abbrev pub HasOtherReceiver : LinkedProgram → Place → Var → Type 0
HasOtherReceiver p c v = (receiver : Var) × IsReceiver p c receiver × (v ≡ receiver → ⊥)
