-- Event statements, and what is asked of a program under a protocol.
use Rattle.std.specs.Prelude.{◌≡◌, ◌↔◌, ℕ, Option, None, Some, false}
use Rattle.class_rules.specs.Rows.{Sub}
use Rattle.lists.specs.Lists.{Has}
use Rattle.link_rules.specs.declared.code.Code.{Code}
use Rattle.link_rules.specs.declared.code.Code.TheVariants.{Call}
use Rattle.link_rules.specs.Linked.{LinkedProgram}
use Rattle.link_sites.specs.declared.place.Place.{Place}
use Rattle.link_sites.specs.declared.site.Site.{Site}
use Rattle.link_sites.specs.Places.{HasCode}
use Rattle.link_sites.specs.Sites.{IsArraySite, IsSiteClass}
use Rattle.spds_rules.specs.declared.node.Node.{Node}
use Rattle.spds_rules.specs.declared.node.Var.{Var}
use Rattle.spds_rules.specs.declared.node.Var.TheVariants.{Local}
use Rattle.spds_rules.specs.declared.reach.Reach.TheVariants.{Tracked}
use Rattle.spds_rules.specs.Demand.{Asked}
use Rattle.track_rules.specs.Protocols.{HasRow, ProtocolParts}
use Rattle.track_runs.specs.Events.{IsEventCall}

-- the local on which a statement calls, if it is a call with a receiver
abbrev pub receiver_of : Code → Option ℕ
receiver_of (Call to mode class key receiver args targets) = receiver
receiver_of _ = None

-- v is the local on which the statement at the place calls
abbrev pub IsReceiver : LinkedProgram → Place → Var → Type 0
IsReceiver p c v = (x : ℕ) × HasCode p c.method c.index (λ code. receiver_of code ≡ Some x) × (v ≡ Local x)

-- the statement behind the place is the event, and v is its receiver
pub record IsEventOn (p : LinkedProgram) (k : ProtocolParts) (c : Place) (event : ℕ) (v : Var) : Type 0 where
  pub unraised : c.raised ≡ false
  pub statement : HasCode p c.method c.index (IsEventCall p k event)
  pub receiver : IsReceiver p c v

-- the event at the place leads the first state to the second: the relation of the event
abbrev pub Goes : LinkedProgram → ProtocolParts → Place → ℕ → ℕ → Type 0
Goes p k c i j = (event : ℕ) × (v : Var) × IsEventOn p k c event v × HasRow k i event j

-- the protocol says something of objects of the site: they aren't arrays, and their class is that of the protocol or below it
pub record IsTrackedSite (p : LinkedProgram) (k : ProtocolParts) (a : Site) : Type 0 where
  pub no_array : IsArraySite p a → ⊥
  pub class : ℕ
  pub of_class : IsSiteClass p a class
  pub below : Sub p.rows class k.class

-- the node is that of the receiver at an event statement
abbrev pub IsEventNode : LinkedProgram → ProtocolParts → Node → Type 0
IsEventNode p k n = (event : ℕ) × IsEventOn p k n.place event n.var

-- what is asked of a program: the receivers of all event statements, also over back edges
pub record IsAskedBy (p : LinkedProgram) (k : ProtocolParts) (q : Asked) : Type 0 where
  pub tracked : q.reach ≡ Tracked
  pub receivers : (n : Node) → Has q.targets n ↔ IsEventNode p k n
