-- The event statements of a program, as the sites of a demand share them.
use Rattle.std.specs.Prelude.{◌≡◌, ◌↔◌, ℕ, List, Some, length, map, slice_get}
use Rattle.lists.specs.Lists.{Has}
use Rattle.lists.specs.declared.groups.Keyed.{Keyed}
use Rattle.link_rules.specs.Linked.{LinkedProgram}
use Rattle.link_sites.specs.declared.site.Site.{Site}
use Rattle.spds_rules.specs.declared.node.Var.{Var}
use Rattle.spds_rules.specs.Answers.{IsAnswered}
use Rattle.spds_rules.specs.Demand.{Asked}
use Rattle.spds_rules.specs.Nodes.{at}
use Rattle.track_rules.specs.Protocols.{HasRow, IsProtocol, ProtocolParts}
use Rattle.site_events.specs.Callers.{AreCallers}
use Rattle.site_events.specs.declared.event_statement.EventStatement.{EventStatement}
use Rattle.site_events.specs.EventStatements.{AreEventStatements, receiver_node}
use Rattle.track_systems.specs.Events.{IsEventOn}
use Rattle.track_systems.specs.Values.{IsWeight}
use Rattle.weight_laws.specs.declared.rel.Rel.{Rel}
use Rattle.site_events.specs.declared.events.Events.{Events}
use Rattle.site_events.specs.declared.statement.Statement.{Statement}
use Rattle.site_events.specs.Statements.{before_it, statement_at}

-- an event statement under the number of its event
abbrev pub use_of : EventStatement → Keyed ℕ Statement
use_of s = record { key = s.event; item = statement_at s.place }

-- the relation of each event
abbrev pub AreRelations : ProtocolParts → List Rel → Type 0
AreRelations k relations = (event : ℕ) (w : Rel) → slice_get relations event ≡ Some w → IsWeight w (λ i j. HasRow k i event j)

-- each event with what it does, all event statements, and the callers of each method
pub record AreEventsIn (p : LinkedProgram) (k : ProtocolParts) (statements : List EventStatement) (events : Events) : Type 0 where
  pub form : IsProtocol k
  pub many : length events.relations.items ≡ length k.events
  pub relations : AreRelations k events.relations.items
  pub are_all : AreEventStatements p k statements
  pub uses : events.uses.items ≡ map use_of statements
  pub callers : AreCallers p events.callers

-- the elements at these places of a list
abbrev pub AreAtPlaces : {X : Type 0} → List X → List ℕ → List X → Type 0
AreAtPlaces {X} xs places found = (x : X) → Has found x ↔ ((i : ℕ) × Has places i × (slice_get xs i ≡ Some x))

-- the places in the list of the statements of which the receiver may hold an object of the site
abbrev pub AreHeldAmong : LinkedProgram → Asked → Site → List EventStatement → List ℕ → Type 0
AreHeldAmong p q a statements places = (i : ℕ) → Has places i ↔ ((s : EventStatement) × (slice_get statements i ≡ Some s) × IsAnswered p q (receiver_node s) a)

-- the statement may be the event on objects of the site
abbrev pub MayBe : LinkedProgram → ProtocolParts → Asked → Site → ℕ → Statement → Type 0
MayBe p k q a event s = (v : Var) × IsEventOn p k (before_it s) event v × IsAnswered p q (at (before_it s) v) a
