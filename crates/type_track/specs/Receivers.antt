-- The receivers of event statements in a demand.
use Rattle.std.specs.Prelude.{◌≡◌, ℕ, List, Some, map, slice_get}
use Rattle.lists.specs.Lists.{Has}
use Rattle.spds_rules.specs.declared.node.Node.{Node}
use Rattle.spds_rules.specs.declared.reach.Reach.TheVariants.{Tracked}
use Rattle.spds_rules.specs.Demand.{Asked}
use Rattle.site_events.specs.declared.event_statement.EventStatement.{EventStatement}
use Rattle.site_events.specs.EventStatements.{receiver_node}
use Rattle.type_track.specs.declared.receivers.Receiver.{Receiver}

-- what is asked for these event statements
abbrev pub asked_for : List EventStatement → Asked
asked_for statements = record { targets = map receiver_node statements; reach = Tracked }

-- the number is that of the receiver's node
abbrev pub IsNumbered : List Node → Receiver → Type 0
IsNumbered nodes r = slice_get nodes r.node ≡ Some (receiver_node r.statement)

-- these statements in their order, with the numbers of their receivers' nodes
pub record AreReceivers (nodes : List Node) (statements : List EventStatement) (receivers : List Receiver) : Type 0 where
  pub in_order : map (λ r. r.statement) receivers ≡ statements
  pub numbered : (r : Receiver) → Has receivers r → IsNumbered nodes r

-- the numbers of the receivers' nodes
abbrev pub numbers_of : List Receiver → List ℕ
numbers_of receivers = map (λ r. r.node) receivers
