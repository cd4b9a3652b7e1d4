-- What was settled of edges, of meets and of places where objects are followed.
use Rattle.std.specs.Prelude.{◌≡◌, ◌⊎◌, ℕ, List, Some}
use Rattle.link_sites.specs.declared.site.Site.{Site}
use Rattle.lists.specs.Groups.{Grouped, found_at}
use Rattle.lists.specs.Lists.{Has}
use Rattle.spds_rules.specs.contracts.node.NodePartialEq.TheImpl as node
use Rattle.spds_rules.specs.declared.edge.Edge.{Edge}
use Rattle.spds_rules.specs.declared.node.Node.{Node}
use Rattle.spds_rules.specs.declared.store.StoreAt.{StoreAt}
use Rattle.spds_rules.specs.Nodes.{site_of}
use Rattle.cert_lines.specs.declared.keys.Spot.{Spot}
use Rattle.cert_work.specs.declared.wants.Wants.{Wants}
use Rattle.cert_work.specs.Wants.{IsEverywhere, IsWanted}
use Rattle.cert_trace.specs.contracts.pairing.PairingPartialEq.TheImpl as pairing
use Rattle.cert_trace.specs.declared.filing.Grounds.{Grounds}
use Rattle.cert_trace.specs.declared.pairing.Pairing.{Pairing}

-- the edge is found by where it leads
abbrev pub IsBackFiled : Grouped Node Edge → Edge → Type 0
IsBackFiled files e = Has (found_at node.eq-value.it files e.to) e

-- the store is found by the two
abbrev pub IsStoreFiled : Grouped Pairing StoreAt → Site → Site → StoreAt → Type 0
IsStoreFiled files o base s = Has (found_at pairing.eq-value.it files (record { object = o; base = base })) s

-- the object is followed everywhere, and the other at the store; or the store is found by the two
abbrev pub IsSettled : Wants → Grouped Pairing StoreAt → Site → Site → StoreAt → Type 0
IsSettled w files o base s = (IsEverywhere w o × IsWanted w base s.base) ⊎ ((IsEverywhere w o → ⊥) × IsStoreFiled files o base s)

-- an object that is followed at the place is followed wherever it may have come from
pub record IsFollowedBack (w : Wants) (g : Grounds) (spot : Spot) : Type 0 where
  pub back : (e : Edge) → Has (found_at node.eq-value.it g.back spot.node) e → IsWanted w spot.site e.from
  pub stored : (base : Site) (s : StoreAt) → site_of spot.node ≡ Some base → IsStoreFiled g.stores spot.site base s
      → IsWanted w spot.site s.arg × IsWanted w base s.base
