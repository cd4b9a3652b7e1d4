-- What the values of a site's system say.
use Rattle.std.specs.Prelude.{◌↔◌, ℕ, ◌<◌, List}
use Rattle.lists.specs.Lists.{Has}
use Rattle.link_rules.specs.Linked.{LinkedProgram}
use Rattle.link_sites.specs.declared.place.Place.{Place}
use Rattle.link_sites.specs.declared.site.Site.{Site}
use Rattle.spds_rules.specs.declared.node.Node.{Node}
use Rattle.spds_rules.specs.Demand.{Asked}
use Rattle.track_rules.specs.declared.row.ProtocolRow.{ProtocolRow}
use Rattle.track_rules.specs.Protocols.{ProtocolParts}
use Rattle.track_systems.specs.Track.{Tracks}
use Rattle.track_systems.specs.Values.{IsAnyValueAt, IsValueAt}
use Rattle.weight_laws.specs.declared.rel.Rel.{Rel}
use Rattle.weight_laws.specs.Rel.{Relates}

-- the rows lead among sixteen states, as those of each protocol do
abbrev pub IsAmongSixteen : ProtocolParts → Type 0
IsAmongSixteen k = (row : ProtocolRow) → Has k.rows row → (row.from < 16) × (row.to < 16)

-- the value of a node and a call string leads state 0 exactly to those states in which objects of the site may be there
abbrev pub ValuesLead : Type 0
ValuesLead = (p : LinkedProgram) (k : ProtocolParts) (q : Asked) (a : Site) (n : Node) (string : List Place) (value : Rel) (i : ℕ) → IsAmongSixteen k → i < 16
    → IsValueAt p k q a n string value → Relates value 0 i ↔ Tracks p k q a n string i

-- and that of a node alone to those in which they may be there under some call string
abbrev pub AnyValuesLead : Type 0
AnyValuesLead = (p : LinkedProgram) (k : ProtocolParts) (q : Asked) (a : Site) (n : Node) (value : Rel) (i : ℕ) → IsAmongSixteen k → i < 16
    → IsAnyValueAt p k q a n value → Relates value 0 i ↔ ((string : List Place) × Tracks p k q a n string i)
