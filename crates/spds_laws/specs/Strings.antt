-- Call strings and the methods that they belong to.
use Rattle.std.specs.Prelude.{◌≡◌, ℕ, ◌<◌, List, Some, length, slice_get}
use Rattle.link_rules.specs.Linked.{LinkedMethod, LinkedProgram}
use Rattle.link_rules.specs.WellLinked.{IsWellLinked}
use Rattle.link_sites.specs.declared.place.Place.{Place}
use Rattle.link_sites.specs.declared.site.Site.{Site}
use Rattle.spds_rules.specs.declared.node.Node.{Node}
use Rattle.spds_rules.specs.Demand.{Asked}
use Rattle.spds_rules.specs.Systems.{Calls, IsString}

-- a call string of a node is one of the method of the node
abbrev pub StringsAreOfMethods : Type 0
StringsAreOfMethods = (p : LinkedProgram) (q : Asked) (o : Site) (n : Node) (string : List Place) → Calls p q o n string
    → IsString p n.place.method string

-- in a well linked program each method with statements has a call string
abbrev pub EachMethodHasAString : Type 0
EachMethodHasAString = (p : LinkedProgram) → IsWellLinked p → (number : ℕ) (m : LinkedMethod) → slice_get p.methods number ≡ Some m
    → 0 < length m.code → (string : List Place) × IsString p number string
