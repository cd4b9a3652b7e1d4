-- What cited lines gave.
use Rattle.std.specs.Prelude.{◌≡◌, ℕ}
use Rattle.link_sites.specs.declared.place.Place.{Place}
use Rattle.link_sites.specs.declared.site.Site.{Site}
use Rattle.spds_rules.specs.declared.node.Node.{Node}
use Rattle.cert_rules.specs.declared.fact.Entry.{Entry}
use Rattle.cert_rules.specs.declared.fact.Entry.TheVariants as entry
use Rattle.cert_rules.specs.declared.fact.Fact.TheVariants.{At, Link, Met, Shared}
use Rattle.cert_rules.specs.declared.line.Side.{Side}
use Rattle.cert_rules.specs.declared.line.Side.TheVariants.{Call}
use Rattle.cert_rules.specs.Given.{Cites, Facts}
use Rattle.cert_replay.specs.declared.cited.Held.{Held}
use Rattle.cert_replay.specs.declared.cited.Pair.{Pair}
use Rattle.cert_replay.specs.declared.cited.Stored.{Stored}

abbrev pub AnyHeld : Type 0
AnyHeld = Held

abbrev pub AnyPair : Type 0
AnyPair = Pair

abbrev pub AnyStored : Type 0
AnyStored = Stored

-- the line put the object there
abbrev pub IsHeldBy : Facts → Side → ℕ → Held → Type 0
IsHeldBy given side from h = Cites given from (At side h.site h.entry h.node)

-- the line gave that the one may be stored into the other
abbrev pub IsStoredBy : Facts → ℕ → Stored → Type 0
IsStoredBy given meet s = Cites given meet (Met s.object s.base s.store)

-- the line gave that both may be there under one call string
abbrev pub IsPairBy : Facts → ℕ → Pair → Type 0
IsPairBy given shared s = Cites given shared (Shared s.object s.arg s.base s.at)

-- the entry is of this call, and the line gave what stands below it
abbrev pub ReadsNext : Facts → Site → Entry → ℕ → Place → Entry → Type 0
ReadsNext given o e link call below = (node : Node) × (e ≡ entry.Call node call) × Cites given link (Link Call o e below)
