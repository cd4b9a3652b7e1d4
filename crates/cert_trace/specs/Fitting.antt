-- What a line that can be spelled has besides numbers of 32 bits.
use Rattle.std.specs.Prelude.{◌≡◌, ◌<◌, false, All, length}
use Rattle.link_sites.specs.declared.place.Place.{Place}
use Rattle.cert_rules.specs.declared.line.Line.{Line}
use Rattle.cert_rules.specs.declared.line.Line.TheVariants as line

-- no exception is in flight there
abbrev pub IsUnraised : Place → Type 0
IsUnraised place = place.raised ≡ false

-- lines are cited for both objects, and the call string is one of calls
abbrev pub IsWellRead : Line → Type 0
IsWellRead (line.Shared first second string) = (0 < length first) × (0 < length second) × All IsUnraised string
IsWellRead _ = Unit {0}
