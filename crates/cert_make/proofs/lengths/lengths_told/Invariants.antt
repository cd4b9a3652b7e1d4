use Rattle.std.proofs.Common.{◌≡◌, map, take}
use Rattle.cert_rules.specs.Lengths.{lengths_of}
use Rattle.cert_rules.specs.Told.{as_told}
use Rattle.cert_make.proofs.lengths.lengths_told.Given as goal

abbrev pub invariant-loop-line : goal.invariant-loop-line
invariant-loop-line l = l.lengths.items ≡ map as_told (lengths_of (take l.line-index l.lines))
