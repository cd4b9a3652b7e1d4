-- Findings as they are kept.
use Rattle.track_systems.specs.Findings.{Found}
use Rattle.track_verdicts.specs.declared.verdict.Finding.{Finding}

-- the finding, with what it names
abbrev pub found_of : Finding → Found
found_of f = record { site = f.site; place = f.place; event = f.event; state = f.state }
