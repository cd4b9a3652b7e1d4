use Rattle.track_tables.proofs.Growing.{kept_has}
use Rattle.track_tables.proofs.Upward.{open_from}
use Rattle.track_tables.proofs.opening.open_strings.Goals as goal

pub open_above-requires : goal.open_above-requires
open_above-requires c = c.requires.steps

pub returns-clause-marks : goal.returns-clause-marks
returns-clause-marks c = λ number n last has there word mark leads in_word.
    let steps = c.args.given.now.parts.now.strings.value.steps in
    let bases = c.in_ok-bases.bases.keys in
    let new = c.open_above.new.bases.keys in
    let found = rw (c.nodes.ensures, c.keys.ensures.value) at c.in_ok-bases.ensures in
    let above = c.in_ok-open_above.ensures in
    open_from steps new c.open_above.new.marks.keys above.above word n.place.method last
    (kept_has bases new n.place.method above.bases (found number n has there)) mark leads in_word
