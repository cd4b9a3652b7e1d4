use Rattle.std.proofs.Common.{◌<◌, length}
use Rattle.lists.proofs.Places.{slice_get-read, slice_get-there}
use Rattle.cert_lines.proofs.Notes.{best_there, bettered, not_last, note_there, tells}
use Rattle.cert_lines.proofs.written.Written.is_bettered.Goals as goal

pub returns : goal.returns
returns c =
    let w = c.self.inside in
    let i = c.args.number in
    let n = c.index-note.result.now in
    let b = c.index.result.now in
    let inv = c.self.invariant in
    let low : i < length w.lines.items = rw (← c.self.view_is) at c.requires in
    let there = slice_get-read w.notes.items i n (note_there w.lines.items w.facts.keys w.notes.items w.best.items inv i low) c.index-note.ensures in
    let k = slice_get-there w.facts.keys n.fact (inv.named i n there) in
    let row = best_there w.lines.items w.facts.keys w.notes.items w.best.items inv n.fact k.0 k.1 in
    let best = slice_get-read w.best.items n.fact b row c.index.ensures in
    rw (← c.self.view_is) (tells b i (bettered w.lines.items w.facts.keys w.notes.items w.best.items inv i b n there best)
    (not_last w.lines.items w.facts.keys w.notes.items w.best.items inv i b n there best))
