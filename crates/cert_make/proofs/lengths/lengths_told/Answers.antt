use Rattle.std.proofs.Common.{take}
use Rattle.lists.proofs.Places.{slice_get-read}
use Rattle.cert_rules.specs.Lengths.{lengths_of}
use Rattle.cert_make.proofs.Sums.{told_next}
use Rattle.cert_make.proofs.lengths.lengths_told.Goals as goal

pub loop-line-preserved : goal.loop-line-preserved
loop-line-preserved c =
    let lines = c.args.lines.now in
    let l = c.loop-line in
    let there = slice_get-read lines l.line-index c.line-item.result c.loop-line-test.true c.line-item.is in
    let here = c.length_behind-length.ensures (lengths_of (take l.line-index lines)) (rw c.as_slice.ensures.value l.invariant) in
    rw c.in_ok-push.ensures.items (told_next l.lengths.items c.length_behind-length.result lines l.line-index c.line-item.result there l.invariant here)
