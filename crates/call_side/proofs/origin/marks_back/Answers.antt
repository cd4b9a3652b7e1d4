use Rattle.std.proofs.Common.{◌<◌, append_assoc, arith}
use Rattle.std.proofs.lemmas.List.{append-nil}
use Rattle.call_side.specs.Trails.{IsBack}
use Rattle.call_side.proofs.Trails.{reads_none, reads_some}
use Rattle.call_side.proofs.origin.marks_back.Goals as goal

pub loop-at-smaller : goal.loop-at-smaller
loop-at-smaller c = c.requires.backward c.loop-at.at c.in-Some.origin (reads_some c.args.origins.now c.loop-at.at c.loop-at.invariant.there c.in-Some.origin c.in-Some.is)

pub loop-at-preserved : goal.loop-at-preserved
loop-at-preserved c =
    let there = reads_some c.args.origins.now c.loop-at.at c.loop-at.invariant.there c.in-Some.origin c.in-Some.is in
    let less : c.in-Some.origin.from < c.loop-at.at = c.requires.backward c.loop-at.at c.in-Some.origin there in
    record {
      there = omega (arith, c.loop-at.invariant.there);
      rest = λ rest back. rw (c.in_ok-push.ensures.items, append_assoc) (c.loop-at.invariant.rest _ (IsBack.comes there back));
    }

pub returns : goal.returns
returns c =
    let there = reads_none c.args.origins.now c.loop-at.at c.loop-at.invariant.there c.in_default.is in
    let whole = c.loop-at.invariant.rest _ (IsBack.begins there) in
    rw append-nil at whole
