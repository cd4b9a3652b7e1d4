use Rattle.std.proofs.Common.{arith}
use Rattle.lists.proofs.Places.{slice_get-below}
use Rattle.call_side.specs.Search.{asked}
use Rattle.call_side.proofs.Trails.{pairs_backward, shared_by}
use Rattle.call_side.proofs.search.answer.Goals as goal

pub word_by-requires-clause-backward : goal.word_by-requires-clause-backward
word_by-requires-clause-backward c = pairs_backward (asked c.args.question.now) c.find_end.new.seen.pairs.keys c.find_end.new.seen.origins.items c.in_ok-end.ensures.trail

pub word_by-requires-clause-there : goal.word_by-requires-clause-there
word_by-requires-clause-there c =
    let end = rw c.in-Some.is at c.in_ok-end.ensures.some in
    omega (arith, slice_get-below c.find_end.new.seen.pairs.keys c.in-Some.end.number end.pair end.there, c.in_ok-end.ensures.trail.as_many)

pub returns-in_ok-word_by-in-Some-clause-some : goal.returns-in_ok-word_by-in-Some-clause-some
returns-in_ok-word_by-in-Some-clause-some c =
    let end = rw c.in-Some.is at c.in_ok-end.ensures.some in
    let back = c.in_ok-word_by-in-Some.ensures in
    shared_by (asked c.args.question.now) c.find_end.new.seen.pairs.keys c.find_end.new.seen.origins.items c.in_ok-end.ensures.trail back.0 c.in-Some.end.way.items c.in_ok-word_by-in-Some.field-0.items back.1 end back.2
