use Rattle.std.proofs.Common.{take, ◌∙◌, sym, arith, length-append, [], ◌∷◌}
use Rattle.link_indexes.specs.Tables.{codes_of}
use Rattle.lists.proofs.Places.{length-taken, slice_get-read, take-next}
use Rattle.link_indexes.proofs.Listed.{ArePredecessorsBy-push, codes_of-all, codes_of-there}
use Rattle.link_indexes.proofs.before.predecessors_by_method.Goals as goal

pub loop-method-preserved : goal.loop-method-preserved
loop-method-preserved c =
    let index = c.loop-method.method-index in
    let method = slice_get-read c.args.methods.now index c.method-item.result c.loop-method-test.true c.method-item.is in
    let there = codes_of-there c.args.methods.now index c.method-item.result method in
    let next = take-next (codes_of c.args.methods.now) index c.method-item.result.code there in
    let long = length-taken (codes_of c.args.methods.now) index c.method-item.result.code there in
    let pushed = c.in_ok-push.ensures.items in
    record {
      long = rw pushed (omega (arith, length-append c.loop-method.tables.items (c.in_ok-predecessors.field-0 ∷ []), c.loop-method.invariant.long));
      exact = rw (pushed, next) (ArePredecessorsBy-push (take index (codes_of c.args.methods.now)) c.method-item.result.code c.loop-method.tables.items c.in_ok-predecessors.field-0
          (c.loop-method.invariant.long ∙ sym long) c.loop-method.invariant.exact (rw c.as_slice.ensures at c.in_ok-predecessors.ensures));
    }

pub returns : goal.returns
returns c = let all = codes_of-all c.args.methods.now c.loop-method.method-index c.loop-method-test.false in rw all at c.loop-method.invariant.exact
