use Rattle.std.proofs.Common.{◌∙◌, sym, true≢false}
use Rattle.lists.proofs.Places.{slice_get-read}
use Rattle.link_indexes.proofs.Listed.{AreTheIndexes-push, AreTheIndexes-skip}
use Rattle.link_indexes.proofs.listing.indexes_of.Goals as goal
use Rattle.link_indexes.proofs.listing.indexes_of.Goals.{then-is_of_kind+in_ok-number_of+in_ok-push, else-is_of_kind}

pub loop-index-preserved : goal.loop-index-preserved
loop-index-preserved c =
    let there = slice_get-read c.args.code.now c.loop-index.index c.index-code-index.result c.loop-index-test.true c.index-code-index.is in
    elim c.if-is_of_kind.branch [
      | then-is_of_kind+in_ok-number_of+in_ok-push w ↦
          rw (w.indexes-is, w.in_ok-push.ensures.items, w.in_ok-number_of.ensures)
          (AreTheIndexes-push c.args.code.now c.loop-index.index c.index-code-index.result c.loop-index.indexes.items there c.loop-index.invariant (c.is_of_kind.ensures.0 w.if-is_of_kind.true))
      | else-is_of_kind w ↦
          rw w.indexes-is
          (AreTheIndexes-skip c.args.code.now c.loop-index.index c.index-code-index.result c.loop-index.indexes.items there c.loop-index.invariant
          (λ fact. true≢false (sym (c.is_of_kind.ensures.1 fact) ∙ w.if-is_of_kind.false)))
    ]
