use Rattle.std.proofs.Common.{◌≡◌, ℕ}
use Rattle.std.proofs.lemmas.List.{take_all}
use Rattle.std.proofs.lemmas.Result.{IfOk-weaker}
use Rattle.lists.specs.Filings.{items_under, row}
use Rattle.lists.proofs.Places.{slice_get-read}
use Rattle.link_indexes.proofs.Listed.{ArePredecessors-more}
use Rattle.link_indexes.proofs.before.predecessors.Goals as goal

pub loop-at-preserved : goal.loop-at-preserved
loop-at-preserved c =
    let there = slice_get-read c.args.code.now c.loop-at.at c.index-code-at.result c.loop-at-test.true c.index-code-at.is in
    ArePredecessors-more c.args.code.now c.loop-at.at c.index-code-at.result (items_under c.loop-at.filing) (items_under c.put_before.new.filing) there c.loop-at.invariant
    (rw c.in_ok-number_of.ensures at c.in_ok-put_before.ensures)

pub returns : goal.returns
returns c =
    let all = take_all c.loop-at.at c.args.code.now c.loop-at-test.false in
    IfOk-weaker c.lists.result (λ rows. (n : ℕ) → row rows n ≡ items_under c.loop-at.filing n) _
    (λ rows same s. rw (same s) (let exact = c.loop-at.invariant s in rw all at exact)) c.lists.ensures
