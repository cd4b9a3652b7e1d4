use Rattle.std.proofs.Common.{arith}
use Rattle.std.proofs.lemmas.Option.{slice_get-get_or}
use Rattle.call_side.specs.Openings.{AreOpened}
use Rattle.call_side.proofs.Beginning.{all_opened}
use Rattle.post_star.proofs.Loops.{each_all, each_more}
use Rattle.call_side.proofs.opening.openings.Goals as goal

pub loop-entry-init : goal.loop-entry-init
loop-entry-init c = λ i e low at. absurd (omega arith)

pub loop-entry-preserved : goal.loop-entry-preserved
loop-entry-preserved c =
    let now = c.in_ok-add_entry.ensures in
    each_more (λ e. AreOpened c.args.table.now e c.add_entry.new.openings.items) c.entries-entry-items.result.now c.loop-entry.entry-index _
    (slice_get-get_or c.entries-entry-items.result.now c.loop-entry.entry-index _ (omega arith)) now.opened
    (λ i e low at first node opens some. now.kept _ (c.loop-entry.invariant i e low at first node opens some))

pub returns : goal.returns
returns c =
    all_opened c.args.table.now c.entries-entry-items.result.now c.loop-entry.openings.items c.entries-entry-items.ensures.listed
    (each_all (λ e. AreOpened c.args.table.now e c.loop-entry.openings.items) c.entries-entry-items.result.now c.loop-entry.entry-index (omega arith) c.loop-entry.invariant)
