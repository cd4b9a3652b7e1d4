use Rattle.std.proofs.lemmas.Option.{slice_get-get_or}
use Rattle.post_star.proofs.Applies.{decide_by}
use Rattle.post_star.proofs.Gathers.{gathered_none, gathered_next, gathered_all}
use Rattle.post_star.proofs.over_words.sum_at_bases.Goals as goal

pub loop-entry-init : goal.loop-entry-init
loop-entry-init g c = gathered_none g.met.W.Weight.laws c.args.sums.now c.entries-entries.ensures.meant c.args.node c.entries-entries.result.now _ c.zero-sum.ensures

pub loop-entry-preserved : goal.loop-entry-preserved
loop-entry-preserved g c = gathered_next g.met.W.Weight.laws c.args.sums.now c.entries-entries.ensures.meant c.args.node c.entries-entries.result.now c.loop-entry.sum c.sum_of_base.result _ c.loop-entry.entry-index _
    (slice_get-get_or c.entries-entries.result.now c.loop-entry.entry-index _ c.loop-entry-test.true) c.sum_of_base.ensures.base c.sum_of_base.ensures.other c.combine-sum.ensures c.loop-entry.invariant

pub returns : goal.returns
returns g c = gathered_all g.met.W.Weight.laws c.args.sums.now c.entries-entries.ensures.meant c.args.node c.entries-entries.result.now c.entries-entries.ensures.listed (decide_by g.W.Weight.domain g.W.PartialEq.eq g.met.W.Weight.same g.met.W.Eq.laws.refl) _ c.loop-entry.entry-index c.loop-entry-test.false c.loop-entry.invariant
