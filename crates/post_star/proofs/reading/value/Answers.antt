use Rattle.std.proofs.Common.{ap, ◌∙◌}
use Rattle.std.proofs.lemmas.Option.{slice_get-get_or}
use Rattle.post_star.proofs.Applies.{decide_by}
use Rattle.post_star.proofs.Sums.{summed_none, node_more, node_all, kind_meant}
use Rattle.post_star.proofs.reading.value.Goals as goal

pub loop-entry-init : goal.loop-entry-init
loop-entry-init g c = summed_none g.met.W.Weight.laws _ (kind_meant g.met.W.Weight.laws _ _ _ c.entries-entries.ensures.meant _ _) _ _ c.zero-sum.ensures

pub loop-entry-preserved : goal.loop-entry-preserved
loop-entry-preserved g c = node_more g.met.W.Weight.laws _ _ _ c.entries-entries.ensures.meant _ _ _ _ _ _ _ _ _ (slice_get-get_or c.entries-entries.result.now c.loop-entry.entry-index _ c.loop-entry-test.true)
    c.combine-sum.ensures (c.extend-product.ensures ∙ ap (g.W.Weight.domain.extend c.reading_of.result) c.at.ensures) c.reading_of.ensures c.loop-entry.invariant

pub returns : goal.returns
returns g c = node_all g.met.W.Weight.laws _ _ _ c.entries-entries.ensures.meant _ c.entries-entries.ensures.listed (decide_by g.W.Weight.domain g.W.PartialEq.eq g.met.W.Weight.same g.met.W.Eq.laws.refl) _ _ c.loop-entry.entry-index _ c.loop-entry-test.false c.loop-entry.invariant
