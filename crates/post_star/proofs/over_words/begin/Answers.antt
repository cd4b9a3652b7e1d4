use Rattle.std.proofs.lemmas.Option.{slice_get-get_or}
use Rattle.post_star.proofs.Applies.{decide_by}
use Rattle.post_star.proofs.Sweeping.{begin_none, begin_goes, begin_all}
use Rattle.post_star.proofs.over_words.begin.Goals as goal

pub loop-entry-init : goal.loop-entry-init
loop-entry-init g c = begin_none g.met.W.Weight.laws c.args.table.now c.requires.meant c.args.node c.args.entries.now c.requires.from c.args.sums.now.table c.args.sums.now.items.items c.requires.blank c.requires.empty

pub loop-entry-preserved : goal.loop-entry-preserved
loop-entry-preserved g c = begin_goes g.met.W.Weight.laws c.args.table.now c.requires.meant c.args.node c.args.entries.now c.requires.from c.loop-entry.entry-index _ c.at.result
    (slice_get-get_or c.args.entries.now c.loop-entry.entry-index _ c.loop-entry-test.true) c.at.ensures c.loop-entry.invariant c.in_ok-rise.ensures

pub returns : goal.returns
returns g c = record {
  sweeping = c.loop-entry.invariant.sweeping;
  begun = begin_all g.met.W.Weight.laws c.args.table.now c.requires.meant c.args.node c.args.entries.now c.requires.from c.loop-entry.entry-index c.loop-entry-test.false (decide_by g.W.Weight.domain g.W.PartialEq.eq g.met.W.Weight.same g.met.W.Eq.laws.refl) c.loop-entry.invariant;
}
