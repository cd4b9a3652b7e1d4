use Rattle.std.proofs.Common.{ap, sym, ◌∙◌, Some}
use Rattle.std.proofs.lemmas.Option.{slice_get-get_or}
use Rattle.post_star.proofs.Loops.{begun_more, begun_all}
use Rattle.post_star.proofs.rise.Rising.take_starts.Goals as goal

pub loop-i-preserved : goal.loop-i-preserved
loop-i-preserved g c = begun_more g.met.W.Weight.laws _ c.requires.told c.loop-i.i c.index-starts-i.result
    (slice_get-get_or c.args.system.now.starts.now c.loop-i.i c.index-starts-i.result c.loop-i-test.true ∙ ap Some (sym c.index-starts-i.is)) c.loop-i.invariant c.in_ok-rise.ensures

pub returns : goal.returns
returns g c = begun_all g.met.W.Weight.laws _ c.requires.told c.loop-i.i c.loop-i-test.false c.loop-i.invariant
