use Rattle.std.proofs.Common.{◌∙◌, false, arith}
use Rattle.std.proofs.lemmas.List.{length-set}
use Rattle.spds_solve.proofs.Still.{rested}
use Rattle.spds_solve.proofs.refresh.Tables.rest.Goals as goal

pub loop-site-preserved : goal.loop-site-preserved
loop-site-preserved c =
    let was = c.loop-site.invariant in
    record {
      each = was.each;
      count = length-set c.loop-site.self.changed.items c.loop-site.site false ∙ was.count;
      still = rested c.loop-site.self.changed.items c.loop-site.site (omega (arith, c.loop-site.self.changed.ok.0)) was.still;
    }
