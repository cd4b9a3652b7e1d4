use Rattle.std.proofs.Common.{min, subst}
use Rattle.object_ranges.specs.Marks.{IsLeastOf, StandsIn}
use Rattle.object_ranges.proofs.chosen.least_in_span.Goals as goal

pub returns : goal.returns
returns c = subst (λ k. IsLeastOf (StandsIn c.args.objects.now k (min c.args.part.end c.args.span.end)) c.least.result) c.max.ensures
    (subst (λ k. IsLeastOf (StandsIn c.args.objects.now c.max.result k) c.least.result) c.min.ensures c.least.ensures)
