use Rattle.std.proofs.lemmas.Bool.{iff_false}
use Rattle.std.proofs.lemmas.Option.{slice_get-get_or}
use Rattle.link_rules.specs.declared.refusal.LinkKind.TheVariants as rule
use Rattle.link_faults.specs.AtSite.{Refuses}
use Rattle.link_faults.proofs.Scans.{none_of, none_more}
use Rattle.link_faults.proofs.site.Site.first_among.Goals as goal

pub returns-then-is_refused_by : goal.returns-then-is_refused_by
returns-then-is_refused_by c =
    (c.loop-kind.kind-index, slice_get-get_or c.args.rules.now c.loop-kind.kind-index rule.DuplicateClass c.loop-kind-test.true, c.is_refused_by.ensures.0 c.if-is_refused_by.true, c.loop-kind.invariant)

pub loop-kind-preserved : goal.loop-kind-preserved
loop-kind-preserved c =
    none_more (Refuses c.args.self.now) c.args.rules.now c.loop-kind.kind-index rule.DuplicateClass c.loop-kind.invariant c.loop-kind-test.true (iff_false c.is_refused_by.ensures c.if-is_refused_by.false)

pub returns : goal.returns
returns c = none_of (Refuses c.args.self.now) c.args.rules.now c.loop-kind.kind-index c.loop-kind.invariant c.loop-kind-test.false
