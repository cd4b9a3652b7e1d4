use Rattle.std.proofs.Common.{List, sym, subst, All}
use Rattle.link_sites.specs.declared.site.Site.{Site}
use Rattle.link_sites.specs.Sites.{IsSite}
use Rattle.spds_rules.specs.Answers.{IsAnswered}
use Rattle.spds_rules.specs.Demand.{about}
use Rattle.explain_text.proofs.Asked.{sites_answered, sites_stand}
use Rattle.explain_text.proofs.explaining.told.Goals as goal

pub explain_text-requires-clause-sites : goal.explain_text-requires-clause-sites
explain_text-requires-clause-sites g c =
    subst (λ (sites : List Site). All (IsSite c.args.linked.now) sites) (sym c.deref.ensures.value)
    (sites_stand c.args.linked.now c.args.target c.requires.well.form c.in_ok-answered.answered.sites.items c.in_ok-answered.ensures.answered)

pub explain_text-requires-clause-answered : goal.explain_text-requires-clause-answered
explain_text-requires-clause-answered g c =
    subst (λ (sites : List Site). All (IsAnswered c.args.linked.now (about c.args.target) c.args.target) sites) (sym c.deref.ensures.value)
    (sites_answered c.args.linked.now c.args.target c.in_ok-answered.answered.sites.items c.in_ok-answered.ensures.answered)
