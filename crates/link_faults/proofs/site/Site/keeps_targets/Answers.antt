use Rattle.std.proofs.Common.{List, subst}
use Rattle.link_rules.specs.declared.refusal.LinkKind.{LinkKind}
use Rattle.link_faults.specs.AtSite.{IsFirstAmong}
use Rattle.link_faults.proofs.RuleLists.{keeps_by}
use Rattle.link_faults.proofs.site.Site.keeps_targets.Goals as goal

pub returns : goal.returns
returns c =
    keeps_by c.args.self.now c.first_among.result c.is_none.result (subst (λ (rules : List LinkKind). IsFirstAmong c.args.self.now rules c.first_among.result) c.rules_of_targets.ensures c.first_among.ensures)
    c.is_none.ensures
