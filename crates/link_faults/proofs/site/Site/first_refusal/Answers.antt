use Rattle.std.proofs.Common.{List, subst}
use Rattle.link_rules.specs.declared.refusal.LinkKind.{LinkKind}
use Rattle.link_faults.specs.AtSite.{IsFirstAmong}
use Rattle.link_faults.proofs.RuleLists.{first_rule}
use Rattle.link_faults.proofs.site.Site.first_refusal.Goals as goal

pub returns : goal.returns
returns c =
    first_rule c.args.self.now c.first_among.result (subst (λ (rules : List LinkKind). IsFirstAmong c.args.self.now rules c.first_among.result) c.rules_of_statements.ensures c.first_among.ensures)
