use Rattle.std.proofs.Common.{ap, subst}
use Rattle.lists.specs.Lists.{Has}
use Rattle.lists.proofs.Places.{Has-adds_itself}
use Rattle.post_star.specs.Jobs.{Job}
use Rattle.track_tables.proofs.Growing.{grown_rule, kept_adds}
use Rattle.weight_laws.specs.declared.rel.Rel.{Rel}
use Rattle.track_tables.proofs.rules.add_rule.Goals as goal

pub returns-clause-grown : goal.returns-clause-grown
returns-clause-grown c =
    let old = c.args.growth.now.reached.keys in
    let new = c.add.new.self.keys in
    let adds = c.in_ok-add.ensures.keys in
    let ok = c.in_ok-add_rule.ensures.ok in
    grown_rule c.args.growth.now (record { work = c.add_rule.new.self; reached = c.add.new.self; marks = c.open_for.new.marks }) c.args.rule
    (ap (λ (j : Job Rel). j.steps) ok) (ap (λ (j : Job Rel). j.last) ok) (ap (λ (j : Job Rel). j.starts) ok) (ap (λ (j : Job Rel). j.rules) ok)
    (kept_adds old new c.args.to adds) (subst (Has new) c.requires (Has-adds_itself old new c.args.to adds)) c.in_ok-open_for.ensures.kept c.in_ok-open_for.ensures.opened
