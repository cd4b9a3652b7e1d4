use Rattle.std.proofs.lemmas.Result.{on_ok_weaker}
use Rattle.post_star.specs.declared.key.Key.TheVariants.{Mark}
use Rattle.post_star.proofs.Loops.{applied_anywhere, found_in, listed_in}
use Rattle.post_star.proofs.rise.Rising.work_part_between.Goals as goal

pub work_pops-requires-clause-listed : goal.work_pops-requires-clause-listed
work_pops-requires-clause-listed g c = λ rule h. c.requires.listed rule (listed_in c.args.part.now.index.now.by_mark (Mark c.args.mark) c.requires.own.1.by_mark c.at-pops.ensures rule h)

pub returns-then-pops-row-clause-applied : goal.returns-then-pops-row-clause-applied
returns-then-pops-row-clause-applied g c = on_ok_weaker c.work_pops.result
    (λ applied. applied_anywhere g.W.Weight.domain c.args.part.now.rules.now c.args.system.now.steps.now c.work_pops.new.self.table c.work_pops.new.self.items.items c.requires.own.1.by_mark c.args.pushed c.args.mark c.args.parent
    (λ rule h. applied rule (found_in c.args.part.now.index.now.by_mark (Mark c.args.mark) c.at-pops.ensures rule h)))
    c.work_pops.ensures.applied
