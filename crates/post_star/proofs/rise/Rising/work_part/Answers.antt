use Rattle.post_star.specs.declared.key.Key.TheVariants.{Node}
use Rattle.post_star.proofs.Applies.{progress_more}
use Rattle.post_star.proofs.Loops.{listed_in, pops_listed, both_applied}
use Rattle.post_star.proofs.Parted.{told_part}
use Rattle.post_star.proofs.rise.Rising.work_part.Goals as goal

pub work_group-requires-clause-listed : goal.work_group-requires-clause-listed
work_group-requires-clause-listed g c = λ rule h. c.requires.listed rule (listed_in c.args.part.now.index.now.stays (Node c.args.node) c.requires.own.1.stays c.at-stays.ensures rule h)

pub work_group-requires-2-clause-listed : goal.work_group-requires-2-clause-listed
work_group-requires-2-clause-listed g c = λ rule h. c.requires.listed rule
    (pops_listed g.met.W.Weight.laws c.args.system.now.steps.now (told_part c.args.part.now.rules.now c.requires.told c.requires.listed) c.args.part.now.index.now c.requires.own.1 c.args.node c.args.entry c.pops_at-pops.result.now c.pops_at-pops.ensures.base c.pops_at-pops.ensures.pushed rule h)

pub returns-clause-progress : goal.returns-clause-progress
returns-clause-progress g c = progress_more g.met.W.Weight.laws _ c.requires.told c.requires.sound c.in_ok-work_group.ensures.progress c.in_ok-work_group-2.ensures.progress

pub returns-clause-applied : goal.returns-clause-applied
returns-clause-applied g c = both_applied g.met.W.Weight.laws _ (told_part c.args.part.now.rules.now c.requires.told c.requires.listed) c.args.part.now.index.now c.requires.own.1 c.args.node c.args.entry c.at-stays.result.now c.pops_at-pops.result.now c.at-stays.ensures c.pops_at-pops.ensures.base c.pops_at-pops.ensures.pushed
    c.in_ok-work_group-2.ensures.progress.kept c.in_ok-work_group.ensures.applied c.in_ok-work_group-2.ensures.applied
