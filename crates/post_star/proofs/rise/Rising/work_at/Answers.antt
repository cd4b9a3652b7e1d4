use Rattle.post_star.proofs.Applies.{progress_more}
use Rattle.post_star.proofs.Parted.{parted_applied}
use Rattle.lists.proofs.Joined.{Has-left, Has-right}
use Rattle.post_star.proofs.rise.Rising.work_at.Goals as goal

pub work_part-requires-clause-own : goal.work_part-requires-clause-own
work_part-requires-clause-own g c = (_, c.requires.index.common)

pub work_part-requires-clause-listed : goal.work_part-requires-clause-listed
work_part-requires-clause-listed g c = Has-left c.args.system.now.common.rules.now c.args.system.now.own.rules.now

pub work_part-requires-2-clause-own : goal.work_part-requires-2-clause-own
work_part-requires-2-clause-own g c = (_, c.requires.index.own)

pub work_part-requires-2-clause-listed : goal.work_part-requires-2-clause-listed
work_part-requires-2-clause-listed g c = Has-right c.args.system.now.common.rules.now c.args.system.now.own.rules.now

pub returns-clause-progress : goal.returns-clause-progress
returns-clause-progress g c = progress_more g.met.W.Weight.laws _ c.requires.told c.requires.sound c.in_ok-work_part.ensures.progress c.in_ok-work_part-2.ensures.progress

pub returns-clause-applied : goal.returns-clause-applied
returns-clause-applied g c = parted_applied c.args.system.now.common.rules.now c.args.system.now.own.rules.now g.met.W.Weight.laws _ c.requires.told c.in_ok-work_part-2.ensures.progress.kept c.args.node c.args.entry
    c.in_ok-work_part.ensures.applied c.in_ok-work_part-2.ensures.applied
