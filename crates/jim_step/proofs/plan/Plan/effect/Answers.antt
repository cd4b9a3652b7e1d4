use Rattle.jim_step.proofs.Listed.{jump_chosen}
use Rattle.jim_step.proofs.plan.Plan.effect.Goals as goal

pub third_of-requires : goal.third_of-requires
third_of-requires c = rw c.in-Three.is at c.requires

pub cell_effect-requires : goal.cell_effect-requires
cell_effect-requires c = rw c.in-Cells.is at c.requires

pub bounds-jumps-choice : goal.bounds-jumps-choice
bounds-jumps-choice c = rw c.in-Jumps.is at c.requires

pub returns-in-Jumps : goal.returns-in-Jumps
returns-in-Jumps c = λ p top. rw c.in-Jumps.is (jump_chosen c.in-Jumps.jumps.now c.args.choice (rw c.in-Jumps.is at c.requires))
