use Rattle.std.proofs.Common.{◌↔◌, ◌⊎◌, List, subst, arith}
use Rattle.std.proofs.lemmas.List.{take_all}
use Rattle.lists.specs.Lists.{Has}
use Rattle.spds_tables.specs.declared.numbered.Jump.{Jump}
use Rattle.spds_tables.specs.declared.numbered.StartAt.{StartAt}
use Rattle.spds_tables.specs.Tables.{IsJumpedTo}
use Rattle.spds_tables.proofs.Questions.{asked_more, jumped_more}
use Rattle.spds_tables.proofs.asking.ask_jumps.Goals as goal

pub loop-jump-preserved : goal.loop-jump-preserved
loop-jump-preserved c s =
    asked_more (c.in_ok-ask_jump.ensures s) (c.loop-jump.invariant s)
    (jumped_more c.args.cells.now c.args.tables.now.calls s c.args.jumps.now c.loop-jump.jump-index _ (omega arith))

pub returns : goal.returns
returns c =
    subst (λ (xs : List Jump). (s : StartAt) → Has c.loop-jump.asked.items s ↔ (Has c.args.asked.now.items s ⊎ (IsJumpedTo c.args.cells.now xs c.args.tables.now.calls s × (Has c.args.tables.now.begun s → ⊥))))
    (take_all c.loop-jump.jump-index c.args.jumps.now (omega arith)) c.loop-jump.invariant
