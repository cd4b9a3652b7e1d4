use Rattle.std.proofs.Common.{◌-◌, ◌∙◌, length, sym, arith}
use Rattle.jim_step.proofs.Listed.{behind_chosen, cell_chosen, past_cells}
use Rattle.jim_step.proofs.plan.cell_effect.Goals as goal

pub returns-in-Some : goal.returns-in-Some
returns-in-Some c = λ p top. cell_chosen p top c.args.to c.args.cells.now c.args.more c.args.choice (c.args.choice - 1) c.in-Some.cell (omega arith) (sym c.value_at.ensures ∙ c.in-Some.is)

pub returns-in-None : goal.returns-in-None
returns-in-None c = λ p top.
    let past = past_cells c.args.cells.now (c.args.choice - 1) (sym c.value_at.ensures ∙ c.in-None.is) in
    behind_chosen p top c.args.to c.args.cells.now c.args.more c.args.choice (c.args.choice - 1) (c.args.choice - 1 - length c.args.cells.now) _
    (omega arith) (omega (arith, past)) (c.behind_cells.ensures p top)

pub behind_cells-requires : goal.behind_cells-requires
behind_cells-requires c =
    let past = past_cells c.args.cells.now (c.args.choice - 1) (sym c.value_at.ensures ∙ c.in-None.is) in
    let most = c.requires in
    omega (arith, past, most)
