use Rattle.std.proofs.lemmas.Result.{IfOk-weaker}
use Rattle.rule_cells.proofs.Following.{have_thin_cells}
use Rattle.rule_cells.proofs.between.thin_cell_rules.Goals as goal

pub cell_rules-requires : goal.cell_rules-requires
cell_rules-requires g c = record { ones = λ r has. c.requires.ones r ((rw (← c.deref.ensures.value) at c.in_ok-few.ensures).among r has) }

pub returns-clause-same : goal.returns-clause-same
returns-clause-same g c =
    let thin = rw (← c.deref.ensures.value) at c.in_ok-few.ensures in
    IfOk-weaker c.cell_rules.result _ _ (λ made have.
    have_thin_cells g.met.W.Weight.laws c.args.rules.now c.deref.result.now c.args.kept.now made.cells.items made.rules.items thin c.requires.ones have) c.cell_rules.ensures.same
