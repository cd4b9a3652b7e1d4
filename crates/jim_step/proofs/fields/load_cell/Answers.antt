use Rattle.jim_step.proofs.fields.load_cell.Goals as goal

pub returns-in-Object-clause-row : goal.returns-in-Object-clause-row
returns-in-Object-clause-row c = λ p top statics.
    rw (c.in-Some.is, c.in-Object.is) (c.object.result.now, c.object.ensures, c.load_element.ensures.row p top)
