use Rattle.std.proofs.Common.{sym, subst, arith}
use Rattle.lists.specs.Lists.{Has}
use Rattle.spds_nodes.proofs.found.covered_by.Goals as goal

pub returns : goal.returns
returns c = λ t at.
    let same = c.catches.ensures at.method at.there in
    let catch = at.handles.0 in
    let within = c.covered_in.ensures catch (subst (λ catches. Has catches catch) (sym same) at.handles.1) at.handles.3 in
    let covers = at.handles.2 in
    (omega (arith, within.0, covers.0), omega (arith, within.1, covers.1))
