use Rattle.std.proofs.Common.{◌↔◌, List, eqb, subst}
use Rattle.std.proofs.lemmas.Result.{IfOk-weaker}
use Rattle.lists.specs.Lists.{Has}
use Rattle.lists.specs.Groups.{found_at}
use Rattle.spds_solve.specs.declared.arrivals.Arrival.{Arrival}
use Rattle.spds_solve.proofs.solved.Solved.holders.Goals as goal

pub returns : goal.returns
returns c =
    rw (← c.self.view_is)
    (IfOk-weaker c.by_cell.result _ _
    (λ h are cell site. subst (λ (xs : List Arrival). Has (found_at eqb h.sites cell) site ↔ Has xs (record { site = site; cell = cell })) c.as_slice.ensures (are cell site))
    c.by_cell.ensures)
