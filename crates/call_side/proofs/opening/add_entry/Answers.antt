use Rattle.std.proofs.lemmas.Result.{on_ok_weaker}
use Rattle.call_side.proofs.Beginning.{opened_own, opened_through}
use Rattle.call_side.proofs.opening.add_entry.Goals as goal

pub returns-then-common-clause-opened : goal.returns-then-common-clause-opened
returns-then-common-clause-opened c =
    on_ok_weaker c.add_through.result
    (λ there. opened_through c.args.table.now c.args.entry c.row-row.result.now c.row-row.ensures.each c.parents.result.now c.parents.ensures.each c.add_through.new.openings.items
    c.is_common-common.result c.is_common-common.ensures c.if-common.true there)
    c.add_through.ensures.there

pub returns-else-common-clause-opened : goal.returns-else-common-clause-opened
returns-else-common-clause-opened c =
    on_ok_weaker c.add_row.result
    (λ there. opened_own c.args.table.now c.args.entry c.row-row.result.now c.row-row.ensures.each c.add_row.new.openings.items
    c.is_common-common.result c.is_common-common.ensures c.if-common.false c.first_of.result c.first_of.ensures there)
    c.add_row.ensures.there
