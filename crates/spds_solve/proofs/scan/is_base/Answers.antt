use Rattle.std.proofs.Common.{◌≡◌, Some, slice_get, arith}
use Rattle.std.proofs.lemmas.Option.{slice_get-get_or}
use Rattle.lists.proofs.Places.{slice_get-read}
use Rattle.spds_solve.proofs.Scanning.{base_else, base_then}
use Rattle.spds_solve.proofs.scan.is_base.Goals as goal
use Rattle.spds_solve.proofs.scan.is_base.Goals.{After-index}

pub index-requires : goal.index-requires
index-requires c = omega (arith, c.requires.view.settled.count, c.requires.base, c.args.view.now.tables.now.each.ok.0)

module _ (c : After-index) where
  here : slice_get c.args.view.now.tables.now.each.items c.args.base ≡ Some c.index.result.now
  here = slice_get-read c.args.view.now.tables.now.each.items c.args.base c.index.result.now (omega (arith, c.requires.view.settled.count, c.requires.base)) c.index.ensures

pub has_fields-requires-clause-settled : goal.has_fields-requires-clause-settled
has_fields-requires-clause-settled c = (c.requires.view.settled.each c.args.base _ (here (goal.at.has_fields-requires-clause-settled c).After-index)).fields

pub has_fields-requires-clause-last : goal.has_fields-requires-clause-last
has_fields-requires-clause-last c = (c.requires.view.settled.each c.args.base _ (here (goal.at.has_fields-requires-clause-last c).After-index)).built.fields.last

pub returns-then-has_fields : goal.returns-then-has_fields
returns-then-has_fields c =
    let view = c.args.view.now in
    base_then view.linked.now view.sites.now view.parts.now view.tables.now.each.items c.args.base c.args.store _
    (here (goal.at.returns-then-has_fields c).After-index) _ (slice_get-get_or view.sites.now c.args.base _ (omega (arith, c.requires.view.sites, c.requires.base)))
    c.has_fields.result c.has_field.result c.if-has_fields.true (rw c.stored-stored.ensures at c.has_fields.ensures) (rw c.stored-stored.ensures at c.has_field.ensures)

pub returns-else-has_fields : goal.returns-else-has_fields
returns-else-has_fields c =
    let view = c.args.view.now in
    base_else view.linked.now view.sites.now view.parts.now view.tables.now.each.items c.args.base c.args.store _
    (here (goal.at.returns-else-has_fields c).After-index) c.has_fields.result c.if-has_fields.false
    (rw c.stored-stored.ensures at c.has_fields.ensures)
