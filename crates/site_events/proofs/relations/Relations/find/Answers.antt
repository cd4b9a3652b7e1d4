use Rattle.std.proofs.Common.{arith}
use Rattle.lists.proofs.Places.{slice_get-below, slice_get-read}
use Rattle.site_events.proofs.Told.{one_number, told_where}
use Rattle.site_events.proofs.relations.Relations.find.Goals as goal

pub index-requires : goal.index-requires
index-requires c =
    let at = (c.find.ensures c.in_ok-number.number).0 c.in_ok-number.was in
    let below = slice_get-below c.self.inside.statements.keys c.in_ok-number.number c.args.statement at in
    omega (arith, below, c.self.invariant)

pub returns-clause-some : goal.returns-clause-some
returns-clause-some c =
    let number = c.in_ok-number.number in
    let at = (c.find.ensures number).0 c.in_ok-number.was in
    let below = slice_get-below c.self.inside.statements.keys number c.args.statement at in
    rw (← c.self.view_is)
    (told_where (record { statements = c.self.inside.statements.keys; relations = c.self.inside.relations.items }) c.args.statement number number c.index.result.now
    (λ j there. one_number c.find.result number j c.in_ok-number.was ((c.find.ensures j).1 there)) at
    (slice_get-read c.self.inside.relations.items number c.index.result.now (omega (arith, below, c.self.invariant)) c.index.ensures))
