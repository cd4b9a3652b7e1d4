use Rattle.std.proofs.Common.{map, sym, subst, ◌∙◌}
use borrow.Author.Tests.{ltb-true}
use Rattle.link_laws.proofs.Lists.{map_at}
use Rattle.lists.proofs.Places.{slice_get-read}
use Rattle.batch_lines.specs.Queries.{parts_of}
use Rattle.boom_top.specs.Batches.{Batch, TellsNumber}
use Rattle.boom_top.proofs.Batched.{query_told}
use Rattle.boom_top.proofs.batches.QueriesAsk.ask.Goals as goal

pub returns : goal.returns
returns c =
    let b : Batch = record { program = c.self.inside.linked.now; queries = map parts_of c.self.inside.queries.now; budget = c.self.inside.budget } in
    let own = c.in_ok-reply.ensures in
    subst (λ (x : Batch). TellsNumber x c.args.number c.from_vec-2.result) c.self.view_is
    (query_told b c.self.invariant c.args.number (parts_of c.in-Some.query.now) c.from_vec-2.result (map_at parts_of c.self.inside.queries.now c.args.number c.in-Some.query.now
    (slice_get-read c.self.inside.queries.now c.args.number c.in-Some.query.now (ltb-true _ _ (sym c.in-Some.ensures.lookup.0)) c.in-Some.ensures.lookup.1))
    (own.0, (c.in_ok-reply.reply.status, own.1), c.from_vec-2.ensures ∙ own.2))
