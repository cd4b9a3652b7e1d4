use Rattle.std.proofs.Common.{ℕ, Option, false, slice_index_or, refl, sym, subst}
use Rattle.std.specs.Option.{IsSome}
use Rattle.std.proofs.lemmas.Option.{slice_get-get_or}
use Rattle.lists.proofs.Places.{take-next}
use Rattle.site_events.specs.declared.event_statement.EventStatement.{EventStatement}
use Rattle.type_track.proofs.Numbering.{receivers_more, receivers_none}
use Rattle.type_track.proofs.receivers.receivers_in.Goals as goal

abbrev no_statement : EventStatement
no_statement = record { place = record { method = 0; index = 0; raised = false }; event = 0; receiver = 0 }

pub unwrap-requires : goal.unwrap-requires
unwrap-requires c =
    let items = c.args.statements.now in
    let index = c.loop-statement.statement-index in
    let s = slice_index_or items index no_statement in
    let has = c.requires s (index, slice_get-get_or items index no_statement c.loop-statement-test.true) in
    subst (λ (r : Option ℕ). IsSome r) (sym ((c.number_of.ensures has.0).1 has.1)) refl

pub loop-statement-init : goal.loop-statement-init
loop-statement-init c = rw c.in_ok-receivers.ensures.items (receivers_none c.args.demand.now.nodes)

pub loop-statement-preserved : goal.loop-statement-preserved
loop-statement-preserved c =
    let items = c.args.statements.now in
    let index = c.loop-statement.statement-index in
    let s = slice_index_or items index no_statement in
    rw (take-next items index s (slice_get-get_or items index no_statement c.loop-statement-test.true), c.in_ok-push.ensures.items)
    (receivers_more c.args.demand.now.nodes _ c.loop-statement.receivers.items (record { statement = s; node = c.unwrap.result })
    c.loop-statement.invariant ((c.number_of.ensures c.unwrap.result).0 c.unwrap.ensures))
