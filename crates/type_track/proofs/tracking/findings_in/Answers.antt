use Rattle.std.proofs.Common.{◌≡◌, ℕ, List, sym, subst, ◌∙◌, ap}
use Rattle.query_core.proofs.Refused.{if_ok}
use Rattle.demand_set.specs.Demands.{DemandParts}
use Rattle.track_tables.specs.Held.{AreHeldIn, AreOfDemand}
use Rattle.link_rules.specs.Linked.{LinkedProgram}
use Rattle.lists.specs.Groups.{Grouped}
use Rattle.spds_rules.specs.Demand.{Asked}
use Rattle.site_events.specs.declared.event_statement.EventStatement.{EventStatement}
use Rattle.type_track.specs.declared.receivers.Receiver.{Receiver}
use Rattle.type_track.specs.Receivers.{AreReceivers, asked_for, numbers_of}
use Rattle.type_track.proofs.Asking.{receivers_demanded}
use Rattle.type_track.proofs.Numbering.{receivers_below}
use Rattle.type_track.proofs.tracking.findings_in.Goals as goal

-- what is held at the numbers of receivers
held_receivers : (p : LinkedProgram) (q : Asked) (d : DemandParts) (statements : List EventStatement) (receivers read : List Receiver) (nodes : List ℕ) (held : Grouped ℕ ℕ)
    → AreReceivers d.nodes statements receivers → nodes ≡ numbers_of receivers → receivers ≡ read → (AreOfDemand d nodes → AreHeldIn p q d nodes held)
    → AreHeldIn p q d (numbers_of read) held
held_receivers p q d statements receivers read nodes held are is same told =
    let of : AreOfDemand d nodes = subst (λ (xs : List ℕ). AreOfDemand d xs) (sym is) (receivers_below d.nodes statements receivers are) in
    subst (λ (xs : List ℕ). AreHeldIn p q d xs held) (is ∙ ap numbers_of same) (told of)

pub receivers_in-requires : goal.receivers_in-requires
receivers_in-requires g c = let g = c.args.given.now in receivers_demanded g.linked.now c.args.statements.now g.demand.now c.requires.given.demand

pub find_all-requires-clause-posed : goal.find_all-requires-clause-posed
find_all-requires-clause-posed g c κs within =
    let g = c.args.given.now in
    let statements = c.args.statements.now in
    let nodes = c.deref-2.ensures.value ∙ c.in_ok-nodes.ensures ∙ ap numbers_of c.deref.ensures.value in
    let held = held_receivers g.linked.now (asked_for statements) g.demand.now statements c.in_ok-receivers.receivers.items c.deref-3.result.now c.deref-2.result.now c.in_ok-held.held c.in_ok-receivers.ensures
    nodes (sym c.deref-3.ensures.value) (c.in_ok-held.ensures g.linked.now (asked_for statements) g.demand.now c.requires.solved) in (
      asked_for statements,
      record {
        given = c.requires.given;
        statements = statements;
        events = c.in_ok-events.ensures c.requires.statements;
        are_events = c.requires.statements;
        receivers = subst (AreReceivers g.demand.now.nodes statements) (sym c.deref-3.ensures.value) c.in_ok-receivers.ensures;
        held = held;
      },
    )

pub returns : goal.returns
returns g c =
    let g = c.args.given.now in
    let statements = c.args.statements.now in
    let nodes = c.deref-2.ensures.value ∙ c.in_ok-nodes.ensures ∙ ap numbers_of c.deref.ensures.value in
    let held = held_receivers g.linked.now (asked_for statements) g.demand.now statements c.in_ok-receivers.receivers.items c.deref-3.result.now c.deref-2.result.now c.in_ok-held.held c.in_ok-receivers.ensures
    nodes (sym c.deref-3.ensures.value) (c.in_ok-held.ensures g.linked.now (asked_for statements) g.demand.now c.requires.solved) in
    if_ok c.find_all.result _ _ c.find_all.ensures (λ findings are. are (asked_for statements) (record {
      given = c.requires.given;
      statements = statements;
      events = c.in_ok-events.ensures c.requires.statements;
      are_events = c.requires.statements;
      receivers = subst (AreReceivers g.demand.now.nodes statements) (sym c.deref-3.ensures.value) c.in_ok-receivers.ensures;
      held = held;
    }))
