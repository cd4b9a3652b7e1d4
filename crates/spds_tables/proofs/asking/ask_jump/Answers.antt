use Rattle.std.proofs.Common.{◌∷◌, [], sym, ◌∙◌, inl, inr, true≢false, subst}
use Rattle.lists.specs.Lists.{Has}
use Rattle.rule_cells.specs.Renamed.{number_in}
use Rattle.spds_tables.specs.declared.numbered.StartAt.{StartAt}
use Rattle.spds_tables.specs.Tables.{IsJumpedTo}
use Rattle.call_side.proofs.Arriving.{number_there}
use Rattle.spds_tables.proofs.Questions.{asked_push, jumped_one, one_jumped}
use Rattle.spds_tables.proofs.asking.ask_jump.Goals as goal

pub returns-in_ok-push : goal.returns-in_ok-push
returns-in_ok-push c s =
    let job = c.args.tables.now.calls in
    let cells = c.args.cells.now in
    let from = number_in cells c.args.jump.from in
    let new : Has c.args.tables.now.begun c.args.jump.to → ⊥ = λ h. true≢false (sym (c.contains.ensures.1 h) ∙ c.if-contains.false) in
    let found = number_there c.args.arrivals.now.keys from c.contains-2.result (rw c.number_of.ensures at c.contains-2.ensures) in
    rw c.in_ok-push.ensures.items
    (asked_push c.args.asked.now.items c.args.jump.to s (IsJumpedTo cells (c.args.jump ∷ []) job s × (Has c.args.tables.now.begun s → ⊥)) (
      (λ e. (jumped_one cells job s c.args.jump ((c.requires from).0 (found.0 c.if-contains-2.true)) e, λ h. new (subst (λ (x : StartAt). Has c.args.tables.now.begun x) e h))),
      (λ p. (one_jumped cells job s c.args.jump p.0).0),
    ))

pub returns-else-contains-2 : goal.returns-else-contains-2
returns-else-contains-2 c s =
    let cells = c.args.cells.now in
    let from = number_in cells c.args.jump.from in
    let found = number_there c.args.arrivals.now.keys from c.contains-2.result (rw c.number_of.ensures at c.contains-2.ensures) in (
      (λ h. inl h),
      (λ h. elim h [
        | inl a ↦ a
        | inr b ↦ absurd (true≢false (sym (found.1 ((c.requires from).1 (one_jumped cells c.args.tables.now.calls s c.args.jump b.0).1)) ∙ c.if-contains-2.false))
      ]),
    )
