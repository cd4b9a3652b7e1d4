use Rattle.std.proofs.Common.{◌≡◌, ◌∙◌, List, None, ap, arith, get_or, refl, subst, sym}
use Rattle.std.proofs.lemmas.List.{take_all}
use Rattle.class_tree.specs.declared.own_rows.Own.{Own}
use Rattle.class_order.specs.Groups.{group}
use Rattle.class_tree.specs.Turns.{HaveTurned, row_over, turned}
use Rattle.class_tree.proofs.Turning.{row_read, turned_more_by, turned_none}
use Rattle.class_tree.proofs.walk.leave.Goals as goal
use Rattle.class_tree.proofs.walk.leave.Goals.{in-Some, in-None}

pub get-requires : goal.get-requires
get-requires c = let known = c.requires.slots c.loop-own.own-index (record { slot = 0; row = 0 }) c.loop-own-test.true in omega (arith, known, c.loop-own.invariant.turned.len)

pub row_at-row-requires : goal.row_at-row-requires
row_at-row-requires c = rw c.get.ensures (c.loop-own.invariant.turned.ordered c.requires.ordered (get_or c.args.owns.now c.loop-own.own-index (record { slot = 0; row = 0 })).slot).rising

pub push-requires : goal.push-requires
push-requires c = let known = c.requires.slots c.loop-own.own-index (record { slot = 0; row = 0 }) c.loop-own-test.true in omega (arith, known, c.loop-own.invariant.turned.len)

pub loop-own-init : goal.loop-own-init
loop-own-init c = record { above = refl; turned = turned_none c.args.number c.args.owns.now (λ (o : Own). row_over c.args.above (group c.args.turns.now o.slot)) c.args.turns.now }

pub loop-own-preserved : goal.loop-own-preserved
loop-own-preserved c =
    let d : Own = record { slot = 0; row = 0 } in
    let slot = (get_or c.args.owns.now c.loop-own.own-index d).slot in
    let read : c.match-above.row ≡ row_over c.args.above (group c.args.turns.now slot) = elim c.match-above.branch [
      | in-Some w ↦ row_read c.args.number slot c.args.turns.now c.loop-own.turns c.args.above w.in-Some.over c.match-above.row (sym c.loop-own.invariant.above ∙ w.in-Some.is) c.requires.above c.loop-own.invariant.turned.kept
          (w.row-is ∙ w.row_at-row.ensures ∙ ap (λ ts. turned None ts w.in-Some.over) w.get.ensures)
      | in-None w ↦ w.row-is ∙ sym (ap (λ o. row_over o (group c.args.turns.now slot)) (sym c.loop-own.invariant.above ∙ w.in-None.is))
    ] in
    rw c.in_ok-push.ensures (record {
      above = elim c.match-above.branch [ in-Some w ↦ w.above-is ∙ sym w.in-Some.is ∙ c.loop-own.invariant.above | in-None w ↦ w.above-is ∙ c.loop-own.invariant.above ];
      turned = turned_more_by c.args.number c.args.owns.now (λ (o : Own). row_over c.args.above (group c.args.turns.now o.slot)) c.args.turns.now c.loop-own.turns c.loop-own.own-index d
          c.loop-own-test.true (λ a b u v e. ap (λ k. row_over c.args.above (group c.args.turns.now k)) e) c.requires.slots c.loop-own.invariant.turned c.match-above.row read;
    })

pub returns : goal.returns
returns c = subst (λ (xs : List Own). HaveTurned c.args.number xs (λ (o : Own). row_over c.args.above (group c.args.turns.now o.slot)) c.args.turns.now c.loop-own.turns)
    (take_all c.loop-own.own-index c.args.owns.now c.loop-own-test.false) c.loop-own.invariant.turned
