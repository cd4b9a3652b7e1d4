use Rattle.std.proofs.Common.{◌≡◌, ◌<◌, ℕ, arith, length, subst}
use Rattle.std.specs.List.{Contains}
use Rattle.class_tree.specs.declared.own_rows.Own.{Own}
use Rattle.class_order.specs.Groups.{group}
use Rattle.class_tree.specs.Turns.{HaveTurned, IsBefore, row_over}
use Rattle.class_tree.proofs.Walking.{if_some, ok_map, taken_up, tell_kept}
use Rattle.class_tree.proofs.walk.take_up.Goals as goal

pub returns-clause-told : goal.returns-clause-told
returns-clause-told c = λ classes owns t. ok_map c.leave.result (λ h.
    let all = c.as_slice.result.now in
    let turned = subst (λ above. HaveTurned c.args.number all (λ o. row_over above (group c.args.turns.now o.slot)) c.args.turns.now c.leave.new.turns) c.number_of.ensures h in
    let each : (s : ℕ) → s < length c.args.turns.now → (o : Own) × Contains all o × (o.slot ≡ s) = λ s lt. rw c.as_slice.ensures.value (c.in_ok-all.ensures.all s (omega (arith, lt, c.len.ensures))) in (
      tell_kept classes owns c.args.numbers.now c.args.number c.args.turns.now c.leave.new.turns all _ t h,
      taken_up classes owns c.args.numbers.now c.args.number c.args.turns.now c.leave.new.turns t all each c.args.class
          (λ p e. if_some (IsBefore c.args.numbers.now c.args.number) c.args.class p c.requires.class e) turned,
    )) c.leave.ensures
