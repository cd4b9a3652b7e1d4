use Rattle.std.proofs.Common.{◌==◌, ◌&&◌, ap, ◌∙◌}
use Rattle.class_tree.specs.FirstRows.{row_at}
use Rattle.class_tree.proofs.Held.{in_another, no_interface_at}
use Rattle.class_order.proofs.Positions.{position_from-next, position_from-next_not}
use Rattle.class_tree.proofs.first_rows.FirstRows.of_interfaces.Goals as goal
use Rattle.class_tree.proofs.first_rows.FirstRows.of_interfaces.Goals.{then-classes-method+in_ok-add, else-classes-method}

pub loop-row-preserved : goal.loop-row-preserved
loop-row-preserved c = elim c.if-classes-method.branch [
  | then-classes-method+in_ok-add w ↦ (λ class key interface. position_from-next (λ m. (m.class == class) && (m.key == key)) c.args.methods.now c.loop-row.row _ _ _
      c.loop-row-test.true (c.loop-row.invariant class key interface) (ap (λ rows. row_at rows class key) w.rows-is ∙ w.in_ok-add.ensures class key))
  | else-classes-method w ↦ (λ class key interface. position_from-next_not (λ m. (m.class == class) && (m.key == key)) c.args.methods.now c.loop-row.row _ _ _
      c.loop-row-test.true (in_another c.args.classes.now _ _ class key (no_interface_at c.args.classes.now _ _ w.if-classes-method.false) interface)
      (c.loop-row.invariant class key interface) (ap (λ rows. row_at rows class key) w.rows-is))
]
