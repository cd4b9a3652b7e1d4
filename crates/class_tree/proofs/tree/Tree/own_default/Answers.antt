use Rattle.std.proofs.Common.{◌≡◌, ◌<◌, Some, length, arith, sym, subst, ◌∙◌}
use Rattle.class_rules.specs.Lookups.{own_row}
use Rattle.class_rules.specs.Rows.{Rows}
use Rattle.class_tree.proofs.Lowest.{body_read, default_had, row_within}
use Rattle.class_rules.proofs.Selected.{owned_row}
use Rattle.class_tree.proofs.tree.Tree.own_default.Goals as goal

pub index-requires : goal.index-requires
index-requires c =
    let ix = rw c.self.view_is at c.self.invariant in
    let own : own_row c.args.self.now.methods c.args.interface c.args.key ≡ Some c.in_ok-row.row = sym (c.in_ok-row.ensures ∙ ix.interface_rows c.args.interface c.args.key c.requires.is_interface) in
    let within = subst (λ (r : Rows). c.in_ok-row.row < length r.methods) (sym c.self.view_is) (row_within c.args.self.now c.args.key c.args.interface c.in_ok-row.row own) in
    omega (arith, within, c.self.inside.rows.methods.ok.0)

pub returns-then-has_body : goal.returns-then-has_body
returns-then-has_body c =
    let ix = rw c.self.view_is at c.self.invariant in
    let own : own_row c.args.self.now.methods c.args.interface c.args.key ≡ Some c.in_ok-row.row = sym (c.in_ok-row.ensures ∙ ix.interface_rows c.args.interface c.args.key c.requires.is_interface) in
    let m = owned_row c.args.self.now c.args.interface c.args.key c.in_ok-row.row own in
    default_had c.args.self.now c.args.key c.args.interface c.in_ok-row.row own m.0 m.1
    (body_read _ _ _ m.0 _ _ c.self.view_is m.1 c.index.ensures c.if-has_body.ensures)
