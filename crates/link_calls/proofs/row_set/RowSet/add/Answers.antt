use Rattle.std.proofs.Common.{◌∷◌, [], ◌++◌, ap, ◌∙◌}
use Rattle.link_calls.proofs.RowSets.{adds_unseen, seen_adds}
use Rattle.link_calls.proofs.row_set.RowSet.add.Goals as goal

pub invariant_of-self-then-branch : goal.invariant_of-self-then-branch
invariant_of-self-then-branch c =
    let rows = c.self.inside.rows.items in
    let new = c.push_reserved.new.self.items in
    let pushed = c.push_reserved.ensures.items ∙ ap (λ xs. xs ++ c.args.row ∷ []) c.reserve.ensures.items in
    let adds = adds_unseen c.self.inside.seen rows new c.args.row c.in_ok-insert.field-0 c.self.invariant c.in_ok-insert.ensures.added c.if-branch.true pushed in
    seen_adds c.self.inside.seen c.insert.new.self rows new c.args.row c.self.invariant adds c.in_ok-insert.ensures.updates
