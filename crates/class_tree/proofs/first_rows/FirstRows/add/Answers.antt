use Rattle.class_tree.proofs.RowLists.{adds_row, none_from_test}
use Rattle.class_tree.proofs.first_rows.FirstRows.add.Goals as goal

pub returns-in_ok-insert : goal.returns-in_ok-insert
returns-in_ok-insert c = adds_row c.args.self.now (record { rows = c.insert.new.self }) c.args.class c.args.key c.args.row (none_from_test _ c.if-not-contains_key.ensures) c.in_ok-insert.ensures.updates
