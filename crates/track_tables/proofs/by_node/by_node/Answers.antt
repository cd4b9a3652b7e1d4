use Rattle.std.proofs.Common.{List, ap, eqb, ℕ, ◌∙◌}
use Rattle.std.proofs.lemmas.Result.{IfOk-weaker}
use Rattle.auto_table.specs.declared.entry.Entry.{Entry}
use Rattle.lists.specs.declared.groups.Keyed.{Keyed}
use Rattle.lists.specs.Groups.{items_with}
use Rattle.track_tables.proofs.ByNode.{by_node_found}
use Rattle.track_tables.proofs.by_node.by_node.Goals as goal

pub returns : goal.returns
returns c =
    IfOk-weaker c.of.result _ _
    (λ found filed. by_node_found c.args.table.now c.in_ok-cells.cells.items found c.in_ok-cells.ensures.meant c.in_ok-cells.ensures.cells
    (λ node. filed node ∙ ap (λ (xs : List (Keyed ℕ Entry)). items_with eqb xs node) c.deref.ensures.value))
    c.of.ensures
