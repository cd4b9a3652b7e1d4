use Rattle.std.proofs.Common.{IsTrue, ap, ◌∙◌, subst, sym}
use Rattle.auto_table.specs.declared.rule.Rule.{Rule}
use Rattle.lists.specs.Lists.{Has}
use Rattle.post_star.specs.Works.{weight_of}
use Rattle.rule_cells.specs.declared.cells.Cell.{Cell}
use Rattle.rule_cells.specs.declared.distinct.Shape.TheVariants as shape
use Rattle.rule_cells.specs.Followed.{Follows}
use Rattle.rule_cells.specs.Made.{head_at, offset_at}
use Rattle.rule_cells.proofs.Following.{found_there, head_follows}
use Rattle.rule_cells.proofs.followed.follows.Goals as goal

pub returns-in-Flow : goal.returns-in-Flow
returns-in-Flow g c is_found rules kept sights one =
    let d = g.W.Weight.domain in
    let keys = c.args.shapes.now.keys in
    let cells = c.args.cells.now in
    let from = c.in-Flow.from in
    let there = found_there keys (shape.Flow from c.cell_of-to.result.head) c.find.result c.find.ensures (subst IsTrue c.is_some.ensures is_found) in
    let to_head = subst (λ (k : Cell g.row.W.Denot). Has keys (shape.Flow from k.head)) c.cell_of-to.ensures there in
    subst (λ (r : Rule g.row.W.Denot). Follows d rules r) (sym c.in-Flow.is)
    (head_follows d rules kept keys (head_at d cells) (offset_at d cells) from c.in-Flow.to c.in-Flow.weight sights to_head (ap weight_of (sym c.in-Flow.is) ∙ one))
