use Rattle.std.proofs.Common.{not, sym, ap, ◌∙◌, true≢false}
use Rattle.class_tree.proofs.Lowest.{ambiguous_two, found_not_ambiguous, two_are_several}
use Rattle.class_tree.proofs.tree.Tree.ambiguous.Goals as goal

pub returns-in_default : goal.returns-in_default
returns-in_default c =
    (λ t. absurd (true≢false (sym t)), λ two. absurd (c.in_default.not-Several (two_are_several _ c.defaults.result c.defaults.ensures (ambiguous_two _ _ _ two))))

pub returns-else-is_none : goal.returns-else-is_none
returns-else-is_none c =
    (λ t. absurd (true≢false (sym t ∙ c.if-is_none.false)), λ two. absurd (found_not_ambiguous _ _ _ c.on_path.result c.on_path.ensures (c.is_none.ensures ∙ ap not c.if-is_none.false) two))
