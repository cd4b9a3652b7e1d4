use Rattle.std.proofs.Common.{[], ◌∷◌, ◌++◌, arith}
use Rattle.rule_cells.specs.declared.entered.Entered.TheVariants.{Otherwise}
use Rattle.rule_cells.proofs.Entering.{entered_outside, entered_set, kept_elsewhere, kept_here}
use Rattle.rule_cells.proofs.entered.keep.Goals as goal

pub returns-then-at-entries : goal.returns-then-at-entries
returns-then-at-entries g c count kept are =
    entered_set count [] kept [] (kept ++ c.args.node ∷ []) c.args.node c.args.entries.now are (λ n e apart. kept_elsewhere count [] kept c.args.node n e apart) Otherwise
    c.if-at-entries.true (kept_here count [] kept c.args.node)

pub returns-else-at-entries : goal.returns-else-at-entries
returns-else-at-entries g c count kept are =
    entered_outside count [] kept [] (kept ++ c.args.node ∷ []) c.args.node c.args.entries.now are (λ n e apart. kept_elsewhere count [] kept c.args.node n e apart)
    (omega (arith, c.if-at-entries.false))
