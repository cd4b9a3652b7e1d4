use Rattle.std.proofs.Common.{List, [], ◌∷◌, ◌++◌, take, sym, ap, ◌∙◌, subst}
use Rattle.std.proofs.lemmas.List.{take_all, take_more}
use Rattle.auto_table.specs.declared.rule.Rule.{Rule}
use Rattle.rule_cells.specs.Entered.{AreEntered}
use Rattle.rule_cells.proofs.entered.enter_all.Goals as goal

pub loop-i-init : goal.loop-i-init
loop-i-init g c = λ count kept are. are

pub loop-i-preserved : goal.loop-i-preserved
loop-i-preserved g c = λ count kept are. subst (λ (rs : List (Rule g.row.W.Denot)). AreEntered count rs kept c.enter.new.entries)
    (ap (λ y. take c.loop-i.i c.args.rules.now ++ y ∷ []) c.index-rules-i.is ∙ sym (take_more c.args.rules.now c.loop-i.i c.index-rules-i.result c.loop-i-test.true))
    (c.enter.ensures count _ kept (c.loop-i.invariant count kept are))

pub returns : goal.returns
returns g c = λ count kept are. subst (λ (rs : List (Rule g.row.W.Denot)). AreEntered count rs kept c.loop-i.entries) (take_all c.loop-i.i c.args.rules.now c.loop-i-test.false)
    (c.loop-i.invariant count kept are)
