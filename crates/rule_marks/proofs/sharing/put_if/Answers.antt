use Rattle.std.proofs.Common.{List, sym, subst}
use Rattle.std.proofs.lemmas.Result.{on_ok_weaker}
use Rattle.auto_table.specs.declared.rule.Rule.{Rule}
use Rattle.rule_marks.specs.Sharing.{IsAddedIf}
use Rattle.rule_marks.proofs.Gathering.{added_if, added_not}
use Rattle.rule_marks.proofs.sharing.put_if.Goals as goal

pub returns-then-test : goal.returns-then-test
returns-then-test g c =
    on_ok_weaker c.put.result
    (λ is. subst (λ (xs : List (Rule g.row.W.Denot)). IsAddedIf c.args.test c.args.rules.now.items c.args.rule xs) (sym is)
    (added_if c.args.rules.now.items c.args.rule c.args.test c.if-test.true))
    c.put.ensures

pub returns-else-test : goal.returns-else-test
returns-else-test g c = added_not c.args.rules.now.items c.args.rule c.args.test c.if-test.false
