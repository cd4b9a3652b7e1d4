use Rattle.std.proofs.Common.{List, sym, subst}
use Rattle.std.proofs.lemmas.Result.{on_ok_weaker}
use Rattle.auto_table.specs.declared.rule.Rule.{Rule}
use Rattle.rule_marks.specs.Sharing.{IsAdded}
use Rattle.rule_marks.proofs.Gathering.{added, there_already}
use Rattle.rule_marks.proofs.sharing.put_once.Goals as goal

pub returns-then-first-clause-rules : goal.returns-then-first-clause-rules
returns-then-first-clause-rules g c =
    on_ok_weaker c.put.result
    (λ is. λ there. subst (λ (xs : List (Rule g.row.W.Denot)). IsAdded c.args.rules.now.items c.args.rule xs) (sym is) (added c.args.rules.now.items c.args.rule))
    c.put.ensures

pub returns-else-first-clause-rules : goal.returns-else-first-clause-rules
returns-else-first-clause-rules g c = λ there. there_already c.args.rules.now.items c.args.rule (there (c.flag-first.ensures.known c.if-first.false))
