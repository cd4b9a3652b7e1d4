use Rattle.std.proofs.Common.{◌++◌, ◌∷◌, [], List, ap, ◌∙◌, sym, subst}
use Rattle.std.proofs.lemmas.Result.{on_ok_weaker}
use Rattle.auto_table.specs.declared.rule.Rule.{Rule}
use Rattle.rule_marks.specs.Making.{AreAdded}
use Rattle.rule_marks.proofs.Writing.{both_put, first_put}
use Rattle.rule_marks.proofs.making.put_both.Goals as goal

pub returns-then-first-clause-rules : goal.returns-then-first-clause-rules
returns-then-first-clause-rules g c =
    on_ok_weaker c.put-then-first.result
    (λ is. λ there.
    subst (λ (xs : List (Rule g.row.W.Denot)). AreAdded c.args.rules.now.items c.args.own c.args.common xs)
    (sym (is ∙ ap (λ (xs : List (Rule g.row.W.Denot)). xs ++ c.args.common ∷ []) c.in_ok-put.ensures))
    (λ r. both_put c.args.rules.now.items c.args.own c.args.common r))
    c.put-then-first.ensures

pub returns-else-first-clause-rules : goal.returns-else-first-clause-rules
returns-else-first-clause-rules g c = λ there.
    subst (λ (xs : List (Rule g.row.W.Denot)). AreAdded c.args.rules.now.items c.args.own c.args.common xs) (sym c.in_ok-put.ensures)
    (λ r. first_put c.args.rules.now.items c.args.own c.args.common r (there (c.flag-first.ensures.known c.if-first.false)))
