use Rattle.std.proofs.Common.{List, sym, subst}
use Rattle.rule_cells.specs.declared.entered.Entered.{Entered}
use Rattle.rule_cells.specs.Entered.{AreEntered}
use Rattle.rule_cells.proofs.Rooting.{nodes_before}
use Rattle.rule_cells.proofs.cells.cells_of.Goals as goal

pub returns-clause-count : goal.returns-clause-count
returns-clause-count g c =
    (c.in_ok-cells.ensures c.args.rules.now c.args.kept.now c.tell_all.ensures
    (subst (λ (es : List (Entered g.row.W.Denot)). AreEntered c.args.count c.args.rules.now c.args.kept.now es) (sym c.deref.ensures.value) c.in_ok-entries.ensures)).many

pub returns-clause-cells : goal.returns-clause-cells
returns-clause-cells g c =
    (c.in_ok-cells.ensures c.args.rules.now c.args.kept.now c.tell_all.ensures
    (subst (λ (es : List (Entered g.row.W.Denot)). AreEntered c.args.count c.args.rules.now c.args.kept.now es) (sym c.deref.ensures.value) c.in_ok-entries.ensures)).cells_are

pub returns-clause-converged : goal.returns-clause-converged
returns-clause-converged g c =
    (c.in_ok-cells.ensures c.args.rules.now c.args.kept.now c.tell_all.ensures
    (subst (λ (es : List (Entered g.row.W.Denot)). AreEntered c.args.count c.args.rules.now c.args.kept.now es) (sym c.deref.ensures.value) c.in_ok-entries.ensures)).converged

pub returns-clause-within : goal.returns-clause-within
returns-clause-within g c =
    (c.in_ok-cells.ensures c.args.rules.now c.args.kept.now c.tell_all.ensures
    (subst (λ (es : List (Entered g.row.W.Denot)). AreEntered c.args.count c.args.rules.now c.args.kept.now es) (sym c.deref.ensures.value) c.in_ok-entries.ensures)).within

pub returns-clause-before : goal.returns-clause-before
returns-clause-before g c = nodes_before c.args.count c.args.rules.now c.args.kept.now c.in_ok-entries.entries.items c.in_ok-entries.ensures
