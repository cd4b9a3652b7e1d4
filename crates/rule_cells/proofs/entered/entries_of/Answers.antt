use Rattle.std.proofs.Common.{◌≡◌, List, [], length, sym, ◌∙◌, subst}
use Rattle.rule_cells.specs.declared.entered.Entered.{Entered}
use Rattle.rule_cells.specs.Entered.{AreEntered}
use Rattle.rule_cells.proofs.Entering.{returned}
use Rattle.rule_cells.proofs.entered.entries_of.Goals as goal

pub returns : goal.returns
returns g c =
    let entries = c.in_ok-entries.entries in
    let kept = c.keep_all.new.entries in
    let new = c.enter_all.new.entries in
    let kept_are = c.keep_all.ensures c.args.count (subst (λ (xs : List (Entered g.row.W.Denot)). AreEntered c.args.count [] [] xs) (sym c.deref_mut.ensures.value) c.in_ok-entries.ensures) in
    let many : entries.len ≡ length kept = sym (c.keep_all.auto.entries ∙ c.deref_mut.ensures.len) in
    let lent = c.deref_mut-2.ensures.value ∙ returned entries.len kept entries.items many in
    let are = c.enter_all.ensures c.args.count c.args.kept.now (subst (λ (xs : List (Entered g.row.W.Denot)). AreEntered c.args.count [] c.args.kept.now xs) (sym lent) kept_are) in
    let many_new : entries.len ≡ length new = sym (c.enter_all.auto.entries ∙ c.deref_mut-2.ensures.len) in
    subst (λ (xs : List (Entered g.row.W.Denot)). AreEntered c.args.count c.args.rules.now c.args.kept.now xs) (sym (returned entries.len new _ many_new)) are
