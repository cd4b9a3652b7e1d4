use Rattle.std.proofs.Common.{◌≡◌, ℕ, [], ◌∷◌, ◌++◌, Some, slice_get, arith, sym, ap, ◌∙◌, subst}
use Rattle.std.proofs.lemmas.Option.{slice_get-get_or}
use Rattle.post_star.specs.Measures.{to_of}
use Rattle.rule_cells.specs.Entered.{IsEntered}
use Rattle.rule_cells.proofs.Entering.{elsewhere, entered_outside, entered_set}
use Rattle.rule_cells.proofs.entered.enter.Goals as goal

pub returns-then-to-entries : goal.returns-then-to-entries
returns-then-to-entries g c count rules kept are =
    let entries = c.args.entries.now in
    let rule = c.args.rule.now in
    let to = c.target-to.result in
    let before = c.index-entries-to.result in
    let read : slice_get entries to ≡ Some before = slice_get-get_or entries to before c.if-to-entries.true ∙ ap Some (sym c.index-entries-to.is) in
    let was = are.each to before read in
    let mine = subst (λ (k : ℕ). IsEntered k rules kept (to_of rule) before) (sym are.many) (subst (λ (k : ℕ). IsEntered count rules kept k before) c.target-to.ensures was) in
    let now = subst (λ (k : ℕ). IsEntered k (rules ++ rule ∷ []) kept (to_of rule) c.with.result) are.many (c.with.ensures rules kept mine) in
    entered_set count rules kept (rules ++ rule ∷ []) kept to entries are (λ n e apart. elsewhere count rules kept rule n e (λ same. apart (c.target-to.ensures ∙ same)))
    c.with.result c.if-to-entries.true (subst (λ (k : ℕ). IsEntered count (rules ++ rule ∷ []) kept k c.with.result) (sym c.target-to.ensures) now)

pub returns-else-to-entries : goal.returns-else-to-entries
returns-else-to-entries g c count rules kept are =
    entered_outside count rules kept (rules ++ c.args.rule.now ∷ []) kept c.target-to.result c.args.entries.now are
    (λ n e apart. elsewhere count rules kept c.args.rule.now n e (λ same. apart (c.target-to.ensures ∙ same))) (omega (arith, c.if-to-entries.false))
