use Rattle.std.proofs.Common.{◌++◌, ◌∷◌, [], List, ℕ, sym, ap, ◌∙◌, arith}
use Rattle.std.proofs.lemmas.List.{take_all}
use Rattle.link_classes.proofs.Numbering.{one_more}
use Rattle.jim_link.proofs.texts.owned_all.Goals as goal

pub loop-at-preserved : goal.loop-at-preserved
loop-at-preserved c =
    c.in_ok-push.ensures.items ∙ ap (λ (t : List ℕ). c.loop-at.copies.items ++ t ∷ []) c.in_ok-owned.ensures
    ∙ ap (λ (xs : List (List ℕ)). xs ++ c.text.result.now ∷ []) c.loop-at.invariant
    ∙ sym (one_more c.args.names.now c.loop-at.at c.text.result.now c.text.ensures)

pub returns : goal.returns
returns c = c.from_vec.ensures ∙ c.loop-at.invariant ∙ take_all c.loop-at.at c.args.names.now (omega (arith, c.loop-at-test.false, c.len-at-end.ensures.value))
