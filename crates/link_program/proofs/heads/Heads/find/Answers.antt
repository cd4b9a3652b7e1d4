use lib.Pointwise.{bytes_decides}
use Rattle.std.proofs.Common.{◌≡◌, List, ℕ, Some, map, slice_get, sym, true≢false, ap, subst, ◌∙◌, arith}
use Rattle.std.specs.Option.{option_map}
use Rattle.std.proofs.lemmas.List.{length-map}
use Rattle.std.proofs.lemmas.Option.{slice_get-get_or, slice_get-map}
use Rattle.lists.specs.Lists.{Has}
use Rattle.link_program.specs.declared.method.MethodHead.{MethodHead}
use Rattle.link_rules.specs.Accessed.{IsFirstPlace}
use Rattle.link_program.proofs.Searched.{first_here, not_here, nowhere, texts-heads}
use Rattle.link_program.proofs.heads.Heads.find.Goals as goal

-- the text of a head
abbrev text : MethodHead → List ℕ
text h = h.text

pub returns-then-eq-clause-some : goal.returns-then-eq-clause-some
returns-then-eq-clause-some c bodies are =
    let heads = c.args.self.now.heads.items in
    let same = (bytes_decides c.as_str.result.now c.args.text.now).0 (sym c.eq.ensures ∙ c.if-eq.true) in
    let at : slice_get heads c.loop-at.at ≡ Some c.head-item.result =
    slice_get-get_or heads c.loop-at.at c.head-item.result (rw c.deref-head-items.ensures.value at c.loop-at-test.true)
    ∙ ap Some (sym (rw c.deref-head-items.ensures.value at c.head-item.is)) in
    let there = slice_get-map text heads c.loop-at.at ∙ ap (option_map text) at in
    subst (λ texts. IsFirstPlace texts c.args.text.now c.loop-at.at) (texts-heads heads bodies are.as_many)
    (first_here (map text heads) c.args.text.now c.loop-at.at c.head-item.result.text there (sym c.as_str.ensures ∙ same) c.loop-at.invariant)

pub loop-at-preserved : goal.loop-at-preserved
loop-at-preserved c =
    let heads = c.args.self.now.heads.items in
    let at : slice_get heads c.loop-at.at ≡ Some c.head-item.result =
    slice_get-get_or heads c.loop-at.at c.head-item.result (rw c.deref-head-items.ensures.value at c.loop-at-test.true)
    ∙ ap Some (sym (rw c.deref-head-items.ensures.value at c.head-item.is)) in
    let there = slice_get-map text heads c.loop-at.at ∙ ap (option_map text) at in
    not_here (map text heads) c.args.text.now c.loop-at.at c.head-item.result.text there
    (λ same. true≢false (sym ((bytes_decides c.as_str.result.now c.args.text.now).1 (c.as_str.ensures ∙ same)) ∙ sym c.eq.ensures ∙ c.if-eq.false)) c.loop-at.invariant

pub returns-clause-none : goal.returns-clause-none
returns-clause-none c bodies are =
    let heads = c.args.self.now.heads.items in
    subst (λ texts. Has texts c.args.text.now → ⊥) (texts-heads heads bodies are.as_many)
    (nowhere (map text heads) c.args.text.now c.loop-at.at (let past = rw c.deref-head-items.ensures.value at c.loop-at-test.false in let many = length-map heads text in omega (arith, past, many)) c.loop-at.invariant)
