use Rattle.std.proofs.Common.{refl, sym, ◌∙◌}
use Rattle.cert_text.specs.Words.{SpellsVar}
use Rattle.cert_text.proofs.NodeWords.{named_fits, named_only, numbered_iff, some_iff}
use Rattle.cert_text.proofs.nodes.var.Goals as goal

pub returns-in-Some : goal.returns-in-Some
returns-in-Some c =
    let named = (c.in-Some.ensures c.in-Some.var).0 refl in
    some_iff {P = SpellsVar c.args.word.now} c.in-Some.var (named.1, named_fits c.in-Some.var named.0) (λ v is. named_only c.in-Some.var v named.0 (sym named.1 ∙ is.0) is.1)

pub returns : goal.returns
returns c =
    numbered_iff c.args.word.now c.in_ok-letter.digits.now c.in_ok-letter.letter.now c.in_ok-number.number c.numbered.result c.in_ok-letter.ensures.cases.0 c.in_default.ensures
    ((c.in_ok-number.ensures c.in_ok-number.number).0 refl) c.numbered.ensures
