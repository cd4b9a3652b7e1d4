use Rattle.std.proofs.Common.{◌≡◌, [], ◌∷◌, ap, sym, ◌∙◌, rules, true≢false}
use Rattle.std.proofs.lemmas.Slice.Eq.{bytes_eq-Decides}
use Rattle.cert_text.specs.Words.{texts}
use Rattle.cert_text.proofs.ListWords.{dash_iff, string_read}
use Rattle.cert_text.proofs.commas.string.Goals as goal

pub returns : goal.returns
returns c =
    let dash : c.as_slice.result.now ≡ 45 ∷ [] = search rules in
    string_read c.calls_of.result c.args.word.now (texts c.as_slice-2.result.now) (ap texts c.as_slice-2.ensures.value ∙ c.in_ok-words.ensures)
    (λ e. true≢false (sym ((bytes_eq-Decides c.args.word.now c.as_slice.result.now).1 (e ∙ sym dash)) ∙ sym c.if-eq.ensures)) c.calls_of.ensures

pub returns-then-eq : goal.returns-then-eq
returns-then-eq c =
    let dash : c.as_slice.result.now ≡ 45 ∷ [] = search rules in
    dash_iff c.args.word.now c.from_vec.result ((bytes_eq-Decides c.args.word.now c.as_slice.result.now).0 (sym c.if-eq.ensures) ∙ dash) (c.from_vec.ensures ∙ c.new-none.ensures.items)
