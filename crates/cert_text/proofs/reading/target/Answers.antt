use Rattle.std.proofs.Common.{◌≡◌, codes, rules, sym, ◌∙◌, true≢false}
use Rattle.std.proofs.lemmas.Slice.Eq.{bytes_eq-Decides}
use Rattle.cert_rules.specs.Spelled.{SpellsTarget}
use Rattle.cert_text.proofs.LineWords.{target_cut, target_has}
use Rattle.cert_text.proofs.NodeWords.{none_iff}
use Rattle.cert_text.proofs.reading.target.Goals as goal

pub returns-in_err-head : goal.returns-in_err-head
returns-in_err-head c = rw c.from_residual.ensures (none_iff {P = SpellsTarget c.args.line.now} (λ n is. c.in_err-head.ensures.none (target_has c.args.line.now n is)))

pub returns-else-eq : goal.returns-else-eq
returns-else-eq c = none_iff {P = SpellsTarget c.args.line.now} (λ n is.
    let cut = c.in_ok-head.ensures in
    let same = target_cut c.args.line.now c.in_ok-head.head.now c.in_ok-head.node_word.now n is cut.some cut.first in
    let query : c.as_slice.result.now ≡ codes "query" = search rules in
    true≢false (sym ((bytes_eq-Decides c.in_ok-head.head.now c.as_slice.result.now).1 (same ∙ sym query)) ∙ sym c.if-eq.ensures))
