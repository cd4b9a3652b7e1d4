use Rattle.std.proofs.Common.{◌≡◌, sym, subst, get_or, map}
use Rattle.std.proofs.lemmas.Result.{err_from_is_err_and}
use Rattle.track_rules.specs.Protocols.{AreParts}
use Rattle.protocol_words.specs.Spellings.{named_row, texts}
use Rattle.protocol_words.proofs.Spelled.{spelled, unspelled}
use Rattle.protocol_words.proofs.spelling.read_spelling.Goals as goal

pub returns-in_err-rows-clause-err : goal.returns-in_err-rows-clause-err
returns-in_err-rows-clause-err c =
    let p = err_from_is_err_and c.from_residual-in_err-rows.result c.from_residual-in_err-rows.ensures.1 in
    let parts = subst (λ items. AreParts c.args.word.now (texts items)) (sym c.deref.ensures.value) c.in_ok-parts.ensures.parts in
    let at = subst (λ items. c.index.result.now ≡ get_or items 0 c.index.result.now) (sym c.deref.ensures.value) c.index.ensures in
    rw (p.1, p.2) (unspelled c.args.word.now c.deref.result.now c.index.result.now parts at c.in-Some.class.now c.in-Some.first.now c.in-Some.ensures.some c.in_err-rows.field-0.0 c.in_err-rows.ensures.err)

pub returns-clause-ok : goal.returns-clause-ok
returns-clause-ok c =
    let parts = subst (λ items. AreParts c.args.word.now (texts items)) (sym c.deref.ensures.value) c.in_ok-parts.ensures.parts in
    let at = subst (λ items. c.index.result.now ≡ get_or items 0 c.index.result.now) (sym c.deref.ensures.value) c.index.ensures in
    spelled c.args.word.now c.deref.result.now c.index.result.now parts at c.in-Some.class.now c.in-Some.first.now c.in-Some.ensures.some (map named_row c.in_ok-rows.rows.items) c.in_ok-rows.ensures.ok
