use Rattle.std.proofs.Common.{refl, sym, ◌∙◌}
use Rattle.cert_text.specs.Words.{SpellsCall}
use Rattle.cert_text.proofs.NodeWords.{call_cut, call_one, call_parts, none_iff, parts_call, some_iff}
use Rattle.cert_text.proofs.nodes.call.Goals as goal

pub returns-in_err-method : goal.returns-in_err-method
returns-in_err-method c = rw c.from_residual.ensures (none_iff {P = SpellsCall c.args.word.now} (λ place is. c.in_err-method.ensures.none (call_cut c.args.word.now place is)))

pub returns-in_err-method-2 : goal.returns-in_err-method-2
returns-in_err-method-2 c = rw c.from_residual-in_err-method-2.ensures (none_iff {P = SpellsCall c.args.word.now} (λ place is.
    let cut = c.in_ok-method.ensures in
    let parts = call_parts c.args.word.now c.in_ok-method.method.now c.in_ok-method.index.now place is cut.some cut.first in
    let read = (c.in_err-method-2.ensures place.method).1 parts.0 in cc))

pub returns-in_err-index : goal.returns-in_err-index
returns-in_err-index c = rw c.from_residual-in_err-index.ensures (none_iff {P = SpellsCall c.args.word.now} (λ place is.
    let cut = c.in_ok-method.ensures in
    let parts = call_parts c.args.word.now c.in_ok-method.method.now c.in_ok-method.index.now place is cut.some cut.first in
    let read = (c.in_err-index.ensures place.index).1 parts.1 in cc))

pub returns : goal.returns
returns c =
    let cut = c.in_ok-method.ensures in
    let spelled = parts_call c.args.word.now c.in_ok-method.method.now c.in_ok-method.index.now c.in_ok-method-2.method c.in_ok-index.index cut.some
    ((c.in_ok-method-2.ensures c.in_ok-method-2.method).0 refl) ((c.in_ok-index.ensures c.in_ok-index.index).0 refl) in
    some_iff {P = SpellsCall c.args.word.now} _ spelled (λ place is. call_one place _ is.1 spelled.1 (sym is.0 ∙ spelled.0))
