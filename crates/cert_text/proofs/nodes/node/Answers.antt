use Rattle.std.proofs.Common.{refl, sym}
use Rattle.cert_text.specs.Words.{SpellsNode}
use Rattle.cert_text.proofs.NodeWords.{node_cut, node_parts, node_rest, node_second, none_iff, parts_node, some_both, some_iff, some_one}
use Rattle.cert_text.proofs.Numerals.{number_one}
use Rattle.cert_text.proofs.nodes.node.Goals as goal

pub returns-in_err-method : goal.returns-in_err-method
returns-in_err-method c = rw c.from_residual.ensures (none_iff {P = SpellsNode c.args.word.now} (λ n is. c.in_err-method.ensures.none (node_cut c.args.word.now n is)))

pub returns-in_err-index_word : goal.returns-in_err-index_word
returns-in_err-index_word c = rw c.from_residual-in_err-index_word.ensures (none_iff {P = SpellsNode c.args.word.now} (λ n is.
    let cut = c.in_ok-method.ensures in
    let rest = node_rest c.args.word.now c.in_ok-method.method.now c.in_ok-method.rest.now n is cut.some cut.first in
    c.in_err-index_word.ensures.none (node_second c.in_ok-method.rest.now n rest.1)))

pub returns-in_err-method-2 : goal.returns-in_err-method-2
returns-in_err-method-2 c = rw c.from_residual-in_err-method-2.ensures (none_iff {P = SpellsNode c.args.word.now} (λ n is.
    let cut = c.in_ok-method.ensures in
    let rest = node_rest c.args.word.now c.in_ok-method.method.now c.in_ok-method.rest.now n is cut.some cut.first in
    let read = (c.in_err-method-2.ensures n.place.method).1 rest.0 in cc))

pub returns-in_err-index : goal.returns-in_err-index
returns-in_err-index c = rw c.from_residual-in_err-index.ensures (none_iff {P = SpellsNode c.args.word.now} (λ n is.
    let cut = c.in_ok-method.ensures in
    let again = c.in_ok-index_word.ensures in
    let parts = node_parts c.args.word.now c.in_ok-method.method.now c.in_ok-method.rest.now c.in_ok-index_word.index_word.now c.in_ok-index_word.var_word.now n is cut.some cut.first again.some again.first in
    let read = (c.in_err-index.ensures n.place.index n.place.raised).1 parts.is_index in cc))

pub returns-in_err-var : goal.returns-in_err-var
returns-in_err-var c = rw c.from_residual-in_err-var.ensures (none_iff {P = SpellsNode c.args.word.now} (λ n is.
    let cut = c.in_ok-method.ensures in
    let again = c.in_ok-index_word.ensures in
    let parts = node_parts c.args.word.now c.in_ok-method.method.now c.in_ok-method.rest.now c.in_ok-index_word.index_word.now c.in_ok-index_word.var_word.now n is cut.some cut.first again.some again.first in
    let read = (c.in_err-var.ensures n.var).1 parts.is_var in cc))

pub returns : goal.returns
returns c =
    let cut = c.in_ok-method.ensures in
    let again = c.in_ok-index_word.ensures in
    let method = (c.in_ok-method-2.ensures c.in_ok-method-2.method).0 refl in
    let spelled = parts_node c.args.word.now c.in_ok-method.method.now c.in_ok-method.rest.now c.in_ok-index_word.index_word.now c.in_ok-index_word.var_word.now
    (record { place = record { method = c.in_ok-method-2.method; index = c.in_ok-index.index; raised = c.in_ok-index.raised }; var = c.in_ok-var.var }) cut.some again.some
    (record { is_method = method; is_index = (c.in_ok-index.ensures c.in_ok-index.index c.in_ok-index.raised).0 refl; is_var = (c.in_ok-var.ensures c.in_ok-var.var).0 refl }) in
    some_iff {P = SpellsNode c.args.word.now} _ spelled (λ n is.
    let parts = node_parts c.args.word.now c.in_ok-method.method.now c.in_ok-method.rest.now c.in_ok-index_word.index_word.now c.in_ok-index_word.var_word.now n is cut.some cut.first again.some again.first in
    let first = number_one c.in_ok-method.method.now n.place.method c.in_ok-method-2.method parts.is_method method in
    let both = some_both c.in_ok-index.index n.place.index c.in_ok-index.raised n.place.raised ((c.in_ok-index.ensures n.place.index n.place.raised).1 parts.is_index) in
    let last = some_one c.in_ok-var.var n.var ((c.in_ok-var.ensures n.var).1 parts.is_var) in
    let index = sym both.0 in
    let raised = sym both.1 in
    let var = sym last in
    λ j. record { place = record { method = first j; index = index j; raised = raised j }; var = var j })
