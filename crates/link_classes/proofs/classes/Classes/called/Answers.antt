use Rattle.std.proofs.Common.{◌≡◌, ◌<◌, All, List, flat_map, length, sym, ap, subst, arith}
use Rattle.std.proofs.lemmas.List.{length-map}
use Rattle.jim_ast.specs.declared.names.NameId.{NameId}
use Rattle.jim_ast.specs.declared.syntax.Ty.{Ty}
use Rattle.link_rules.specs.Classes.{methods_of}
use Rattle.link_rules.specs.Conditions.{method_sig_names, type_names}
use Rattle.link_rules.specs.Keys.{IsMethodKeyNumber, is_static_mode}
use Rattle.link_classes.specs.Classes.{ClassTable, texts_at}
use Rattle.link_classes.specs.Keyed.{method_key_by}
use Rattle.link_classes.specs.Seen.{seen_classes, seen_method}
use Rattle.link_classes.proofs.Parts.{called_name, called_params, called_result, within_numbers}
use Rattle.link_classes.proofs.classes.Classes.called.Goals as goal

pub method_key_in-requires-clause-name : goal.method_key_in-requires-clause-name
method_key_in-requires-clause-name c =
    called_name (λ (id : NameId). id.0 < length c.args.ids.now) c.args.sig.now (within_numbers c.args.self.now.texts c.args.ids.now (method_sig_names c.args.sig.now) c.requires.within)

pub method_key_in-requires-clause-params : goal.method_key_in-requires-clause-params
method_key_in-requires-clause-params c =
    subst (λ (ps : List Ty). All (λ (id : NameId). id.0 < length c.args.ids.now) (flat_map type_names ps)) (sym c.as_slice.ensures)
    (called_params (λ (id : NameId). id.0 < length c.args.ids.now) c.args.sig.now (within_numbers c.args.self.now.texts c.args.ids.now (method_sig_names c.args.sig.now) c.requires.within))

pub method_key_in-requires-clause-result_type : goal.method_key_in-requires-clause-result_type
method_key_in-requires-clause-result_type c =
    called_result (λ (id : NameId). id.0 < length c.args.ids.now) c.args.sig.now (within_numbers c.args.self.now.texts c.args.ids.now (method_sig_names c.args.sig.now) c.requires.within)

pub returns : goal.returns
returns c =
    let order = c.self.inside.order in
    let texts = order.all.now.texts in
    let methods = methods_of (seen_classes order.classes.items) in
    let numbers = subst (λ (t : ClassTable). All (λ (id : NameId). id.0 < length t.texts) c.args.ids.now) (sym c.self.view_is) c.requires.numbers in
    let key = c.in_ok-key.ensures texts numbers in
    let count : c.len.result ≡ length methods =
    omega (arith, c.len.ensures, c.self.inside.methods.ok.0, ap length c.self.invariant.methods, length-map c.self.inside.methods.items seen_method, c.self.invariant.few_methods) in
    let found = subst (λ k. IsMethodKeyNumber methods k c.method_number.result) key.stands (c.method_number.ensures texts methods c.self.invariant.method_keys key.within count) in
    let of_mode = subst (λ s. IsMethodKeyNumber methods (method_key_by (texts_at texts c.args.ids.now) c.args.sig.now.name c.as_slice.result.now c.args.sig.now.result s) c.method_number.result) c.is_static.ensures found in
    rw (← c.self.view_is)
    (subst (λ ps. IsMethodKeyNumber methods (method_key_by (texts_at texts c.args.ids.now) c.args.sig.now.name ps c.args.sig.now.result (is_static_mode c.args.mode)) c.method_number.result) c.as_slice.ensures of_mode)
