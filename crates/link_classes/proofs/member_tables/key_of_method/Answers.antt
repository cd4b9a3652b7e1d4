use Rattle.std.proofs.Common.{◌<◌, All, List, flat_map, length, sym, subst}
use Rattle.jim_ast.specs.declared.names.NameId.{NameId}
use Rattle.jim_ast.specs.declared.syntax.Ty.{Ty}
use Rattle.link_rules.specs.Conditions.{method_names, type_names}
use Rattle.link_classes.proofs.Parts.{method_params, method_result, within_numbers}
use Rattle.link_classes.proofs.member_tables.key_of_method.Goals as goal

pub method_key_in-requires-clause-params : goal.method_key_in-requires-clause-params
method_key_in-requires-clause-params c =
    let m = c.args.method.now in
    subst (λ (ps : List Ty). All (λ (id : NameId). id.0 < length m.ids.now) (flat_map type_names ps)) (sym c.as_slice.ensures)
    (method_params (λ (id : NameId). id.0 < length m.ids.now) m.decl.now (within_numbers m.all.now m.ids.now (method_names m.decl.now) c.requires.within))

pub method_key_in-requires-clause-result_type : goal.method_key_in-requires-clause-result_type
method_key_in-requires-clause-result_type c =
    let m = c.args.method.now in
    method_result (λ (id : NameId). id.0 < length m.ids.now) m.decl.now (within_numbers m.all.now m.ids.now (method_names m.decl.now) c.requires.within)
