-- The names of the parts of a member.
use Rattle.std.proofs.Common.{ℕ, ◌<◌, ◌++◌, List, [], ◌∷◌, All, length, flat_map, subst, arith}
use Rattle.std.specs.Option.{option_to_list}
use Rattle.std.proofs.lemmas.List.{length-map}
use Rattle.std.proofs.lemmas.List.Elements.{All-tail}
use Rattle.jim_ast.specs.declared.names.NameId.{NameId}
use Rattle.jim_ast.specs.declared.syntax.FieldDecl.{FieldDecl}
use Rattle.jim_ast.specs.declared.syntax.FieldSig.{FieldSig}
use Rattle.jim_ast.specs.declared.syntax.MethodDecl.{MethodDecl}
use Rattle.jim_ast.specs.declared.syntax.MethodSig.{MethodSig}
use Rattle.link_rules.specs.Conditions.{AreWithin, body_names, field_names, field_sig_names, method_names, method_sig_names, type_names}
use Rattle.link_rules.specs.Names.{text_of}
use Rattle.link_classes.specs.Classes.{texts_at}
use Rattle.link_classes.proofs.Within.{All-left, All-right}

-- within names that are given by their numbers: there is a number for each
pub within_numbers : (texts : List (List ℕ)) (ids xs : List NameId) → AreWithin (texts_at texts ids) xs → All (λ (id : NameId). id.0 < length ids) xs
within_numbers texts ids xs h = subst (λ n. All (λ (id : NameId). id.0 < n) xs) (length-map ids (text_of texts)) h

module _ (P : NameId → Type 0) where
  pub method_name : (m : MethodDecl) → All P (method_names m) → P m.name
  method_name m h = h 0 m.name (omega arith)

  pub method_result : (m : MethodDecl) → All P (method_names m) → All P (type_names m.result)
  method_result m h =
      let bodies = flat_map body_names (option_to_list m.body) in
      let behind : All P (type_names m.result ++ flat_map type_names m.params ++ bodies) = All-tail P m.name (type_names m.result ++ flat_map type_names m.params ++ bodies) h in
      All-left P (type_names m.result) (flat_map type_names m.params) (All-left P (type_names m.result ++ flat_map type_names m.params) bodies behind)

  pub method_params : (m : MethodDecl) → All P (method_names m) → All P (flat_map type_names m.params)
  method_params m h =
      let bodies = flat_map body_names (option_to_list m.body) in
      let behind : All P (type_names m.result ++ flat_map type_names m.params ++ bodies) = All-tail P m.name (type_names m.result ++ flat_map type_names m.params ++ bodies) h in
      All-right P (type_names m.result) (flat_map type_names m.params) (All-left P (type_names m.result ++ flat_map type_names m.params) bodies behind)

  pub called_name : (sig : MethodSig) → All P (method_sig_names sig) → P sig.name
  called_name sig h = h 1 sig.name (omega arith)

  pub called_result : (sig : MethodSig) → All P (method_sig_names sig) → All P (type_names sig.result)
  called_result sig h =
      All-left P (type_names sig.result) (flat_map type_names sig.params) (All-right P (sig.class ∷ sig.name ∷ []) (type_names sig.result ++ flat_map type_names sig.params) h)

  pub called_params : (sig : MethodSig) → All P (method_sig_names sig) → All P (flat_map type_names sig.params)
  called_params sig h =
      All-right P (type_names sig.result) (flat_map type_names sig.params) (All-right P (sig.class ∷ sig.name ∷ []) (type_names sig.result ++ flat_map type_names sig.params) h)

  pub field_name : (f : FieldDecl) → All P (field_names f) → P f.name
  field_name f h = h 0 f.name (omega arith)

  pub field_type : (f : FieldDecl) → All P (field_names f) → All P (type_names f.ty)
  field_type f h = All-tail P f.name (type_names f.ty) h

  pub accessed_name : (sig : FieldSig) → All P (field_sig_names sig) → P sig.name
  accessed_name sig h = h 1 sig.name (omega arith)

  pub accessed_type : (sig : FieldSig) → All P (field_sig_names sig) → All P (type_names sig.ty)
  accessed_type sig h = All-right P (sig.class ∷ sig.name ∷ []) (type_names sig.ty) h
