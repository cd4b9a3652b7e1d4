-- The names of fields, methods and classes are low where their trees are.
use Rattle.std.proofs.Common.{ℕ, List, [], ◌∷◌, ◌++◌, flat_map, Some, None, refl, inl}
use Rattle.std.specs.Option.{option_to_list}
use Rattle.jim_grammar.specs.Forms.{FieldMember, MethodMember, NoBody, WithBody}
use Rattle.jim_grammar.specs.Expressions.{Star, Opt, Tree}
use Rattle.jim_grammar.specs.Grammar.{ending, by_member, member, extends, implements, class, program}
use Rattle.jim_stmts.specs.Meanings.{outcome_of, maybe_types_of}
use Rattle.jim_build.specs.Bodies.{body_of}
use Rattle.jim_build.specs.Members.{field_of, ending_of, method_of, fields_of, methods_of}
use Rattle.jim_build.specs.Classes.{parent_of, interfaces_of, class_of, classes_of}
use Rattle.link_rules.specs.Conditions.{type_names, body_names, method_names, field_names, class_names}
use Rattle.read_laws.proofs.LowTrees.{IsLow}
use Rattle.read_laws.proofs.LowOperands.{Low, low_append, names_low, type_low, outcome_low, params_low}
use Rattle.read_laws.proofs.LowBodies.{body_low}

module _ (n : ℕ) where
  -- a field
  field_low : (t : Tree (by_member FieldMember)) → IsLow n (by_member FieldMember) t → Low n (field_names (field_of t))
  field_low (_, (t, _)) (_, (p, (f, _))) = (f (inl refl), type_low n t p)

  -- the body of a method, if it has one
  ending_low : (t : Tree ending) → IsLow n ending t → Low n (flat_map body_names (option_to_list (ending_of t)))
  ending_low (NoBody, _) h = tt
  ending_low (WithBody, (b, _)) (p, _) = low_append n (body_names (body_of b)) [] (body_low n b p) tt

  -- a method
  method_low : (t : Tree (by_member MethodMember)) → IsLow n (by_member MethodMember) t → Low n (method_names (method_of t))
  method_low (_, (t, (_, (_, (params, (_, (_, (end, _)))))))) (_, (p, (m, (_, (q, (_, (_, (r, _)))))))) =
      let result = type_names (outcome_of t) in
      let types = flat_map type_names (maybe_types_of params) in
      let bodies = flat_map body_names (option_to_list (ending_of end)) in
      (m (inl refl), low_append n (result ++ types) bodies (low_append n result types (outcome_low n t p) (params_low n params q)) (ending_low end r))

  -- the fields among members
  fields_low : (xs : List (Tree member)) → IsLow n (Star member) xs → Low n (flat_map field_names (fields_of xs))
  fields_low [] h = tt
  fields_low ((FieldMember, f) ∷ xs) (p, h) = low_append n (field_names (field_of f)) (flat_map field_names (fields_of xs)) (field_low f p) (fields_low xs h)
  fields_low ((MethodMember, _) ∷ xs) (_, h) = fields_low xs h

  -- the methods among members
  methods_low : (xs : List (Tree member)) → IsLow n (Star member) xs → Low n (flat_map method_names (methods_of xs))
  methods_low [] h = tt
  methods_low ((FieldMember, _) ∷ xs) (_, h) = methods_low xs h
  methods_low ((MethodMember, m) ∷ xs) (p, h) = low_append n (method_names (method_of m)) (flat_map method_names (methods_of xs)) (method_low m p) (methods_low xs h)

  -- the parent that is named, if one is
  parent_low : (t : Tree (Opt extends)) → IsLow n (Opt extends) t → Low n (option_to_list (parent_of t))
  parent_low None h = tt
  parent_low (Some _) (_, (p, _)) = (p (inl refl), tt)

  -- the interfaces that are named
  interfaces_low : (t : Tree (Opt implements)) → IsLow n (Opt implements) t → Low n (interfaces_of t)
  interfaces_low None h = tt
  interfaces_low (Some (_, (ns, _))) (_, (p, _)) = names_low n ns p

  -- a class
  class_low : (t : Tree class) → IsLow n class t → Low n (class_names (class_of t))
  class_low (_, (_, (_, (parent, (interfaces, (_, (members, _))))))) (_, (_, (c, (p, (q, (_, (r, _))))))) =
      let above = option_to_list (parent_of parent) in
      let beside = interfaces_of interfaces in
      let fields = flat_map field_names (fields_of members) in
      let methods = flat_map method_names (methods_of members) in (
        c (inl refl),
        low_append n (above ++ beside ++ fields) methods
            (low_append n (above ++ beside) fields (low_append n above beside (parent_low parent p) (interfaces_low interfaces q)) (fields_low members r)) (methods_low members r),
      )

  -- a program
  pub classes_low : (t : Tree program) → IsLow n program t → Low n (flat_map class_names (classes_of t))
  classes_low [] h = tt
  classes_low (c ∷ xs) (p, h) = low_append n (class_names (class_of c)) (flat_map class_names (classes_of xs)) (class_low c p) (classes_low xs h)
