-- Members of a class name their names among all names.
use Rattle.std.proofs.Common.{◌≡◌, ℕ, ◌<◌, List, [], All, Some, length, slice_get, get_or, sym, ap, subst, ◌∙◌, arith}
use Rattle.std.specs.Option.{option_map}
use Rattle.std.proofs.lemmas.List.{length-map}
use Rattle.std.proofs.lemmas.Option.{get_or_from_slice_get, slice_get-get_or, slice_get-map}
use Rattle.lists.proofs.Places.{slice_get-below, slice_get-extensional, slice_get-there}
use Rattle.jim_ast.specs.declared.names.NameId.{NameId}
use Rattle.jim_ast.specs.declared.syntax.MethodDecl.{MethodDecl}
use Rattle.link_rules.specs.Conditions.{AreWithin, field_names, method_names}
use Rattle.link_rules.specs.Names.{text_of}
use Rattle.link_classes.specs.declared.seen.ClassIn.{ClassIn}
use Rattle.link_classes.specs.declared.seen.FieldIn.{FieldIn}
use Rattle.link_classes.specs.declared.seen.MethodIn.{MethodIn}
use Rattle.link_classes.specs.Classes.{IsKnown, texts_at}
use Rattle.link_classes.specs.Numbered.{AreNumbers}
use Rattle.link_classes.specs.Seen.{IsFieldSeen, IsSeen}
use Rattle.link_classes.proofs.Within.{fields_within, methods_within, part_within}

module _ (texts names : List (List ℕ)) (ids : List NameId) (numbered : AreNumbers texts names ids) where
  -- the names that numbers stand for
  pub numbered_names : texts_at texts ids ≡ names
  numbered_names = slice_get-extensional (texts_at texts ids) names (length-map ids (text_of texts) ∙ sym numbered.as_many) at
    where
      at : (i : ℕ) (x y : List ℕ) → slice_get (texts_at texts ids) i ≡ Some x → slice_get names i ≡ Some y → x ≡ y
      at i x y p q =
          let below : i < length ids = omega (arith, slice_get-below names i y q, numbered.as_many) in
          let id = slice_get-there ids i below in
          let there = numbered.each i y id.0 q id.1 in
          let text : text_of texts id.0 ≡ y = get_or_from_slice_get texts (id.0).0 y [] there in
          let here : slice_get (texts_at texts ids) i ≡ Some (text_of texts id.0) = slice_get-map (text_of texts) ids i ∙ ap (option_map (text_of texts)) id.1 in
          cc (p, here, text)

  -- each number is one of a name
  pub numbers_within : All (λ (id : NameId). id.0 < length texts) ids
  numbers_within k d below =
      let named : k < length names = omega (arith, numbered.as_many) in
      slice_get-below texts (get_or ids k d).0 _ (numbered.each k _ _ (slice_get-get_or names k [] named) (slice_get-get_or ids k d below))

-- a method of a class that is seen is known
pub known_method : (texts : List (List ℕ)) (c : ClassIn) (i : ℕ) (decl : MethodDecl) (m : MethodIn) → IsSeen texts c → slice_get c.class.now.methods i ≡ Some decl
    → m.all.now ≡ texts → m.ids.now ≡ c.ids.now → m.decl.now ≡ decl → IsKnown texts m
known_method texts c i decl m seen there all ids is = record {
  all = all;
  numbers = subst (λ xs. All (λ (id : NameId). id.0 < length texts) xs) (sym ids) (numbers_within texts c.names.now c.ids.now seen.numbered);
  within = subst (λ ns. AreWithin ns (method_names m.decl.now)) (sym (numbered_names texts c.names.now c.ids.now seen.numbered) ∙ ap (texts_at texts) (sym ids))
      (subst (λ d. AreWithin c.names.now (method_names d)) (sym is) (part_within method_names c.names.now c.class.now.methods i decl (methods_within c.names.now c.class.now seen.within) there));
  read = λ body has. seen.read decl body (i, there) (subst (λ (d : MethodDecl). d.body ≡ Some body) is has);
}

-- a field of a class that is seen is seen
pub seen_field_of : (texts : List (List ℕ)) (c : ClassIn) (i : ℕ) (f : FieldIn) → IsSeen texts c → slice_get c.class.now.fields i ≡ Some f.decl.now
    → f.names.now ≡ c.names.now → f.ids.now ≡ c.ids.now → IsFieldSeen texts f
seen_field_of texts c i f seen there names ids = record {
  numbered = subst (λ ns. AreNumbers texts ns f.ids.now) (sym names) (subst (λ xs. AreNumbers texts c.names.now xs) (sym ids) seen.numbered);
  within = subst (λ ns. AreWithin ns (field_names f.decl.now)) (sym names)
      (part_within field_names c.names.now c.class.now.fields i f.decl.now (fields_within c.names.now c.class.now seen.within) there);
}
