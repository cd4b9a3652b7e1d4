-- Names of a class within those of its program, and their numbers.
use Rattle.std.proofs.Common.{◌≡◌, ℕ, zero, suc, ◌+◌, ◌<◌, ◌++◌, List, [], ◌∷◌, All, Option, length, slice_get, get_or, Some, flat_map, subst, sym, ap, ◌∙◌, arith, length-append}
use Rattle.std.specs.Option.{option_map, option_to_list}
use Rattle.std.proofs.Math.ListN.{get_or-append}
use Rattle.std.proofs.lemmas.List.{get_or-append-add, get_or-map, length-map}
use Rattle.std.proofs.lemmas.Option.{get_or_from_slice_get, slice_get-get_or, slice_get-map}
use Rattle.lists.proofs.Places.{slice_get-below, slice_get-there}
use Rattle.lists.specs.Lists.{Has}
use Rattle.jim_ast.specs.declared.names.NameId.{NameId}
use Rattle.jim_ast.specs.declared.syntax.Class.{Class}
use Rattle.link_rules.specs.Classes.{IsNamed, class_name}
use Rattle.link_rules.specs.Conditions.{AreWithin, class_names, field_names, method_names}
use Rattle.link_rules.specs.Names.{text_of}
use Rattle.link_classes.specs.declared.order.ClassOrder.{ClassOrder}
use Rattle.link_classes.specs.declared.seen.ClassIn.{ClassIn}
use Rattle.link_classes.specs.Classes.{texts_at}
use Rattle.link_classes.specs.Seen.{IsOrder, IsSeen, seen_class, seen_classes}

module _ {X : Type 0} (P : X → Type 0) where
  pub All-left : (xs ys : List X) → All P (xs ++ ys) → All P xs
  All-left xs ys h k d below = subst P (get_or-append xs ys d k below) (h k d (omega (arith, length-append xs ys)))

  pub All-right : (xs ys : List X) → All P (xs ++ ys) → All P ys
  All-right xs ys h k d below = subst P (get_or-append-add xs ys k d) (h (length xs + k) d (omega (arith, length-append xs ys)))

-- the text of a name by its number among all names
pub name_at : (texts : List (List ℕ)) (ids : List NameId) (name : NameId) → name.0 < length ids → text_of texts (get_or ids name.0 (record { 0 = 0 })) ≡ text_of (texts_at texts ids) name
name_at texts ids name below = sym (get_or-map (text_of texts) ids name.0 (record { 0 = 0 }) [] below)

-- what holds of the names of several parts holds of those of one
pub part_all : {X : Type 0} (P : NameId → Type 0) (f : X → List NameId) (xs : List X) (i : ℕ) (x : X) → All P (flat_map f xs) → slice_get xs i ≡ Some x → All P (f x)
part_all P f [] i x h e = cc (e)
part_all P f (y ∷ xs) zero x h e =
    let same : y ≡ x = cc (e) in
    subst (λ z. All P (f z)) same (All-left P (f y) (flat_map f xs) h)
part_all P f (y ∷ xs) (suc i) x h e = part_all P f xs i x (All-right P (f y) (flat_map f xs) h) e

-- the names of one of several parts are among those of all
pub part_within : {X : Type 0} (f : X → List NameId) (names : List (List ℕ)) (xs : List X) (i : ℕ) (x : X) → AreWithin names (flat_map f xs)
    → slice_get xs i ≡ Some x → AreWithin names (f x)
part_within f names xs i x h e = part_all (λ (id : NameId). id.0 < length names) f xs i x h e

-- a class's name has its number among all names
pub name_number : (texts : List (List ℕ)) (c : ClassIn) (id : NameId) → IsSeen texts c → slice_get c.ids.now c.class.now.name.0 ≡ Some id
    → slice_get texts id.0 ≡ Some (class_name (seen_class c))
name_number texts c id seen there =
    let within : c.class.now.name.0 < length c.names.now = seen.within 0 c.class.now.name (omega arith) in
    seen.numbered.each c.class.now.name.0 _ id (slice_get-get_or c.names.now c.class.now.name.0 [] within) there

-- there is a number for a class's name
pub class_numbered : (texts : List (List ℕ)) (c : ClassIn) → IsSeen texts c → c.class.now.name.0 < length c.ids.now
class_numbered texts c seen =
    let within : c.class.now.name.0 < length c.names.now = seen.within 0 c.class.now.name (omega arith) in
    omega (arith, seen.numbered.as_many)

-- a name that the class names, by its number among all names
pub name_placed : (texts : List (List ℕ)) (c : ClassIn) (name : NameId) → IsSeen texts c → name.0 < length c.names.now
    → (name.0 < length c.ids.now) × ((d : NameId) → slice_get texts (get_or c.ids.now name.0 d).0 ≡ Some (text_of c.names.now name))
name_placed texts c name seen within =
    let below : name.0 < length c.ids.now = omega (arith, seen.numbered.as_many) in
    (below, λ d. seen.numbered.each name.0 _ _ (slice_get-get_or c.names.now name.0 [] within) (slice_get-get_or c.ids.now name.0 d below))

-- the parent and the interfaces that a class names are among its names
module _ (names : List (List ℕ)) (k : Class) (within : AreWithin names (class_names k)) where
  IsWithin : NameId → Type 0
  IsWithin id = id.0 < length names

  above : All IsWithin (option_to_list k.parent ++ k.interfaces)
  unfolding IsWithin
  above =
      let fields = flat_map field_names k.fields in
      let methods = flat_map method_names k.methods in
      let behind = All-right IsWithin (k.name ∷ []) (option_to_list k.parent ++ k.interfaces ++ fields ++ methods) within in
      All-left IsWithin (option_to_list k.parent ++ k.interfaces) fields (All-left IsWithin (option_to_list k.parent ++ k.interfaces ++ fields) methods behind)

  pub parent_within : (parent : NameId) → k.parent ≡ Some parent → parent.0 < length names
  unfolding IsWithin
  parent_within parent is =
      let one = All-left IsWithin (option_to_list k.parent) k.interfaces above in
      let there = subst (λ (o : Option NameId). All IsWithin (option_to_list o)) is one in
      there 0 parent (omega arith)

  pub fields_within : AreWithin names (flat_map field_names k.fields)
  unfolding IsWithin
  fields_within =
      let fields = flat_map field_names k.fields in
      let methods = flat_map method_names k.methods in
      let behind = All-right IsWithin (k.name ∷ []) (option_to_list k.parent ++ k.interfaces ++ fields ++ methods) within in
      All-right IsWithin (option_to_list k.parent ++ k.interfaces) fields (All-left IsWithin (option_to_list k.parent ++ k.interfaces ++ fields) methods behind)

  pub methods_within : AreWithin names (flat_map method_names k.methods)
  unfolding IsWithin
  methods_within =
      let fields = flat_map field_names k.fields in
      let methods = flat_map method_names k.methods in
      let behind = All-right IsWithin (k.name ∷ []) (option_to_list k.parent ++ k.interfaces ++ fields ++ methods) within in
      All-right IsWithin (option_to_list k.parent ++ k.interfaces ++ fields) methods behind

  pub interfaces_within : AreWithin names k.interfaces
  unfolding IsWithin
  interfaces_within = All-right IsWithin (option_to_list k.parent) k.interfaces above

-- a class's name is among all names
pub named_has : (o : ClassOrder) (text : List ℕ) (m : ℕ) → IsOrder o → IsNamed (seen_classes o.classes.items) text m → Has o.all.now.texts text
named_has o text m order h =
    let below : m < length o.classes.items = omega (arith, slice_get-below (seen_classes o.classes.items) m h.class h.there, length-map o.classes.items seen_class) in
    let x = slice_get-there o.classes.items m below in
    let same : seen_class x.0 ≡ h.class = cc (slice_get-map seen_class o.classes.items m, ap (option_map seen_class) x.1, h.there) in
    let seen : IsSeen o.all.now.texts x.0 = subst (IsSeen o.all.now.texts) (get_or_from_slice_get o.classes.items m x.0 x.0 x.1) (order.seen m x.0 below) in
    let within : x.0.class.now.name.0 < length x.0.names.now = seen.within 0 x.0.class.now.name (omega arith) in
    let placed = name_placed o.all.now.texts x.0 x.0.class.now.name seen within in
    ((get_or x.0.ids.now x.0.class.now.name.0 x.0.class.now.name).0, placed.1 x.0.class.now.name ∙ ap Some (ap class_name same ∙ h.named))
