-- Two keys of numbers are equal in the derived order exactly where they stand for one key.
use Rattle.std.proofs.Common.{◌≡◌, ℕ, ◌<◌, List, [], ◌∷◌, All, true, Some, length, map, slice_get, refl, ap, ◌∙◌, arith}
use Rattle.std.proofs.lemmas.List.Elements.{All-tail}
use Rattle.std.proofs.lemmas.Option.{slice_get-get_or}
use Rattle.std.specs.Ordering.{eq_by_cmp}
use Rattle.lists.specs.Lists.{IsApart}
use Rattle.jim_ast.specs.declared.names.NameId.{NameId}
use Rattle.link_rules.specs.Classes.{DeclaredField, DeclaredMethod}
use Rattle.link_rules.specs.Keys.{FieldKey, HasFieldKey, HasMethodKey, MethodKey, field_key, method_key}
use Rattle.link_rules.specs.Names.{TypeKey, base_key, text_of, type_key}
use Rattle.link_classes.specs.contracts.keys.FieldKeyInOrd.TheImpl as field_key_ord
use Rattle.link_classes.specs.contracts.keys.MethodKeyInOrd.TheImpl as method_key_ord
use Rattle.link_classes.specs.declared.keys.BaseIn.{BaseIn}
use Rattle.link_classes.specs.declared.keys.BaseIn.TheVariants as numbered
use Rattle.link_classes.specs.declared.keys.FieldKeyIn.{FieldKeyIn}
use Rattle.link_classes.specs.declared.keys.MethodKeyIn.{MethodKeyIn}
use Rattle.link_classes.specs.declared.keys.TypeIn.{TypeIn}
use Rattle.link_classes.specs.Keyed.{IsBaseWithin, IsFieldKeyWithin, IsMethodKeyWithin, IsTypeWithin, base_of, field_key_of, method_key_of, type_of}
use Rattle.link_classes.proofs.KeyOrders.{field_decides, method_decides}

module _ (texts : List (List ℕ)) (apart : IsApart texts) where
  one_name : (m n : NameId) → m.0 < length texts → n.0 < length texts → text_of texts m ≡ text_of texts n → m ≡ n
  one_name m n below_m below_n e =
      let same : m.0 ≡ n.0 = apart m.0 n.0 (text_of texts n) (slice_get-get_or texts m.0 [] below_m ∙ ap Some e) (slice_get-get_or texts n.0 [] below_n) in
      λ i. record { 0 = same i }

  one_base : (a b : BaseIn) → IsBaseWithin texts a → IsBaseWithin texts b → base_key texts (base_of a) ≡ base_key texts (base_of b) → a ≡ b
  one_base (numbered.Class m) (numbered.Class n) below_m below_n e =
      let names : text_of texts m ≡ text_of texts n = cc (e) in
      ap numbered.Class (one_name m n below_m below_n names)
  one_base numbered.Void numbered.Void within_a within_b e = refl
  one_base numbered.Boolean numbered.Boolean within_a within_b e = refl
  one_base numbered.Byte numbered.Byte within_a within_b e = refl
  one_base numbered.Short numbered.Short within_a within_b e = refl
  one_base numbered.Char numbered.Char within_a within_b e = refl
  one_base numbered.Int numbered.Int within_a within_b e = refl
  one_base numbered.Long numbered.Long within_a within_b e = refl
  one_base numbered.Float numbered.Float within_a within_b e = refl
  one_base numbered.Double numbered.Double within_a within_b e = refl
  one_base numbered.Unknown numbered.Unknown within_a within_b e = refl
  one_base numbered.NullType numbered.NullType within_a within_b e = refl
  one_base a b within_a within_b e = cc (e)

  one_type : (x y : TypeIn) → IsTypeWithin texts x → IsTypeWithin texts y → type_key texts (type_of x) ≡ type_key texts (type_of y) → x ≡ y
  one_type x y within_x within_y e =
      let bases = one_base x.base y.base within_x within_y (ap (λ (k : TypeKey). k.base) e) in
      let dims = ap (λ (k : TypeKey). k.dims) e in
      λ i. record { base = bases i; dims = dims i }

one_list : {A B : Type 0} (f : A → B) (W : A → Type 0) → ((x y : A) → W x → W y → f x ≡ f y → x ≡ y) → (xs ys : List A) → All W xs → All W ys → map f xs ≡ map f ys → xs ≡ ys
one_list f W one [] [] within_xs within_ys e = refl
one_list f W one [] (y ∷ ys) within_xs within_ys e = cc (e)
one_list f W one (x ∷ xs) [] within_xs within_ys e = cc (e)
one_list f W one (x ∷ xs) (y ∷ ys) within_xs within_ys e =
    let heads : f x ≡ f y = cc (e) in
    let tails : map f xs ≡ map f ys = cc (e) in
    let first = one x y (within_xs 0 x (omega arith)) (within_ys 0 y (omega arith)) heads in
    let rest = one_list f W one xs ys (All-tail W x xs within_xs) (All-tail W y ys within_ys) tails in
    cc (first, rest)

-- keys that are equal stand for one key
pub same_method : (texts : List (List ℕ)) (k q : MethodKeyIn) → eq_by_cmp (method_key_ord.ghosts).cmp k q ≡ true → method_key_of texts k ≡ method_key_of texts q
same_method texts k q h =
    let parts = (method_decides k q).0 h in
    λ i. record {
      name = text_of texts (parts.name i);
      params = map (λ t. type_key texts (type_of t)) (parts.params i);
      result = type_key texts (type_of (parts.result i));
      is_static = parts.is_static i;
    }

-- keys that stand for one key are equal
pub told_method : (texts : List (List ℕ)) → IsApart texts → (k q : MethodKeyIn) → IsMethodKeyWithin texts k → IsMethodKeyWithin texts q
    → method_key_of texts k ≡ method_key_of texts q → eq_by_cmp (method_key_ord.ghosts).cmp k q ≡ true
told_method texts apart k q within_k within_q e =
    let name = one_name texts apart k.name q.name within_k.name within_q.name (ap (λ (m : MethodKey). m.name) e) in
    let params = one_list (λ t. type_key texts (type_of t)) (IsTypeWithin texts) (one_type texts apart) k.params.items q.params.items within_k.params within_q.params (ap (λ (m : MethodKey). m.params) e) in
    let result = one_type texts apart k.result q.result within_k.result within_q.result (ap (λ (m : MethodKey). m.result) e) in
    (method_decides k q).1 (record { name = name; params = params; result = result; is_static = ap (λ (m : MethodKey). m.is_static) e })

pub same_field : (texts : List (List ℕ)) (k q : FieldKeyIn) → eq_by_cmp (field_key_ord.ghosts).cmp k q ≡ true → field_key_of texts k ≡ field_key_of texts q
same_field texts k q h = ap (field_key_of texts) ((field_decides k q).0 h)

pub told_field : (texts : List (List ℕ)) → IsApart texts → (k q : FieldKeyIn) → IsFieldKeyWithin texts k → IsFieldKeyWithin texts q
    → field_key_of texts k ≡ field_key_of texts q → eq_by_cmp (field_key_ord.ghosts).cmp k q ≡ true
told_field texts apart k q within_k within_q e =
    let name = one_name texts apart k.name q.name within_k.name within_q.name (ap (λ (m : FieldKey). m.name) e) in
    let type = one_type texts apart k.ty q.ty within_k.type within_q.type (ap (λ (m : FieldKey). m.type) e) in
    let is_static = ap (λ (m : FieldKey). m.is_static) e in
    (field_decides k q).1 (λ i. record { name = name i; ty = type i; is_static = is_static i })

-- what a method with a key is, and back
pub opens_method : (methods : List DeclaredMethod) (key : MethodKey) (n : ℕ) → HasMethodKey methods key n
    → (m : DeclaredMethod) × (slice_get methods n ≡ Some m) × (method_key m ≡ key)
opens_method methods key n h = (h.method, h.there, h.has)

pub makes_method : (methods : List DeclaredMethod) (key : MethodKey) (n : ℕ) (m : DeclaredMethod) → slice_get methods n ≡ Some m → method_key m ≡ key
    → HasMethodKey methods key n
makes_method methods key n m there has = record { method = m; there = there; has = has }

pub opens_field : (fields : List DeclaredField) (key : FieldKey) (n : ℕ) → HasFieldKey fields key n
    → (f : DeclaredField) × (slice_get fields n ≡ Some f) × (field_key f ≡ key)
opens_field fields key n h = (h.field, h.there, h.has)

pub makes_field : (fields : List DeclaredField) (key : FieldKey) (n : ℕ) (f : DeclaredField) → slice_get fields n ≡ Some f → field_key f ≡ key
    → HasFieldKey fields key n
makes_field fields key n f there has = record { field = f; there = there; has = has }
