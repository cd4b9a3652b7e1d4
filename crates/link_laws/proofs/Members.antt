-- What look-ups find among the members that are declared.
use Rattle.std.proofs.Common.{◌≡◌, ℕ, ◌+◌, ◌<◌, ◌≤◌, Bool, true, false, not, cond, Some, List, length, slice_get, take, count_by, refl, sym, ap, ◌∙◌, subst, inl, inr, arith}
use Rattle.std.proofs.lemmas.List.Sums.{count_by_more_yes, sum_by-take-le}
use Rattle.std.proofs.lemmas.Option.{get_or_from_slice_get}
use Rattle.class_rules.specs.Lookups.{Declared, FieldOf, Resolve}
use Rattle.class_rules.specs.declared.rows.MethodRow.{MethodRow}
use Rattle.class_rules.proofs.LawFacts.{look_up_finds}
use Rattle.class_rules.proofs.Selected.{selection_finds}
use Rattle.lists.proofs.Places.{slice_get-below}
use Rattle.link_rules.specs.Classes.{DeclaredField, DeclaredMethod, fields_of, methods_of}
use Rattle.link_rules.specs.Codes.{instance_number, static_number}
use Rattle.link_rules.specs.Keys.{FieldKey, HasMethodKey, IsFieldKeyNumber, IsMethodKeyNumber, MethodKey, field_key, method_key}
use Rattle.link_rules.specs.World.{AreRows, IsFieldRow, IsMethodRow, World}
use Rattle.link_laws.proofs.Lists.{each_right, same_place}

-- a method with the number of a key has the key
pub method_key_is : (methods : List DeclaredMethod) (k : MethodKey) (n row : ℕ) (m : DeclaredMethod) → slice_get methods row ≡ Some m
    → IsMethodKeyNumber methods (method_key m) n → IsMethodKeyNumber methods k n → method_key m ≡ k
method_key_is methods k n row m there own given = elim own [
  | inl a ↦ elim given [
    | inl b ↦ sym a.holds.has ∙ ap method_key (same_place methods n a.holds.method b.holds.method a.holds.there b.holds.there) ∙ b.holds.has
    | inr b ↦ let below : n < length methods = slice_get-below methods n a.holds.method a.holds.there in absurd (omega (arith, b.0))
  ]
  | inr a ↦ absurd (a.1 row (record { method = m; there = there; has = refl }))
]

-- where a method has the key, the key's number is that of a method with it
pub method_key_has : (methods : List DeclaredMethod) (k : MethodKey) (n row : ℕ) → HasMethodKey methods k row → IsMethodKeyNumber methods k n
    → HasMethodKey methods k n
method_key_has methods k n row has given = elim given [ inl a ↦ a.holds | inr a ↦ absurd (a.1 row has) ]

-- where it isn't so that no method has the key, too
pub method_key_unless : (methods : List DeclaredMethod) (k : MethodKey) (n : ℕ) → (((row : ℕ) → HasMethodKey methods k row → ⊥) → ⊥)
    → IsMethodKeyNumber methods k n → HasMethodKey methods k n
method_key_unless methods k n some given = elim given [ inl a ↦ a.holds | inr a ↦ absurd (some a.1) ]

-- a field with the number of a key has the key
pub field_key_is : (fields : List DeclaredField) (k : FieldKey) (n row : ℕ) (f : DeclaredField) → slice_get fields row ≡ Some f
    → IsFieldKeyNumber fields (field_key f) n → IsFieldKeyNumber fields k n → field_key f ≡ k
field_key_is fields k n row f there own given = elim own [
  | inl a ↦ elim given [
    | inl b ↦ sym a.holds.has ∙ ap field_key (same_place fields n a.holds.field b.holds.field a.holds.there b.holds.there) ∙ b.holds.has
    | inr b ↦ let below : n < length fields = slice_get-below fields n a.holds.field a.holds.there in absurd (omega (arith, b.0))
  ]
  | inr a ↦ absurd (a.1 row (record { field = f; there = there; has = refl }))
]

module _ (w : World) (rows : AreRows w.classes w.rows) where
  -- the method of a row with the number of a key
  pub method_of_row : (k : MethodKey) (n row : ℕ) (r : MethodRow) → slice_get w.rows.methods row ≡ Some r → r.key ≡ n
      → IsMethodKeyNumber (methods_of w.classes) k n
      → HasMethodKey (methods_of w.classes) k row
  method_of_row k n row r there e given =
      let m = each_right (IsMethodRow (methods_of w.classes)) (methods_of w.classes) w.rows.methods row r rows.method_rows there in
      let own = subst (IsMethodKeyNumber (methods_of w.classes) (method_key m.0)) e m.2.key in
      record { method = m.0; there = m.1; has = method_key_is (methods_of w.classes) k n row m.0 m.1 own given }

  -- what is found by a key has it
  pub method_found : (k : MethodKey) (class n row : ℕ) → Resolve w.rows class n (Some row) → IsMethodKeyNumber (methods_of w.classes) k n
      → HasMethodKey (methods_of w.classes) k row
  method_found k class n row finds given = let above = selection_finds w.rows class n row finds in method_of_row k n row above.method above.there above.has_key given

  -- the key of a declared method is that of some method
  pub method_declared : (k : MethodKey) (class n : ℕ) → Declared w.rows class n → IsMethodKeyNumber (methods_of w.classes) k n
      → HasMethodKey (methods_of w.classes) k n
  method_declared k class n d given = method_key_has (methods_of w.classes) k n d.row (method_of_row k n d.row d.method d.there d.has_key given) given

  -- a field that is found has the key
  pub field_found : (k : FieldKey) (class n row : ℕ) → FieldOf w.rows class n (Some row) → IsFieldKeyNumber (fields_of w.classes) k n
      → (f : DeclaredField) × (slice_get (fields_of w.classes) row ≡ Some f) × (field_key f ≡ k)
  field_found k class n row finds given =
      let above = look_up_finds w.rows class n row finds in
      let f = each_right (IsFieldRow (fields_of w.classes)) (fields_of w.classes) w.rows.fields row above.field rows.field_rows above.there in
      let own = subst (IsFieldKeyNumber (fields_of w.classes) (field_key f.0)) above.has_key f.2.key in
      (f.0, f.1, field_key_is (fields_of w.classes) k n row f.0 f.1 own given)

-- before an element that passes, fewer pass than in all
count_below : {X : Type 0} (t : X → Bool) (xs : List X) (i : ℕ) (x : X) → slice_get xs i ≡ Some x → t x ≡ true → count_by t (take i xs) < count_by t xs
count_below t xs i x e passes =
    let more = count_by_more_yes t xs i x (slice_get-below xs i x e) (ap t (get_or_from_slice_get xs i x x e) ∙ passes) in
    let most = sum_by-take-le (λ x. cond (t x) 1 0) xs (i + 1) in
    omega (arith, more, most)

-- the number of an instance field is at most their count
pub instance_number-le : (fields : List DeclaredField) (row : ℕ) (f : DeclaredField) → slice_get fields row ≡ Some f → f.decl.is_static ≡ false
    → instance_number fields row ≤ count_by (λ f. not f.decl.is_static) fields
instance_number-le fields row f e flag = let below = count_below (λ (f : DeclaredField). not f.decl.is_static) fields row f e (ap not flag) in omega (arith, below)

-- the number of a static field is below their count
pub static_number-lt : (fields : List DeclaredField) (row : ℕ) (f : DeclaredField) → slice_get fields row ≡ Some f → f.decl.is_static ≡ true
    → static_number fields row < count_by (λ f. f.decl.is_static) fields
static_number-lt fields row f e flag = count_below (λ (f : DeclaredField). f.decl.is_static) fields row f e flag
