-- The numbers of fields.
use Rattle.std.proofs.Common.{◌≡◌, ℕ, ◌+◌, ◌<◌, true, false, Some, List, [], ◌∷◌, ◌++◌, length, map, take, get_or, slice_get, sym, ap, ◌∙◌, arith}
use Rattle.std.specs.Prelude.{count_by, not}
use Rattle.std.specs.List.{range_with_len}
use Rattle.std.proofs.lemmas.List.FromFn.{get_or-map-range_with_len, length-map-range_with_len, map-range_with_len_more}
use Rattle.std.proofs.lemmas.List.Sums.{count_by_more_no, count_by_more_yes}
use Rattle.std.proofs.lemmas.Option.{get_or_from_slice_get}
use Rattle.lists.proofs.Places.{slice_get-below}
use Rattle.link_rules.specs.Classes.{DeclaredField}
use Rattle.link_rules.specs.Codes.{instance_number}
use Rattle.link_codes.specs.declared.fields.FieldNumber.{FieldNumber}
use Rattle.link_codes.specs.Fields.{field_numbers, number_at}

-- as many as there are fields
pub length-field_numbers : (fields : List DeclaredField) → length (field_numbers fields) ≡ length fields
length-field_numbers fields = length-map-range_with_len (number_at fields) 0 (length fields)

-- the numbers of a row
pub get_or-field_numbers : (numbers : List FieldNumber) (fields : List DeclaredField) (row : ℕ) (n : FieldNumber) → numbers ≡ field_numbers fields → row < length numbers → n ≡ get_or numbers row n
    → n ≡ number_at fields row
get_or-field_numbers numbers fields row n same below at =
    let counted : row < length fields = omega (arith, below, ap length same, length-field_numbers fields) in
    at ∙ ap (λ ns. get_or ns row n) same ∙ get_or-map-range_with_len (number_at fields) 0 (length fields) row row n counted (omega arith)

-- the numbers of one row more
pub numbers_more : (fields : List DeclaredField) (numbers now : List FieldNumber) (row instances statics : ℕ) → numbers ≡ map (number_at fields) (range_with_len 0 row)
    → now ≡ numbers ++ record { instance_field = instances + 1; static_field = statics } ∷ [] → instances ≡ count_by (λ f. not f.decl.is_static) (take row fields)
    → statics ≡ count_by (λ f. f.decl.is_static) (take row fields) → now ≡ map (number_at fields) (range_with_len 0 (row + 1))
numbers_more fields numbers now row instances statics so_far pushed is_instances is_statics =
    let made : ℕ → ℕ → FieldNumber = λ i s. record { instance_field = i; static_field = s } in
    let first : instances + 1 ≡ instance_number fields row = omega (arith, is_instances) in
    let last : made (instances + 1) statics ≡ number_at fields row = ap (λ i. made i statics) first ∙ ap (made (instance_number fields row)) is_statics in
    pushed ∙ ap (λ ns. ns ++ made (instances + 1) statics ∷ []) so_far ∙ ap (λ n. map (number_at fields) (range_with_len 0 row) ++ n ∷ []) last
    ∙ sym (map-range_with_len_more (number_at fields) 0 row row (omega arith))

-- how many come before the next row
module _ (fields : List DeclaredField) (row : ℕ) (f : DeclaredField) (there : slice_get fields row ≡ Some f) where
  -- the field is one of them
  below : row < length fields
  below = slice_get-below fields row f there

  -- the field is read there
  at : get_or fields row f ≡ f
  at = get_or_from_slice_get fields row f f there

  -- behind a static field
  pub after_static : f.decl.is_static ≡ true
      → (count_by (λ g. not g.decl.is_static) (take (row + 1) fields) ≡ count_by (λ g. not g.decl.is_static) (take row fields))
      × (count_by (λ g. g.decl.is_static) (take (row + 1) fields) ≡ count_by (λ g. g.decl.is_static) (take row fields) + 1)
  after_static is = (
    count_by_more_no (λ g. not g.decl.is_static) fields row f below (ap (λ (g : DeclaredField). not g.decl.is_static) at ∙ ap not is),
    count_by_more_yes (λ g. g.decl.is_static) fields row f below (ap (λ (g : DeclaredField). g.decl.is_static) at ∙ is),
  )

  -- behind an instance field
  pub after_instance : f.decl.is_static ≡ false
      → (count_by (λ g. not g.decl.is_static) (take (row + 1) fields) ≡ count_by (λ g. not g.decl.is_static) (take row fields) + 1)
      × (count_by (λ g. g.decl.is_static) (take (row + 1) fields) ≡ count_by (λ g. g.decl.is_static) (take row fields))
  after_instance is = (
    count_by_more_yes (λ g. not g.decl.is_static) fields row f below (ap (λ (g : DeclaredField). not g.decl.is_static) at ∙ ap not is),
    count_by_more_no (λ g. g.decl.is_static) fields row f below (ap (λ (g : DeclaredField). g.decl.is_static) at ∙ is),
  )
