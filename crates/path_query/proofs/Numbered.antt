-- The fields of a word, number by number.
use Rattle.std.proofs.Common.{◌≡◌, ℕ, zero, suc, ◌<◌, List, [], ◌∷◌, Some, length, map, slice_get, get_or, refl, arith}
use Rattle.std.specs.List.{AllZip}
use Rattle.link_rules.specs.Linked.{LinkedProgram}
use Rattle.boom_words.specs.Fields.{AreFields, field_name}
use Rattle.boom_words.specs.declared.fields.FieldWord.{FieldWord}
use Rattle.boom_words.proofs.Elements.{zip_map}
use Rattle.path_query.specs.Fields.{ArePathFields, IsFieldAt, IsNoField, LacksField}

-- the part's field has the number
abbrev pub Numbers : LinkedProgram → FieldWord → ℕ → Type 0
Numbers p part field = IsFieldAt p (field_name part) field

-- the numbers of all parts are those of the path
pub all_numbered : (p : LinkedProgram) (word : List ℕ) (parts : List FieldWord) (fields : List ℕ) → AreFields word (map field_name parts)
    → AllZip (Numbers p) parts fields → ArePathFields p word fields
all_numbered p word parts fields spelled zip = record {
  names = map field_name parts;
  spelled = spelled;
  numbers = zip_map field_name (IsFieldAt p) parts fields zip;
}

named_at : (parts : List FieldWord) (i : ℕ) (d : FieldWord) → i < length parts → slice_get (map field_name parts) i ≡ Some (field_name (get_or parts i d))
named_at [] i d less = absurd (omega arith)
named_at (x ∷ xs) zero d less = refl
named_at (x ∷ xs) (suc i) d less = named_at xs i d (omega arith)

-- a word lacks a field where one of its parts has none
pub one_lacks : (p : LinkedProgram) (word : List ℕ) (parts : List FieldWord) (i : ℕ) (d : FieldWord) → AreFields word (map field_name parts) → i < length parts
    → IsNoField p (field_name (get_or parts i d)) → LacksField p word
one_lacks p word parts i d spelled less none = record {
  names = map field_name parts;
  spelled = spelled;
  name = field_name (get_or parts i d);
  among = (i, named_at parts i d less);
  none = none;
}
