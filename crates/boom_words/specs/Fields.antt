-- Paths of fields, as a word spells them: 1 to 4 parts with a comma between each two. The spelling is this project's own.
use Rattle.std.specs.Prelude.{◌≡◌, ◌≢◌, ◌==◌, ℕ, ◌<◌, ◌≤◌, List, ◌∷◌, ◌++◌, All, codes, length, map}
use Rattle.std.specs.Borrow.{Bor}
use Rattle.std.specs.Char.{IsNotAsciiWhitespace}
use Rattle.std.specs.List.{AllZip, slice_split}
use Rattle.boom_words.specs.declared.fields.FieldWord.{FieldWord}
use Rattle.boom_words.specs.declared.fields.FieldWord.TheVariants as word

-- a field: the cells of an array, or the field that a class declares under a name
pub data FieldName : Type 0 where
  cells : FieldName
  named : List ℕ → List ℕ → FieldName

-- a character of a class or of a name: no blank (space, tab, line feed, carriage return, form feed), comma or colon
abbrev pub IsPlain : ℕ → Type 0
IsPlain b = IsNotAsciiWhitespace b × (b ≢ 44) × (b ≢ 58)

-- a class or a name has a character, and all are plain
pub record IsPlainName (name : List ℕ) : Type 0 where
  pub some : 0 < length name
  pub plain : All IsPlain name

-- the part is the class and the name with a colon between them
pub record IsNamedField (part class name : List ℕ) : Type 0 where
  pub is_text : part ≡ class ++ 58 ∷ name
  pub is_class : IsPlainName class
  pub is_name : IsPlainName name

-- the part spells the field
abbrev pub SpellsField : List ℕ → FieldName → Type 0
SpellsField part cells = part ≡ codes "[]"
SpellsField part (named class name) = IsNamedField part class name

-- the parts of a word between its commas
abbrev pub field_parts : List ℕ → List (List ℕ)
field_parts word = slice_split (λ b. b == 44) word

-- the parts of the word are these fields, four at most
pub record AreFields (word : List ℕ) (fields : List FieldName) : Type 0 where
  pub spelled : AllZip SpellsField (field_parts word) fields
  pub few : length fields ≤ 4

-- the field that a part is read as
abbrev pub field_name : FieldWord → FieldName
field_name word.Cells = cells
field_name (word.Named class name) = named class.now name.now

-- what the parts are
abbrev pub texts : List (Bor (List ℕ)) → List (List ℕ)
texts parts = map (λ part. part.now) parts
