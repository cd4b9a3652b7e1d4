-- The fields that a word names, by their numbers.
use Rattle.std.specs.Prelude.{◌≡◌, ℕ, ◌⊎◌, List}
use Rattle.std.specs.List.{AllZip}
use Rattle.lists.specs.Lists.{IsLeast, Has}
use Rattle.link_rules.specs.Linked.{LinkedProgram}
use Rattle.link_rules.specs.Accessed.{IsFieldNamed, linked_class_names}
use Rattle.link_sites.specs.Sites.{IsNamedClass}
use Rattle.boom_words.specs.Fields.{AreFields, FieldName, cells, named}

-- the field has the number: 0 for the cells of arrays, else that of the first instance field which the class itself declares under the name
abbrev pub IsFieldAt : LinkedProgram → FieldName → ℕ → Type 0
IsFieldAt p cells field = field ≡ 0
IsFieldAt p (named class name) field = (number : ℕ) × IsNamedClass p class number × IsLeast (IsFieldNamed p number name) field

-- the field isn't there: its class isn't declared, or declares no instance field of the name itself
abbrev pub IsNoField : LinkedProgram → FieldName → Type 0
IsNoField p cells = ⊥
IsNoField p (named class name) = (Has (linked_class_names p.classes) class → ⊥)
    ⊎ ((number : ℕ) × IsNamedClass p class number × ((field : ℕ) → IsFieldNamed p number name field → ⊥))

-- the word spells fields with these numbers
pub record ArePathFields (p : LinkedProgram) (word : List ℕ) (fields : List ℕ) : Type 0 where
  pub names : List FieldName
  pub spelled : AreFields word names
  pub numbers : AllZip (IsFieldAt p) names fields

-- the word spells fields, and one of them isn't there
pub record LacksField (p : LinkedProgram) (word : List ℕ) : Type 0 where
  pub names : List FieldName
  pub spelled : AreFields word names
  pub name : FieldName
  pub among : Has names name
  pub none : IsNoField p name
