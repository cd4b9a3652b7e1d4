-- Keys whose names are numbers among all names, and what they stand for.
use Rattle.std.specs.Prelude.{◌≡◌, ℕ, ◌<◌, List, Bool, All, length, map}
use Rattle.jim_ast.specs.declared.names.NameId.{NameId}
use Rattle.jim_ast.specs.declared.syntax.Base.{Base}
use Rattle.jim_ast.specs.declared.syntax.Base.TheVariants as base
use Rattle.jim_ast.specs.declared.syntax.Ty.{Ty}
use Rattle.link_rules.specs.Keys.{FieldKey, MethodKey}
use Rattle.link_rules.specs.Names.{text_of, type_key}
use Rattle.link_classes.specs.declared.keys.BaseIn.{BaseIn}
use Rattle.link_classes.specs.declared.keys.BaseIn.TheVariants as numbered
use Rattle.link_classes.specs.declared.keys.FieldKeyIn.{FieldKeyIn}
use Rattle.link_classes.specs.declared.keys.MethodKeyIn.{MethodKeyIn}
use Rattle.link_classes.specs.declared.keys.TypeIn.{TypeIn}

-- the base as it is written, with its class by the number among all names
abbrev pub base_of : BaseIn → Base
base_of numbered.Void = base.Void
base_of numbered.Boolean = base.Boolean
base_of numbered.Byte = base.Byte
base_of numbered.Short = base.Short
base_of numbered.Char = base.Char
base_of numbered.Int = base.Int
base_of numbered.Long = base.Long
base_of numbered.Float = base.Float
base_of numbered.Double = base.Double
base_of numbered.Unknown = base.Unknown
base_of numbered.NullType = base.NullType
base_of (numbered.Class name) = base.Class name

abbrev pub type_of : TypeIn → Ty
type_of t = record { base = base_of t.base; dims = t.dims }

-- its class, if it has one, is among all names
abbrev pub IsBaseWithin : List (List ℕ) → BaseIn → Type 0
IsBaseWithin texts (numbered.Class name) = name.0 < length texts
IsBaseWithin texts _ = Unit {0}

abbrev pub IsTypeWithin : List (List ℕ) → TypeIn → Type 0
IsTypeWithin texts t = IsBaseWithin texts t.base

-- the key with these parts
abbrev pub method_key_by : List (List ℕ) → NameId → List Ty → Ty → Bool → MethodKey
method_key_by names name params result is_static =
    record { name = text_of names name; params = map (type_key names) params; result = type_key names result; is_static = is_static }

abbrev pub field_key_by : List (List ℕ) → NameId → Ty → Bool → FieldKey
field_key_by names name type is_static = record { name = text_of names name; type = type_key names type; is_static = is_static }

-- what a key of a method stands for
abbrev pub method_key_of : List (List ℕ) → MethodKeyIn → MethodKey
method_key_of texts k =
    record {
      name = text_of texts k.name;
      params = map (λ t. type_key texts (type_of t)) k.params.items;
      result = type_key texts (type_of k.result);
      is_static = k.is_static;
    }

pub record IsMethodKeyWithin (texts : List (List ℕ)) (k : MethodKeyIn) : Type 0 where
  pub name : k.name.0 < length texts
  pub params : All (IsTypeWithin texts) k.params.items
  pub result : IsTypeWithin texts k.result

-- what a key of a field stands for
abbrev pub field_key_of : List (List ℕ) → FieldKeyIn → FieldKey
field_key_of texts k = record { name = text_of texts k.name; type = type_key texts (type_of k.ty); is_static = k.is_static }

pub record IsFieldKeyWithin (texts : List (List ℕ)) (k : FieldKeyIn) : Type 0 where
  pub name : k.name.0 < length texts
  pub type : IsTypeWithin texts k.ty

-- the key of numbers stands for this key
pub record IsMethodKeyIn (texts : List (List ℕ)) (key : MethodKey) (k : MethodKeyIn) : Type 0 where
  pub stands : method_key_of texts k ≡ key
  pub within : IsMethodKeyWithin texts k

pub record IsFieldKeyIn (texts : List (List ℕ)) (key : FieldKey) (k : FieldKeyIn) : Type 0 where
  pub stands : field_key_of texts k ≡ key
  pub within : IsFieldKeyWithin texts k
