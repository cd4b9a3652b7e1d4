-- Names by their bytes, since each program numbers its names on its own.
use Rattle.std.specs.Prelude.{ℕ, suc, zero, ◌++◌, List, [], codes, map, slice_index_or}
use Rattle.std.specs.List.{join_with_byte}
use Rattle.jim_ast.specs.declared.names.NameId.{NameId}
use Rattle.jim_ast.specs.declared.syntax.Ty.{Ty}
use Rattle.jim_ast.specs.declared.syntax.Base.{Base}
use Rattle.jim_ast.specs.declared.syntax.Base.TheVariants.{Void, Boolean, Byte, Short, Char, Int, Long, Float, Double, Unknown, NullType, Class}

-- the bytes of a name of a program with these names
abbrev pub text_of : List (List ℕ) → NameId → List ℕ
text_of names name = slice_index_or names name.0 []

-- a type without its brackets, a class by its bytes. The type `int` isn't the class `'int'`
pub data BaseKey : Type 0 where
  built_in : Base → BaseKey
  named : List ℕ → BaseKey

-- a type without brackets, with its class by bytes
abbrev pub base_key : List (List ℕ) → Base → BaseKey
base_key names (Class name) = named (text_of names name)
base_key names base = built_in base

-- a type, a class by its bytes
pub record TypeKey : Type 0 where
  pub base : BaseKey
  pub dims : ℕ

-- a type, with its class by bytes
abbrev pub type_key : List (List ℕ) → Ty → TypeKey
type_key names ty = record { base = base_key names ty.base; dims = ty.dims }

-- a type's text without its brackets
abbrev pub base_text : List (List ℕ) → Base → List ℕ
base_text names Void = codes "void"
base_text names Boolean = codes "boolean"
base_text names Byte = codes "byte"
base_text names Short = codes "short"
base_text names Char = codes "char"
base_text names Int = codes "int"
base_text names Long = codes "long"
base_text names Float = codes "float"
base_text names Double = codes "double"
base_text names Unknown = codes "unknown"
base_text names NullType = codes "null_type"
base_text names (Class name) = text_of names name

-- so many pairs of brackets
abbrev pub brackets : ℕ → List ℕ
brackets zero = []
brackets (suc n) = codes "[]" ++ brackets n

-- a type's text, with names unquoted
abbrev pub type_text : List (List ℕ) → Ty → List ℕ
type_text names ty = base_text names ty.base ++ brackets ty.dims

-- types' texts with commas between them and no blank
abbrev pub types_text : List (List ℕ) → List Ty → List ℕ
types_text names types = join_with_byte 44 (map (type_text names) types)
