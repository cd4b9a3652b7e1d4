-- The rows that a tree is built from, and what they say of its classes.
use Rattle.std.specs.Prelude.{◌≡◌, ℕ, ◌<◌, ◌≤◌, ◌⊎◌, ◌==◌, List, Contains, Some, None, filter, map, length, slice_get, All}
use Rattle.class_rules.specs.declared.rows.ClassRow.{ClassRow}
use Rattle.class_rules.specs.declared.rows.MethodRow.{MethodRow}
use Rattle.class_rules.specs.declared.rows.FieldRow.{FieldRow}
use Rattle.class_rules.specs.Paths.{Path, ProperPath}

-- classes, pairs of a class and one of its interfaces, methods and fields: a class is named by its index
pub record Rows : Type 0 where
  pub classes : List ClassRow
  pub implements : List (ℕ × ℕ)
  pub methods : List MethodRow
  pub fields : List FieldRow

-- the rows with these parts
abbrev pub rows_of : List ClassRow → List (ℕ × ℕ) → List MethodRow → List FieldRow → Rows
rows_of classes implements methods fields = record { classes = classes; implements = implements; methods = methods; fields = fields }

-- each row names a class that exists in its first part
pub record NameClasses (rows : Rows) : Type 0 where
  pub implements : All (λ p. p.0 < length rows.classes) rows.implements
  pub methods : All (λ m. m.class < length rows.classes) rows.methods
  pub fields : All (λ f. f.class < length rows.classes) rows.fields

-- the row of the class names b as its parent
pub record HasParent (classes : List ClassRow) (a b : ℕ) : Type 0 where
  pub row : ClassRow
  pub there : slice_get classes a ≡ Some row
  pub names : row.parent ≡ Some b

-- the row of the class names no parent
pub record HasNoParent (classes : List ClassRow) (a : ℕ) : Type 0 where
  pub row : ClassRow
  pub there : slice_get classes a ≡ Some row
  pub names : row.parent ≡ None

-- b is one of the interfaces of a
abbrev pub HasInterface : List (ℕ × ℕ) → ℕ → ℕ → Type 0
HasInterface implements a b = Contains implements (a, b)

-- b is the parent of a or one of its interfaces
abbrev pub Step : List ClassRow → List (ℕ × ℕ) → ℕ → ℕ → Type 0
Step classes implements a b = HasParent classes a b ⊎ HasInterface implements a b

-- b is reached from a by parents and interfaces in any number of steps, none included: subtyping among the classes and
-- interfaces of the Java Language Specification
abbrev pub Sub : Rows → ℕ → ℕ → Type 0
Sub rows = Path (Step rows.classes rows.implements)

-- the parent of the class isn't a class
abbrev pub ParentIsUnknown : List ClassRow → ℕ → Type 0
ParentIsUnknown classes a = (b : ℕ) × HasParent classes a b × (length classes ≤ b)

-- a parent or an interface of the class isn't a class
abbrev pub NamesUnknown : List ClassRow → List (ℕ × ℕ) → ℕ → Type 0
NamesUnknown classes implements a = (b : ℕ) × Step classes implements a b × (length classes ≤ b)

-- the class is reached from itself by one or more steps
abbrev pub IsOwnAncestor : List ClassRow → List (ℕ × ℕ) → ℕ → Type 0
IsOwnAncestor classes implements a = ProperPath (Step classes implements) a a

-- the interfaces of a class in order
abbrev pub interfaces_of : List (ℕ × ℕ) → ℕ → List ℕ
interfaces_of implements class = map (λ p. p.1) (filter (λ p. p.0 == class) implements)
