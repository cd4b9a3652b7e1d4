-- Tables from keys to the numbers of the first members that have them.
use Rattle.std.specs.Prelude.{ℕ, List, Option, Some, None}
use Rattle.std.specs.BTreeMap.{get}
use Rattle.lists.specs.Lists.{IsLeast}
use Rattle.link_rules.specs.Classes.{DeclaredField, DeclaredMethod}
use Rattle.link_rules.specs.Keys.{HasFieldKey, HasMethodKey}
use Rattle.link_classes.specs.contracts.keys.FieldKeyInOrd.TheImpl as field_key_ord
use Rattle.link_classes.specs.contracts.keys.MethodKeyInOrd.TheImpl as method_key_ord
use Rattle.link_classes.specs.declared.keys.FieldKeyIn.{FieldKeyIn}
use Rattle.link_classes.specs.declared.keys.MethodKeyIn.{MethodKeyIn}
use Rattle.link_classes.specs.declared.tables.FieldKeys.{FieldKeys}
use Rattle.link_classes.specs.declared.tables.MethodKeys.{MethodKeys}
use Rattle.link_classes.specs.Keyed.{IsFieldKeyWithin, IsMethodKeyWithin, field_key_of, method_key_of}

-- the first number with a fact, if there is one
abbrev pub IsFirst : (ℕ → Type 0) → Option ℕ → Type 0
IsFirst P (Some n) = IsLeast P n
IsFirst P None = (n : ℕ) → P n → ⊥

-- the number that is kept with a key
abbrev pub method_at : MethodKeys → MethodKeyIn → Option ℕ
method_at t k = get (method_key_ord.ghosts).cmp t.numbers k

abbrev pub field_at : FieldKeys → FieldKeyIn → Option ℕ
field_at t k = get (field_key_ord.ghosts).cmp t.numbers k

-- for each key that names can have, the first of these methods with it
abbrev pub KnowsMethods : List (List ℕ) → List DeclaredMethod → MethodKeys → Type 0
KnowsMethods texts methods t = (k : MethodKeyIn) → IsMethodKeyWithin texts k → IsFirst (HasMethodKey methods (method_key_of texts k)) (method_at t k)

-- the same of fields
abbrev pub KnowsFields : List (List ℕ) → List DeclaredField → FieldKeys → Type 0
KnowsFields texts fields t = (k : FieldKeyIn) → IsFieldKeyWithin texts k → IsFirst (HasFieldKey fields (field_key_of texts k)) (field_at t k)
