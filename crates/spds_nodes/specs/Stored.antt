-- The stores of one field, and their order.
use Rattle.std.specs.Prelude.{◌≡◌, ℕ, ◌+◌, ◌<◌, ◌⊎◌, List, AllPairs, Some}
use Rattle.lists.specs.Lists.{Has}
use Rattle.link_rules.specs.declared.code.Arg.{Arg}
use Rattle.link_rules.specs.declared.code.Code.{Code}
use Rattle.link_rules.specs.Linked.{LinkedProgram}
use Rattle.link_sites.specs.declared.place.Place.{Place}
use Rattle.link_sites.specs.Places.{ComesBefore}
use Rattle.spds_rules.specs.declared.node.Var.{Var}
use Rattle.spds_rules.specs.declared.node.Var.TheVariants.{Local, Nested}
use Rattle.spds_rules.specs.declared.store.StoreAt.{StoreAt}
use Rattle.spds_rules.specs.Nodes.{arg_var, at}
use Rattle.spds_rules.specs.Stores.{IsStore, StoresInto, level_var}
use Rattle.spds_nodes.specs.Added.{IsAdded, Over}

-- the stores of the program into the instance field, or for 0 into elements of arrays
abbrev pub IsStoreOf : LinkedProgram → ℕ → StoreAt → Type 0
IsStoreOf p field s = IsStore p s × (s.field ≡ field)

-- those at the place
abbrev pub IsStoreAt : LinkedProgram → ℕ → Place → StoreAt → Type 0
IsStoreAt p field place s = IsStoreOf p field s × (s.place ≡ place)

-- both store inner arrays, the first those of a level outside the other's
abbrev pub AreOfLevels : StoreAt → StoreAt → Type 0
AreOfLevels a b = (i : ℕ) × (j : ℕ) × (a.arg.var ≡ Nested i) × (b.arg.var ≡ Nested j) × (i < j)

-- the order of stores: by place, and at one place, which only arrays of arrays have several stores at, by level
abbrev pub StorePrecedes : StoreAt → StoreAt → Type 0
StorePrecedes a b = ComesBefore a.place b.place ⊎ ((a.place ≡ b.place) × AreOfLevels a b)

-- the store at a place
abbrev pub store_at : Place → ℕ → Var → Var → StoreAt
store_at place field base arg = record { place = place; field = field; base = at place base; arg = at place arg }

-- the store of what the argument names into what the local holds
abbrev pub IsLocalStore : Place → ℕ → ℕ → Arg → StoreAt → Type 0
IsLocalStore place field base arg s = (stored : Var) × (arg_var arg ≡ Some stored) × (s ≡ store_at place field (Local base) stored)

-- the store of the arrays of a level into those of the level outside it
abbrev pub IsLevelStore : Place → ℕ → StoreAt → Type 0
IsLevelStore place inner s = (outer : ℕ) × (inner ≡ outer + 1) × (s ≡ store_at place 0 (level_var outer) (Nested inner))

abbrev pub IsInnerStore : Place → ℕ → StoreAt → Type 0
IsInnerStore place levels = Over (λ inner. inner < levels) (IsLevelStore place)

-- what the statement stores into the field
abbrev pub IsStoredBy : Place → ℕ → Code → StoreAt → Type 0
IsStoredBy place field c s = (base : Var) × (arg : Var) × StoresInto c field base arg × (s ≡ store_at place field base arg)

-- the stores of a place are added: they are behind those of earlier places, in order
pub record IsFiled (place : Place) (P : StoreAt → Type 0) (old new : List StoreAt) : Type 0 where
  pub added : IsAdded P old new
  pub ordered : AllPairs StorePrecedes old → ((s : StoreAt) → Has old s → ComesBefore s.place place) → AllPairs StorePrecedes new
