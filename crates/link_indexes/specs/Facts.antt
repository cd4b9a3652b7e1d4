-- What an index lists a statement for.
use Rattle.std.specs.Prelude.{◌≡◌, ℕ, ◌<◌}
use Rattle.lists.specs.Lists.{Has}
use Rattle.link_rules.specs.declared.code.Code.{Code}
use Rattle.link_rules.specs.declared.code.Code.TheVariants.{NewMulti, Store, StoreCell, StoreStatic, Call}
use Rattle.link_rules.specs.Flow.{IsRaised, IsReturn}
use Rattle.link_indexes.specs.declared.facts.Key.{Key}
use Rattle.link_indexes.specs.declared.facts.Key.TheVariants as key
use Rattle.link_indexes.specs.declared.facts.Kind.{Kind}
use Rattle.link_indexes.specs.declared.facts.Kind.TheVariants as kind

-- a call that may run the method
abbrev pub Calls : ℕ → Code → Type 0
Calls target (Call to mode class key receiver args targets) = Has targets target
Calls target _ = ⊥

-- a store into the instance field. The number 0 stands for the elements of arrays, into which inner arrays are stored where an array of arrays is made
abbrev pub Stores : ℕ → Code → Type 0
Stores field (Store base number arg) = field ≡ number
Stores field (StoreCell base arg) = field ≡ 0
Stores field (NewMulti to levels) = (field ≡ 0) × (1 < levels)
Stores field _ = ⊥

-- a store into the static field
abbrev pub StoresStatic : ℕ → Code → Type 0
StoresStatic field (StoreStatic number arg) = field ≡ number
StoresStatic field _ = ⊥

-- the statement has the number, as a key of this sort
abbrev pub HasKey : Key → ℕ → Code → Type 0
HasKey key.Target number c = Calls number c
HasKey key.Stored number c = Stores number c
HasKey key.StaticStored number c = StoresStatic number c

-- the statement is of this kind
abbrev pub IsOfKind : Kind → Code → Type 0
IsOfKind kind.Returns c = IsReturn c
IsOfKind kind.Raised c = IsRaised c
