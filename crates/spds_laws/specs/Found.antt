-- Meets as a solver finds them: a list that grows, whatever the order.
use Rattle.std.specs.Prelude.{◌≡◌, ℕ, List, Some, slice_get, take}
use Rattle.lists.specs.Lists.{Has}
use Rattle.link_rules.specs.Linked.{LinkedProgram}
use Rattle.link_sites.specs.declared.site.Site.{Site}
use Rattle.spds_rules.specs.declared.store.StoreAt.{StoreAt}
use Rattle.spds_rules.specs.Demand.{Asked}
use Rattle.spds_rules.specs.Systems.{MayStore, Meets}

-- an object of one site, one of another that it is stored into, and the store
pub record Triple : Type 0 where
  pub object : Site
  pub base : Site
  pub store : StoreAt

-- the triples of a list, as a relation
abbrev pub Listed : List Triple → Site → Site → StoreAt → Type 0
Listed triples o base s = Has triples (record { object = o; base = base; store = s })

-- each triple may be stored over those before it in the list
abbrev pub AreFound : LinkedProgram → Asked → List Triple → Type 0
AreFound p q triples = (i : ℕ) (t : Triple) → slice_get triples i ≡ Some t → MayStore p q (Listed (take i triples)) t.object t.base t.store

-- what may be stored over the list is in it
abbrev pub IsClosed : LinkedProgram → Asked → List Triple → Type 0
IsClosed p q triples = (o base : Site) (s : StoreAt) → MayStore p q (Listed triples) o base s → Listed triples o base s

-- what is found is met
abbrev pub FoundAreMeets : Type 0
FoundAreMeets = (p : LinkedProgram) (q : Asked) (triples : List Triple) → AreFound p q triples
    → (o base : Site) (s : StoreAt) → Listed triples o base s → Meets p q o base s

-- where nothing is left to find, all meets are found
abbrev pub ClosedHoldsTheMeets : Type 0
ClosedHoldsTheMeets = (p : LinkedProgram) (q : Asked) (triples : List Triple) → IsClosed p q triples
    → (o base : Site) (s : StoreAt) → Meets p q o base s → Listed triples o base s
