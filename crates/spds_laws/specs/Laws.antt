-- The laws of the two systems over all meets.
use Rattle.std.specs.Prelude.{ℕ, ◌++◌, List, ◌∷◌}
use Rattle.link_rules.specs.Linked.{LinkedProgram}
use Rattle.link_sites.specs.declared.place.Place.{Place}
use Rattle.link_sites.specs.declared.site.Site.{Site}
use Rattle.spds_rules.specs.declared.node.Node.{Node}
use Rattle.spds_rules.specs.declared.store.StoreAt.{StoreAt}
use Rattle.spds_rules.specs.Demand.{Asked}
use Rattle.spds_rules.specs.Systems.{Calls, Fields, MayStore, Meets}

-- where o meets base, and base meets further, o meets further by the same store
abbrev pub MeetsCompose : Type 0
MeetsCompose = (p : LinkedProgram) (q : Asked) (o base further : Site) (s later : StoreAt) → Meets p q o base s → Meets p q base further later
    → Meets p q o further later

-- where o meets base, each call string of base is one of o
abbrev pub StringsAreIncluded : Type 0
StringsAreIncluded = (p : LinkedProgram) (q : Asked) (o base : Site) (s : StoreAt) → Meets p q o base s → (n : Node) (string : List Place)
    → Calls p q base n string → Calls p q o n string

-- where o meets base, a word that leads to base, the field of the store and a word that leads from what is stored to o lead to o
abbrev pub WordsCompose : Type 0
WordsCompose = (p : LinkedProgram) (q : Asked) (o base : Site) (s : StoreAt) → Meets p q o base s → (n : Node) (word rest : List ℕ)
    → Fields p q base n word → Fields p q o s.arg rest → Fields p q o n (word ++ s.field ∷ rest)

-- what may be stored over the meets is one of them
abbrev pub MeetsAreClosed : Type 0
MeetsAreClosed = (p : LinkedProgram) (q : Asked) (o base : Site) (s : StoreAt) → MayStore p q (Meets p q) o base s → Meets p q o base s
