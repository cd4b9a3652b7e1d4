-- How meets, call strings and words compose, in one program.
use Rattle.std.specs.Prelude.{ℕ, ◌++◌, List, ◌∷◌}
use Rattle.link_rules.specs.Linked.{LinkedProgram}
use Rattle.link_sites.specs.declared.place.Place.{Place}
use Rattle.link_sites.specs.declared.site.Site.{Site}
use Rattle.spds_rules.specs.declared.node.Node.{Node}
use Rattle.spds_rules.specs.declared.store.StoreAt.{StoreAt}
use Rattle.spds_rules.specs.Demand.{Asked}
use Rattle.spds_rules.specs.Systems.{Calls, Fields, Meets}

-- what meets a base meets whatever the base meets, by the same store
abbrev pub HasComposedMeets : LinkedProgram → Type 0
HasComposedMeets p = (q : Asked) (o base further : Site) (s later : StoreAt) → Meets p q o base s → Meets p q base further later → Meets p q o further later

-- what meets a base has each of its call strings
abbrev pub HasIncludedStrings : LinkedProgram → Type 0
HasIncludedStrings p = (q : Asked) (o base : Site) (s : StoreAt) (n : Node) (string : List Place) → Meets p q o base s → Calls p q base n string
    → Calls p q o n string

-- a word to a base goes on over the field of a store, by what leads from there to what meets the base
abbrev pub HasComposedWords : LinkedProgram → Type 0
HasComposedWords p = (q : Asked) (o base : Site) (s : StoreAt) (n : Node) (word rest : List ℕ) → Meets p q o base s → Fields p q base n word
    → Fields p q o s.arg rest
    → Fields p q o n (word ++ s.field ∷ rest)
