-- With which marks the words at nodes begin.
use Rattle.std.specs.Prelude.{◌≡◌, ◌≢◌, ◌⊎◌, ℕ, List, ◌∷◌, Bool, Option, Some, None, eqb, false}
use Rattle.auto_table.specs.declared.entry.Entry.{Entry}
use Rattle.auto_table.specs.declared.entry.Entry.TheVariants.{Base, Pushed}
use Rattle.auto_table.specs.Cells.{Cells, link_at, weight_at}
use Rattle.lists.specs.Lists.{Has}
use Rattle.call_side.specs.declared.opening.Opening.{Opening}
use Rattle.call_side.specs.Coded.{HasWord, common_mark}
use Rattle.post_star.specs.Jobs.{Job}
use Rattle.weight_laws.specs.declared.reach.Reach.{Reach}
use Rattle.weight_laws.specs.Reach.{reach_domain}

-- the word begins with the mark, where one is told
abbrev pub BeginsBy : Option ℕ → List ℕ → Type 0
BeginsBy None word = Unit {0}
BeginsBy (Some mark) word = (rest : List ℕ) × (word ≡ mark ∷ rest)

abbrev pub opening_of : Option ℕ → ℕ → Opening
opening_of first node = record { first = first; node = node }

-- each word at a node begins as one of the openings of the node says
abbrev pub AreOpenings : Job Reach → List Opening → Type 0
AreOpenings job openings = (node : ℕ) (word : List ℕ) → HasWord job node word → (first : Option ℕ) × Has openings (opening_of first node) × BeginsBy first word

-- with which mark the words of an entry begin
abbrev pub first_of : Entry → Option ℕ
first_of (Base base) = None
first_of (Pushed node mark) = Some mark

-- the common mark is in front of the words of the entry
abbrev pub begins_common : Entry → Bool
begins_common (Base base) = false
begins_common (Pushed node mark) = eqb mark common_mark

-- with which marks those of an entry begin, where the common mark is in front: with those of the entries that it leads to
abbrev pub Opens : Cells Reach → Entry → Option ℕ → Type 0
Opens t (Base base) first = first ≡ None
Opens t (Pushed node mark) first = ((mark ≢ common_mark) × (first ≡ Some mark))
    ⊎ ((mark ≡ common_mark) × ((parent : Entry) × (link_at reach_domain t (Pushed node mark) parent ≢ reach_domain.zero) × (first ≡ first_of parent)))

-- at each node of an entry
abbrev pub AreOpened : Cells Reach → Entry → List Opening → Type 0
AreOpened t entry openings = (first : Option ℕ) (node : ℕ) → Opens t entry first → weight_at reach_domain t entry node ≢ reach_domain.zero
    → Has openings (opening_of first node)
