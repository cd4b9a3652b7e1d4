-- The search for a word that two tables share: pairs of entries, one of each table, that the same word leads to.
use Rattle.std.specs.Prelude.{◌≡◌, ◌<◌, ℕ, List, Option, Some, None, slice_get}
use Rattle.auto_table.specs.declared.entry.Entry.{Entry}
use Rattle.auto_table.specs.declared.entry.Entry.TheVariants.{Base}
use Rattle.auto_table.specs.Cells.{Cells}
use Rattle.lists.specs.Lists.{Has}
use Rattle.post_star.specs.declared.bases.BaseStep.{BaseStep}
use Rattle.weight_laws.specs.declared.reach.Reach.{Reach}
use Rattle.call_side.specs.declared.origin.Origin.{Origin}
use Rattle.call_side.specs.declared.pairs.Pair.{Pair}
use Rattle.call_side.specs.declared.question.Question.{Question}
use Rattle.call_side.specs.Trails.{AreKept, IsTrailOf}
use Rattle.call_side.specs.Words.{Moves, Spells, SpellsFrom, Walks}

-- what is asked: a word of one of the first entries in one table, and of one of the second in the other
pub record Asked : Type 0 where
  pub steps : List BaseStep
  pub last : ℕ
  pub first : Cells Reach
  pub firsts : List Entry
  pub second : Cells Reach
  pub seconds : List Entry

abbrev pub asked : Question → Asked
asked q = record {
  steps = q.bases.now.steps;
  last = q.bases.now.last;
  first = q.first.now;
  firsts = q.firsts.now;
  second = q.second.now;
  seconds = q.seconds.now;
}

-- a pair to begin with
abbrev pub IsStart : Asked → Pair → Type 0
IsStart q pair = Has q.firsts pair.first × Has q.seconds pair.second

-- the mark leads from the pair to the next one
abbrev pub MoveBoth : Asked → Pair → ℕ → Pair → Type 0
MoveBoth q pair mark next = Moves q.steps q.first pair.first mark next.first × Moves q.steps q.second pair.second mark next.second

-- the word leads from the pair to another
abbrev pub WalkBoth : Asked → Pair → List ℕ → Pair → Type 0
WalkBoth q pair word end = Walks q.steps q.first pair.first word end.first × Walks q.steps q.second pair.second word end.second

-- both entries of the pair read the word
abbrev pub SpellBoth : Asked → Pair → List ℕ → Type 0
SpellBoth q pair word = Spells q.steps q.last q.first pair.first word × Spells q.steps q.last q.second pair.second word

-- the last base twice
abbrev pub last_pair : ℕ → Pair
last_pair last = record { first = Base last; second = Base last }

-- a pair may come in with this origin: as one to begin with, or by a move from one that is there
abbrev pub MayCome : Asked → List Pair → Pair → Option Origin → Type 0
MayCome q pairs pair None = IsStart q pair
MayCome q pairs pair (Some origin) = (earlier : Pair) × (slice_get pairs origin.from ≡ Some earlier) × MoveBoth q earlier origin.mark pair

-- the pair came in with this origin as the one with the number
abbrev pub CameIn : Asked → List Pair → ℕ → Pair → Option Origin → Type 0
CameIn q pairs number pair None = IsStart q pair
CameIn q pairs number pair (Some origin) = (origin.from < number) × MayCome q pairs pair (Some origin)

-- each pair has an origin
abbrev pub IsTrail : Asked → List Pair → List (Option Origin) → Type 0
IsTrail q pairs origins = IsTrailOf (CameIn q) pairs origins

-- the pairs of this kind came in with the origin: each that reads some word is there now
pub record Came (Which : Pair → Type 0) (origin : Option Origin) (old : List Pair) (before : List (Option Origin)) (new : List Pair) (after : List (Option Origin)) : Type 0 where
  pub kept : AreKept old new
  pub there : (q : Asked) (pair : Pair) (word : List ℕ) → Which pair → SpellBoth q pair word → Has new pair
  pub trail : (q : Asked) → ((pair : Pair) → Which pair → MayCome q old pair origin) → IsTrail q old before → IsTrail q new after

-- each pair that the mark leads to from this one, and that reads some word, is there
abbrev pub IsLedOn : Asked → Pair → ℕ → List Pair → Type 0
IsLedOn q pair mark pairs = (next : Pair) (word : List ℕ) → MoveBoth q pair mark next → SpellBoth q next word → Has pairs next

-- each pair to begin with that reads some word is there
abbrev pub AreBegun : Asked → List Pair → Type 0
AreBegun q pairs = (pair : Pair) (word : List ℕ) → IsStart q pair → SpellBoth q pair word → Has pairs pair

-- the pairs before a number were led on by all marks, and none of them is the end
pub record AreDone (q : Asked) (number : ℕ) (pairs : List Pair) : Type 0 where
  pub led : (k mark : ℕ) (pair : Pair) → k < number → slice_get pairs k ≡ Some pair → IsLedOn q pair mark pairs
  pub none : (k : ℕ) (pair : Pair) → k < number → slice_get pairs k ≡ Some pair → pair ≡ last_pair q.last → ⊥

-- a pair was reached from which both read the word
pub record IsEnd (q : Asked) (pairs : List Pair) (number : ℕ) (way : List ℕ) : Type 0 where
  pub pair : Pair
  pub there : slice_get pairs number ≡ Some pair
  pub spells : SpellBoth q pair way

-- no word is read by a first and by a second entry
abbrev pub ShareNone : Asked → Type 0
ShareNone q = (word : List ℕ) → SpellsFrom q.steps q.last q.first q.firsts word → SpellsFrom q.steps q.last q.second q.seconds word → ⊥

-- the word is read by a first and by a second entry
pub record IsShared (q : Asked) (word : List ℕ) : Type 0 where
  pub first : SpellsFrom q.steps q.last q.first q.firsts word
  pub second : SpellsFrom q.steps q.last q.second q.seconds word
