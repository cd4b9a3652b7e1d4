-- The sets of stacks that were met, by number, and the moves between them. No clause of a public function speaks of these: they are what the recogniser keeps.
use Rattle.std.specs.Prelude.{◌≡◌, ◌≢◌, ℕ, ◌+◌, ◌*◌, List, [], ◌∷◌, map, length, slice_get, Some}
use denote.Enum.Declared.{tag_of}
use Rattle.jim_text.specs.contracts.lead.Lead.{the_type}
use Rattle.jim_text.specs.declared.lead.Lead.{Lead}
use Rattle.jim_grammar.specs.declared.automaton.Automaton.{Automaton}
use Rattle.jim_grammar.specs.declared.automaton.Move.{Move}
use Rattle.jim_grammar.specs.declared.automaton.Move.TheVariants as move
use Rattle.jim_grammar.specs.Expressions.{Re}
use Rattle.jim_grammar.specs.Grammar.{program}
use Rattle.jim_grammar.specs.Stacks.{stacks, Advances}

-- how many classes of tokens there are, and the number of one
abbrev pub classes : ℕ
classes = 97

abbrev pub code : Lead → ℕ
code l = tag_of the_type l

-- before the first token: the whole grammar is to be read
abbrev pub start_set : List (List Re)
start_set = (program ∷ []) ∷ []

abbrev pub sets_of : Automaton → List (List (List Re))
sets_of a = map (λ v. stacks v.items) a.sets.keys

-- each set keeps its number
abbrev pub Grows : List (List (List Re)) → List (List (List Re)) → Type 0
Grows old new = (k : ℕ) (ss : List (List Re)) → slice_get old k ≡ Some ss → slice_get new k ≡ Some ss

-- what the plain step gives behind a token of class l from set s
pub record Leads (sets : List (List (List Re))) (s : ℕ) (l : Lead) (new : List (List Re)) : Type 0 where
  pub old : List (List Re)
  pub is_old : slice_get sets s ≡ Some old
  pub advances : Advances l old new

-- the move goes to these stacks
abbrev pub IsTo : List (List (List Re)) → Move → List (List Re) → Type 0
IsTo sets (move.To k) new = slice_get sets k ≡ Some new
IsTo sets move.Nowhere new = new ≡ []

-- the move is what the plain step gives
abbrev pub IsMove : List (List (List Re)) → ℕ → Lead → Move → Type 0
IsMove sets s l m = (new : List (List Re)) × IsTo sets m new × Leads sets s l new

-- there is a row of moves for each set, no set is empty, and each kept move is what the plain step gives
pub record IsAutomaton (a : Automaton) : Type 0 where
  pub rows : length a.moves.items ≡ length a.sets.keys * classes
  pub some : (k : ℕ) (ss : List (List Re)) → slice_get (sets_of a) k ≡ Some ss → length ss ≢ 0
  pub kept : (s : ℕ) (l : Lead) (m : Move) → slice_get a.moves.items (s * classes + code l) ≡ Some (Some m) → IsMove (sets_of a) s l m
