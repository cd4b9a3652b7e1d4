-- Words of a line, and what each of them spells.
use Rattle.std.specs.Prelude.{◌≡◌, ℕ, ◌+◌, ◌^◌, ◌<◌, ◌++◌, List, Some, All, Bool, length, map, slice_get, slice_index}
use Rattle.std.specs.Borrow.{Bor}
use Rattle.std.specs.Fmt.{decimal}
use Rattle.std.specs.Char.{IsAsciiDigit}
use Rattle.link_sites.specs.declared.place.Place.{Place}
use Rattle.spds_rules.specs.declared.node.Node.{Node}
use Rattle.spds_rules.specs.declared.node.Var.{Var}
use Rattle.spds_rules.specs.declared.node.Var.TheVariants.{Local, This, Param, Caught, Thrown, Made, Nested, Raised, Text, Class}
use Rattle.cert_rules.specs.declared.line.Line.{Line}
use Rattle.cert_rules.specs.Spelled.{FitNumbers, FitsCall, FitsLine, FitsNode, FitsVar, IsRoomy, SpellsLine, call_text, flight_mark, line_words, node_text, numbers_text, string_text, var_text}

abbrev pub texts : List (Bor (List ℕ)) → List (List ℕ)
texts words = map (λ word. word.now) words

-- decimal digits, one at least, of which the first of several isn't zero
pub record IsPlain (word : List ℕ) : Type 0 where
  pub some : 0 < length word
  pub digits : All IsAsciiDigit word
  pub lead : slice_index word 0 ≡ 48 → length word ≡ 1

abbrev pub SpellsNumber : List ℕ → ℕ → Type 0
SpellsNumber word n = (word ≡ decimal n) × IsRoomy n

-- the variable has no number
abbrev pub IsNamed : Var → Type 0
IsNamed This = Unit {0}
IsNamed Caught = Unit {0}
IsNamed Thrown = Unit {0}
IsNamed Made = Unit {0}
IsNamed (Local x) = ⊥
IsNamed (Param number) = ⊥
IsNamed (Nested level) = ⊥
IsNamed (Raised kind) = ⊥
IsNamed (Text number) = ⊥
IsNamed (Class number) = ⊥

-- it has this letter and this number
abbrev pub IsNumbered : ℕ → ℕ → Var → Type 0
IsNumbered letter n (Local x) = (letter ≡ 108) × (x ≡ n)
IsNumbered letter n (Param number) = (letter ≡ 112) × (number ≡ n)
IsNumbered letter n (Nested level) = (letter ≡ 110) × (level ≡ n) × (n < 2 ^ 8)
IsNumbered letter n (Raised kind) = (letter ≡ 114) × (kind ≡ n) × (n < 2 ^ 8)
IsNumbered letter n (Text number) = (letter ≡ 116) × (number ≡ n)
IsNumbered letter n (Class number) = (letter ≡ 107) × (number ≡ n)
IsNumbered letter n This = ⊥
IsNumbered letter n Caught = ⊥
IsNumbered letter n Thrown = ⊥
IsNumbered letter n Made = ⊥

abbrev pub SpellsVar : List ℕ → Var → Type 0
SpellsVar word v = (word ≡ var_text v) × FitsVar v

abbrev pub SpellsNode : List ℕ → Node → Type 0
SpellsNode word n = (word ≡ node_text n) × FitsNode n

abbrev pub SpellsCall : List ℕ → Place → Type 0
SpellsCall word place = (word ≡ call_text place) × FitsCall place

abbrev pub SpellsNumbers : List ℕ → List ℕ → Type 0
SpellsNumbers word numbers = (word ≡ numbers_text numbers) × FitNumbers numbers

abbrev pub SpellsString : List ℕ → List Place → Type 0
SpellsString word string = (word ≡ string_text string) × All FitsCall string

-- an index, and whether an exception is in flight there
abbrev pub SpellsIndex : List ℕ → ℕ → Bool → Type 0
SpellsIndex word index raised = (word ≡ decimal index ++ flight_mark raised) × IsRoomy index

-- the words of the line, which can be spelled
abbrev pub AreWordsOf : List (List ℕ) → Line → Type 0
AreWordsOf words l = (words ≡ line_words l) × FitsLine l

-- behind the first line of a text this is the first one that isn't a line of a certificate; lines are numbered from the first one, 0
pub record IsFirstUnread (others : List (List ℕ)) (at : ℕ) : Type 0 where
  pub number : ℕ
  pub is_behind : at ≡ number + 1
  pub text : List ℕ
  pub there : slice_get others number ≡ Some text
  pub before : (i : ℕ) (earlier : List ℕ) → i < number → slice_get others i ≡ Some earlier → (l : Line) × SpellsLine earlier l
  pub bad : (l : Line) → SpellsLine text l → ⊥

-- the words are the numbers, one after another
abbrev pub AreNumbers : List (List ℕ) → List ℕ → Type 0
AreNumbers words numbers = (words ≡ map decimal numbers) × All IsRoomy numbers

-- the words are the calls, one after another
abbrev pub AreCalls : List (List ℕ) → List Place → Type 0
AreCalls words calls = (words ≡ map call_text calls) × All FitsCall calls
