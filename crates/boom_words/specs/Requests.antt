-- What the words of a command line ask for.
use Rattle.std.specs.Prelude.{◌≡◌, ℕ, ◌^◌, ◌<◌, ◌≤◌, List, [], ◌∷◌, All, codes, length}
use Rattle.std.specs.Fmt.{decimal}
use Rattle.std.specs.Char.{IsAsciiDigit}
use Rattle.boom_words.specs.Fields.{AreFields, FieldName}

-- what may a local hold: a method, an index, a local of it, and how many nodes may be demanded
pub record PointsTo : Type 0 where
  pub method : List ℕ
  pub index : ℕ
  pub local : List ℕ
  pub budget : ℕ

-- what may two locals of one method both hold: the method, an index, the locals, and how many nodes may be demanded
pub record Alias : Type 0 where
  pub method : List ℕ
  pub index : ℕ
  pub first : List ℕ
  pub second : List ℕ
  pub budget : ℕ

-- what may be at the end of a path of fields from a local: a method, an index, a local of it, the word that spells the fields, and how many nodes may be
-- demanded
pub record Paths : Type 0 where
  pub method : List ℕ
  pub index : ℕ
  pub local : List ℕ
  pub fields : List ℕ
  pub budget : ℕ

-- what may a local hold, where the targets of calls are narrowed so many times by what their receivers may hold: a method, an index, a local of it, the
-- times, and how many nodes may be demanded
pub record Refined : Type 0 where
  pub method : List ℕ
  pub index : ℕ
  pub local : List ℕ
  pub rounds : ℕ
  pub budget : ℕ

-- how a run stands after so many steps, of which these characters name the choices
pub record RunFor : Type 0 where
  pub steps : ℕ
  pub choices : List ℕ

-- may an event come on an object in a state in which a protocol doesn't allow it: the word that spells the protocol, and how many nodes may be demanded
pub record Typestate : Type 0 where
  pub protocol : List ℕ
  pub budget : ℕ

-- what is asked of a linked program. An explanation is asked what a local may hold, with a certificate for each site. A replay asks whether the certificate behind the program is one, where so many nodes may be demanded. A batch asks each
-- of the queries behind the program, where each may demand so many nodes. The demo, of so many boxes, is asked of a program of its own
pub data Question : Type 0 where
  points_to : PointsTo → Question
  explain : PointsTo → Question
  alias : Alias → Question
  paths : Paths → Question
  refined : Refined → Question
  run : RunFor → Question
  replay : ℕ → Question
  typestate : Typestate → Question
  batch : ℕ → Question
  demo : ℕ → Question

-- a question, and the class from which the program is linked
pub record Request : Type 0 where
  pub entry : List ℕ
  pub question : Question

-- the word for choices: a dash for none, or the choices themselves
abbrev pub choices_word : List ℕ → List ℕ
choices_word [] = codes "-"
choices_word (c ∷ cs) = c ∷ cs

-- choices are decimal digits, at most a thousand
abbrev pub AreChoices : List ℕ → Type 0
AreChoices choices = (length choices ≤ 1000) × All IsAsciiDigit choices

-- the words of a question behind an entry, by position: numbers are decimal digits without a sign or a leading zero
abbrev pub question_words : List ℕ → Question → List (List ℕ)
question_words entry (points_to a) = codes "points-to" ∷ entry ∷ a.method ∷ decimal a.index ∷ a.local ∷ decimal a.budget ∷ []
question_words entry (explain a) = codes "explain" ∷ entry ∷ a.method ∷ decimal a.index ∷ a.local ∷ decimal a.budget ∷ []
question_words entry (alias a) = codes "alias" ∷ entry ∷ a.method ∷ decimal a.index ∷ a.first ∷ a.second ∷ decimal a.budget ∷ []
question_words entry (paths a) = codes "paths" ∷ entry ∷ a.method ∷ decimal a.index ∷ a.local ∷ a.fields ∷ decimal a.budget ∷ []
question_words entry (refined a) = codes "refined" ∷ entry ∷ a.method ∷ decimal a.index ∷ a.local ∷ decimal a.rounds ∷ decimal a.budget ∷ []
question_words entry (run a) = codes "run" ∷ entry ∷ decimal a.steps ∷ choices_word a.choices ∷ []
question_words entry (replay budget) = codes "replay" ∷ entry ∷ decimal budget ∷ []
question_words entry (typestate a) = codes "typestate" ∷ entry ∷ a.protocol ∷ decimal a.budget ∷ []
question_words entry (batch budget) = codes "batch" ∷ entry ∷ decimal budget ∷ []
question_words entry (demo boxes) = codes "demo" ∷ decimal boxes ∷ []

-- what is asked is within bounds: indexes and budgets are below 2^32, a word spells 1 to 4 fields, calls are narrowed in 8 rounds at most, a run is of a
-- million steps at most, and the demo has 1 to 400 boxes; its program begins in its class Demo
abbrev pub IsWithinBounds : List ℕ → Question → Type 0
IsWithinBounds entry (points_to a) = (a.index < 2 ^ 32) × (a.budget < 2 ^ 32)
IsWithinBounds entry (explain a) = (a.index < 2 ^ 32) × (a.budget < 2 ^ 32)
IsWithinBounds entry (alias a) = (a.index < 2 ^ 32) × (a.budget < 2 ^ 32)
IsWithinBounds entry (paths a) = (a.index < 2 ^ 32) × (a.budget < 2 ^ 32) × (names : List FieldName) × AreFields a.fields names
IsWithinBounds entry (refined a) = (a.index < 2 ^ 32) × (a.budget < 2 ^ 32) × (a.rounds ≤ 8)
IsWithinBounds entry (run a) = (a.steps ≤ 1000000) × AreChoices a.choices
IsWithinBounds entry (replay budget) = budget < 2 ^ 32
IsWithinBounds entry (typestate a) = a.budget < 2 ^ 32
IsWithinBounds entry (batch budget) = budget < 2 ^ 32
IsWithinBounds entry (demo boxes) = (0 < boxes) × (boxes ≤ 400) × (entry ≡ codes "Demo")

-- the words of a command
pub record IsQuestion (words : List (List ℕ)) (entry : List ℕ) (q : Question) : Type 0 where
  pub in_order : words ≡ question_words entry q
  pub within : IsWithinBounds entry q

-- the words are this request
abbrev pub IsRequest : List (List ℕ) → Request → Type 0
IsRequest words r = IsQuestion words r.entry r.question

-- the words are no command
abbrev pub NoRequest : List (List ℕ) → Type 0
NoRequest words = (r : Request) → ¬ IsRequest words r

-- words are at most one request
abbrev pub WordsAreOne : Type 0
WordsAreOne = (words : List (List ℕ)) (a b : Request) → IsRequest words a → IsRequest words b → a ≡ b
