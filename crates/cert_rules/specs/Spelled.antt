-- How a certificate is spelled: lines of words with a blank between each two. Numbers are decimal, without a sign or a leading zero. The spelling is this
-- project's own.
use Rattle.std.specs.Prelude.{◌≡◌, ℕ, zero, suc, ◌<◌, ◌^◌, ◌++◌, ◌⊎◌, Bool, true, false, List, [], ◌∷◌, All, Some, codes, length, map, slice_get}
use Rattle.std.specs.Fmt.{decimal}
use Rattle.std.specs.List.{join_with_byte}
use Rattle.lists.specs.Lists.{Has, Each}
use Rattle.link_sites.specs.declared.place.Place.{Place}
use Rattle.spds_rules.specs.declared.node.Node.{Node}
use Rattle.spds_rules.specs.declared.node.Var.{Var}
use Rattle.spds_rules.specs.declared.node.Var.TheVariants.{Local, This, Param, Caught, Thrown, Made, Nested, Raised, Text, Class}
use Rattle.cert_rules.specs.declared.certificate.Certificate.{Certificate}
use Rattle.cert_rules.specs.declared.line.Line.{Line}
use Rattle.cert_rules.specs.declared.line.Line.TheVariants as line
use Rattle.cert_rules.specs.declared.line.Side.{Side}
use Rattle.cert_rules.specs.declared.line.Side.TheVariants.{Field, Call}

-- a variable of a node
abbrev pub var_text : Var → List ℕ
var_text (Local x) = codes "l" ++ decimal x
var_text This = codes "this"
var_text (Param number) = codes "p" ++ decimal number
var_text Caught = codes "caught"
var_text Thrown = codes "thrown"
var_text Made = codes "new"
var_text (Nested level) = codes "n" ++ decimal level
var_text (Raised kind) = codes "r" ++ decimal kind
var_text (Text number) = codes "t" ++ decimal number
var_text (Class number) = codes "k" ++ decimal number

-- behind the index of a place at which an exception is in flight
abbrev pub flight_mark : Bool → List ℕ
flight_mark true = codes "!"
flight_mark false = []

-- the method, the index and the variable, with dots between them
abbrev pub node_text : Node → List ℕ
node_text n = join_with_byte 46 (decimal n.place.method ∷ (decimal n.place.index ++ flight_mark n.place.raised) ∷ var_text n.var ∷ [])

-- a call of a call string
abbrev pub call_text : Place → List ℕ
call_text place = join_with_byte 46 (decimal place.method ∷ decimal place.index ∷ [])

-- a call string, the innermost call first: a dash for the empty one, and else the calls with commas between them
abbrev pub string_text : List Place → List ℕ
string_text [] = codes "-"
string_text (call ∷ calls) = join_with_byte 44 (map call_text (call ∷ calls))

-- numbers of lines, with commas between them
abbrev pub numbers_text : List ℕ → List ℕ
numbers_text numbers = join_with_byte 44 (map decimal numbers)

-- the system of fields, or that of calls
abbrev pub side_text : Side → List ℕ
side_text Field = codes "F"
side_text Call = codes "C"

-- the words of a line: the table of certificates, a row a line
abbrev pub line_words : Line → List (List ℕ)
line_words (line.Start side n) = codes "start" ∷ side_text side ∷ node_text n ∷ []
line_words (line.Jump from n) = codes "start" ∷ codes "C" ∷ decimal from ∷ node_text n ∷ []
line_words (line.Put from meet n) = codes "start" ∷ codes "C" ∷ decimal from ∷ decimal meet ∷ node_text n ∷ []
line_words (line.Flow side from n) = codes "flow" ∷ side_text side ∷ decimal from ∷ node_text n ∷ []
line_words (line.PushField from meet n) = codes "push" ∷ codes "F" ∷ decimal from ∷ decimal meet ∷ node_text n ∷ []
line_words (line.PushCall from n) = codes "push" ∷ codes "C" ∷ decimal from ∷ node_text n ∷ []
line_words (line.LinkField from meet n) = codes "link" ∷ codes "F" ∷ decimal from ∷ decimal meet ∷ node_text n ∷ []
line_words (line.LinkCall from n) = codes "link" ∷ codes "C" ∷ decimal from ∷ node_text n ∷ []
line_words (line.Pop side from link n) = codes "pop" ∷ side_text side ∷ decimal from ∷ decimal link ∷ node_text n ∷ []
line_words (line.BasePop from n) = codes "base" ∷ codes "C" ∷ decimal from ∷ node_text n ∷ []
line_words (line.Shared first second string) = codes "shared" ∷ numbers_text first ∷ numbers_text second ∷ string_text string ∷ []
line_words (line.Meet shared base) = codes "meet" ∷ decimal shared ∷ decimal base ∷ []
line_words (line.Claim field call) = codes "claim" ∷ decimal field ∷ decimal call ∷ []

-- the words with a blank between each two
abbrev pub line_text : Line → List ℕ
line_text l = join_with_byte 32 (line_words l)

-- the number has 32 bits
abbrev pub IsRoomy : ℕ → Type 0
IsRoomy number = number < 2 ^ 32

-- the variable can be spelled: levels and kinds have 8 bits
abbrev pub FitsVar : Var → Type 0
FitsVar (Local x) = IsRoomy x
FitsVar This = Unit {0}
FitsVar (Param number) = IsRoomy number
FitsVar Caught = Unit {0}
FitsVar Thrown = Unit {0}
FitsVar Made = Unit {0}
FitsVar (Nested level) = level < 2 ^ 8
FitsVar (Raised kind) = kind < 2 ^ 8
FitsVar (Text number) = IsRoomy number
FitsVar (Class number) = IsRoomy number

-- the node can be spelled
abbrev pub FitsNode : Node → Type 0
FitsNode n = IsRoomy n.place.method × IsRoomy n.place.index × FitsVar n.var

-- a place of a call string, at which no exception is in flight
abbrev pub FitsCall : Place → Type 0
FitsCall place = IsRoomy place.method × IsRoomy place.index × (place.raised ≡ false)

-- a list of numbers, one at least
abbrev pub FitNumbers : List ℕ → Type 0
FitNumbers numbers = (0 < length numbers) × All IsRoomy numbers

-- the line can be spelled
abbrev pub FitsLine : Line → Type 0
FitsLine (line.Start side n) = FitsNode n
FitsLine (line.Jump from n) = IsRoomy from × FitsNode n
FitsLine (line.Put from meet n) = IsRoomy from × IsRoomy meet × FitsNode n
FitsLine (line.Flow side from n) = IsRoomy from × FitsNode n
FitsLine (line.PushField from meet n) = IsRoomy from × IsRoomy meet × FitsNode n
FitsLine (line.PushCall from n) = IsRoomy from × FitsNode n
FitsLine (line.LinkField from meet n) = IsRoomy from × IsRoomy meet × FitsNode n
FitsLine (line.LinkCall from n) = IsRoomy from × FitsNode n
FitsLine (line.Pop side from link n) = IsRoomy from × IsRoomy link × FitsNode n
FitsLine (line.BasePop from n) = IsRoomy from × FitsNode n
FitsLine (line.Shared first second string) = FitNumbers first × FitNumbers second × All FitsCall string
FitsLine (line.Meet shared base) = IsRoomy shared × IsRoomy base
FitsLine (line.Claim field call) = IsRoomy field × IsRoomy call

-- each line with a line feed behind it
abbrev pub ended_lines : List (List ℕ) → List ℕ
ended_lines [] = []
ended_lines (l ∷ ls) = l ++ 10 ∷ ended_lines ls

-- the lines of a text: no line has a line feed inside, and one ends each, but for the last, which may lack it if it isn't empty
pub record AreLines (bytes : List ℕ) (lines : List (List ℕ)) : Type 0 where
  pub cut : (l : List ℕ) → Has lines l → Has l 10 → ⊥
  pub ended : (bytes ≡ ended_lines lines)
      ⊎ ((front : List (List ℕ)) × (byte : ℕ) × (rest : List ℕ) × (lines ≡ front ++ (byte ∷ rest) ∷ []) × (bytes ≡ ended_lines front ++ byte ∷ rest))

-- the first line names the target
abbrev pub SpellsTarget : List ℕ → Node → Type 0
SpellsTarget text target = (text ≡ codes "query " ++ node_text target) × FitsNode target

-- each other is a line of the certificate
abbrev pub SpellsLine : List ℕ → Line → Type 0
SpellsLine text l = (text ≡ line_text l) × FitsLine l

-- the bytes spell the certificate
pub record SpellsCertificate (bytes : List ℕ) (c : Certificate) : Type 0 where
  pub first : List ℕ
  pub others : List (List ℕ)
  pub in_lines : AreLines bytes (first ∷ others)
  pub names : SpellsTarget first c.target
  pub spelled : Each SpellsLine others c.lines

-- the line with the number, from 0, has the form of its place
abbrev pub HasLineForm : List (List ℕ) → ℕ → Type 0
HasLineForm texts zero = (text : List ℕ) × (target : Node) × (slice_get texts zero ≡ Some text) × SpellsTarget text target
HasLineForm texts (suc number) = (text : List ℕ) × (l : Line) × (slice_get texts (suc number) ≡ Some text) × SpellsLine text l

-- the first line that isn't one of a certificate; 0 where there is no line
pub record IsFirstBadLine (bytes : List ℕ) (at : ℕ) : Type 0 where
  pub texts : List (List ℕ)
  pub in_lines : AreLines bytes texts
  pub within : (at < length texts) ⊎ ((at ≡ 0) × (texts ≡ []))
  pub before : (number : ℕ) → number < at → HasLineForm texts number
  pub bad : HasLineForm texts at → ⊥
