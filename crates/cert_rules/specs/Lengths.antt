-- How long a field derivation is, and the field derivation that a certificate writes down.
use Rattle.std.specs.Prelude.{◌≡◌, ℕ, zero, suc, ◌+◌, ◌≤◌, ◌<◌, ◌^◌, ◌⊎◌, List, [], ◌∷◌, ◌++◌, slice_index_or}
use Rattle.link_rules.specs.Linked.{LinkedProgram}
use Rattle.link_sites.specs.declared.site.Site.{Site}
use Rattle.spds_rules.specs.declared.node.Node.{Node}
use Rattle.spds_rules.specs.declared.store.StoreAt.{StoreAt}
use Rattle.spds_rules.specs.Demand.{Asked, about}
use Rattle.spds_rules.specs.Systems.{Fields, InFields, Meets}
use Rattle.cert_rules.specs.declared.fact.Entry.{Entry}
use Rattle.cert_rules.specs.declared.fact.Entry.TheVariants.{Base}
use Rattle.cert_rules.specs.declared.fact.Fact.TheVariants.{At}
use Rattle.cert_rules.specs.declared.line.Line.{Line}
use Rattle.cert_rules.specs.declared.line.Line.TheVariants as line
use Rattle.cert_rules.specs.declared.line.Side.TheVariants.{Field, Call}
use Rattle.cert_rules.specs.Certified.{AreGiven, EndsWith}
use Rattle.cert_rules.specs.Given.{Cites, Facts}

-- the rules of a derivation in the field system: one for each edge and for each store that it goes along. What justifies the meets isn't counted
abbrev pub rules : {p : LinkedProgram} {q : Asked} {Meet : Site → Site → StoreAt → Type 0} {o : Site} {n : Node} {word : List ℕ} → InFields p q Meet o n word → ℕ
rules (InFields.start st) = 0
rules (InFields.keep e k h) = rules h + 1
rules (InFields.load e h) = rules h + 1
rules (InFields.store m st h) = rules h + 1

-- the length of the line with the number, from 1
abbrev pub cited_length : List ℕ → ℕ → ℕ
cited_length lengths zero = 0
cited_length lengths (suc number) = slice_index_or lengths number 0

-- the length of a line behind lines of these lengths: the rules of the field derivation that it stands for
abbrev pub length_by : List ℕ → Line → ℕ
length_by lengths (line.Flow Field from n) = cited_length lengths from + 1
length_by lengths (line.LinkField from meet n) = cited_length lengths from + 1
length_by lengths (line.Pop Field from link n) = cited_length lengths from + cited_length lengths link + 1
length_by lengths _ = 0

-- the lengths of the lines behind lines of these lengths, all of them together
abbrev pub lengths_behind : List ℕ → List Line → List ℕ
lengths_behind lengths [] = lengths
lengths_behind lengths (l ∷ lines) = lengths_behind (lengths ++ length_by lengths l ∷ []) lines

-- the lengths of lines, one after another
abbrev pub lengths_of : List Line → List ℕ
lengths_of lines = lengths_behind [] lines

-- the last line is a claim, and that of its field line is this
abbrev pub HasLength : List Line → ℕ → Type 0
HasLength lines length = (field call : ℕ) × EndsWith lines field call × (length ≡ cited_length (lengths_of lines) field)

-- as far as 32 bits tell, the number of rules is no greater than the other
abbrev pub IsNoLonger : ℕ → ℕ → Type 0
IsNoLonger length other = (length ≤ other) ⊎ (2 ^ 32 ≤ other + 1)

-- no derivation of the target with the empty word is shorter, as far as 32 bits tell
abbrev pub IsShortest : LinkedProgram → Node → Site → ℕ → Type 0
IsShortest p t o length = (h : Fields p (about t) o t []) → IsNoLonger length (rules h)

-- the lines give what a claim of the site asks for, at these numbers, by a shortest field derivation
pub record CanClaim (p : LinkedProgram) (t : Node) (lines : List Line) (o : Site) (field call : ℕ) : Type 0 where
  pub given : Facts
  pub are_given : AreGiven p t lines given
  pub entry : Entry
  pub by_fields : Cites given field (At Field o Base t)
  pub by_calls : Cites given call (At Call o entry t)
  pub shortest : IsShortest p t o (cited_length (lengths_of lines) field)
