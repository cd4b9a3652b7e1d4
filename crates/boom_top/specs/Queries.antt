-- What a request asks of a text: the program that it spells and that is linked.
use Rattle.std.specs.Io.KnownBytes.{Consumes}
use Rattle.std.specs.Prelude.{◌≡◌, ℕ, ◌≤◌, ◌⊎◌, List, [], Option, Some, codes, length}
use Rattle.jim_ast.specs.declared.syntax.Program.{Program}
use Rattle.jim_parse.specs.Derives.{Spells}
use Rattle.jim_prelude.specs.Text.{prelude_text}
use Rattle.link_rules.specs.Conditions.{DeclaresNine}
use Rattle.link_rules.specs.Linked.{LinkedProgram, Links}
use Rattle.demo_text.specs.Demo.{demo_source}
use Rattle.boom_words.specs.Requests.{IsRequest, Question, Request, batch, demo, replay}
use Rattle.batch_lines.specs.Cuts.{before_mark, behind_mark, lines_of}

-- the most bytes that are read
abbrev pub limit : ℕ
limit = 16777216

-- of what was left, told or not, no more bytes than these were taken
abbrev pub TakesAtMost : ℕ → Option (List ℕ) → Option (List ℕ) → Type 0
TakesAtMost most old new = (taken : List ℕ) × Consumes old new taken × (length taken ≤ most)

-- the bytes that a question is about: those that are read, but for the demo its own text
abbrev pub source_of : Question → List ℕ → List ℕ
source_of (demo boxes) bytes = demo_source boxes
source_of _ bytes = bytes

-- the line behind which a certificate stands
abbrev pub certificate_mark : List ℕ
certificate_mark = codes "%certificate"

-- the line behind which the queries of a batch stand
abbrev pub queries_mark : List ℕ
queries_mark = codes "%queries"

-- the program among these bytes: for a replay and for a batch it stands before the mark, for other commands it is all
abbrev pub program_in : Question → List ℕ → List ℕ
program_in (replay budget) text = before_mark certificate_mark (lines_of text)
program_in (batch budget) text = before_mark queries_mark (lines_of text)
program_in _ text = text

-- what stands behind it: for a replay the certificate, for a batch the queries, for other commands nothing
abbrev pub rest_in : Question → List ℕ → List ℕ
rest_in (replay budget) text = behind_mark certificate_mark (lines_of text)
rest_in (batch budget) text = behind_mark queries_mark (lines_of text)
rest_in _ text = []

-- the question needs no bytes
abbrev pub IsDemo : Question → Type 0
IsDemo (demo boxes) = Unit {0}
IsDemo _ = ⊥

-- the stand-ins for Java's own classes: the program that their text spells. It declares the nine classes that linking needs
pub record IsPrelude (prelude : Program) : Type 0 where
  pub spelled : Spells prelude_text prelude
  pub nine : DeclaresNine prelude

-- the text of the stand-ins has no tokens, or these derive no program, or it doesn't declare the nine classes
abbrev pub HasNoPrelude : Type 0
HasNoPrelude = (prelude : Program) → ¬ IsPrelude prelude

-- the linked program of a program and the stand-ins, from the class of this name on
pub record LinksTo (input : Program) (entry : List ℕ) (p : LinkedProgram) : Type 0 where
  pub prelude : Program
  pub is_prelude : IsPrelude prelude
  pub links : Links input prelude entry p

-- the program that a request is about, among these bytes: they are within the limit, the program's part of them spells one, and it is linked
pub record Accepted (r : Request) (bytes : List ℕ) : Type 0 where
  pub short : length (source_of r.question bytes) ≤ limit
  pub input : Program
  pub spelled : Spells (program_in r.question (source_of r.question bytes)) input
  pub linked : LinkedProgram
  pub links : LinksTo input r.entry linked

-- the words ask nothing that is read: they are no command, or the demo's
abbrev pub ReadsNothing : List (List ℕ) → Type 0
ReadsNothing words = (r : Request) → IsRequest words r → IsDemo r.question

-- the words are about these bytes: those that the source has left, where it tells them, or any, whatever it tells, where nothing is read
abbrev pub AreAbout : List (List ℕ) → Option (List ℕ) → List ℕ → Type 0
AreAbout words left bytes = (left ≡ Some bytes) ⊎ ReadsNothing words
