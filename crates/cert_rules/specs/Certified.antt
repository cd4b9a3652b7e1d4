-- Certificates: lists of lines that show that a site is in the answer of a query.
use Rattle.std.specs.Prelude.{◌≡◌, ℕ, ◌+◌, ◌⊎◌, List, [], ◌∷◌, ◌++◌, Option, Some, length, slice_get, take}
use Rattle.link_rules.specs.Linked.{LinkedProgram}
use Rattle.link_sites.specs.declared.site.Site.{Site}
use Rattle.spds_rules.specs.declared.node.Node.{Node}
use Rattle.cert_rules.specs.declared.fact.Entry.TheVariants.{Base}
use Rattle.cert_rules.specs.declared.fact.Fact.{Fact}
use Rattle.cert_rules.specs.declared.fact.Fact.TheVariants.{At}
use Rattle.cert_rules.specs.declared.line.Line.{Line}
use Rattle.cert_rules.specs.declared.line.Line.TheVariants.{Claim}
use Rattle.cert_rules.specs.declared.line.Side.TheVariants.{Field}
use Rattle.cert_rules.specs.Given.{Cites, Facts, Gives}

-- the line with the number, from 0, gives what stands at its place, over what those before it gave
pub record IsGiven (p : LinkedProgram) (target : Node) (given : Facts) (i : ℕ) (line : Line) : Type 0 where
  pub fact : Option Fact
  pub there : slice_get given i ≡ Some fact
  pub gives : Gives p target (take i given) line fact

-- this is what the lines give, one after another
pub record AreGiven (p : LinkedProgram) (target : Node) (lines : List Line) (given : Facts) : Type 0 where
  pub as_many : length given ≡ length lines
  pub each : (i : ℕ) (line : Line) → slice_get lines i ≡ Some line → IsGiven p target given i line

-- the last line is a claim
abbrev pub EndsWith : List Line → ℕ → ℕ → Type 0
EndsWith lines field call = (front : List Line) × (lines ≡ front ++ Claim field call ∷ [])

-- the lines show that the site is in the answer of the target
pub record IsCertified (p : LinkedProgram) (target : Node) (lines : List Line) (o : Site) : Type 0 where
  pub given : Facts
  pub are_given : AreGiven p target lines given
  pub field : ℕ
  pub call : ℕ
  pub last : EndsWith lines field call
  pub of_site : Cites given field (At Field o Base target)

-- the line with the number, from 0, gives nothing over what those before it gave
pub record IsUngiven (p : LinkedProgram) (target : Node) (lines : List Line) (i : ℕ) : Type 0 where
  pub line : Line
  pub there : slice_get lines i ≡ Some line
  pub given : Facts
  pub before : AreGiven p target (take i lines) given
  pub none : (fact : Option Fact) → Gives p target given line fact → ⊥

-- each line gives something, and the last is no claim, or there is none
pub record ClaimsNothing (p : LinkedProgram) (target : Node) (lines : List Line) : Type 0 where
  pub given : Facts
  pub are_given : AreGiven p target lines given
  pub none : (field call : ℕ) → EndsWith lines field call → ⊥

-- the number, from 1, of the first line that gives nothing; where each gives something, of the claim that is wanting behind the last
abbrev pub IsRejected : LinkedProgram → Node → List Line → ℕ → Type 0
IsRejected p target lines number =
    ((i : ℕ) × (number ≡ i + 1) × IsUngiven p target lines i) ⊎ ((number ≡ length lines + 1) × ClaimsNothing p target lines)
