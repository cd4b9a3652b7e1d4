-- The reply that tells a verdict.
use Rattle.std.specs.Prelude.{◌≡◌, ℕ, zero, suc, ◌++◌, List, [], ◌∷◌, Some, codes, length, slice_get}
use Rattle.std.specs.Fmt.{decimal}
use Rattle.link_rules.specs.Linked.{LinkedClass, LinkedProgram}
use Rattle.lists.specs.Lists.{Each}
use Rattle.report_text.specs.Lines.{text_of}
use Rattle.report_text.specs.Texts.{IsPlaceText, IsSiteText}
use Rattle.track_rules.specs.Protocols.{ProtocolParts}
use Rattle.track_verdicts.specs.declared.verdict.Finding.{Finding}
use Rattle.track_verdicts.specs.declared.verdict.Verdict.{Verdict}

-- the line with the class that the program begins with and with the class of the protocol
pub record IsHeadLine (p : LinkedProgram) (k : ProtocolParts) (entry line : List ℕ) : Type 0 where
  pub class : LinkedClass
  pub there : slice_get p.classes k.class ≡ Some class
  pub line_is : line ≡ codes "typestate " ++ entry ++ codes " " ++ class.name

-- the line of a finding: the site of the objects, the place of the event statement, and the names of the state and of the event
pub record IsUnsafeLine (p : LinkedProgram) (k : ProtocolParts) (f : Finding) (line : List ℕ) : Type 0 where
  pub site : List ℕ
  pub place : List ℕ
  pub state : List ℕ
  pub event : List ℕ
  pub site_is : IsSiteText p f.site site
  pub place_is : IsPlaceText p f.place place
  pub state_is : slice_get k.states f.state ≡ Some state
  pub event_is : slice_get k.events f.event ≡ Some event
  pub line_is : line ≡ codes "unsafe " ++ site ++ codes " at " ++ place ++ codes " state " ++ state ++ codes " event " ++ event

-- safe where there is no finding
abbrev pub verdict_line : ℕ → List ℕ
verdict_line zero = codes "verdict safe"
verdict_line (suc more) = codes "verdict unsafe " ++ decimal (suc more)

-- the lines with the verdict over so many findings, and with the size of the demand
abbrev pub verdict_lines : ℕ → ℕ → List (List ℕ)
verdict_lines findings demanded = verdict_line findings ∷ (codes "demanded " ++ decimal demanded) ∷ []

-- the reply about a verdict: a line for the question, one for each finding, one with the verdict, one with the size of the demand
pub record IsVerdictText (p : LinkedProgram) (k : ProtocolParts) (entry : List ℕ) (verdict : Verdict) (text : List ℕ) : Type 0 where
  pub head : List ℕ
  pub lines : List (List ℕ)
  pub head_is : IsHeadLine p k entry head
  pub lines_are : Each (IsUnsafeLine p k) verdict.findings lines
  pub text_is : text ≡ text_of (head ∷ (lines ++ verdict_lines (length verdict.findings) verdict.demanded))
