-- What `typestate` is answered: the status and the lines, and when it is answered. What it covers stands in `Safety`.
use Rattle.std.specs.Prelude.{◌≡◌, ℕ, ◌≤◌, ◌⊎◌, List}
use Rattle.link_rules.specs.Linked.{LinkedProgram}
use Rattle.track_rules.specs.Protocols.{HasTooManyStates, IsNoProtocol, IsOfUnknownClass, IsProtocolOf, ProtocolParts}
use Rattle.protocol_words.specs.declared.error.ProtocolError.{ProtocolError}
use Rattle.protocol_words.specs.declared.error.ProtocolError.TheVariants as protocol
use Rattle.track_verdicts.specs.Verdicts.{IsBeyond, IsVerdict, IsWithin}
use Rattle.track_verdicts.specs.declared.verdict.Verdict.{Verdict}
use Rattle.boom_words.specs.Requests.{Typestate}
use Rattle.report_text.specs.Lines.{text_of}
use Rattle.track_report.specs.Reports.{IsVerdictText}
use Rattle.boom_top.specs.Refusals.{IsRefusedBy}
use Rattle.boom_top.specs.declared.status.Status.{Status}
use Rattle.boom_top.specs.declared.status.Status.TheVariants.{Done, NotProtocol, OverBudget}

-- a word is no protocol of a linked program, and this is why
abbrev pub IsNoProtocolFor : LinkedProgram → List ℕ → ProtocolError → Type 0
IsNoProtocolFor p word (protocol.NotProtocol at) = IsNoProtocol word at
IsNoProtocolFor p word (protocol.TooManyStates at) = HasTooManyStates word at
IsNoProtocolFor p word protocol.UnknownClass = IsOfUnknownClass p word
IsNoProtocolFor p word protocol.NoMemory = ⊥

-- the verdict under a protocol, within the budget, which is told
pub record IsJudged (p : LinkedProgram) (entry : List ℕ) (budget : ℕ) (k : ProtocolParts) (lines : List (List ℕ)) : Type 0 where
  pub verdict : Verdict
  pub is_verdict : IsVerdict p k verdict
  pub affordable : verdict.demanded ≤ budget
  pub told : IsVerdictText p k entry verdict (text_of lines)

-- about a protocol: its demand is over the budget, or there is a verdict
abbrev pub IsProtocolReply : LinkedProgram → List ℕ → ℕ → ProtocolParts → Status → List (List ℕ) → Type 0
IsProtocolReply p entry budget k status lines = (IsBeyond p k budget × IsRefusedBy (OverBudget budget) status lines)
    ⊎ (IsJudged p entry budget k lines × (status ≡ Done))

-- about a word: it is no protocol, or one
abbrev pub IsTypestateReply : LinkedProgram → List ℕ → Typestate → Status → List (List ℕ) → Type 0
IsTypestateReply p entry asked status lines =
    ((error : ProtocolError) × IsNoProtocolFor p asked.protocol error × IsRefusedBy (NotProtocol error) status lines)
    ⊎ ((k : ProtocolParts) × IsProtocolOf p asked.protocol k × IsProtocolReply p entry asked.budget k status lines)

-- a word spells a protocol, whose demand is within the budget
abbrev pub IsJudgeable : LinkedProgram → Typestate → Type 0
IsJudgeable p asked = (k : ProtocolParts) × IsProtocolOf p asked.protocol k × IsWithin p k asked.budget
