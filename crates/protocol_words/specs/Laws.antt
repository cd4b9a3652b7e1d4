-- What holds of all words.
use Rattle.std.specs.Prelude.{◌≡◌, ℕ, List}
use Rattle.link_rules.specs.Linked.{LinkedProgram}
use Rattle.track_rules.specs.Protocols.{HasTooManyStates, IsNoProtocol, IsOfUnknownClass, IsProtocolOf, ProtocolParts}

-- what a word is: a protocol, or refused, for its first part that breaks the grammar, for the first that brings a 17th state, or for its class
pub data Outcome : Type 0 where
  is_protocol : ProtocolParts → Outcome
  breaks_at : ℕ → Outcome
  crowds_at : ℕ → Outcome
  lacks_class : Outcome

abbrev pub IsOutcome : LinkedProgram → List ℕ → Outcome → Type 0
IsOutcome p word (is_protocol k) = IsProtocolOf p word k
IsOutcome p word (breaks_at at) = IsNoProtocol word at
IsOutcome p word (crowds_at at) = HasTooManyStates word at
IsOutcome p word lacks_class = IsOfUnknownClass p word

-- a word is one thing at most
abbrev pub HasOneOutcome : Type 0
HasOneOutcome = (p : LinkedProgram) (word : List ℕ) (one two : Outcome) → IsOutcome p word one → IsOutcome p word two → one ≡ two

-- and one at least
abbrev pub EachWordHasAnOutcome : Type 0
EachWordHasAnOutcome = (p : LinkedProgram) (word : List ℕ) → (one : Outcome) × IsOutcome p word one
