-- Why a word is no protocol.
use Rattle.std.specs.Prelude.{ℕ, List}
use Rattle.link_rules.specs.Linked.{LinkedProgram}
use Rattle.track_rules.specs.Protocols.{HasTooManyStates, IsNoProtocol, IsOfUnknownClass}
use Rattle.protocol_words.specs.declared.error.ProtocolError.{ProtocolError}
use Rattle.protocol_words.specs.declared.error.ProtocolError.TheVariants.{NoMemory, NotProtocol, TooManyStates, UnknownClass}

-- this is why. Want of memory may come of any word
abbrev pub IsRefusedFor : LinkedProgram → List ℕ → ProtocolError → Type 0
IsRefusedFor p word (NotProtocol at) = IsNoProtocol word at
IsRefusedFor p word (TooManyStates at) = HasTooManyStates word at
IsRefusedFor p word UnknownClass = IsOfUnknownClass p word
IsRefusedFor p word NoMemory = Unit {0}
