-- What the parts of the top call promise to it.
use Rattle.std.specs.Prelude.{◌≡◌, ℕ, ◌⊎◌, List, [], ◌∷◌}
use Rattle.std.specs.declared.option.Option.{Option}
use Rattle.std.specs.Io.KnownBytes.{Appends}
use Rattle.boom_io.specs.Causes.{Rose}
use Rattle.boom_io.specs.Whole.{AppendsProperPrefix}
use Rattle.report_text.specs.Lines.{text_of}
use Rattle.boom_top.specs.Refusals.{refusal}
use Rattle.boom_top.specs.declared.query.NoReply.{NoReply}
use Rattle.boom_top.specs.declared.query.NoReply.TheVariants as none
use Rattle.boom_top.specs.declared.query.Reply.{Reply}
use Rattle.boom_top.specs.declared.status.Status.{Status}
use Rattle.boom_top.specs.declared.status.Status.TheVariants.{Usage, ReadFault, WriteFault, NoMemory}

-- the reply is such a status, and the text of such lines
abbrev pub Makes : (Status → List (List ℕ) → Type 0) → Reply → Type 0
Makes F reply = (lines : List (List ℕ)) × F reply.status lines × (reply.text.items ≡ text_of lines)

-- the reply is this refusal
abbrev pub Tells : Status → Reply → Type 0
Tells status reply = (reply.status ≡ status) × (reply.text.items ≡ text_of (refusal status ∷ []))

-- the text was written whole and the status is the one given, or a write failed and less was written
abbrev pub Sends : Status → List ℕ → Option (List ℕ) → Option (List ℕ) → ℕ → ℕ → Status → Type 0
Sends status text old new before now result = ((result ≡ status) × Appends old new text) ⊎ ((result ≡ WriteFault) × Rose before now × AppendsProperPrefix old new text)

-- the status where there is no reply
abbrev pub status_of : NoReply → Status
status_of none.ReadFault = ReadFault
status_of none.NoMemory = NoMemory

-- a status that a text has, or what is asked of its program
abbrev pub IsGiven : Status → Type 0
IsGiven Usage = ⊥
IsGiven ReadFault = ⊥
IsGiven WriteFault = ⊥
IsGiven NoMemory = ⊥
IsGiven _ = Unit {0}
