-- The numbers of the statuses, and the lines of the refusals.
use Rattle.std.specs.Prelude.{◌≡◌, ℕ, List, [], ◌∷◌, ◌++◌, codes}
use Rattle.std.specs.Fmt.{decimal}
use Rattle.link_rules.specs.declared.refusal.LinkError.{LinkError}
use Rattle.link_rules.specs.declared.refusal.LinkError.TheVariants as link
use Rattle.link_rules.specs.declared.refusal.LinkKind.{LinkKind}
use Rattle.link_rules.specs.declared.refusal.LinkKind.TheVariants as rule
use Rattle.protocol_words.specs.declared.error.ProtocolError.{ProtocolError}
use Rattle.protocol_words.specs.declared.error.ProtocolError.TheVariants as protocol
use Rattle.query_core.specs.declared.places.Which.{Which}
use Rattle.query_core.specs.declared.places.Which.TheVariants.{Method, Index, Local, Second, Field}
use Rattle.boom_top.specs.declared.status.Status.{Status}
use Rattle.boom_top.specs.declared.status.Status.TheVariants.{Done, Usage, ReadFault, TooLong, NotText, NotJimple, NotLinked, NoSuchPlace, NotProtocol, NotCertificate, Rejected, OverBudget, WriteFault, NoMemory, NotBatch, BadPrelude}

-- the number with which the program ends
abbrev pub number_of : Status → ℕ
number_of Done = 0
number_of Usage = 1
number_of ReadFault = 2
number_of TooLong = 3
number_of (NotText at) = 4
number_of (NotJimple at) = 5
number_of (NotLinked error) = 6
number_of (NoSuchPlace which) = 7
number_of (NotProtocol error) = 8
number_of (NotCertificate at) = 9
number_of (Rejected line) = 10
number_of (OverBudget budget) = 11
number_of WriteFault = 12
number_of NoMemory = 13
number_of (NotBatch at) = 15
number_of BadPrelude = 16

-- the word for the part of a place that isn't there, or for a field
abbrev pub which_text : Which → List ℕ
which_text Method = codes "method"
which_text Index = codes "index"
which_text Local = codes "local"
which_text Second = codes "second"
which_text Field = codes "field"

-- the word for a rule of linking
abbrev pub kind_text : LinkKind → List ℕ
kind_text rule.DuplicateClass = codes "DuplicateClass"
kind_text rule.UnknownParent = codes "UnknownParent"
kind_text rule.CyclicClass = codes "CyclicClass"
kind_text rule.NoEntry = codes "NoEntry"
kind_text rule.DuplicateLocal = codes "DuplicateLocal"
kind_text rule.DuplicateLabel = codes "DuplicateLabel"
kind_text rule.UnknownLabel = codes "UnknownLabel"
kind_text rule.FallsOff = codes "FallsOff"
kind_text rule.UnknownLocal = codes "UnknownLocal"
kind_text rule.BadIdentity = codes "BadIdentity"
kind_text rule.DynamicInvoke = codes "DynamicInvoke"
kind_text rule.Reflection = codes "Reflection"
kind_text rule.Threads = codes "Threads"
kind_text rule.RetStatement = codes "RetStatement"
kind_text rule.NestedArray = codes "NestedArray"
kind_text rule.UnknownClass = codes "UnknownClass"
kind_text rule.UnknownField = codes "UnknownField"
kind_text rule.AbstractNew = codes "AbstractNew"
kind_text rule.UndeclaredCallee = codes "UndeclaredCallee"
kind_text rule.BadArguments = codes "BadArguments"
kind_text rule.NativeCallee = codes "NativeCallee"
kind_text rule.AmbiguousDefault = codes "AmbiguousDefault"

-- what is told behind the word: the class of the first three rules, nothing where there is no method to begin with, and the place of the others
abbrev pub told_text : LinkKind → List ℕ → ℕ → List ℕ
told_text rule.DuplicateClass place index = codes " " ++ place
told_text rule.UnknownParent place index = codes " " ++ place
told_text rule.CyclicClass place index = codes " " ++ place
told_text rule.NoEntry place index = []
told_text _ place index = codes " " ++ place ++ codes " " ++ decimal index

-- a refusal of linking; want of memory is none
abbrev pub error_text : LinkError → List ℕ
error_text (link.Refused kind place index) = kind_text kind ++ told_text kind place index
error_text link.NoMemory = []

-- why a word is no protocol: its first part that breaks the grammar, its first that brings a 17th state, or its class. Want of memory is no reason
abbrev pub protocol_text : ProtocolError → List ℕ
protocol_text (protocol.NotProtocol at) = codes "grammar " ++ decimal at
protocol_text (protocol.TooManyStates at) = codes "states " ++ decimal at
protocol_text protocol.UnknownClass = codes "class"
protocol_text protocol.NoMemory = []

-- the line of a refusal
abbrev pub refusal : Status → List ℕ
refusal Usage = codes "refused Usage"
refusal TooLong = codes "refused TooLong"
refusal (NotText at) = codes "refused NotText " ++ decimal at
refusal (NotJimple at) = codes "refused NotJimple " ++ decimal at
refusal (NotLinked error) = codes "refused NotLinked " ++ error_text error
refusal (NoSuchPlace which) = codes "refused NoSuchPlace " ++ which_text which
refusal (NotProtocol error) = codes "refused NotProtocol " ++ protocol_text error
refusal (NotCertificate at) = codes "refused NotCertificate " ++ decimal at
refusal (Rejected line) = codes "refused Rejected " ++ decimal line
refusal (OverBudget budget) = codes "refused OverBudget " ++ decimal budget
refusal (NotBatch at) = codes "refused NotBatch " ++ decimal at
refusal BadPrelude = codes "refused BadPrelude"
refusal _ = []

-- the status is this one, and its refusal is the only line
abbrev pub IsRefusedBy : Status → Status → List (List ℕ) → Type 0
IsRefusedBy by status lines = (status ≡ by) × (lines ≡ refusal by ∷ [])
