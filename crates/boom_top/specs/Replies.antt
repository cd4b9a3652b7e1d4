-- The status and the lines with which a command is answered: the checks in their order, each with the status that refuses.
use Rattle.std.specs.Prelude.{◌≡◌, ℕ, ◌<◌, ◌≤◌, ◌⊎◌, List, [], ◌∷◌, length}
use Rattle.jim_ast.specs.declared.syntax.Program.{Program}
use Rattle.jim_text.specs.Lexes.{Lexes, StopsAt}
use Rattle.jim_text.specs.declared.Token.{Token}
use Rattle.jim_parse.specs.Derives.{IsRefusedAt, Spells}
use Rattle.link_rules.specs.Linked.{IsRefused, LinkedProgram, Links}
use Rattle.link_rules.specs.declared.refusal.LinkError.{LinkError}
use Rattle.link_rules.specs.declared.refusal.LinkError.TheVariants as link
use Rattle.boom_words.specs.Requests.{IsRequest, NoRequest, Question, Request, alias, batch, demo, explain, paths, points_to, refined, replay, run, typestate}
use Rattle.report_text.specs.Answers.{IsAnswerText}
use Rattle.explain_text.specs.Explanations.{IsExplainText}
use Rattle.boom_top.specs.Aliases.{IsAliasReply}
use Rattle.boom_top.specs.Batches.{IsBatchReply}
use Rattle.boom_top.specs.Demo.{IsDemoText, demo_asked}
use Rattle.boom_top.specs.Paths.{IsPathReply}
use Rattle.boom_top.specs.Places.{IsPlaceReply}
use Rattle.boom_top.specs.Queries.{HasNoPrelude, IsPrelude, limit, program_in, rest_in, source_of}
use Rattle.boom_top.specs.Refined.{IsRefinedReply}
use Rattle.boom_top.specs.Refusals.{IsRefusedBy, refusal}
use Rattle.boom_top.specs.Replays.{IsReplayReply}
use Rattle.boom_top.specs.RunReport.{IsRunReply}
use Rattle.boom_top.specs.Typestates.{IsTypestateReply}
use Rattle.boom_top.specs.declared.status.Status.{Status}
use Rattle.boom_top.specs.declared.status.Status.TheVariants.{BadPrelude, NoMemory, NotJimple, NotLinked, NotText, ReadFault, TooLong, Usage, WriteFault}

-- about a linked program, and what stands behind its text
abbrev pub IsLinkedReply : LinkedProgram → List ℕ → List ℕ → Question → Status → List (List ℕ) → Type 0
IsLinkedReply p entry rest (points_to asked) = IsPlaceReply p asked (IsAnswerText p)
IsLinkedReply p entry rest (explain asked) = IsPlaceReply p asked (IsExplainText p)
IsLinkedReply p entry rest (alias asked) = IsAliasReply p asked
IsLinkedReply p entry rest (paths asked) = IsPathReply p asked
IsLinkedReply p entry rest (run asked) = IsRunReply p entry asked
IsLinkedReply p entry rest (replay budget) = IsReplayReply p budget rest
IsLinkedReply p entry rest (typestate asked) = IsTypestateReply p entry asked
IsLinkedReply p entry rest (batch budget) = IsBatchReply p budget rest
IsLinkedReply p entry rest (refined asked) = IsRefinedReply p asked
IsLinkedReply p entry rest (demo boxes) = IsPlaceReply p (demo_asked boxes) (λ n. IsDemoText p boxes)

-- a rule of linking refuses the program with the stand-ins, and this is told of it
abbrev pub IsNotLinked : Program → Program → List ℕ → LinkError → Type 0
IsNotLinked input prelude entry (link.Refused kind place index) = IsRefused input prelude entry kind place index
IsNotLinked input prelude entry link.NoMemory = ⊥

-- of a program and the stand-ins: a rule of linking refuses it, or it is linked
abbrev pub IsJoinedReply : Request → List ℕ → Program → Program → Status → List (List ℕ) → Type 0
IsJoinedReply r rest input prelude status lines = ((error : LinkError) × IsNotLinked input prelude r.entry error × IsRefusedBy (NotLinked error) status lines)
    ⊎ ((p : LinkedProgram) × Links input prelude r.entry p × IsLinkedReply p r.entry rest r.question status lines)

-- of a program: there are no stand-ins, or there are
abbrev pub IsProgramReply : Request → List ℕ → Program → Status → List (List ℕ) → Type 0
IsProgramReply r rest input status lines = (HasNoPrelude × IsRefusedBy BadPrelude status lines)
    ⊎ ((prelude : Program) × IsPrelude prelude × IsJoinedReply r rest input prelude status lines)

-- why bytes spell no program: no token begins at a byte, or no program goes on with a token
abbrev pub IsUnread : List ℕ → Status → Type 0
IsUnread bytes (NotText at) = StopsAt bytes at
IsUnread bytes (NotJimple at) = (tokens : List Token) × Lexes bytes tokens × IsRefusedAt bytes tokens at
IsUnread bytes _ = ⊥

-- of the program's part of a text, and of what stands behind it: the one spells no program, or it spells one
abbrev pub IsTextReply : Request → List ℕ → List ℕ → Status → List (List ℕ) → Type 0
IsTextReply r rest text status lines = (IsUnread text status × (lines ≡ refusal status ∷ []))
    ⊎ ((input : Program) × Spells text input × IsProgramReply r rest input status lines)

-- of any text: it is too long, or within the limit, of which all of it counts
abbrev pub IsSourceReply : Request → List ℕ → Status → List (List ℕ) → Type 0
IsSourceReply r text status lines = ((limit < length text) × IsRefusedBy TooLong status lines)
    ⊎ ((length text ≤ limit) × IsTextReply r (rest_in r.question text) (program_in r.question text) status lines)

-- The status and the lines that answer a request over these bytes. The demo is about its own text.
abbrev pub IsReplyTo : Request → List ℕ → Status → List (List ℕ) → Type 0
IsReplyTo r bytes status lines = IsSourceReply r (source_of r.question bytes) status lines

-- The status and the lines that answer these words over these bytes: they are no command, or one. A fault and want of memory are no answers.
abbrev pub IsReply : List (List ℕ) → List ℕ → Status → List (List ℕ) → Type 0
IsReply words bytes status lines = (NoRequest words × IsRefusedBy Usage status lines)
    ⊎ ((r : Request) × IsRequest words r × IsReplyTo r bytes status lines)

-- a fault or want of memory
abbrev pub GivesUp : Status → Type 0
GivesUp ReadFault = Unit {0}
GivesUp WriteFault = Unit {0}
GivesUp NoMemory = Unit {0}
GivesUp _ = ⊥
