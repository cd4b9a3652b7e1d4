-- Bytes are read in one way, and a program is linked or refused in one way.
use Rattle.std.proofs.Common.{◌≡◌, ℕ, List, ◌∙◌, ap, subst}
use Rattle.jim_ast.specs.declared.syntax.Program.{Program}
use Rattle.jim_text.proofs.ReadLemmas.{read_same, stop_no_list}
use Rattle.jim_parse.proofs.PlaceLemmas.{one_place}
use Rattle.jim_parse.proofs.ProgramLemmas.{derives_any, same_tokens, spells_one}
use Rattle.jim_parse.specs.Derives.{IsRefusedAt, Spells}
use Rattle.link_rules.proofs.OneWorld.{not_both}
use Rattle.link_rules.specs.Linked.{LinkedProgram, Links}
use Rattle.link_rules.specs.declared.refusal.LinkError.{LinkError}
use Rattle.link_rules.specs.declared.refusal.LinkError.TheVariants as link
use Rattle.link_laws.proofs.OneRefusal.{refused_one}
use Rattle.boom_top.specs.Parts.{IsGiven}
use Rattle.boom_top.specs.Queries.{IsPrelude}
use Rattle.boom_top.specs.Replies.{IsNotLinked, IsUnread}
use Rattle.boom_top.specs.declared.status.Status.{Status}
use Rattle.boom_top.specs.declared.status.Status.TheVariants.{NotJimple, NotText}

-- bytes that spell a program have no reason to be unread
pub spelled_read : (bytes : List ℕ) (input : Program) (s : Status) → Spells bytes input → IsUnread bytes s → ⊥
spelled_read bytes input (NotText at) spelled unread = stop_no_list unread spelled.tokens spelled.lexed
spelled_read bytes input (NotJimple at) spelled unread = unread.2.none input (derives_any bytes unread.0 input unread.1 spelled)
spelled_read bytes input _ spelled unread = absurd unread

-- bytes have one reason for which they aren't read
pub unread_one : (bytes : List ℕ) (s t : Status) → IsUnread bytes s → IsUnread bytes t → s ≡ t
unread_one bytes (NotText a) (NotText b) p q = ap NotText (read_same p.reached p.stuck q.reached q.stuck).0
unread_one bytes (NotText a) (NotJimple b) p q = absurd (stop_no_list p q.0 q.1)
unread_one bytes (NotJimple a) (NotText b) p q = absurd (stop_no_list q p.0 p.1)
unread_one bytes (NotJimple a) (NotJimple b) p q =
    ap NotJimple (one_place bytes p.0 a b p.2 (subst (λ ts. IsRefusedAt bytes ts b) (same_tokens bytes q.0 p.0 q.1 p.1) q.2))
unread_one bytes _ (NotText b) p q = absurd p
unread_one bytes _ (NotJimple b) p q = absurd p
unread_one bytes s _ p q = absurd q

-- such a reason is a status that a text has
pub given_unread : (bytes : List ℕ) (s : Status) → IsUnread bytes s → IsGiven s
given_unread bytes (NotText at) h = tt
given_unread bytes (NotJimple at) h = tt
given_unread bytes _ h = absurd h

-- the stand-ins are one program
pub prelude_one : (a b : Program) → IsPrelude a → IsPrelude b → a ≡ b
prelude_one a b p q = spells_one _ a b p.spelled q.spelled

-- one refusal of linking is told
pub error_one : (input prelude : Program) (entry : List ℕ) (a b : LinkError) → IsNotLinked input prelude entry a → IsNotLinked input prelude entry b → a ≡ b
error_one input prelude entry (link.Refused j x m) (link.Refused k y n) p q =
    let same = refused_one input prelude entry j k x y m n p q in
    ap (λ z. link.Refused z x m) same.0 ∙ ap (λ z. link.Refused k z m) same.1 ∙ ap (link.Refused k y) same.2
error_one input prelude entry link.NoMemory b p q = absurd p
error_one input prelude entry (link.Refused j x m) link.NoMemory p q = absurd q

-- what is linked isn't refused
pub not_refused : (input prelude : Program) (entry : List ℕ) (p : LinkedProgram) (error : LinkError) → Links input prelude entry p
    → IsNotLinked input prelude entry error → ⊥
not_refused input prelude entry p (link.Refused kind place index) links refused = not_both input prelude entry p kind place index links refused
not_refused input prelude entry p link.NoMemory links refused = refused
