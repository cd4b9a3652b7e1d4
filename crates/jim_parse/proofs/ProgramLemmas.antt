-- The program that a text spells.
use Rattle.std.proofs.Common.{◌≡◌, ℕ, List, [], sym, ap, ◌∙◌, subst}
use Rattle.jim_ast.specs.declared.syntax.Class.{Class}
use Rattle.jim_ast.specs.declared.syntax.Program.{Program}
use Rattle.jim_text.specs.declared.Token.{Token}
use Rattle.jim_text.specs.Lexes.{Lexes}
use Rattle.jim_text.proofs.ReadLemmas.{read_same, end_none}
use Rattle.jim_signs.specs.declared.seen.Sign.{Sign}
use Rattle.jim_signs.specs.Signs.{AreRead}
use Rattle.jim_grammar.specs.Expressions.{Tree, spell}
use Rattle.jim_grammar.specs.Grammar as grammar
use Rattle.jim_grammar.specs.Refusals as text
use Rattle.jim_build.specs.Classes.{classes_of}
use Rattle.jim_build.proofs.ApartProgram.{program_same}
use Rattle.jim_parse.specs.Derives.{Derives, Spells}

-- bytes have one list of tokens
pub same_tokens : (bytes : List ℕ) (one other : List Token) → Lexes bytes one → Lexes bytes other → one ≡ other
same_tokens bytes one other p q = (read_same p (end_none bytes) q (end_none bytes)).1

-- what bytes spell is derived from any list of tokens that they have
pub derives_any : (bytes : List ℕ) (tokens : List Token) (program : Program) → Lexes bytes tokens → Spells bytes program → Derives bytes tokens program
derives_any bytes tokens program lexed spells =
    subst (λ (ts : List Token). Derives bytes ts program) (same_tokens bytes spells.tokens tokens spells.lexed lexed) spells.derived

abbrev made : List (List ℕ) → List Class → Program
made names classes = record { names = names; classes = classes }

-- tokens derive one program at most
derives_one : (bytes : List ℕ) (tokens : List Token) (one other : Program) → Derives bytes tokens one → Derives bytes tokens other → one ≡ other
derives_one bytes tokens one other p q =
    let names : one.names ≡ other.names = p.names ∙ sym q.names in
    let classes : one.classes ≡ other.classes = p.classes ∙ ap classes_of (program_same p.tree q.tree (p.spelled ∙ sym q.spelled)) ∙ sym q.classes in
    ap (λ ns. made ns one.classes) names ∙ ap (made other.names) classes

-- and bytes spell one at most
pub spells_one : (bytes : List ℕ) (one other : Program) → Spells bytes one → Spells bytes other → one ≡ other
spells_one bytes one other p q = derives_one bytes p.tokens one other p.derived (derives_any bytes p.tokens other p.lexed q)

-- a program of the names that are read, whose classes any tree of the signs means, is spelled by the bytes
pub spelled_by : (bytes : List ℕ) (names : List (List ℕ)) (signs : List Sign) (program : Program) → AreRead bytes names signs → text.Derives signs → program.names ≡ names
    → ((x : Tree grammar.program) → spell grammar.program x [] ≡ signs → program.classes ≡ classes_of x) → Spells bytes program
spelled_by bytes names signs program found whole e classes = record {
  tokens = found.tokens;
  lexed = found.lexed;
  derived = record { tree = whole.tree; spelled = whole.spells ∙ found.the_signs; names = e ∙ found.the_names; classes = classes whole.tree whole.spells };
}
