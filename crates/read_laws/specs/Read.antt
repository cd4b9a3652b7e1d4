-- What the reader gives is what linking asks for.
use Rattle.std.specs.Prelude.{ℕ, List}
use Rattle.jim_ast.specs.declared.syntax.Program.{Program}
use Rattle.jim_text.specs.declared.Token.{Token}
use Rattle.jim_parse.specs.Derives.{Derives, Spells}
use Rattle.link_rules.specs.Conditions.{IsRead}

-- a program that bytes spell is as linking asks
abbrev pub SpelledIsRead : Type 0
SpelledIsRead = (bytes : List ℕ) (program : Program) → Spells bytes program → IsRead program

-- and so is one that tokens derive, whether or not the bytes have these tokens
abbrev pub DerivedIsRead : Type 0
DerivedIsRead = (bytes : List ℕ) (tokens : List Token) (program : Program) → Derives bytes tokens program → IsRead program
