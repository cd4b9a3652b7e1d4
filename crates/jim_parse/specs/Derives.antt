-- The program that tokens derive, and the first token with which no program goes on.
--
-- A program's names are the contents of the tokens that have some, each once, numbered in the order in which each comes first. So names are compared
-- by their texts, and a text spells at most one program.
use Rattle.std.specs.Prelude.{◌≡◌, ℕ, ◌+◌, ◌<◌, ◌≤◌, List, [], ◌++◌, length, map, take}
use Rattle.jim_ast.specs.declared.syntax.Program.{Program}
use Rattle.jim_text.specs.declared.Token.{Token}
use Rattle.jim_text.specs.Lexes.{Lexes}
use Rattle.jim_signs.specs.declared.seen.Sign.{Sign}
use Rattle.jim_signs.specs.Names.{names_of}
use Rattle.jim_signs.specs.Signs.{signs_of}
use Rattle.jim_signs.specs.Pieces.{Piece, piece_lead}
use Rattle.jim_grammar.specs.Expressions.{Tree, spell}
use Rattle.jim_grammar.specs.Grammar as grammar
use Rattle.jim_grammar.specs.Refusals as text
use Rattle.jim_build.specs.Classes.{classes_of}

-- the tokens of these bytes derive this program: some tree of the grammar spells them and means its classes
pub record Derives (bytes : List ℕ) (tokens : List Token) (program : Program) : Type 0 where
  pub tree : Tree grammar.program
  pub spelled : spell grammar.program tree [] ≡ signs_of bytes tokens
  pub names : program.names ≡ names_of bytes tokens
  pub classes : program.classes ≡ classes_of tree

-- these bytes spell this program
pub record Spells (bytes : List ℕ) (program : Program) : Type 0 where
  pub tokens : List Token
  pub lexed : Lexes bytes tokens
  pub derived : Derives bytes tokens program

-- a token as the grammar sees it; what it names makes no difference to whether some tree spells it
abbrev pub sign_of_piece : Piece → Sign
sign_of_piece piece = record { lead = piece_lead piece; text = 0 }

-- a program begins with the first n of the tokens: some tree spells them and, behind them, some further tokens
pub record GoesOn (bytes : List ℕ) (tokens : List Token) (n : ℕ) : Type 0 where
  pub more : List Piece
  pub derived : text.Derives (take n (signs_of bytes tokens) ++ map sign_of_piece more)

-- The tokens derive no program, and this is the place of the first with which none goes on, from 0. Where each token is right at its place, and yet the
-- end comes too early, it is the number of tokens.
pub record IsRefusedAt (bytes : List ℕ) (tokens : List Token) (at : ℕ) : Type 0 where
  pub within : at ≤ length tokens
  pub begun : (n : ℕ) → n ≤ at → GoesOn bytes tokens n
  pub refused : at < length tokens → ¬ GoesOn bytes tokens (at + 1)
  pub none : (program : Program) → ¬ Derives bytes tokens program

-- a text spells at most one program
abbrev pub HasOneProgram : Type 0
HasOneProgram = (bytes : List ℕ) (one other : Program) → Spells bytes one → Spells bytes other → one ≡ other

-- tokens are refused at one place at most
abbrev pub HasOnePlace : Type 0
HasOnePlace = (bytes : List ℕ) (tokens : List Token) (one other : ℕ) → IsRefusedAt bytes tokens one → IsRefusedAt bytes tokens other → one ≡ other
