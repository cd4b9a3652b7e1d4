-- What lines, traps and bodies mean.
use Rattle.std.specs.Prelude.{ℕ, ◌+◌, List, [], ◌∷◌, map}
use Rattle.jim_ast.specs.declared.syntax.Stmt.{Stmt}
use Rattle.jim_ast.specs.declared.syntax.Label.{Label}
use Rattle.jim_ast.specs.declared.syntax.Trap.{Trap}
use Rattle.jim_ast.specs.declared.syntax.Body.{Body}
use Rattle.jim_grammar.specs.Forms.{LabelLine, StmtLine}
use Rattle.jim_grammar.specs.Expressions.{Tree}
use Rattle.jim_grammar.specs.Grammar.{line, trap, body}
use Rattle.jim_stmts.specs.Meanings.{id, stmt_of}
use Rattle.jim_build.specs.Decls.{locals_of}

-- the statements among the lines, in order
abbrev pub stmts_of : List (Tree line) → List Stmt
stmts_of [] = []
stmts_of ((LabelLine, _) ∷ more) = stmts_of more
stmts_of ((StmtLine, (s, _)) ∷ more) = stmt_of s ∷ stmts_of more

-- the labels among the lines, in order, each with the number of statements before it, where n statements stand before the lines
abbrev pub labels_from : ℕ → List (Tree line) → List Label
labels_from n [] = []
labels_from n ((LabelLine, (l, _)) ∷ more) = record { name = id l; index = n } ∷ labels_from n more
labels_from n ((StmtLine, _) ∷ more) = labels_from (n + 1) more

-- a trap, by the names of its class and of its three labels
abbrev pub trap_of : Tree trap → Trap
trap_of (_, (class, (_, (from, (_, (to, (_, (handler, _)))))))) = record { class = id class; from = id from; to = id to; with = id handler }

-- a body
abbrev pub body_of : Tree body → Body
body_of (_, (decls, (lines, (traps, _)))) = record {
  locals = locals_of decls;
  stmts = stmts_of lines;
  labels = labels_from 0 lines;
  traps = map trap_of traps;
}
