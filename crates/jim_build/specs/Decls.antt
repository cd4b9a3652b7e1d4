-- What declarations mean: the locals that they declare. Their types stand in the trees alone.
use Rattle.std.specs.Prelude.{List, [], ◌∷◌, ◌++◌}
use Rattle.jim_ast.specs.declared.names.NameId.{NameId}
use Rattle.jim_grammar.specs.Forms.{TypeDecl, OddDecl}
use Rattle.jim_grammar.specs.Expressions.{Tree}
use Rattle.jim_grammar.specs.Grammar.{decl}
use Rattle.jim_stmts.specs.Meanings.{names_of}

-- the locals that a declaration declares, in order
abbrev pub locals_in : Tree decl → List NameId
locals_in (TypeDecl, (_, (ns, _))) = names_of ns
locals_in (OddDecl, (_, (ns, _))) = names_of ns

-- the locals that declarations declare, in order
abbrev pub locals_of : List (Tree decl) → List NameId
locals_of [] = []
locals_of (d ∷ more) = locals_in d ++ locals_of more
