-- The names of a body are low where its tree is.
use Rattle.std.proofs.Common.{ℕ, ◌+◌, List, [], ◌∷◌, ◌++◌, flat_map, map, refl, inl}
use Rattle.jim_grammar.specs.Forms.{LabelLine, StmtLine, TypeDecl, OddDecl}
use Rattle.jim_grammar.specs.Expressions.{Star, Tree}
use Rattle.jim_grammar.specs.Grammar.{decl, line, trap, body}
use Rattle.jim_stmts.specs.Meanings.{stmt_of}
use Rattle.jim_build.specs.Decls.{locals_in, locals_of}
use Rattle.jim_build.specs.Bodies.{stmts_of, labels_from, trap_of, body_of}
use Rattle.link_rules.specs.Conditions.{stmt_names, label_names, trap_names, body_names}
use Rattle.read_laws.proofs.LowTrees.{IsLow}
use Rattle.read_laws.proofs.LowOperands.{Low, low_append, names_low}
use Rattle.read_laws.proofs.LowStatements.{stmt_low}

module _ (n : ℕ) where
  -- the locals of a declaration
  decl_low : (t : Tree decl) → IsLow n decl t → Low n (locals_in t)
  decl_low (TypeDecl, (_, (ns, _))) (_, (p, _)) = names_low n ns p
  decl_low (OddDecl, (_, (ns, _))) (_, (p, _)) = names_low n ns p

  -- the locals of all declarations
  locals_low : (xs : List (Tree decl)) → IsLow n (Star decl) xs → Low n (locals_of xs)
  locals_low [] h = tt
  locals_low (d ∷ xs) (p, h) = low_append n (locals_in d) (locals_of xs) (decl_low d p) (locals_low xs h)

  -- the statements among lines
  stmts_low : (xs : List (Tree line)) → IsLow n (Star line) xs → Low n (flat_map stmt_names (stmts_of xs))
  stmts_low [] h = tt
  stmts_low ((LabelLine, _) ∷ xs) (_, h) = stmts_low xs h
  stmts_low ((StmtLine, (s, _)) ∷ xs) ((p, _), h) = low_append n (stmt_names (stmt_of s)) (flat_map stmt_names (stmts_of xs)) (stmt_low n s p) (stmts_low xs h)

  -- the labels among lines, from whichever index they count
  labels_low : (from : ℕ) (xs : List (Tree line)) → IsLow n (Star line) xs → Low n (flat_map label_names (labels_from from xs))
  labels_low from [] h = tt
  labels_low from ((LabelLine, _) ∷ xs) ((p, _), h) = (p (inl refl), labels_low from xs h)
  labels_low from ((StmtLine, _) ∷ xs) (_, h) = labels_low (from + 1) xs h

  -- the traps
  traps_low : (xs : List (Tree trap)) → IsLow n (Star trap) xs → Low n (flat_map trap_names (map trap_of xs))
  traps_low [] h = tt
  traps_low (_ ∷ xs) ((_, (class, (_, (from, (_, (to, (_, (handler, _)))))))), h) =
      (class (inl refl), (from (inl refl), (to (inl refl), (handler (inl refl), traps_low xs h))))

  -- a body
  pub body_low : (t : Tree body) → IsLow n body t → Low n (body_names (body_of t))
  body_low (_, (decls, (lines, (traps, _)))) (_, (p, (q, (r, _)))) =
      let stmts = flat_map stmt_names (stmts_of lines) in
      let labels = flat_map label_names (labels_from 0 lines) in
      let handlers = flat_map trap_names (map trap_of traps) in
      low_append n (locals_of decls ++ stmts ++ labels) handlers
      (low_append n (locals_of decls ++ stmts) labels (low_append n (locals_of decls) stmts (locals_low decls p) (stmts_low lines q)) (labels_low 0 lines q)) (traps_low traps r)
