-- The loop that reads the lines of a body.
use Rattle.std.proofs.Common.{◌≡◌, ℕ, ◌+◌, List, [], ◌∷◌, ◌++◌, length, refl, sym, append_assoc, append-nil, arith}
use Rattle.std.proofs.lemmas.List.{length-append}
use Rattle.jim_ast.specs.declared.syntax.Stmt.{Stmt}
use Rattle.jim_ast.specs.declared.syntax.Label.{Label}
use Rattle.jim_signs.specs.declared.seen.Sign.{Sign}
use Rattle.jim_grammar.specs.Forms.{LabelLine, StmtLine}
use Rattle.jim_grammar.specs.Expressions.{Tree, spell, spell_each}
use Rattle.jim_grammar.specs.Grammar.{line}
use Rattle.jim_build.specs.Bodies.{stmts_of, labels_from}

-- the lines that are left are next, and what was found is what the others mean
pub record LinesThrough (all : List (Tree line)) (r now : List Sign) (stmts : List Stmt) (labels : List Label) : Type 0 where
  pub left : List (Tree line)
  pub is_next : now ≡ spell_each (spell line) left r
  pub stmts_are : stmts_of all ≡ stmts ++ stmts_of left
  pub labels_are : labels_from 0 all ≡ labels ++ labels_from (length stmts) left

-- the statements of a line, and of those behind it
split_stmts : (x : Tree line) (xs : List (Tree line)) → stmts_of (x ∷ xs) ≡ stmts_of (x ∷ []) ++ stmts_of xs
split_stmts (LabelLine, _) xs = refl
split_stmts (StmtLine, _) xs = refl

-- the labels of a line, and of those behind it
split_labels : (n : ℕ) (x : Tree line) (xs : List (Tree line)) → labels_from n (x ∷ xs) ≡ labels_from n (x ∷ []) ++ labels_from (n + length (stmts_of (x ∷ []))) xs
split_labels n (LabelLine, (l, _)) xs = let same : n + 0 ≡ n = omega arith in rw same refl
split_labels n (StmtLine, (s, _)) xs = refl

-- one more line
pub lines_more : (all : List (Tree line)) (r now new : List Sign) (stmts stmts_after : List Stmt) (labels labels_after : List Label)
    → LinesThrough all r now stmts labels → (now ≡ r → ⊥)
    → ((x : Tree line) (w : List Sign) → now ≡ spell line x w → stmts_after ≡ stmts ++ stmts_of (x ∷ []))
    → ((x : Tree line) (w : List Sign) → now ≡ spell line x w → labels_after ≡ labels ++ labels_from (length stmts) (x ∷ []))
    → ((x : Tree line) (w : List Sign) → now ≡ spell line x w → new ≡ w)
    → LinesThrough all r new stmts_after labels_after
lines_more all r now new stmts stmts_after labels labels_after t differs means labelled rest = go t.left t.is_next t.stmts_are t.labels_are
  where
    go : (left : List (Tree line)) → now ≡ spell_each (spell line) left r → stmts_of all ≡ stmts ++ stmts_of left → labels_from 0 all ≡ labels ++ labels_from (length stmts) left
        → LinesThrough all r new stmts_after labels_after
    go [] h e f = absurd (differs h)
    go (x ∷ xs) h e f = record {
      left = xs;
      is_next = rest x _ h;
      stmts_are = rw (means x _ h, append_assoc, ← split_stmts x xs) e;
      labels_are = rw (means x _ h, labelled x _ h, length-append, append_assoc, ← split_labels (length stmts) x xs) f;
    }

-- no line is next any more
pub lines_end : (all : List (Tree line)) (r now : List Sign) (stmts : List Stmt) (labels : List Label)
    → LinesThrough all r now stmts labels → ((x : Tree line) (w : List Sign) → now ≡ spell line x w → ⊥)
    → (stmts ≡ stmts_of all) × (labels ≡ labels_from 0 all) × (now ≡ r)
lines_end all r now stmts labels t ends = go t.left t.is_next t.stmts_are t.labels_are
  where
    go : (left : List (Tree line)) → now ≡ spell_each (spell line) left r → stmts_of all ≡ stmts ++ stmts_of left → labels_from 0 all ≡ labels ++ labels_from (length stmts) left
        → (stmts ≡ stmts_of all) × (labels ≡ labels_from 0 all) × (now ≡ r)
    go [] h e f = (sym (rw append-nil at e), sym (rw append-nil at f), h)
    go (x ∷ xs) h e f = absurd (ends x _ h)
