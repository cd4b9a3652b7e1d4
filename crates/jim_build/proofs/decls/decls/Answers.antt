use Rattle.std.proofs.Common.{◌≡◌, true, refl, sym, ap, ◌∙◌, arith}
use Rattle.std.proofs.lemmas.Bool.{false≢true}
use Rattle.jim_grammar.specs.Expressions.{spell}
use Rattle.jim_grammar.specs.Grammar.{decl}
use Rattle.jim_build.specs.Decls.{locals_in, locals_of}
use Rattle.jim_build.specs.Splits.{begins_decl}
use Rattle.jim_build.proofs.Loops.{through_more, through_end}
use Rattle.jim_build.proofs.Begins.{decl_begins, begins_decl-some}
use Rattle.jim_build.proofs.decls.decls.Goals as goal

pub loop-alloc-init : goal.loop-alloc-init
loop-alloc-init c = record {
  through = λ x r h n. record { left = x; is_next = h; is_found = rw c.new-locals.ensures.items refl };
  no_longer = omega arith;
}

pub loop-alloc-smaller : goal.loop-alloc-smaller
loop-alloc-smaller c =
    let begins : begins_decl c.loop-alloc.reader ≡ true = sym c.begins_decl.ensures ∙ c.loop-alloc-test.true in
    omega (arith, begins_decl-some c.loop-alloc.reader begins, c.in_ok-decl.ensures.shorter)

pub loop-alloc-preserved : goal.loop-alloc-preserved
loop-alloc-preserved c =
    let begins : begins_decl c.loop-alloc.reader ≡ true = sym c.begins_decl.ensures ∙ c.loop-alloc-test.true in record {
      through = λ x r h n.
          through_more (spell decl) locals_of locals_in x r _ _ _ _ (λ y ys. refl) (c.loop-alloc.invariant.through x r h n)
          (λ e. false≢true (sym n ∙ (sym (ap begins_decl e) ∙ begins))) c.in_ok-decl.ensures.locals c.in_ok-decl.ensures.rest;
      no_longer = omega (arith, begins_decl-some c.loop-alloc.reader begins, c.in_ok-decl.ensures.shorter);
    }

pub returns-clause-locals : goal.returns-clause-locals
returns-clause-locals c = λ x r h n. rw c.from_vec.ensures
    (through_end (spell decl) locals_of x r _ _ refl (c.loop-alloc.invariant.through x r h n)
    (λ y w e. false≢true (sym c.loop-alloc-test.false ∙ (c.begins_decl.ensures ∙ (ap begins_decl e ∙ decl_begins y w))))).0

pub returns-clause-rest : goal.returns-clause-rest
returns-clause-rest c = λ x r h n.
    (through_end (spell decl) locals_of x r _ _ refl (c.loop-alloc.invariant.through x r h n)
    (λ y w e. false≢true (sym c.loop-alloc-test.false ∙ (c.begins_decl.ensures ∙ (ap begins_decl e ∙ decl_begins y w))))).1
