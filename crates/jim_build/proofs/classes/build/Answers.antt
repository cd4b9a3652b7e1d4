use Rattle.std.proofs.Common.{[], ◌∷◌, ◌++◌, map, refl, sym, ap, ◌∙◌, arith}
use Rattle.std.proofs.lemmas.Bool.{false≢true}
use Rattle.jim_ast.specs.declared.syntax.Class.{Class}
use Rattle.jim_grammar.specs.Expressions.{spell}
use Rattle.jim_grammar.specs.Grammar.{class}
use Rattle.jim_stmts.specs.Leads.{lead_at}
use Rattle.jim_build.specs.Classes.{class_of}
use Rattle.jim_build.proofs.Loops.{through_more, through_end}
use Rattle.jim_build.proofs.Begins.{class_begins}
use Rattle.jim_build.proofs.classes.build.Goals as goal
use Rattle.jim_stmts.proofs.Drops.{left_where_lead}

pub loop-reader-init : goal.loop-reader-init
loop-reader-init c = λ x h. record { left = x; is_next = c.new-reader.ensures ∙ sym h; is_found = rw c.new-classes.ensures.items refl }

pub loop-reader-smaller : goal.loop-reader-smaller
loop-reader-smaller c =
    omega (arith, left_where_lead c.loop-reader.reader (λ e. false≢true (sym c.loop-reader-test.true ∙ c.is_at.ensures.1 e)), c.in_ok-class.ensures.shorter)

pub loop-reader-preserved : goal.loop-reader-preserved
loop-reader-preserved c = λ x h. rw c.in_ok-push.ensures.items
    (through_more (spell class) (map class_of) (λ y. class_of y ∷ []) x [] _ _ _ _ (λ y ys. refl) (c.loop-reader.invariant x h)
    (λ e. false≢true (sym c.loop-reader-test.true ∙ c.is_at.ensures.1 (ap lead_at e)))
    (λ y w e. ap (λ (k : Class). c.loop-reader.classes.items ++ k ∷ []) (c.in_ok-class.ensures.class y w e)) c.in_ok-class.ensures.rest)

pub returns-clause-classes : goal.returns-clause-classes
returns-clause-classes c = λ x h. rw c.from_vec.ensures
    (through_end (spell class) (map class_of) x [] _ _ refl (c.loop-reader.invariant x h)
    (λ y w e. class_begins y w (sym (ap lead_at e) ∙ c.is_at.ensures.0 c.loop-reader-test.false))).0
