use Rattle.std.proofs.Common.{◌≡◌, [], ◌∷◌, ◌++◌, map, refl, sym, ap, ◌∙◌, arith}
use Rattle.std.proofs.lemmas.Bool.{false≢true}
use Rattle.jim_ast.specs.declared.syntax.Trap.{Trap}
use Rattle.jim_text.specs.declared.lead.Lead.TheVariants as lead
use Rattle.jim_grammar.specs.Expressions.{spell}
use Rattle.jim_grammar.specs.Grammar.{trap}
use Rattle.jim_stmts.specs.Leads.{lead_at}
use Rattle.jim_build.specs.Bodies.{trap_of}
use Rattle.jim_build.proofs.Loops.{through_more, through_end}
use Rattle.jim_build.proofs.bodies.traps.Goals as goal
use Rattle.jim_stmts.proofs.Drops.{left_where_lead}

pub loop-traps-init : goal.loop-traps-init
loop-traps-init c = record {
  through = λ x r h n. record { left = x; is_next = h; is_found = rw c.new-traps.ensures.items refl };
  no_longer = omega arith;
}

pub loop-traps-smaller : goal.loop-traps-smaller
loop-traps-smaller c =
    let next : lead_at c.loop-traps.reader ≡ lead.Catch = c.is_at.ensures.0 c.loop-traps-test.true in
    omega (arith, left_where_lead c.loop-traps.reader (λ e. cc (e, next)), c.trap.ensures.shorter)

pub loop-traps-preserved : goal.loop-traps-preserved
loop-traps-preserved c =
    let next : lead_at c.loop-traps.reader ≡ lead.Catch = c.is_at.ensures.0 c.loop-traps-test.true in record {
      through = λ x r h n. rw c.in_ok-push.ensures.items
          (through_more (spell trap) (map trap_of) (λ t. trap_of t ∷ []) x r _ _ _ _ (λ y ys. refl) (c.loop-traps.invariant.through x r h n)
          (λ e. n (sym (ap lead_at e) ∙ next))
          (λ y w e. ap (λ (t : Trap). c.loop-traps.traps.items ++ t ∷ []) (c.trap.ensures.trap y w e)) c.trap.ensures.rest);
      no_longer = omega (arith, left_where_lead c.loop-traps.reader (λ e. cc (e, next)), c.trap.ensures.shorter);
    }

pub returns-clause-traps : goal.returns-clause-traps
returns-clause-traps c = λ x r h n. rw c.from_vec.ensures
    (through_end (spell trap) (map trap_of) x r _ _ refl (c.loop-traps.invariant.through x r h n)
    (λ y w e. false≢true (sym c.loop-traps-test.false ∙ c.is_at.ensures.1 (ap lead_at e)))).0

pub returns-clause-rest : goal.returns-clause-rest
returns-clause-rest c = λ x r h n.
    (through_end (spell trap) (map trap_of) x r _ _ refl (c.loop-traps.invariant.through x r h n)
    (λ y w e. false≢true (sym c.loop-traps-test.false ∙ c.is_at.ensures.1 (ap lead_at e)))).1
