use Rattle.std.proofs.Common.{◌≡◌, ◌∙◌, IsTrue, arith}
use Rattle.jim_text.specs.declared.lead.Lead.TheVariants as lead
use Rattle.jim_grammar.specs.Grammar.{name}
use Rattle.jim_stmts.specs.Leads.{lead_at}
use Rattle.jim_stmts.specs.Meanings.{id}
use Rattle.jim_stmts.proofs.Commas.{Anything, commas_begin, commas_step, commas_done}
use Rattle.jim_stmts.proofs.Drops.{left_where_lead}
use Rattle.jim_stmts.proofs.listed.names.Goals as goal

pub loop-reader-init : goal.loop-reader-init
loop-reader-init c = record {
  no_longer = omega arith;
  left = λ x r h n. rw c.in_ok-push.ensures.items (rw c.new-found.ensures.items (commas_begin name id Anything x _ _ r _ h tt (λ _ _. tt) (λ y s e _. c.name.ensures.name _ s e) (λ y s e _. c.name.ensures.rest _ s e)));
}

pub loop-reader-smaller : goal.loop-reader-smaller
loop-reader-smaller c =
    let comma : lead_at c.loop-reader.reader ≡ lead.Comma = c.is_at.ensures.0 c.loop-reader-test.true in
    let left = left_where_lead c.loop-reader.reader (λ e. cc) in
    omega (arith, c.skip.ensures.shorter)

pub loop-reader-preserved : goal.loop-reader-preserved
loop-reader-preserved c = record {
  no_longer = omega arith;
  left = λ x r h n. rw c.in_ok-push-2.ensures.items (commas_step name id Anything _ _ _ _ _ r _ (c.loop-reader.invariant.left x r h n) tt (λ _ _. tt) n (c.is_at.ensures.0 c.loop-reader-test.true) c.skip.ensures.rest (λ y s e _. c.name-in-loop-reader.ensures.name _ s e) (λ y s e _. c.name-in-loop-reader.ensures.rest _ s e));
}

pub returns-clause-names : goal.returns-clause-names
returns-clause-names c = λ x r h n. c.from_vec.ensures ∙ (commas_done name id _ _ _ r (c.loop-reader.invariant.left x r h n) (λ l. let e : IsTrue c.is_at.result = c.is_at.ensures.1 l in cc (e, c.loop-reader-test.false))).0

pub returns-clause-rest : goal.returns-clause-rest
returns-clause-rest c = λ x r h n. (commas_done name id _ _ _ r (c.loop-reader.invariant.left x r h n) (λ l. let e : IsTrue c.is_at.result = c.is_at.ensures.1 l in cc (e, c.loop-reader-test.false))).1
