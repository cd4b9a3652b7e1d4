use Rattle.std.proofs.Common.{◌≡◌, ◌≤◌, ◌+◌, ◌++◌, ◌∷◌, [], ℕ, Some, length, slice_get, sym, subst, ◌∙◌}
use Rattle.lists.proofs.Places.{slice_get-there, slice_get-read}
use Rattle.link_rules.specs.WellLinked.{FitsCode, FitsMethod}
use Rattle.link_sites.specs.Places.{before}
use Rattle.step_rules.proofs.Listing.{at_all}
use Rattle.site_events.specs.EventStatements.{AreStatementsUpTo}
use Rattle.site_events.proofs.Counted.{statements_end, statements_more, statements_skip}
use Rattle.site_events.proofs.statements.add_statements.Goals as goal
use Rattle.site_events.proofs.statements.add_statements.Goals.{in-Some+in_ok-number_of+in_ok-push, in_default}

pub act_of-requires-clause-fits : goal.act_of-requires-clause-fits
act_of-requires-clause-fits c =
    let p = c.args.linked.now in
    let m = slice_get-there p.methods c.args.method c.requires.there in
    let is = c.code-code-items.ensures m.0 m.1 in
    let read = slice_get-read c.code-code-items.result.now c.loop-index.index c.code-item.result c.loop-index-test.true c.code-item.is in
    let here : slice_get m.0.code c.loop-index.index ≡ Some c.code-item.result = rw is at read in
    let fits = at_all (FitsMethod p) p.methods c.args.method m.0 c.tell_form.ensures.methods m.1 in
    (m.0, at_all (FitsCode p m.0) m.0.code c.loop-index.index c.code-item.result fits.codes here)

pub loop-index-preserved : goal.loop-index-preserved
loop-index-preserved c =
    let p = c.args.linked.now in
    let k = c.args.protocol.now in
    let m = slice_get-there p.methods c.args.method c.requires.there in
    let is = c.code-code-items.ensures m.0 m.1 in
    let read = slice_get-read c.code-code-items.result.now c.loop-index.index c.code-item.result c.loop-index-test.true c.code-item.is in
    let here : slice_get m.0.code c.loop-index.index ≡ Some c.code-item.result = rw is at read in
    record {
      statements = elim c.match-act_of.branch [
        | in-Some+in_ok-number_of+in_ok-push w ↦
            rw (w.statements-is, w.in_ok-push.ensures.items)
            (subst (λ (i : ℕ). AreStatementsUpTo p k c.args.method (c.loop-index.index + 1)
            (c.loop-index.statements.items ++ record { place = before c.args.method i; event = w.in-Some.act.event; receiver = w.in-Some.act.receiver } ∷ [])) (sym w.in_ok-number_of.ensures)
            (statements_more p k c.args.method c.loop-index.index c.code-item.result w.in-Some.act c.loop-index.statements.items
            (record { method = m.0; there = m.1; here = here }) (rw w.in-Some.is at c.act_of.ensures.some) c.loop-index.invariant.statements))
        | in_default w ↦ rw w.statements-is (statements_skip p k c.args.method c.loop-index.index c.code-item.result c.loop-index.statements.items
            (record { method = m.0; there = m.1; here = here }) (rw w.in_default.is at c.act_of.ensures.none) c.loop-index.invariant.statements)
      ];
      class = c.act_of.ensures.class ∙ c.loop-index.invariant.class;
      are = c.act_of.ensures.are;
    }

pub returns-clause-statements : goal.returns-clause-statements
returns-clause-statements c =
    let p = c.args.linked.now in
    let m = slice_get-there p.methods c.args.method c.requires.there in
    let is = c.code-code-items.ensures m.0 m.1 in
    let past : length m.0.code ≤ c.loop-index.index = rw is at c.loop-index-test.false in
    statements_end p c.args.protocol.now c.args.method c.loop-index.index m.0 c.loop-index.statements.items m.1 past c.loop-index.invariant.statements
