use lib.Pointwise.{bytes_decides}
use Rattle.std.proofs.Common.{Some, sym, true≢false, ap, ◌∙◌}
use Rattle.std.proofs.lemmas.Option.{slice_get-get_or}
use Rattle.link_program.proofs.Searched.{first_here, not_here, nowhere}
use Rattle.link_program.proofs.places.first_name.Goals as goal

pub returns-then-eq-clause-some : goal.returns-then-eq-clause-some
returns-then-eq-clause-some c =
    let same = (bytes_decides c.as_str.result.now c.args.text.now).0 (sym c.eq.ensures ∙ c.if-eq.true) in
    let there = slice_get-get_or c.args.names.now c.loop-at.at c.index-names-at.result c.loop-at-test.true ∙ ap Some (sym c.index-names-at.is) in
    first_here c.args.names.now c.args.text.now c.loop-at.at c.index-names-at.result there (sym c.as_str.ensures ∙ same) c.loop-at.invariant

pub loop-at-preserved : goal.loop-at-preserved
loop-at-preserved c =
    let there = slice_get-get_or c.args.names.now c.loop-at.at c.index-names-at.result c.loop-at-test.true ∙ ap Some (sym c.index-names-at.is) in
    not_here c.args.names.now c.args.text.now c.loop-at.at c.index-names-at.result there
    (λ same. true≢false (sym ((bytes_decides c.as_str.result.now c.args.text.now).1 (c.as_str.ensures ∙ same)) ∙ sym c.eq.ensures ∙ c.if-eq.false)) c.loop-at.invariant

pub returns-clause-none : goal.returns-clause-none
returns-clause-none c = nowhere c.args.names.now c.args.text.now c.loop-at.at c.loop-at-test.false c.loop-at.invariant
