use Rattle.std.proofs.Common.{arith}
use Rattle.std.proofs.lemmas.Option.{slice_get_within}
use Rattle.object_ranges.specs.Selections.{selected_at}
use Rattle.object_ranges.proofs.Turned.{steady_part}
use Rattle.object_ranges.proofs.parts.parts_of.Goals as goal

pub loop-start-preserved : goal.loop-start-preserved
loop-start-preserved c =
    let turns = c.args.turns.now in
    let defaults = c.args.defaults.now in
    let at = c.loop-start in
    let row = c.row_from-row in
    let found = c.defaults_from-found in
    let alike = steady_part c.args.objects.now turns defaults at.start c.len-count.result row.result.1 found.result.1 row.result.0 found.result.0 c.selection_of-selection.result
    row.ensures.row found.ensures.defaults c.selection_of-selection.ensures row.ensures.steady found.ensures.steady in
    c.in_ok-add.ensures (selected_at turns defaults) (omega (arith, found.ensures.steady.on)) alike at.invariant

pub returns-clause-told : goal.returns-clause-told
returns-clause-told c =
    let all = c.loop-start.invariant in
    record {
      right = all.right;
      all = λ place class st. all.all place class (omega (arith, slice_get_within c.args.objects.now place _ st, c.loop-start-test.false, c.len-count.ensures)) st;
      has_class = all.has_class;
      differ = all.differ;
    }
