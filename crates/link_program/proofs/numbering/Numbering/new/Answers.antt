use Rattle.std.proofs.Common.{◌<◌, Some, length, length-set, get_or, sym, ap, subst, ◌∙◌, arith}
use Rattle.std.proofs.lemmas.List.Elements.{All-get_or}
use Rattle.std.proofs.lemmas.Option.{slice_get-get_or}
use Rattle.lists.specs.Lists.{AreIncreasing}
use Rattle.link_program.proofs.Increasing.{HasPlaces, all_places, place_le, places_more}
use Rattle.link_program.proofs.numbering.Numbering.new.Goals as goal

pub overflow_cast-number : goal.overflow_cast-number
overflow_cast-number c =
    let rows = c.deref-row-items.result.now in
    let at = c.loop-number.number in
    let increasing = subst AreIncreasing (sym c.deref-row-items.ensures.value) c.requires.increasing in
    let le = place_le rows at (get_or rows at 0) increasing (slice_get-get_or rows at 0 c.loop-number-test.true) in
    let below = subst (λ xs. get_or xs at 0 < c.args.row_count) (sym c.deref-row-items.ensures.value)
    (All-get_or (λ row. row < c.args.row_count) c.args.rows.items at 0 (subst (λ xs. at < length xs) c.deref-row-items.ensures.value c.loop-number-test.true) c.requires.below) in
    omega (arith, le, below, c.ranges.row_count.fits)

pub loop-number-preserved : goal.loop-number-preserved
loop-number-preserved c =
    let rows = c.deref-row-items.result.now in
    let at = c.loop-number.number in
    let increasing = subst AreIncreasing (sym c.deref-row-items.ensures.value) c.requires.increasing in
    let below = subst (λ xs. get_or xs at 0 < c.args.row_count) (sym c.deref-row-items.ensures.value)
    (All-get_or (λ row. row < c.args.row_count) c.args.rows.items at 0 (subst (λ xs. at < length xs) c.deref-row-items.ensures.value c.loop-number-test.true) c.requires.below) in
    record {
      len = length-set c.loop-number.numbers.items (get_or rows at 0) (Some at) ∙ c.loop-number.invariant.len;
      places = places_more rows at (get_or rows at 0) c.loop-number.numbers.items increasing (slice_get-get_or rows at 0 c.loop-number-test.true)
          (omega (arith, below, c.loop-number.invariant.len)) c.loop-number.invariant.places;
    }

pub invariant_of-result : goal.invariant_of-result
invariant_of-result c =
    all_places c.args.rows.items c.loop-number.number c.loop-number.numbers.items c.requires.increasing
    (omega (arith, c.loop-number-test.false, ap length c.deref-row-items.ensures.value))
    (subst (λ xs. HasPlaces xs c.loop-number.number c.loop-number.numbers.items) c.deref-row-items.ensures.value c.loop-number.invariant.places)
