use Rattle.std.proofs.Common.{◌≡◌, ◌+◌, ◌-◌, ◌/◌, ◌<◌, true, false, length, refl, arith}
use Rattle.std.proofs.lemmas.Option.{slice_get-get_or}
use Rattle.call_side.proofs.Order.{no_place, rank_less, rank_more}
use Rattle.call_side.proofs.calls.rank.Goals as goal

pub loop-low-preserved-then-comes_before : goal.loop-low-preserved-then-comes_before
loop-low-preserved-then-comes_before c =
    let middle = c.loop-low.low + (c.loop-low.high - c.loop-low.low) / 2 in
    let below : middle < length c.args.places.now = omega arith in
    record {
      order = omega arith;
      within = omega arith;
      before = rank_more c.args.places.now middle _ c.args.place c.requires (slice_get-get_or c.args.places.now middle no_place below) (c.if-comes_before.ensures.0 refl);
      behind = c.loop-low.invariant.behind;
    }

pub loop-low-preserved : goal.loop-low-preserved
loop-low-preserved c =
    let middle = c.loop-low.low + (c.loop-low.high - c.loop-low.low) / 2 in
    let below : middle < length c.args.places.now = omega arith in
    record {
      order = omega arith;
      within = omega arith;
      before = c.loop-low.invariant.before;
      behind = rank_less c.args.places.now middle _ c.args.place c.requires (slice_get-get_or c.args.places.now middle no_place below) (λ h. let no : false ≡ true = c.if-comes_before.ensures.1 h in cc);
    }
