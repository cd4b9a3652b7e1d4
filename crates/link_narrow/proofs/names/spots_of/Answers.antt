use Rattle.std.proofs.Common.{get_or, subst}
use Rattle.std.proofs.lemmas.List.{take_all}
use Rattle.std.proofs.lemmas.Option.{slice_get-get_or}
use Rattle.lists.specs.Lists.{Adds}
use Rattle.narrow_rules.specs.declared.kept.Kept.{Kept}
use Rattle.link_narrow.specs.Names.{AreSpots}
use Rattle.link_narrow.proofs.Filled.{spots_more}
use Rattle.link_narrow.proofs.names.spots_of.Goals as goal

pub loop-one-preserved : goal.loop-one-preserved
loop-one-preserved c =
    let zero_kept : Kept = record { place = record { method = 0; index = 0 }; target = 0 } in
    let at = c.loop-one.one-index in
    let there = slice_get-get_or c.args.kept.now at zero_kept c.loop-one-test.true in
    spots_more c.args.kept.now at (get_or c.args.kept.now at zero_kept) c.loop-one.spots.keys c.add.new.self.keys there c.loop-one.invariant
    (subst (λ s. Adds c.loop-one.spots.keys s c.add.new.self.keys) c.spot_of.ensures c.in_ok-add.ensures.keys)

pub returns : goal.returns
returns c = subst (λ ks. AreSpots ks c.loop-one.spots.keys) (take_all c.loop-one.one-index c.args.kept.now c.loop-one-test.false) c.loop-one.invariant
