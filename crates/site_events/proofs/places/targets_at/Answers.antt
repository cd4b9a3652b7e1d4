use Rattle.std.proofs.Common.{◌≡◌, ℕ, Some, slice_get, subst}
use Rattle.link_indexes.specs.Facts.{Calls}
use Rattle.link_rules.specs.declared.code.Code.{Code}
use Rattle.link_rules.specs.declared.code.Code.TheVariants.{Call}
use Rattle.link_rules.specs.Linked.{LinkedMethod, LinkedProgram}
use Rattle.link_rules.specs.WellLinked.{HasTarget}
use Rattle.link_sites.specs.Places.{CodeAt}
use Rattle.spds_nodes.proofs.Sources.{called_target}
use Rattle.site_events.proofs.places.targets_at.Goals as goal

-- the code there is the call that has the target
target_called : (p : LinkedProgram) (number index target : ℕ) (c : Code) → CodeAt p number index c → HasTarget p number index target → Calls target c
target_called p number index target c at found =
    let first = at.there in
    let second = found.there in
    let same : at.method ≡ found.method = cc in
    let here = subst (λ (m : LinkedMethod). slice_get m.code index ≡ Some c) same at.here in
    let call = found.call in
    let is : Call found.to found.mode found.class found.key found.receiver found.args found.targets ≡ c = cc in
    subst (λ (d : Code). Calls target d) is found.has

pub returns-in-Some : goal.returns-in-Some
returns-in-Some c = λ target.
    let p = c.args.linked.now in
    let place = c.args.place in (
      (λ has. called_target p place.method place.index target _ c.in-Some.ensures.some ((c.targets_of.ensures target).0 has)),
      (λ found. (c.targets_of.ensures target).1 (target_called p place.method place.index target _ c.in-Some.ensures.some found)),
    )

pub returns-in-None : goal.returns-in-None
returns-in-None c = λ target. (
  (λ has. let no = has.1 in absurd cc),
  (λ found. absurd (c.in-None.ensures.none _ (record { method = found.method; there = found.there; here = found.call }))),
)
