use Rattle.std.proofs.Common.{IsTrue, inl, inr, rules}
use Rattle.std.proofs.lemmas.Option.{slice_get-get_or}
use Rattle.lists.proofs.Places.{slice_get-pushed, take-next}
use Rattle.site_events.proofs.settled.are_settled.Goals as goal

pub loop-target-preserved : goal.loop-target-preserved
loop-target-preserved c target method has there =
    let targets = c.args.targets.now in
    let index = c.loop-target.target-index in
    let next = take-next targets index _ (slice_get-get_or targets index 0 c.loop-target-test.true) in
    let old = rw next at has.1 in
    let holds : IsTrue c.is_settled_in.result = search rules in
    elim (slice_get-pushed _ _ has.0 target old) [
      | inl before ↦ c.loop-target.invariant target method (has.0, before) there
      | inr last ↦ c.is_settled_in.ensures.settled holds method (rw last.1 at there)
    ]
