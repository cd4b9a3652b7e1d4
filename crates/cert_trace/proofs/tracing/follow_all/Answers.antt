use Rattle.std.proofs.Common.{◌+◌, List, arith, subst, take}
use Rattle.std.proofs.lemmas.List.{take_all}
use Rattle.lists.proofs.Places.{slice_get-read}
use Rattle.lists.proofs.Joined.{slice_get-taken}
use Rattle.spds_solve.specs.declared.met.Met.{Met}
use Rattle.spds_rules.specs.Systems.{Meets}
use Rattle.spds_solve.specs.Solved.{IsListed}
use Rattle.spds_rules.specs.Demand.{about}
use Rattle.cert_work.specs.Added.{AreAdded}
use Rattle.cert_work.proofs.Growing.{added_more}
use Rattle.cert_trace.specs.Resting.{IsTraced}
use Rattle.cert_trace.proofs.Traced.{traced_next, wants_less}
use Rattle.cert_trace.proofs.tracing.follow_all.Goals as goal

pub loop-met-init : goal.loop-met-init
loop-met-init c = record { added = AreAdded.none; traced = c.requires.traced }

pub follow-requires-clause-next : goal.follow-requires-clause-next
follow-requires-clause-next c = record {
  before = take c.loop-met.met-index c.args.mets.now;
  traced = c.loop-met.invariant.traced;
  rests = c.requires.mets.rests c.loop-met.met-index _ (slice_get-read c.args.mets.now c.loop-met.met-index c.met-item.result c.loop-met-test.true c.met-item.is);
}

pub follow-requires-clause-meets : goal.follow-requires-clause-meets
follow-requires-clause-meets c = λ o base s stands.
    let there = slice_get-read c.args.mets.now c.loop-met.met-index c.met-item.result c.loop-met-test.true c.met-item.is in
    (c.requires.mets.exact o base s).0 (c.met-item.result, (c.loop-met.met-index, there), stands)

pub loop-met-preserved : goal.loop-met-preserved
loop-met-preserved c =
    let was = c.loop-met.invariant in
    let now = c.in_ok-follow.ensures in
    record {
      added = added_more c.args.view.now.linked.now c.args.view.now.target was.added now.added;
      traced = traced_next c.args.view.now c.args.demand.now c.args.mets.now c.loop-met.met-index c.met-item.result
          (slice_get-read c.args.mets.now c.loop-met.met-index c.met-item.result c.loop-met-test.true c.met-item.is) c.loop-met.work c.follow.new.work was.traced now.added now.work
          now.all
          (wants_less c.args.view.now.linked.now c.args.view.now.target c.args.view.now.wants.now (Meets c.args.view.now.linked.now (about c.args.view.now.target))
          (IsListed c.args.demand.now (take (c.loop-met.met-index + 1) c.args.mets.now))
          (λ o base s listed. (c.requires.mets.exact o base s).0 (listed.0, (listed.1.0, slice_get-taken (c.loop-met.met-index + 1) c.args.mets.now listed.1.0 listed.0 listed.1.1), listed.2))
          c.requires.wanted) now.there;
    }

pub returns-clause-traced : goal.returns-clause-traced
returns-clause-traced c =
    let all = take_all c.loop-met.met-index c.args.mets.now (omega arith) in
    subst (λ (ms : List Met). IsTraced c.args.view.now c.args.demand.now ms c.loop-met.work) all c.loop-met.invariant.traced
