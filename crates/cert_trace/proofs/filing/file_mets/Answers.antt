use Rattle.std.proofs.Common.{List, arith, subst, sym}
use Rattle.std.proofs.lemmas.List.{take_all}
use Rattle.lists.proofs.Places.{slice_get-read}
use Rattle.lists.specs.Lists.{Has}
use Rattle.link_sites.specs.declared.site.Site.{Site}
use Rattle.spds_rules.specs.declared.store.StoreAt.{StoreAt}
use Rattle.spds_solve.specs.declared.met.Met.{Met}
use Rattle.spds_solve.specs.Solved.{StandsForMeet}
use Rattle.cert_work.proofs.Growing.{each_next}
use Rattle.cert_trace.specs.Settled.{IsSettled}
use Rattle.cert_trace.proofs.Wanted.{settled_more, wider_more, wider_none}
use Rattle.cert_trace.proofs.filing.file_mets.Goals as goal

pub loop-met-init : goal.loop-met-init
loop-met-init c = record { wider = wider_none _; settled = λ met has. let h = has.1 in cc }

pub file_next-requires : goal.file_next-requires
file_next-requires c =
    let rests = c.requires.2.rests c.loop-met.met-index _ (slice_get-read c.args.mets.now c.loop-met.met-index c.met-item.result c.loop-met-test.true c.met-item.is) in
    (rests.object, rests.base, rests.store, rests.stands)

pub loop-met-preserved : goal.loop-met-preserved
loop-met-preserved c =
    let was = c.loop-met.invariant in
    let now = c.in_ok-file_next.ensures in
    record {
      wider = wider_more _ _ _ was.wider now.wider;
      settled = each_next
          (λ (met : Met). (o base : Site) (s : StoreAt) → StandsForMeet c.args.demand.now met o base s → IsSettled c.file_next.new.wants c.file_next.new.stores o base s)
          c.args.mets.now c.loop-met.met-index _ (slice_get-read c.args.mets.now c.loop-met.met-index c.met-item.result c.loop-met-test.true c.met-item.is)
          (λ met has o base s stands. settled_more _ _ now.wider _ _ now.kept o base s (was.settled met has o base s stands)) now.settled;
    }

pub returns-clause-settled : goal.returns-clause-settled
returns-clause-settled c = λ o base s listed.
    let all = take_all c.loop-met.met-index c.args.mets.now (omega arith) in
    c.loop-met.invariant.settled listed.0 (subst (λ (xs : List Met). Has xs listed.0) (sym all) listed.1) o base s listed.2
