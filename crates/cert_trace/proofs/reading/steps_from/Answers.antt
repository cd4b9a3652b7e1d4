use Rattle.std.proofs.Common.{ℕ, List, arith, subst, sym}
use Rattle.std.proofs.lemmas.List.{take_all}
use Rattle.std.proofs.lemmas.Option.{slice_get-get_or}
use Rattle.lists.specs.Lists.{Has}
use Rattle.cert_work.proofs.Growing.{second}
use Rattle.cert_work.proofs.Working.{cites_low}
use Rattle.cert_trace.specs.declared.reading.Reading.{Reading}
use Rattle.cert_trace.specs.Readings.{IsLinkTo}
use Rattle.cert_trace.proofs.Read.{steps_more}
use Rattle.cert_trace.proofs.reading.steps_from.Goals as goal

pub push_link-requires : goal.push_link-requires
push_link-requires c = second ((c.links-links.ensures _).0 (c.loop-link.link-index, slice_get-get_or _ _ _ c.loop-link-test.true))

pub loop-link-preserved : goal.loop-link-preserved
loop-link-preserved c =
    steps_more (λ (label : ℕ) (to : Reading). IsLinkTo c.args.work.now.written c.args.word c.args.level label to) c.links-links.result.now c.loop-link.link-index _ (slice_get-get_or _ _ _ c.loop-link-test.true)
    c.loop-link.steps.items c.push_link.new.steps.items c.in_ok-push_link.ensures c.loop-link.invariant

pub returns : goal.returns
returns c = λ label to.
    let all = take_all c.loop-link.link-index c.links-links.result.now (omega arith) in
    let are = c.loop-link.invariant label to in (
      (λ has. (are.0 has).1),
      (λ is.
          let low = cites_low c.args.work.now.written.given label _ is.links in
          let done = c.requires.all in
          let has = (c.links-links.ensures label).1 (omega arith, (to.entry, is.links)) in
          are.1 (subst (λ (xs : List ℕ). Has xs label) (sym all) has, is)),
    )
