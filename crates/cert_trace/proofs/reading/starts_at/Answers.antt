use Rattle.std.proofs.Common.{ℕ, List, arith, subst, sym}
use Rattle.std.proofs.lemmas.List.{take_all}
use Rattle.std.proofs.lemmas.Option.{slice_get-get_or}
use Rattle.lists.specs.Lists.{Has}
use Rattle.cert_rules.specs.declared.line.Side.TheVariants.{Call}
use Rattle.cert_work.proofs.Growing.{second}
use Rattle.cert_work.proofs.Working.{cites_low}
use Rattle.cert_trace.specs.declared.reading.Reading.{Reading}
use Rattle.cert_trace.specs.Readings.{Begins}
use Rattle.cert_trace.proofs.Read.{steps_more}
use Rattle.cert_trace.proofs.reading.starts_at.Goals as goal

pub push_start-requires : goal.push_start-requires
push_start-requires c = second ((c.objects-numbers.ensures _).0 (c.loop-number.number-index, slice_get-get_or _ _ _ c.loop-number-test.true))

pub loop-number-preserved : goal.loop-number-preserved
loop-number-preserved c =
    steps_more (λ (label : ℕ) (to : Reading). Begins c.args.work.now.written c.args.spot.site c.args.spot.node label to) c.objects-numbers.result.now c.loop-number.number-index _ (slice_get-get_or _ _ _ c.loop-number-test.true)
    c.loop-number.starts.items c.push_start.new.starts.items c.in_ok-push_start.ensures c.loop-number.invariant

pub returns : goal.returns
returns c = λ label to.
    let all = take_all c.loop-number.number-index c.objects-numbers.result.now (omega arith) in
    let are = c.loop-number.invariant label to in (
      (λ has. (are.0 has).1),
      (λ is.
          let low = cites_low c.args.work.now.written.given label _ is.gives in
          let done = c.requires.filed.all in
          let has = (c.objects-numbers.ensures label).1 (omega arith, (Call, to.entry, is.gives)) in
          are.1 (subst (λ (xs : List ℕ). Has xs label) (sym all) has, is)),
    )
