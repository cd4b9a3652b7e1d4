use Rattle.std.proofs.Common.{◌≡◌, ℕ, List, arith, subst, sym}
use Rattle.std.proofs.lemmas.List.{take_all}
use Rattle.std.proofs.lemmas.Option.{slice_get-get_or}
use Rattle.lists.specs.Lists.{Has}
use Rattle.cert_laws.proofs.Givens.{cites_one}
use Rattle.cert_rules.specs.declared.fact.Entry.{Entry}
use Rattle.cert_rules.specs.declared.fact.Fact.TheVariants.{At}
use Rattle.cert_rules.specs.declared.line.Side.TheVariants.{Call}
use Rattle.cert_rules.specs.Given.{Cites}
use Rattle.cert_work.proofs.Growing.{each_next, second}
use Rattle.cert_work.proofs.Working.{cites_low}
use Rattle.cert_trace.proofs.claiming.call_line.Goals as goal

pub loop-number-init : goal.loop-number-init
loop-number-init c = λ i has e cites. let h = has.1 in cc

pub word_at-requires : goal.word_at-requires
word_at-requires c = second ((c.objects-numbers.ensures _).0 (c.loop-number.number-index, slice_get-get_or _ _ _ c.loop-number-test.true))

pub loop-number-preserved : goal.loop-number-preserved
loop-number-preserved c =
    each_next (λ (i : ℕ). (e : Entry) → Cites c.args.work.now.written.given i (At Call c.args.spot.site e c.args.spot.node) → ⊥) c.objects-numbers.result.now
    c.loop-number.number-index _ (slice_get-get_or _ _ _ c.loop-number-test.true) c.loop-number.invariant
    (λ e cites.
    let same = cites_one _ _ _ _ c.word_at.ensures.gives cites in
    let side : c.word_at.result.side ≡ Call = cc in let t = c.is_of_calls.ensures.1 side in cc (t, c.if-is_of_calls.false))

pub unreachable-requires : goal.unreachable-requires
unreachable-requires c =
    let there = c.requires.there in
    let all = take_all c.loop-number.number-index c.objects-numbers.result.now (omega arith) in
    let low = cites_low c.args.work.now.written.given there.0 _ there.2 in
    let done = c.requires.filed.all in
    let has = (c.objects-numbers.ensures there.0).1 (omega arith, (Call, there.1, there.2)) in
    c.loop-number.invariant there.0 (subst (λ (xs : List ℕ). Has xs there.0) (sym all) has) there.1 there.2
