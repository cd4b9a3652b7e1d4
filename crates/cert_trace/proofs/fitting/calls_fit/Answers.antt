use Rattle.std.proofs.Common.{All, arith, subst, sym, take}
use Rattle.std.proofs.lemmas.List.{take_all}
use Rattle.std.proofs.lemmas.List.Elements.{All-nil, All-push}
use Rattle.std.proofs.lemmas.Option.{slice_get-get_or}
use Rattle.lists.proofs.Places.{take-next}
use Rattle.cert_rules.specs.Spelled.{FitsCall}
use Rattle.cert_trace.proofs.fitting.calls_fit.Goals as goal

pub loop-place-init : goal.loop-place-init
loop-place-init c = All-nil FitsCall

pub call_fits-requires : goal.call_fits-requires
call_fits-requires c = c.requires c.loop-place.place-index _ c.loop-place-test.true

pub loop-place-preserved : goal.loop-place-preserved
loop-place-preserved c =
    subst (All FitsCall) (sym (take-next c.args.string.now c.loop-place.place-index _ (slice_get-get_or _ _ _ c.loop-place-test.true)))
    (All-push FitsCall (take c.loop-place.place-index c.args.string.now) _ c.loop-place.invariant c.call_fits.ensures)

pub returns : goal.returns
returns c = subst (All FitsCall) (take_all c.loop-place.place-index c.args.string.now (omega arith)) c.loop-place.invariant
