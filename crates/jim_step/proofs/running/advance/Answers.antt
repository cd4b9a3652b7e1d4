use Rattle.std.proofs.Common.{ap, arith}
use Rattle.std.proofs.lemmas.List.{length-map}
use Rattle.jim_step.proofs.Readies.{here_of}
use Rattle.jim_step.proofs.Steadies.{callers_can, counted_frames, depth_after, going_at, known_moved, ready_at}
use Rattle.jim_step.proofs.Tops.{each_top}
use Rattle.jim_step.specs.Frames.{frame_of}
use Rattle.jim_step.specs.Keeping.{state_in}
use Rattle.jim_step.specs.Plans.{meant}
use Rattle.jim_step.specs.Ready.{IsReadyAt}
use Rattle.std.proofs.Common.{◌-◌, min}
use Rattle.step_rules.proofs.Offering.{offers_fit}
use Rattle.step_rules.proofs.Shaping.{step_fits}
use Rattle.step_rules.specs.States.{State}
use Rattle.step_rules.specs.Steps.{Step}
use Rattle.jim_step.proofs.running.advance.Goals as goal

pub apply-requires-clause-about : goal.apply-requires-clause-about
apply-requires-clause-about c =
    let p = c.args.linked.now in
    let on = going_at p c.args.kept.now c.requires.steady.shape c.requires.steady.form c.requires.some in
    let here = here_of p on.0 c.requires.steady.form c.requires.steady.small on.2 in
    let chosen = c.choose-chosen.ensures.effect on.0 on.1 in
    record {
      at = on.0;
      stands = on.1;
      next = here.next;
      fits = offers_fit p on.0 c.requires.steady.form on.2 chosen.0 chosen.1 (min c.args.wanted (c.choose-chosen.result.choices - 1))
          (meant p on.0.top c.choose-chosen.result.effect) chosen.2;
    }

pub apply-requires-clause-ready : goal.apply-requires-clause-ready
apply-requires-clause-ready c =
    let p = c.args.linked.now in
    let on = going_at p c.args.kept.now c.requires.steady.shape c.requires.steady.form c.requires.some in
    each_top (IsReadyAt p) c.args.kept.now.frames.items on.0.below on.0.top (ap (λ (s : State). s.frames) on.1)
    (ready_at p c.requires.steady.form c.requires.steady.small on.0 on.2)

pub apply-requires-clause-callers : goal.apply-requires-clause-callers
apply-requires-clause-callers c =
    let p = c.args.linked.now in
    let on = going_at p c.args.kept.now c.requires.steady.shape c.requires.steady.form c.requires.some in
    callers_can p c.requires.steady.form c.requires.steady.small c.args.kept.now.frames.items on.0 (ap (λ (s : State). s.frames) on.1) on.2

pub returns-clause-ok : goal.returns-clause-ok
returns-clause-ok c =
    let p = c.args.linked.now in
    let on = going_at p c.args.kept.now c.requires.steady.shape c.requires.steady.form c.requires.some in
    let chosen = c.choose-chosen.ensures.effect on.0 on.1 in
    record {
      at = on.0;
      stands = on.1;
      offered = chosen.0;
      offers = chosen.1;
      effect = meant p on.0.top c.choose-chosen.result.effect;
      chosen = chosen.2;
      becomes = c.in_ok-apply.ensures.ok on.0 on.1;
    }

pub returns-clause-steady : goal.returns-clause-steady
returns-clause-steady c =
    let p = c.args.linked.now in
    let on = going_at p c.args.kept.now c.requires.steady.shape c.requires.steady.form c.requires.some in
    let step : Step p (state_in c.args.kept.now) (min c.args.wanted (c.choose-chosen.result.choices - 1)) (state_in c.apply.new.kept) = returns-clause-ok c in
    let counted = counted_frames c.args.kept.now.frames.items on.0 (ap (λ (s : State). s.frames) on.1) in
    let depth = depth_after p on.0 (state_in c.apply.new.kept) (omega (arith, counted, c.requires.steady.depth)) c.choose-chosen.result.effect c.args.kept.now
    counted c.in_ok-apply.ensures.room (c.in_ok-apply.ensures.ok on.0 on.1) in
    record {
      form = c.requires.steady.form;
      small = c.requires.steady.small;
      named = c.requires.steady.named;
      shape = step_fits p c.requires.steady.form (state_in c.args.kept.now) (min c.args.wanted (c.choose-chosen.result.choices - 1))
          (state_in c.apply.new.kept) c.requires.steady.shape step;
      depth = omega (arith, depth, length-map c.apply.new.kept.frames.items frame_of);
    }

pub returns-clause-known : goal.returns-clause-known
returns-clause-known c = known_moved c.args.linked.now c.apply.new.kept (returns-clause-steady c).shape
