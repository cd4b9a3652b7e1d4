use Rattle.std.proofs.Common.{refl}
use Rattle.std.proofs.lemmas.List.{take_all}
use Rattle.std.proofs.lemmas.Option.{slice_get-get_or}
use Rattle.call_side.proofs.Stepped.{call_at, steps_end, steps_more, steps_skip}
use Rattle.call_side.proofs.strings.add_steps.Goals as goal
use Rattle.call_side.proofs.strings.add_steps.Goals.{in-Some+in_ok-push, in_default}

pub loop-caller-preserved : goal.loop-caller-preserved
loop-caller-preserved c =
    let p = c.args.linked.now in
    let calls = c.args.calls.now in
    let callers = c.callers-callers.result.now in
    let j = c.loop-caller.caller-index in
    let there = slice_get-get_or callers j (call_at 0 0) c.loop-caller-test.true in
    elim c.match-mark_of.branch [
      | in-Some+in_ok-push w ↦ rw (w.steps-is, w.in_ok-push.ensures.items)
          (steps_more p calls c.requires.counted.ordered c.args.target callers c.callers-callers.ensures j _ _ there c.loop-caller.steps.items c.loop-caller.invariant w.in-Some.mark ((w.in-Some.ensures.marks w.in-Some.mark).0 refl))
      | in_default w ↦ rw w.steps-is (steps_skip p calls c.requires.counted.ordered c.args.target callers c.callers-callers.ensures j _ _ there c.loop-caller.steps.items c.loop-caller.invariant
          (λ mark h. let some = (c.mark_of.ensures.marks mark).1 h in let none = w.in_default.is in cc))
    ]

pub returns : goal.returns
returns c =
    let callers = c.callers-callers.result.now in
    let all = take_all c.loop-caller.caller-index callers c.loop-caller-test.false in
    steps_end c.args.linked.now c.args.calls.now c.requires.counted.ordered c.args.target callers c.callers-callers.ensures c.loop-caller.steps.items (rw all at c.loop-caller.invariant)
