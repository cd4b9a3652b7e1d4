use Rattle.std.proofs.Common.{◌≤◌, length, arith}
use Rattle.call_side.proofs.CallStrings.{are_led, are_strings}
use Rattle.call_side.proofs.Stepped.{steps_all, steps_none}
use Rattle.call_side.proofs.strings.bases.Goals as goal

pub loop-target-init : goal.loop-target-init
loop-target-init c = steps_none c.args.linked.now c.args.calls.now c.new-steps.result.items c.new-steps.ensures.items

pub returns-clause-steps : goal.returns-clause-steps
returns-clause-steps c =
    let p = c.args.linked.now in
    let past : length p.methods ≤ c.loop-target.target = omega (arith, c.methods-target-end.ensures.count) in
    steps_all p c.args.calls.now c.loop-target.target c.loop-target.steps.items c.tell_form.ensures past c.loop-target.invariant

pub returns-clause-strings : goal.returns-clause-strings
returns-clause-strings c =
    let p = c.args.linked.now in
    let past : length p.methods ≤ c.loop-target.target = omega (arith, c.methods-target-end.ensures.count) in
    are_strings p c.args.calls.now c.loop-target.steps.items (steps_all p c.args.calls.now c.loop-target.target c.loop-target.steps.items c.tell_form.ensures past c.loop-target.invariant)

pub returns-clause-led : goal.returns-clause-led
returns-clause-led c =
    let p = c.args.linked.now in
    let past : length p.methods ≤ c.loop-target.target = omega (arith, c.methods-target-end.ensures.count) in
    are_led p c.args.calls.now c.loop-target.steps.items (steps_all p c.args.calls.now c.loop-target.target c.loop-target.steps.items c.tell_form.ensures past c.loop-target.invariant) c.requires.counted
