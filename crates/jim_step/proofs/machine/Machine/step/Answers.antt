use Rattle.std.proofs.Common.{◌≡◌, ◌-◌, arith, min, subst, sym}
use Rattle.jim_step.specs.Keeping.{state_in}
use Rattle.jim_step.specs.Standing.{Standing}
use Rattle.step_rules.proofs.Determined.{below_choices}
use Rattle.step_rules.specs.Steps.{HasChoice, Step}
use Rattle.jim_step.proofs.machine.Machine.step.Goals as goal

pub returns-clause-ok : goal.returns-clause-ok
returns-clause-ok c =
    let p = c.self.inside.linked.now in
    let old = state_in c.self.inside.kept in
    let there = subst (λ (s : Standing). HasChoice s.program s.state c.args.choice) (sym c.self.view_is) c.requires in
    let below = below_choices p old c.args.choice c.self.invariant.form there c.in_ok-turned.turned.choices c.in_ok-turned.ensures.choices in
    let wanted : min c.args.choice (c.in_ok-turned.turned.choices - 1) ≡ c.args.choice = omega (arith, below) in
    subst (λ (s : Standing). Step s.program s.state c.args.choice (state_in c.advance.new.kept)) c.self.view_is
    (subst (λ n. Step p old n (state_in c.advance.new.kept)) wanted c.in_ok-turned.ensures.ok)
