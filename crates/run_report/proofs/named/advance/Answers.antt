use Rattle.std.proofs.Common.{◌-◌, inl, inr, min, subst}
use Rattle.run_report.proofs.Naming.{digit_step, plain_step}
use Rattle.step_rules.specs.Steps.{Step}
use Rattle.run_report.proofs.named.advance.Goals as goal

pub returns-then-turned-lt2-clause-step : goal.returns-then-turned-lt2-clause-step
returns-then-turned-lt2-clause-step c =
    plain_step c.args.machine.now.program c.args.machine.now.state c.turn.new.self.state c.args.digits.now c.args.used c.in_ok-turned.turned.choices
    c.requires.running c.in_ok-turned.ensures.choices
    (subst (λ n. Step c.args.machine.now.program c.args.machine.now.state (min n (c.in_ok-turned.turned.choices - 1)) c.turn.new.self.state) c.wanted.ensures c.in_ok-turned.ensures.ok)
    (elim c.then-turned-lt2.either [ inl few ↦ inl few | inr none ↦ inr none.1 ])

pub returns-clause-step : goal.returns-clause-step
returns-clause-step c =
    digit_step c.args.machine.now.program c.args.machine.now.state c.turn.new.self.state c.args.digits.now c.args.used c.in_ok-turned.turned.choices
    c.requires.running c.in_ok-turned.ensures.choices
    (subst (λ n. Step c.args.machine.now.program c.args.machine.now.state (min n (c.in_ok-turned.turned.choices - 1)) c.turn.new.self.state) c.wanted.ensures c.in_ok-turned.ensures.ok)
    c.if-used-digits.false c.if-turned-lt2.false
