use Rattle.std.proofs.Common.{◌≡◌, subst, sym}
use Rattle.jim_step.proofs.Steadies.{goes_on_by}
use Rattle.jim_step.specs.Standing.{Standing}
use Rattle.step_rules.specs.States.{running}
use Rattle.jim_step.proofs.machine.Machine.turn.Goals as goal

pub advance-requires-clause-some : goal.advance-requires-clause-some
advance-requires-clause-some c =
    goes_on_by c.self.inside.linked.now c.self.inside.kept c.self.invariant.shape c.self.invariant.form
    (subst (λ (s : Standing). s.state.ending ≡ running) (sym c.self.view_is) c.requires)
