use Rattle.std.proofs.Common.{refl, subst, ◌∙◌, arith}
use Rattle.run_report.specs.Named.{NamedStep, begins, digits_of}
use Rattle.run_report.proofs.Naming.{first_told, run_more}
use Rattle.run_report.proofs.named.run_to.Goals as goal

pub loop-made-init : goal.loop-made-init
loop-made-init c = (begins c.requires.first, omega arith, first_told _ c.args.machine.now.state c.requires.first, refl)

pub loop-made-preserved : goal.loop-made-preserved
loop-made-preserved c =
    let inv = c.loop-made.invariant in
    let step = subst (λ p. NamedStep p (digits_of c.args.digits.now) c.loop-made.used c.loop-made.machine.state c.in_ok-advanced.advanced.used c.advance.new.machine.state)
    inv.3 c.in_ok-advanced.ensures.step in (
      run_more c.args.machine.now.program (digits_of c.args.digits.now) c.loop-made.made c.loop-made.used c.in_ok-advanced.advanced.used c.loop-made.machine.state
          c.advance.new.machine.state inv.0 step,
      omega arith,
      c.in_ok-advanced.ensures.moved,
      c.advance.ensures.program ∙ inv.3,
    )
