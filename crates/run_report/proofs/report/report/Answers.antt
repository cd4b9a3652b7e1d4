use Rattle.std.proofs.Common.{subst}
use Rattle.run_report.specs.Named.{IsRunTo, digits_of}
use Rattle.run_report.proofs.Tellable.{named_tellable}
use Rattle.run_report.proofs.report.report.Goals as goal

pub push_end-requires-clause-tellable : goal.push_end-requires-clause-tellable
push_end-requires-clause-tellable c =
    let ran = subst (λ p. IsRunTo p (digits_of c.args.digits.now) c.args.steps c.in_ok-ran.ran.made c.run_to.new.machine.state) c.requires.program c.in_ok-ran.ensures.run in
    named_tellable c.args.linked.now c.requires.form (digits_of c.args.digits.now) c.in_ok-ran.ran.made c.run_to.new.machine.state ran.unused ran.run
