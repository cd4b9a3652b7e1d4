use Rattle.std.proofs.Common.{◌<◌, ℕ, length, arith, subst}
use Rattle.std.specs.List.{All}
use Rattle.std.proofs.lemmas.List.{take_all}
use Rattle.std.proofs.lemmas.List.Elements.{All-more}
use Rattle.tree_rows.proofs.trees.refusal.Goals as goal

pub loop-class-preserved : goal.loop-class-preserved
loop-class-preserved c = All-more (λ (p : ℕ × ℕ). p.0 < length c.args.classes.now) c.args.implements.now c.loop-class.class-index (0, 0) c.loop-class-test.true c.loop-class.invariant (omega arith)

pub of_steps-requires-clause-implements : goal.of_steps-requires-clause-implements
of_steps-requires-clause-implements c =
    let whole = take_all c.loop-class.class-index c.args.implements.now c.loop-class-test.false in
    subst (All (λ (p : ℕ × ℕ). p.0 < length c.args.classes.now)) whole c.loop-class.invariant
