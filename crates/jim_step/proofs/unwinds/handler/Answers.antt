use Rattle.std.proofs.Common.{arith}
use borrow.Author.Count.{below_more}
use Rattle.jim_step.proofs.Catching.{may_within, not_here}
use Rattle.step_rules.specs.Offers.{MayCatch}
use Rattle.jim_step.proofs.unwinds.handler.Goals as goal

pub loop-one-preserved : goal.loop-one-preserved
loop-one-preserved c = below_more (λ i. MayCatch c.args.linked.now c.args.catches.now c.args.index c.args.class i → ⊥) c.loop-one.one-index c.loop-one.invariant
    (not_here c.args.linked.now c.args.catches.now c.args.index c.args.class c.loop-one.one-index _ c.may_catch.result c.may_catch.ensures c.if-may_catch.false)

pub returns-clause-none : goal.returns-clause-none
returns-clause-none c = λ number may.
    let within = may_within c.args.linked.now c.args.catches.now c.args.index c.args.class number may in
    c.loop-one.invariant number (omega (arith, within)) may
