use Rattle.std.proofs.Common.{◌≡◌, ℕ, sym, subst, arith}
use Rattle.link_rules.specs.Linked.{LinkedProgram}
use Rattle.link_rules.specs.WellLinked.{IsWellLinked}
use Rattle.refine_rules.specs.Refined.{IsRefined, IsRefinedBy, none}
use Rattle.refined_query.specs.Rounds.{left_of}
use Rattle.refined_query.proofs.Left.{left_well, one_more}
use Rattle.refined_query.proofs.rounds.rounds_of.Goals as goal

pub loop-init : goal.loop-init
loop-init g c = none

pub refine-requires-after_bounds : goal.refine-requires-after_bounds
refine-requires-after_bounds g c κs within =
    subst IsWellLinked (sym c.left_of.ensures) (left_well c.args.budget c.args.linked.now c.requires c.loop.invariant)

pub loop-preserved : goal.loop-preserved
loop-preserved g c =
    one_more c.args.budget c.args.linked.now c.loop.invariant
    (subst (λ (q : LinkedProgram). IsRefined q c.args.budget c.in_ok-next.next) c.left_of.ensures c.in_ok-next.ensures)

pub returns : goal.returns
returns g c =
    let end = c.loop.auto.counter-end in
    let past = c.loop-test.false in
    let same : c.loop.counter ≡ c.args.rounds = omega (arith, end, past) in
    subst (λ (k : ℕ). IsRefinedBy c.args.budget c.args.linked.now k (left_of c.args.linked.now c.loop.last)) same c.loop.invariant
