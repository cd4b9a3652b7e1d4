use Rattle.std.proofs.Common.{◌≡◌, length, refl, subst, arith}
use Rattle.link_classes.specs.Seen.{seen_method}
use Rattle.link_faults.specs.Progress.{IsExaminedTo}
use Rattle.link_faults.proofs.Steps.{nothing_to}
use Rattle.link_faults.proofs.examining.examine_stmts.Goals as goal

pub loop-index-init : goal.loop-index-init
loop-index-init c =
    let w = c.args.targets.now.world in
    record { same = refl; so_far = nothing_to w (seen_method c.args.method.now) c.args.body.now c.nothing-examined.result c.nothing-examined.ensures }

pub returns-clause-examined : goal.returns-clause-examined
returns-clause-examined c =
    let w = c.args.targets.now.world in
    let m = seen_method c.args.method.now in
    let all : c.loop-index.index ≡ length c.args.body.now.stmts = omega (arith, c.end_of-end.ensures) in
    subst (λ n. IsExaminedTo w m c.args.body.now n c.loop-index.examined) all c.loop-index.invariant.so_far
