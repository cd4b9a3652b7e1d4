use Rattle.std.proofs.Common.{Some, List, ap, arith, subst}
use Rattle.std.proofs.lemmas.List.{take_all}
use Rattle.class_tree.specs.declared.own_rows.Own.{Own}
use Rattle.class_tree.specs.Turns.{HaveTurned}
use Rattle.class_tree.proofs.Turning.{turned_more, turned_none}
use Rattle.class_tree.proofs.walk.enter.Goals as goal

pub push-requires : goal.push-requires
push-requires c = let known = c.requires.slots c.loop-own.own-index (record { slot = 0; row = 0 }) c.loop-own-test.true in omega (arith, known, c.loop-own.invariant.len)

pub loop-own-init : goal.loop-own-init
loop-own-init c = turned_none c.args.number c.args.owns.now (λ (o : Own). Some o.row) c.args.turns.now

pub loop-own-preserved : goal.loop-own-preserved
loop-own-preserved c = rw c.in_ok-push.ensures (turned_more c.args.number c.args.owns.now (λ (o : Own). Some o.row) c.args.turns.now c.loop-own.turns c.loop-own.own-index _ c.loop-own-test.true
    (λ a b u v e. ap Some (c.requires.one a b u v e)) c.requires.slots c.loop-own.invariant)

pub returns : goal.returns
returns c = subst (λ (xs : List Own). HaveTurned c.args.number xs (λ (o : Own). Some o.row) c.args.turns.now c.loop-own.turns) (take_all c.loop-own.own-index c.args.owns.now c.loop-own-test.false) c.loop-own.invariant
