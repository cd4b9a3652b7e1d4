use Rattle.std.proofs.Common.{arith, rules}
use Rattle.default_turns.proofs.Hopping.{hops_pushed, hops_set}
use Rattle.default_turns.proofs.hops.hops_of.Goals as goal

pub loop-at-preserved : goal.loop-at-preserved
loop-at-preserved c =
    let next = c.next_of-next in
    let at = c.loop-at in
    rw c.in_ok-push.ensures.items (record {
      len = search rules;
      each = hops_pushed c.args.placed.tree.now c.args.holders.now at.hops.items at.at _ (record {
        forth = next.ensures.forth;
        within = next.ensures.within;
        below = next.ensures.below;
        on = omega arith;
        up_to = next.ensures.within;
      }) at.invariant.len at.invariant.each;
    })

pub loop-at-2-preserved : goal.loop-at-2-preserved
loop-at-2-preserved c =
    let at = c.loop-at-2 in
    hops_set c.args.placed.tree.now c.args.holders.now at.hops.items _ c.with_jump.result
    (c.with_jump.ensures c.args.placed.tree.now c.args.holders.now (rw c.as_slice.ensures.value at.invariant)) (search rules) at.invariant
