use Rattle.std.proofs.Common.{refl, arith}
use Rattle.spds_nodes.proofs.Named.{IsSiteClass-below}
use Rattle.type_track.proofs.tracked.is_below.Goals as goal

pub sub-requires-clause-a : goal.sub-requires-clause-a
sub-requires-clause-a c =
    let below = IsSiteClass-below c.args.linked.now c.args.site c.in-Some.of c.tell_form.ensures ((c.in-Some.ensures.is c.in-Some.of).0 refl) in
    rw c.tree.ensures (omega (arith, below, c.tell_form.ensures.tree))
