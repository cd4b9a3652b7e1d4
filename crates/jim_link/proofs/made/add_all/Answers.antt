use Rattle.std.proofs.Common.{sym, subst}
use Rattle.link_classes.specs.Classes.{ClassTable}
use Rattle.jim_link.specs.Made.{AreKnownAbove}
use Rattle.jim_link.proofs.made.add_all.Goals as goal

pub add_root-requires-clause-known : goal.add_root-requires-clause-known
add_root-requires-clause-known c =
    let known = subst (λ (t : ClassTable). AreKnownAbove t.world) c.classes.ensures c.tell_rows.ensures.known in
    subst (λ (t : ClassTable). AreKnownAbove t.world) (sym c.add_rows.ensures.same) known
