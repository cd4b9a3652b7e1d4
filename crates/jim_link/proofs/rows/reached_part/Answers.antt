use Rattle.std.proofs.Common.{◌≡◌, length, get_or, subst, arith}
use Rattle.std.proofs.lemmas.Option.{slice_get-get_or}
use Rattle.link_classes.specs.Classes.{ClassTable}
use Rattle.link_rules.specs.Classes.{methods_of}
use Rattle.jim_link.proofs.rows.reached_part.Goals as goal

pub new-requires-clause-below : goal.new-requires-clause-below
new-requires-clause-below c = λ k d below.
    let rows = c.args.reachable.rows.items in
    let is = (c.requires.reached.each (get_or rows k d)).0 (k, slice_get-get_or rows k d below) in
    let count = subst (λ (t : ClassTable). c.method_count.result ≡ length (methods_of t.world.classes)) c.classes.ensures c.method_count.ensures in
    omega (arith, is.0, count)
