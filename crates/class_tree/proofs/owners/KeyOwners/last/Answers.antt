use Rattle.std.proofs.Common.{◌⊎◌, subst}
use Rattle.std.proofs.lemmas.List.{take_all}
use Rattle.class_order.specs.Spans.{Holds, HoldsAny}
use Rattle.class_tree.specs.Runs.{IsLastHeld}
use Rattle.class_tree.proofs.Owned.{last_begun, last_next}
use Rattle.class_tree.proofs.owners.KeyOwners.last.Goals as goal

pub loop-interface-init : goal.loop-interface-init
loop-interface-init c = last_begun (Holds c.args.self.now.united.now) c.args.self.now.table.now c.args.from c.args.to c.last_held-last.result c.last_held-last.ensures

pub get-spans-requires : goal.get-spans-requires
get-spans-requires c = c.requires.known c.loop-interface.interface-index 0 c.loop-interface-test.true

pub last_held-requires : goal.last_held-requires
last_held-requires c = rw c.get-spans.ensures (c.requires.apart _)

pub loop-interface-preserved : goal.loop-interface-preserved
loop-interface-preserved c = rw c.or-last.ensures (last_next (Holds c.args.self.now.united.now) c.args.self.now.table.now c.args.self.now.few.now c.loop-interface.interface-index 0 c.args.from c.args.to
    c.loop-interface.last c.last_held.result c.loop-interface-test.true c.loop-interface.invariant (rw (c.get-spans.ensures, c.unwrap_or.ensures) at c.last_held.ensures))

pub returns : goal.returns
returns c = subst (λ xs. IsLastHeld (λ p. Holds c.args.self.now.united.now p ⊎ HoldsAny c.args.self.now.table.now xs p) c.args.from c.args.to c.loop-interface.last)
    (take_all c.loop-interface.interface-index c.args.self.now.few.now c.loop-interface-test.false) c.loop-interface.invariant
