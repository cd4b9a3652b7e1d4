use Rattle.std.proofs.Common.{subst, arith, rules}
use Rattle.std.proofs.lemmas.List.{take_all}
use Rattle.std.proofs.lemmas.List.Elements.{Contains-get_or}
use Rattle.std.proofs.lemmas.List.Sorted.{IsNonDecreasingBy-from_sort_by_key}
use Rattle.class_tree.proofs.Lowest.{held_within}
use Rattle.default_turns.specs.declared.holders.Holder.{Holder}
use Rattle.default_turns.proofs.Placing.{ArePlacedOf, held_as, holders_are, placed_more, placed_none, placed_sorted}
use Rattle.default_turns.proofs.holders.holders_of.Goals as goal

pub loop-interface-init : goal.loop-interface-init
loop-interface-init c = rw c.in_ok-holders.ensures.items (placed_none c.args.placed.layout.places.now c.as_slice-interface-items.result.now)

pub bounds-placed-interface : goal.bounds-placed-interface
bounds-placed-interface c =
    let held = held_as c.args.placed.tree.now c.args.key c.holders.result.now c.in_ok-interfaces.interfaces c.as_slice-interface-items.result.now c.holders.ensures c.in_ok-interfaces.ensures
    c.as_slice-interface-items.ensures.value in
    let within = held_within c.args.placed.tree.now _ c.args.key ((held _).0 (Contains-get_or c.as_slice-interface-items.result.now c.loop-interface.interface-index 0 c.loop-interface-test.true)) in
    omega (arith, within, c.requires.placed.len)

pub loop-interface-preserved : goal.loop-interface-preserved
loop-interface-preserved c = rw c.in_ok-push.ensures.items
    (placed_more c.args.placed.layout.places.now c.as_slice-interface-items.result.now c.loop-interface.holders.items c.loop-interface.interface-index 0 c.loop-interface-test.true c.loop-interface.invariant)

pub returns-clause-placed : goal.returns-clause-placed
returns-clause-placed c =
    let items = c.as_slice-interface-items.result.now in
    let held = held_as c.args.placed.tree.now c.args.key c.holders.result.now c.in_ok-interfaces.interfaces items c.holders.ensures c.in_ok-interfaces.ensures c.as_slice-interface-items.ensures.value in
    let whole = subst (λ xs. ArePlacedOf c.args.placed.layout.places.now xs c.loop-interface.holders.items) (take_all c.loop-interface.interface-index items c.loop-interface-test.false) c.loop-interface.invariant in
    placed_sorted c.args.placed.tree.now c.args.placed.layout.places.now c.args.key items held c.loop-interface.holders.items c.sort_unstable_by_key.new.self.items whole
    c.sort_unstable_by_key.ensures.permutation (IsNonDecreasingBy-from_sort_by_key (λ (h : Holder). h.place) _ c.sort_unstable_by_key.ensures.sorted (λ a r q k. search rules))

pub returns-clause-exact : goal.returns-clause-exact
returns-clause-exact c =
    let items = c.as_slice-interface-items.result.now in
    let held = held_as c.args.placed.tree.now c.args.key c.holders.result.now c.in_ok-interfaces.interfaces items c.holders.ensures c.in_ok-interfaces.ensures c.as_slice-interface-items.ensures.value in
    let whole = subst (λ xs. ArePlacedOf c.args.placed.layout.places.now xs c.loop-interface.holders.items) (take_all c.loop-interface.interface-index items c.loop-interface-test.false) c.loop-interface.invariant in
    holders_are c.args.placed.tree.now c.args.placed.layout.places.now c.args.key items held c.loop-interface.holders.items c.sort_unstable_by_key.new.self.items whole
    c.sort_unstable_by_key.ensures.permutation
