use Rattle.std.proofs.Common.{get_or, arith}
use Rattle.std.proofs.lemmas.List.Elements.{Contains-get_or}
use Rattle.class_order.specs.Groups.{group}
use Rattle.class_rules.specs.Paths.{here}
use Rattle.default_turns.specs.declared.holders.Holder.{Holder}
use Rattle.default_turns.specs.Hops.{IsEndOf}
use Rattle.default_turns.proofs.Covered.{below_first, past_first}
use Rattle.default_turns.proofs.hops.next_of.Goals as goal

abbrev none : Holder
none = record { interface = 0; place = 0 }

pub get-spans-requires : goal.get-spans-requires
get-spans-requires c =
    let known = c.requires.holders.known _ (Contains-get_or c.args.holders.now c.args.at none c.requires.at) in
    omega (arith, known, c.requires.laid.reached.len)

pub end_of-end-requires-clause-apart : goal.end_of-end-requires-clause-apart
end_of-end-requires-clause-apart c = rw c.get-spans.ensures (c.requires.laid.reached.apart _)

pub end_of-end-requires-clause-held : goal.end_of-end-requires-clause-held
end_of-end-requires-clause-held c =
    let there = Contains-get_or c.args.holders.now c.args.at none c.requires.at in
    let known = c.requires.holders.known _ there in
    let s = (c.requires.laid.reached.exact _ _ known known).1 here in
    let place = c.requires.holders.placed _ there in
    rw c.get-spans.ensures (s.0, s.1, omega (arith, s.2, place), omega (arith, s.3, place))

pub returns-clause-forth : goal.returns-clause-forth
returns-clause-forth c =
    let own = get_or c.args.holders.now c.args.at none in
    let ends : IsEndOf (group c.args.placed.layout.reach.now own.interface) own.place c.end_of-end.result = rw (← c.get-spans.ensures) c.end_of-end.ensures in
    past_first c.args.placed.tree.now c.args.placed.layout c.requires.laid c.args.holders.now c.requires.holders c.args.at none c.requires.at c.end_of-end.result ends c.first_from.result
    c.first_from.ensures

pub returns-clause-below : goal.returns-clause-below
returns-clause-below c =
    let own = get_or c.args.holders.now c.args.at none in
    let ends : IsEndOf (group c.args.placed.layout.reach.now own.interface) own.place c.end_of-end.result = rw (← c.get-spans.ensures) c.end_of-end.ensures in
    below_first c.args.placed.tree.now c.args.placed.layout c.requires.laid c.args.holders.now c.requires.holders c.args.at none c.requires.at c.end_of-end.result ends c.first_from.result
    c.first_from.ensures
