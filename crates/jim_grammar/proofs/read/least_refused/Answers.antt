use Rattle.std.proofs.Common.{◌∙◌, arith}
use Rattle.jim_grammar.specs.Automata.{start_set, sets_of}
use Rattle.jim_grammar.proofs.Kept.{set_below}
use Rattle.jim_grammar.proofs.Runs.{so_far_start}
use Rattle.jim_grammar.proofs.Ends.{nowhere, onward, not_accepted, length-stacks}
use Rattle.jim_grammar.proofs.read.least_refused.Goals as goal

pub loop-at-init : goal.loop-at-init
loop-at-init c = record { made = c.in_ok-automaton.ensures.made; stacks = start_set; is_set = c.in_ok-automaton.ensures.start; so_far = so_far_start }

pub go-requires-clause-set : goal.go-requires-clause-set
go-requires-clause-set c = set_below c.loop-at.automaton c.loop-at.set _ c.loop-at.invariant.is_set

pub loop-at-preserved : goal.loop-at-preserved
loop-at-preserved c =
    let moved = rw c.in-Some-To.field-0-is at (rw c.in-Some-To.is at c.in_ok-next.ensures.moved) in
    let on = onward (sets_of c.go.new.self) c.args.signs.now c.loop-at.at c.loop-at.set c.in-Some-To.next _ c.loop-at.invariant.stacks (omega arith) (c.in_ok-next.ensures.grown c.loop-at.set _ c.loop-at.invariant.is_set) c.loop-at.invariant.so_far moved in
    record { made = c.in_ok-next.ensures.made; stacks = on.0; is_set = on.1; so_far = on.2 }

pub returns-in-Some-Nowhere-clause-refused : goal.returns-in-Some-Nowhere-clause-refused
returns-in-Some-Nowhere-clause-refused c =
    let moved = rw c.in-Some-Nowhere.field-0-is at (rw c.in-Some-Nowhere.is at c.in_ok-next.ensures.moved) in
    let is_set = c.in_ok-next.ensures.grown c.loop-at.set _ c.loop-at.invariant.is_set in
    nowhere (sets_of c.go.new.self) c.args.signs.now c.loop-at.at c.loop-at.set _ c.loop-at.invariant.stacks (omega arith) (c.in_ok-next.ensures.made.some c.loop-at.set _ is_set) is_set c.loop-at.invariant.so_far moved

pub returns-in-Some-Nowhere-clause-accepted : goal.returns-in-Some-Nowhere-clause-accepted
returns-in-Some-Nowhere-clause-accepted c = not_accepted c.args.signs.now c.loop-at.at c.loop-at.at (returns-in-Some-Nowhere-clause-refused c)

pub stacks-requires : goal.stacks-requires
stacks-requires c = set_below c.go.new.self c.loop-at.set _ (c.in_ok-next.ensures.grown c.loop-at.set _ c.loop-at.invariant.is_set)

pub least_refused_from-requires-clause-some : goal.least_refused_from-requires-clause-some
least_refused_from-requires-clause-some c = λ z. c.in_ok-next.ensures.made.some c.loop-at.set _ c.stacks.ensures (length-stacks _ ∙ z)

pub stacks-requires-2 : goal.stacks-requires-2
stacks-requires-2 c = set_below c.loop-at.automaton c.loop-at.set _ c.loop-at.invariant.is_set

pub end-requires-clause-some : goal.end-requires-clause-some
end-requires-clause-some c = λ z. c.loop-at.invariant.made.some c.loop-at.set _ c.stacks-2.ensures (length-stacks _ ∙ z)
