use Rattle.std.proofs.Common.{◌+◌, ◌*◌, slice_set, Some, refl, ap, arith}
use Rattle.jim_grammar.specs.Stacks.{stacks}
use Rattle.jim_grammar.proofs.Kept.{set_below, made_move}
use Rattle.jim_grammar.proofs.automaton.Automaton.find.Goals as goal

pub index_mut-requires : goal.index_mut-requires
index_mut-requires c =
    let h = set_below c.move_to.new.self c.args.set _ (c.in_ok-found.ensures.grown c.args.set _ c.stacks.ensures) in
    omega (arith, c.in_ok-found.ensures.made.rows, h, c.class_of.ensures.below)

pub returns-clause-made : goal.returns-clause-made
returns-clause-made c =
    let old = c.in_ok-found.ensures.grown c.args.set _ c.stacks.ensures in
    made_move c.move_to.new.self _ c.args.set c.args.lead c.in-Some.found c.in_ok-found.ensures.made refl (set_below c.move_to.new.self c.args.set _ old)
    (ap (λ z. slice_set c.move_to.new.self.moves.items (c.args.set * 97 + z) (Some c.in-Some.found)) c.class_of.ensures.value)
    (stacks c.in_ok-next.next.items, rw c.in-Some.is at c.in_ok-found.ensures.found, record { old = stacks c.stacks.result.now; is_old = old; advances = c.in_ok-next.ensures })
