use Rattle.std.proofs.Common.{sym, ap, ◌∙◌, Some, arith, Vec, Global}
use Rattle.std.proofs.lemmas.Option.{slice_get-map}
use Rattle.std.specs.Option.{option_map}
use Rattle.jim_grammar.specs.declared.machine.Entry.{Entry}
use Rattle.jim_grammar.specs.Stacks.{stacks}
use Rattle.jim_grammar.proofs.Kept.{same_set, stacks_same, insert_kept, made_number}
use Rattle.jim_grammar.proofs.automaton.Automaton.number.Goals as goal

pub returns-clause-made : goal.returns-clause-made
returns-clause-made c = made_number c.args.self.now _ same_set c.args.set c.requires.made c.in_ok-number.ensures.keys (omega (arith, c.in_ok-number.ensures.len)) c.requires.some (rw c.len.ensures.len at c.in_ok-make_rows.ensures)

pub returns-clause-grown : goal.returns-clause-grown
returns-clause-grown c = λ k ss h. rw c.in_ok-number.ensures.keys (insert_kept (λ (v : Vec (Vec Entry Global) Global). stacks v.items) same_set c.args.self.now.sets.keys c.args.set k ss h)

pub returns-clause-found : goal.returns-clause-found
returns-clause-found c =
    let h = c.in_ok-number.ensures.stored in
    slice_get-map (λ (v : Vec (Vec Entry Global) Global). stacks v.items) c.insert_full.new.self.keys c.in_ok-number.number ∙ (ap (option_map (λ (v : Vec (Vec Entry Global) Global). stacks v.items)) h.1 ∙ ap Some (sym (stacks_same c.args.set.items h.0.items h.2)))
