use Rattle.std.proofs.Common.{◌∙◌, subst, sym}
use Rattle.class_tree.specs.FirstRows.{row_at}
use Rattle.class_tree.specs.Turns.{IsForest}
use Rattle.class_tree.proofs.Slots.{forest_of, key_path, slot_rising}
use Rattle.class_tree.proofs.paths.Paths.new.Goals as goal

pub turns_by_slot-requires-clause-forest : goal.turns_by_slot-requires-clause-forest
turns_by_slot-requires-clause-forest c = subst (IsForest c.args.classes.now c.in_ok-owns.owns c.in_ok-numbers.numbers.items) (sym c.len.ensures)
    (forest_of c.args.classes.now (row_at c.args.rows.now) c.in_ok-keys.keys c.in_ok-numbers.numbers.items c.args.numbering.now c.in_ok-owns.owns
    c.in_ok-owns.ensures.exact c.in_ok-owns.ensures.len (c.in_ok-numbers.ensures.items ∙ c.as_slice.ensures.value) c.requires.numbering)

pub turns_by_slot-requires-clause-within : goal.turns_by_slot-requires-clause-within
turns_by_slot-requires-clause-within c = λ k m. c.requires.numbering.within k (rw c.as_slice-order.ensures.value at m)

pub turns_by_slot-requires-clause-all : goal.turns_by_slot-requires-clause-all
turns_by_slot-requires-clause-all c = λ k h. rw c.as_slice-order.ensures.value (c.requires.numbering.all k h)

pub turns_by_slot-requires-clause-placed : goal.turns_by_slot-requires-clause-placed
turns_by_slot-requires-clause-placed c = λ i k e. rw (c.as_slice-order.ensures.value, c.in_ok-numbers.ensures.items, c.as_slice.ensures.value) (c.requires.numbering.placed i k (rw c.as_slice-order.ensures.value at e))

pub returns : goal.returns
returns c =
    let own = row_at c.args.rows.now in
    let f = forest_of c.args.classes.now own c.in_ok-keys.keys c.in_ok-numbers.numbers.items c.args.numbering.now c.in_ok-owns.owns
    c.in_ok-owns.ensures.exact c.in_ok-owns.ensures.len (c.in_ok-numbers.ensures.items ∙ c.as_slice.ensures.value) c.requires.numbering in
    record {
      len = c.in_ok-turns.ensures.len ∙ c.len.ensures;
      rising = λ key. slot_rising c.args.classes.now own c.args.members.now c.in_ok-keys.keys c.in_ok-numbers.numbers.items c.in_ok-owns.owns c.in_ok-turns.turns
          c.requires.rows c.in_ok-owns.ensures.exact c.in_ok-keys.ensures f c.in_ok-turns.ensures.rising _;
      exact = λ k key h. rw (c.in_ok-numbers.ensures.items ∙ c.as_slice.ensures.value) at
          (key_path c.args.classes.now own c.args.members.now c.in_ok-keys.keys c.in_ok-numbers.numbers.items c.in_ok-owns.owns c.in_ok-turns.turns
          c.requires.rows c.in_ok-owns.ensures.exact c.in_ok-keys.ensures f c.in_ok-turns.ensures.told k key h);
    }
