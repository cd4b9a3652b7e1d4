use Rattle.std.proofs.Common.{◌<◌, length, map, subst, sym}
use Rattle.std.proofs.lemmas.List.Elements.{All-map}
use Rattle.class_tree.specs.declared.first_rows.Member.{Member}
use Rattle.class_tree.specs.KeySpans.{member_of_method}
use Rattle.class_tree.specs.Turns.{AreRowsOf, TellPaths}
use Rattle.class_tree.proofs.Slots.{body_rows, same_rows}
use Rattle.class_tree.proofs.inherited.Inherited.new.Goals as goal

pub new-requires-clause-members : goal.new-requires-clause-members
new-requires-clause-members c = rw (c.as_slice.ensures.value, c.in_ok-members.ensures) (All-map (λ (m : Member). m.class < length c.args.classes.now) member_of_method c.args.methods.now c.requires.methods)

pub new-requires-clause-rows : goal.new-requires-clause-rows
new-requires-clause-rows c = rw (c.as_slice.ensures.value, c.in_ok-members.ensures)
    (subst (λ own. AreRowsOf own (map member_of_method c.args.methods.now)) (sym (same_rows c.requires.bodies)) (body_rows c.args.methods.now))

pub returns : goal.returns
returns c = record {
  methods = subst (λ own. TellPaths c.args.classes.now own c.args.numbering.now.numbers.items c.in_ok-new.field-0) (same_rows c.requires.bodies) c.in_ok-new.ensures;
  runs = c.in_ok-new-2.ensures;
}
