use Rattle.std.proofs.Common.{◌<◌, length}
use Rattle.std.proofs.lemmas.List.Elements.{All-map}
use Rattle.class_tree.specs.declared.first_rows.Member.{Member}
use Rattle.class_tree.specs.KeySpans.{member_of_method, member_of_field}
use Rattle.class_tree.proofs.members.Members.new.Goals as goal

pub new-requires-clause-known : goal.new-requires-clause-known
new-requires-clause-known c = rw (c.as_slice.ensures.value, c.in_ok-of_methods.ensures) (All-map (λ (m : Member). m.class < length c.args.classes.now) member_of_method c.args.methods.now c.requires.methods)

pub new-requires-2-clause-known : goal.new-requires-2-clause-known
new-requires-2-clause-known c = rw (c.as_slice-2.ensures.value, c.in_ok-of_fields.ensures) (All-map (λ (m : Member). m.class < length c.args.classes.now) member_of_field c.args.fields.now c.requires.fields)

pub returns : goal.returns
returns c = record {
  declares = rw (c.as_slice.ensures.value, c.in_ok-of_methods.ensures) at c.in_ok-new.ensures;
  near_fields = rw (c.as_slice-2.ensures.value, c.in_ok-of_fields.ensures) at c.in_ok-new-2.ensures;
  bodies = c.in_ok-of_bodies.ensures;
  interface_rows = c.in_ok-of_interfaces.ensures;
  own_fields = c.in_ok-of_fields-2.ensures;
}
