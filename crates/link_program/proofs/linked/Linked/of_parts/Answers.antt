use Rattle.std.proofs.Common.{subst}
use Rattle.link_indexes.specs.Tables.{AreIndexes}
use Rattle.link_program.proofs.Joined.{codes-joined}
use Rattle.link_program.proofs.linked.Linked.of_parts.Goals as goal

pub invariant_of-result : goal.invariant_of-result
invariant_of-result c =
    let m = c.requires.parts.methods in
    let heads = c.args.code.methods.heads.items in
    let bodies = c.args.code.methods.bodies.items in
    let indexes = rw c.as_slice.ensures.value at c.in_ok-indexes.ensures in
    rw c.in_ok-new.ensures.ok (record {
      methods = record { as_many = m.as_many; few = m.few; few_locals = m.few_locals };
      classes = c.requires.parts.classes;
      few_fields = c.requires.parts.few_fields;
      form = c.requires.form;
      indexes = subst (λ cs. AreIndexes cs c.in_ok-indexes.indexes) (codes-joined heads bodies m.as_many) indexes;
      selections = c.in_ok-selections.ensures;
    })
