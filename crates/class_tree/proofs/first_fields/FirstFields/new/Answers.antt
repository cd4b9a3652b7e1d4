use Rattle.std.proofs.Common.{◌<◌, length, map, subst, sym, ap, ◌∙◌, arith}
use Rattle.std.proofs.lemmas.List.Elements.{All-map}
use Rattle.class_order.specs.Tables.{IsOver}
use Rattle.class_order.proofs.Reached.{proper_map}
use Rattle.class_rules.specs.Lookups.{own_field}
use Rattle.class_rules.specs.Rows.{HasParent}
use Rattle.class_tree.specs.declared.first_rows.Member.{Member}
use Rattle.class_tree.specs.FirstFields.{rows_of_firsts}
use Rattle.class_tree.specs.KeySpans.{member_of_field}
use Rattle.class_tree.specs.Turns.{AreRowsOf, TellPaths}
use Rattle.class_tree.proofs.FirstInterfaces.{first_listed, firsts_len}
use Rattle.class_tree.proofs.Slots.{field_rows, same_rows}
use Rattle.class_tree.proofs.first_fields.FirstFields.new.Goals as goal

pub new-requires-clause-known : goal.new-requires-clause-known
new-requires-clause-known c = rw (c.as_slice.ensures.value, c.in_ok-rows.ensures) (λ a b named. omega (arith, c.requires.known a b (first_listed c.args.interfaces.now a b named), firsts_len c.args.interfaces.now))

pub new-requires-clause-acyclic : goal.new-requires-clause-acyclic
new-requires-clause-acyclic c = rw (c.as_slice.ensures.value, c.in_ok-rows.ensures)
    (λ a p. c.requires.acyclic a (proper_map (HasParent (rows_of_firsts c.args.interfaces.now)) (IsOver c.args.interfaces.now) (first_listed c.args.interfaces.now) a a p))

pub new-requires-2-clause-members : goal.new-requires-2-clause-members
new-requires-2-clause-members c = rw (c.as_slice-2.ensures.value, c.as_slice-3.ensures.value, c.in_ok-members.ensures, c.in_ok-rows.ensures, firsts_len c.args.interfaces.now)
    (All-map (λ (m : Member). m.class < length c.args.interfaces.now) member_of_field c.args.fields.now c.requires.fields)

pub new-requires-2-clause-rows : goal.new-requires-2-clause-rows
new-requires-2-clause-rows c = rw (c.as_slice-3.ensures.value, c.in_ok-members.ensures)
    (subst (λ own. AreRowsOf own (map member_of_field c.args.fields.now)) (sym (same_rows c.requires.own)) (field_rows c.args.fields.now))

pub returns : goal.returns
returns c = record {
  len = c.in_ok-numbering.ensures.own.len ∙ ap length (c.as_slice.ensures.value ∙ c.in_ok-rows.ensures) ∙ firsts_len c.args.interfaces.now;
  paths = subst (λ rows. TellPaths rows (own_field c.args.fields.now) c.in_ok-numbering.numbering.numbers.items c.in_ok-new.field-0) (c.as_slice-2.ensures.value ∙ c.in_ok-rows.ensures)
      (subst (λ own. TellPaths c.as_slice-2.result.now own c.in_ok-numbering.numbering.numbers.items c.in_ok-new.field-0) (same_rows c.requires.own) c.in_ok-new.ensures);
}
