use Rattle.std.proofs.Common.{◌<◌, length, arith, rules}
use Rattle.std.proofs.lemmas.List.Sorted.{IsNonDecreasingBy-from_sort_by_key}
use Rattle.class_order.specs.Groups.{group}
use Rattle.object_ranges.specs.declared.chosen.Choice.{Choice}
use Rattle.object_ranges.proofs.Serving.{chosen_all}
use Rattle.link_calls.proofs.Marked.{choices_of}
use Rattle.link_calls.proofs.receivers.Receivers.chosen.Goals as goal

pub returns : goal.returns
returns c = λ w key are parts.
    let objects = c.args.self.now.objects in
    let class = c.args.class in
    let known : class < length w.rows.classes = omega (arith, c.requires.class.2, c.requires.class.1.laid.reached.len, are.laid.reached.len) in
    let chosen = chosen_all objects (group c.args.self.now.layout.reach.now class) parts.select c.args.parts.now _ parts.told (rw c.get-spans.ensures at c.in_ok-choices.ensures) in
    choices_of w c.args.self.now.layout objects are.as_many are.laid are.marks class key known parts.select parts.selects _ _ c.sort_unstable_by_key.ensures.permutation chosen
    (IsNonDecreasingBy-from_sort_by_key (λ (x : Choice). x.class) _ c.sort_unstable_by_key.ensures.sorted (λ a r q k. search rules))

pub choices_in-requires-clause-spans : goal.choices_in-requires-clause-spans
choices_in-requires-clause-spans c = rw c.get-spans.ensures (c.requires.class.1.laid.reached.apart c.args.class)
