use Rattle.std.proofs.Common.{rules}
use Rattle.std.proofs.lemmas.List.Sorted.{IsNonDecreasingBy-from_sort_by_key}
use Rattle.default_turns.specs.declared.stays.Stay.{Stay}
use Rattle.default_turns.proofs.Staying.{stays_permuted}
use Rattle.default_turns.proofs.stays.stays_of.Goals as goal

pub returns-clause-stays : goal.returns-clause-stays
returns-clause-stays c = stays_permuted c.args.placed.tree.now c.args.placed.layout.places.now c.args.key _ _ c.sort_unstable_by_key.ensures.permutation c.in_ok-stays.ensures

pub returns-clause-sorted : goal.returns-clause-sorted
returns-clause-sorted c = IsNonDecreasingBy-from_sort_by_key (λ (s : Stay). s.start) _ c.sort_unstable_by_key.ensures.sorted (λ a r q k. search rules)

pub all_stays-requires-clause-holders : goal.all_stays-requires-clause-holders
all_stays-requires-clause-holders c = rw c.as_slice-2.ensures.value c.in_ok-holders.ensures.exact
