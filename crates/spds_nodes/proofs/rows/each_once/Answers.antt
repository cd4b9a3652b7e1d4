use Rattle.std.proofs.lemmas.List.Filters.{dedup_is}
use Rattle.std.proofs.lemmas.List.Kept.{AllPairs-from_increasing, Contains-dedup_nat, Contains-from_dedup}
use Rattle.std.proofs.lemmas.List.Sorted.{Contains-permutation, IsPermutation-sym}
use Rattle.std.proofs.lemmas.Map.Keys.{IsStrictlyIncreasing-dedup}
use Rattle.spds_nodes.proofs.Froms.{indexes_apart}
use Rattle.spds_nodes.proofs.Joined.{Contains-from_Has, Has-from_Contains}
use Rattle.spds_nodes.proofs.rows.each_once.Goals as goal

pub returns-clause-apart : goal.returns-clause-apart
returns-clause-apart c =
    let is = dedup_is _ _ _ c.dedup.ensures.filtered in
    rw is (indexes_apart _ (AllPairs-from_increasing _ (IsStrictlyIncreasing-dedup _ c.sort_unstable.ensures.sorted)))

pub returns-clause-same : goal.returns-clause-same
returns-clause-same c =
    let is = dedup_is _ _ _ c.dedup.ensures.filtered in
    let moved = c.sort_unstable.ensures.permutation in
    let made = c.in_ok-once.ensures.items in
    λ n. (
      (λ has. rw made at (Has-from_Contains _ n (Contains-permutation _ _ n (IsPermutation-sym _ _ moved) (Contains-from_dedup _ _ n (Contains-from_Has _ n (rw is at has)))))),
      (λ has. rw is (Has-from_Contains _ n (Contains-dedup_nat _ n (Contains-permutation _ _ n moved (Contains-from_Has _ n (rw made has)))))),
    )
