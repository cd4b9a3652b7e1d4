use Rattle.std.proofs.lemmas.List.Sorted.{Contains-permutation, IsPermutation-sym}
use Rattle.std.proofs.Common.{inl, inr}
use Rattle.spds_nodes.proofs.Joined.{Contains-from_Has, Has-from_Contains}
use Rattle.spds_solve.proofs.known.Known.waiting.Goals as goal

pub returns-clause-each : goal.returns-clause-each
returns-clause-each c m has =
    let moved = c.sort_unstable_by_key.ensures.permutation in
    let before = Has-from_Contains _ m (Contains-permutation _ _ m (IsPermutation-sym _ _ moved) (Contains-from_Has _ m has)) in
    rw c.as_slice.ensures.keys at (c.in_ok-found.ensures.each m before)

pub returns-clause-all : goal.returns-clause-all
returns-clause-all c m has =
    let moved = c.sort_unstable_by_key.ensures.permutation in
    elim (c.in_ok-found.ensures.all m (rw c.as_slice.ensures.keys has)) [
      | inl there ↦ inl (Has-from_Contains _ m (Contains-permutation _ _ m moved (Contains-from_Has _ m there)))
      | inr still ↦ inr still
    ]

pub changed_pairs-requires : goal.changed_pairs-requires
changed_pairs-requires c m has = c.requires m (rw c.as_slice.ensures.keys at has)
