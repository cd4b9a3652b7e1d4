use Rattle.std.proofs.Common.{◌↔◌}
use Rattle.std.specs.List.{Contains}
use Rattle.std.proofs.lemmas.List.Sorted.{Contains-permutation, IsPermutation-sym}
use Rattle.class_tree.specs.declared.first_rows.Member.{Member}
use Rattle.class_tree.specs.Holders.{IsInterface}
use Rattle.class_tree.proofs.Held.{holders_exact}
use Rattle.class_tree.proofs.holders.Holders.new.Goals as goal

pub classes_by_key-requires : goal.classes_by_key-requires
classes_by_key-requires c = rw c.as_slice-2.ensures.value (rw c.as_slice.ensures.value at c.in_ok-keys.ensures)

pub returns : goal.returns
returns c =
    let old = c.in_ok-found.found.items in
    let new = c.sort_unstable_by_key.new.self.items in
    let only : (m : Member) → Contains new m ↔ Contains c.args.members.now m × IsInterface c.args.classes.now m.class = λ m. (
      λ h. (c.in_ok-found.ensures m).0 (Contains-permutation new old m (IsPermutation-sym old new c.sort_unstable_by_key.ensures.permutation) h),
      λ p. Contains-permutation old new m c.sort_unstable_by_key.ensures.permutation ((c.in_ok-found.ensures m).1 p),
    ) in
    record {
      len = c.in_ok-interfaces.ensures.len;
      exact = holders_exact c.args.classes.now c.args.members.now new c.in_ok-keys.keys c.in_ok-interfaces.interfaces
          only (rw c.as_slice.ensures.value at c.in_ok-keys.ensures) (rw c.as_slice-2.ensures.value at c.in_ok-interfaces.ensures.classes);
    }
