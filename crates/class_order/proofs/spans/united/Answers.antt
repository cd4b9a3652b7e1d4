use Rattle.std.proofs.Common.{◌<◌, Result, Ok, Err, IfOk, rules}
use Rattle.std.proofs.lemmas.List.Sorted.{All-permutation, IsNonDecreasingBy-from_sort_by_key}
use Rattle.class_order.specs.declared.spans.Span.{Span}
use Rattle.class_order.proofs.Spanned.{holds_permutation}
use Rattle.class_order.proofs.spans.united.Goals as goal

pub joined-requires-clause-filled : goal.joined-requires-clause-filled
joined-requires-clause-filled c = rw c.as_slice.ensures.value (All-permutation (λ (s : Span). s.start < s.end) _ _ c.sort_unstable_by_key.ensures.permutation c.requires)

pub joined-requires-clause-sorted : goal.joined-requires-clause-sorted
joined-requires-clause-sorted c = rw c.as_slice.ensures.value (IsNonDecreasingBy-from_sort_by_key (λ (s : Span). s.start) _ c.sort_unstable_by_key.ensures.sorted (λ a r q k. search rules))

-- a fact of the value follows from another
if_ok_map : {T E : Type 0} {P Q : T → Type 0} (r : Result T E) → ((x : T) → P x → Q x) → IfOk r P → IfOk r Q
if_ok_map (Ok x) f p = f x p
if_ok_map (Err e) f p = tt

pub returns-clause-same : goal.returns-clause-same
returns-clause-same c = if_ok_map c.joined.result (λ u same p.
    let sorted = holds_permutation c.args.spans.items c.sort_unstable_by_key.new.self.items c.sort_unstable_by_key.ensures.permutation p in
    let joined = rw c.as_slice.ensures.value at (same p) in
    (λ h. sorted.0 (joined.0 h), λ h. joined.1 (sorted.1 h))) c.joined.ensures.same
