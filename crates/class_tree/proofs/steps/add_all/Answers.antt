use Rattle.std.proofs.Common.{ℕ, ◌<◌, ◌⊎◌, ◌≡◌, ◌+◌, inl, inr, arith, subst, Contains}
use Rattle.std.proofs.lemmas.List.Elements.{All-push, Contains-push, Contains-append_left}
use Rattle.class_tree.proofs.steps.add_all.Goals as goal

below_or_at : (i n : ℕ) → i < n + 1 → (i < n) ⊎ (n ≡ i)
below_or_at i n h = grind arith

pub loop-class-preserved : goal.loop-class-preserved
loop-class-preserved c = rw c.in_ok-push.ensures.items (record {
  known = All-push (λ x. x < c.args.count) _ _ c.loop-class.invariant.known (omega arith);
  all = λ b h. elim (below_or_at b c.loop-class.class h) [
    | inl lt ↦ Contains-append_left _ _ b (c.loop-class.invariant.all b lt)
    | inr at ↦ subst (Contains _) at (Contains-push _ _)
  ];
})
