use Rattle.std.proofs.Common.{ℕ, ◌≡◌, ◌<◌, ◌+◌, ◌⊎◌, get_or, sym, ap, subst, ◌∙◌, inl, inr, true≢false, arith}
use Rattle.std.proofs.lemmas.Option.{slice_get-get_or, get_or_from_slice_get}
use Rattle.class_tree.specs.Indexed.{HasFieldNear}
use Rattle.class_tree.proofs.tree.Tree.first_near.Goals as goal

below_or_at : (k n : ℕ) → k < n + 1 → (k < n) ⊎ (k ≡ n)
below_or_at k n h = grind arith

pub loop-class-preserved : goal.loop-class-preserved
loop-class-preserved c = λ k x lt there near. elim (below_or_at k c.loop-class.class-index lt) [
  | inl old ↦ c.loop-class.invariant k x old there near
  | inr is ↦ true≢false (sym (c.has_field_near.ensures.1 (subst (λ y. HasFieldNear c.args.self.now y c.args.fields.now.key)
      (sym (ap (λ n. get_or c.args.classes.now n 0) (sym is) ∙ get_or_from_slice_get c.args.classes.now k x 0 there)) near)) ∙ c.if-has_field_near.false)
]

pub returns-clause-none : goal.returns-clause-none
returns-clause-none c = λ k d h. c.loop-class.invariant k _ (omega (arith, h, c.loop-class-test.false)) (slice_get-get_or c.args.classes.now k d h)
