use Rattle.std.proofs.Common.{◌≡◌, ℕ, Some, false, true, slice_get, inl, inr, refl, sym, subst, arith}
use Rattle.std.proofs.lemmas.Bool.{cases_lt}
use Rattle.std.proofs.lemmas.Option.{get_or_from_slice_get, slice_get-get_or}
use Rattle.class_rules.specs.Rows.{Sub}
use Rattle.lists.proofs.Places.{slice_get-below}
use Rattle.site_events.proofs.shared.has_one_below.Goals as goal

pub sub-requires-clause-a : goal.sub-requires-clause-a
sub-requires-clause-a c =
    let there = slice_get-get_or c.args.some.now c.loop-one.one-index 0 c.loop-one-test.true in
    let below = c.requires.some _ (c.loop-one.one-index, there) in
    rw c.tree-tree.ensures (omega (arith, below, c.tell_form.ensures.tree))

pub returns-then-sub : goal.returns-then-sub
returns-then-sub c =
    let there = slice_get-get_or c.args.some.now c.loop-one.one-index 0 c.loop-one-test.true in
    let sub = rw c.tree-tree.ensures at c.if-sub.ensures in
    ((λ t. (_, (c.loop-one.one-index, there), sub.0 refl)), (λ h. refl))

pub loop-one-preserved : goal.loop-one-preserved
loop-one-preserved c = λ k x less at is.
    elim (cases_lt k c.loop-one.one-index) [
      | inl low ↦ c.loop-one.invariant k x low at is
      | inr high ↦
          let last : k ≡ c.loop-one.one-index = omega (arith, less, high) in
          let here = subst (λ (n : ℕ). slice_get c.args.some.now n ≡ Some x) last at in
          let same = get_or_from_slice_get c.args.some.now c.loop-one.one-index x 0 here in
          let sub = rw c.tree-tree.ensures at c.if-sub.ensures in
          let no : false ≡ true = sub.1 (subst (λ (y : ℕ). Sub c.args.linked.now.rows y c.args.class) (sym same) is) in
          cc
    ]

pub returns : goal.returns
returns c = (
  (λ t. let no : false ≡ true = t in cc),
  (λ h.
      let below = slice_get-below c.args.some.now h.1.0 h.0 h.1.1 in
      absurd (c.loop-one.invariant h.1.0 h.0 (omega (arith, below, c.loop-one-test.false)) h.1.1 h.2)),
)
