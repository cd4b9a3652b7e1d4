use Rattle.std.proofs.Common.{slice_index_or, ℕ, List, inl, inr, refl, sym, subst}
use Rattle.std.proofs.lemmas.List.{take_all}
use Rattle.std.proofs.lemmas.Option.{slice_get-get_or}
use Rattle.lists.specs.Lists.{Has}
use Rattle.lists.proofs.Places.{Has-push, take-next}
use Rattle.site_events.proofs.inner.is_among.Goals as goal

pub returns-then-is_loud : goal.returns-then-is_loud
returns-then-is_loud c =
    let items = c.args.methods.now in
    let index = c.loop-method.method-index in
    let at = slice_get-get_or items index 0 c.loop-method-test.true in
    ((λ t. (slice_index_or items index 0, (index, at), c.is_loud.ensures.0 c.if-is_loud.true)), (λ e. refl))

pub loop-method-preserved : goal.loop-method-preserved
loop-method-preserved c = λ m has loud.
    let items = c.args.methods.now in
    let index = c.loop-method.method-index in
    let x = slice_index_or items index 0 in
    let at = slice_get-get_or items index 0 c.loop-method-test.true in
    let more = rw (take-next items index x at) at has in
    elim ((Has-push _ x m).0 more) [
      | inl was ↦ c.loop-method.invariant m was loud
      | inr e ↦
          let yes = c.is_loud.ensures.1 (subst (λ (n : ℕ). Has c.args.loud.now.keys n) e loud) in
          let no = c.if-is_loud.false in
          cc
    ]

pub returns : goal.returns
returns c = (
  (λ yes. absurd cc),
  (λ e.
      let has = subst (λ (xs : List ℕ). Has xs e.0) (sym (take_all c.loop-method.method-index c.args.methods.now c.loop-method-test.false)) e.1 in
      absurd (c.loop-method.invariant e.0 has e.2)),
)
