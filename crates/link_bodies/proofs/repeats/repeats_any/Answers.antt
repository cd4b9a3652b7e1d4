use Rattle.std.proofs.Common.{◌≡◌, Some, slice_get, refl, sym, ◌∙◌, subst, true≢false, inl, inr, arith}
use Rattle.std.proofs.lemmas.Bool.{cases_lt}
use Rattle.std.proofs.lemmas.Option.{slice_get-get_or}
use Rattle.lists.proofs.Places.{slice_get-below}
use Rattle.link_bodies.proofs.repeats.repeats_any.Goals as goal

pub returns-then-is_again : goal.returns-then-is_again
returns-then-is_again c =
    let again = (c.is_again.ensures c.args.locals.now c.requires).0 c.if-is_again.true in (
      λ h. record {
        element = _;
        first = again.0;
        again = c.loop-place.place;
        before = again.1;
        there = again.2;
        there_again = slice_get-get_or c.args.locals.now c.loop-place.place _ c.loop-place-test.true;
      },
      λ h. refl,
    )

pub loop-place-preserved : goal.loop-place-preserved
loop-place-preserved c =
    let locals = c.args.locals.now in
    let own = (c.is_again.ensures locals c.requires).1 in
    λ i j name before below here there. elim (cases_lt j c.loop-place.place) [
      | inl less ↦ c.loop-place.invariant i j name before less here there
      | inr not ↦ (let last : j ≡ c.loop-place.place = omega (arith, below, not) in
          let at = slice_get-get_or locals c.loop-place.place _ c.loop-place-test.true in
          let moved = subst (λ k. slice_get locals k ≡ Some name) last there in
          true≢false (sym (own (i, omega (arith, before, last), here ∙ sym moved ∙ at)) ∙ c.if-is_again.false))
    ]

pub returns : goal.returns
returns c = (
  λ h. cc,
  λ r. absurd (c.loop-place.invariant r.first r.again r.element r.before
      (let below = slice_get-below c.args.locals.now r.again r.element r.there_again in let all = c.loop-place-test.false in omega (arith, below, all)) r.there r.there_again),
)
