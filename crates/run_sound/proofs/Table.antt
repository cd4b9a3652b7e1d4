-- What explains each effect that the next step may have.
use Rattle.std.proofs.Common.{◌≡◌, ℕ, ◌⊎◌, Option, Some, None, Bool, true, false, List, [], ◌∷◌, slice_get, refl, sym, subst, inl, inr}
use Rattle.lists.specs.Lists.{Has}
use Rattle.link_rules.specs.declared.code.Catch.{Catch}
use Rattle.link_rules.specs.declared.code.Code.{Code}
use Rattle.link_rules.specs.Flow.{CoversPlace, Handles}
use Rattle.link_rules.specs.Linked.{LinkedMethod, LinkedProgram}
use Rattle.link_rules.specs.WellLinked.{IsWellLinked}
use Rattle.run_covers.proofs.Offered.{AllOf, one_of, only}
use Rattle.step_rules.specs.declared.parts.Value.{Value}
use Rattle.step_rules.specs.declared.parts.Value.TheVariants.{Null, Number, Object}
use Rattle.step_rules.specs.Effects.{Effect, handles, leaves}
use Rattle.step_rules.specs.Offers.{IsCaughtAt, OffersBy, Row, UnwindsAt}
use Rattle.step_rules.specs.States.{Point}
use Rattle.run_sound.proofs.Explained.{IsExplained, IsUnwound, caught, left}
use Rattle.run_sound.proofs.Invariant.{IsShaped}
use Rattle.run_sound.proofs.Moves.{same_code}
use Rattle.run_sound.proofs.Rows.{row}
use Rattle.run_sound.proofs.Standing.{code_fits}

module _ (p : LinkedProgram) (well : IsWellLinked p) (point : Point) (form : IsShaped p point.top) where
  -- by the statement, or by the exception in flight
  abbrev pub Explains : Effect → Type 0
  Explains e = ((point.top.raised ≡ false) × IsExplained p point form.method form.code e)
      ⊎ ((point.top.raised ≡ true) × IsUnwound p point form.method form.code e)

  abbrev Unwound : Effect → Type 0
  Unwound = IsUnwound p point form.method form.code

  -- the handler that catches covers the statement
  is_handler : (m : LinkedMethod) (class handler : ℕ) → slice_get p.methods point.top.method ≡ Some m → IsCaughtAt p m.catches point.top.index class handler
      → Handles form.method.catches point.top.index handler
  is_handler m class handler there is_caught =
      let one = form.there in
      let same : m ≡ form.method = cc in
      let h = is_caught.first.holds in
      let e = h.1 in
      let is = is_caught.there in
      let covers : h.0 ≡ is_caught.catch = cc in (
        is_caught.catch,
        (is_caught.number, subst (λ (m : LinkedMethod). slice_get m.catches is_caught.number ≡ Some is_caught.catch) same is),
        subst (λ (c : Catch). CoversPlace c point.top.index) covers h.2,
        is_caught.is_handler,
      )

  unwinding : (thrown : Option Value) → point.top.thrown ≡ thrown → (offered : List Effect) → UnwindsAt p point thrown offered → AllOf Unwound offered
  unwinding (Some (Object o)) is offered h = elim h.2.2 [
    | inl so ↦ only Unwound (handles so.0 o ∷ []) offered so.2 (caught is (is_handler h.0 h.2.0.class so.0 h.1 so.1), tt)
    | inr none ↦ only Unwound (leaves o ∷ []) offered none.1 (left is, tt)
  ]
  unwinding (Some Null) is offered h = elim h [ ]
  unwinding (Some Number) is offered h = elim h [ ]
  unwinding None is offered h = elim h [ ]

  pub explained : (r : Bool) → point.top.raised ≡ r → (offered : List Effect) → OffersBy r p point offered → (e : Effect) → Has offered e → Explains e
  explained false is offered h e has =
      let here = subst (λ (c : Code). Row p point c offered) (sym (same_code p point.top form h.code h.at)) h.is_so in
      let all = row p well point form.method form.there offered form.code form.here (code_fits p well point.top form) here in
      inl (is, one_of (IsExplained p point form.method form.code) offered e all has)
  explained true is offered h e has = inr (is, one_of Unwound offered e (unwinding point.top.thrown refl offered h) has)
