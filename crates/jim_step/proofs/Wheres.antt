-- A test decides between what a row offers and what isn't well typed.
use Rattle.std.proofs.Common.{◌≡◌, ◌↔◌, Bool, true, false, IsTrue, List, [], ◌∷◌, refl, inl, inr}
use Rattle.step_rules.specs.Effects.{Effect, is_ill_typed}
use Rattle.step_rules.specs.Offers.{Where}

pub where_so : (Fact : Type 0) (these : List Effect) (b : Bool) → IsTrue b ↔ Fact → b ≡ true → Where Fact these these
where_so Fact these b tells e = inl (tells.0 e, refl)

pub where_not : (Fact : Type 0) (these : List Effect) (b : Bool) → IsTrue b ↔ Fact → b ≡ false → Where Fact these (is_ill_typed ∷ [])
where_not Fact these b tells e = inr ((λ fact. let h : b ≡ true = tells.1 fact in cc), refl)
