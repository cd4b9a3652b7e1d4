-- Statements by their places, and results that may be none.
use Rattle.std.proofs.Common.{◌≡◌, ◌↔◌, ℕ, Option, Some, None, slice_get, sym, ap, ◌∙◌, rules}
use Rattle.std.specs.Option.{IfNone, IsSome}
use Rattle.std.proofs.lemmas.Option.{same_Some}
use Rattle.link_rules.specs.declared.code.Code.{Code}
use Rattle.link_rules.specs.Linked.{LinkedMethod, LinkedProgram}
use Rattle.link_sites.specs.Places.{CodeAt}

-- one statement stands at a place
pub CodeAt-one : (p : LinkedProgram) (number index : ℕ) (a b : Code) → CodeAt p number index a → CodeAt p number index b → a ≡ b
CodeAt-one p number index a b x y =
    let same : x.method ≡ y.method = same_Some x.method y.method (sym x.there ∙ y.there) in
    same_Some a b (sym x.here ∙ ap (λ (m : LinkedMethod). slice_get m.code index) same ∙ y.here)

-- what follows from what is known where there is no value
pub IfNone-weaker : {X : Type 0} (r : Option X) (P Q : Type 0) → (P → Q) → IfNone r P → IfNone r Q
IfNone-weaker None P Q then if_none = then if_none
IfNone-weaker (Some x) P Q then if_none = tt

-- there is a value where none would be wrong
pub IsSome-from : {X : Type 0} (r : Option X) (P : Type 0) → P → IfNone r (P → ⊥) → IsSome r
IsSome-from None P holds if_none = absurd (if_none holds)
IsSome-from (Some x) P holds if_none = search rules

-- there is no value, and none would be right
pub none_exactly : {X : Type 0} (r : Option X) (x : X) (P : Type 0) → r ≡ None → (P → ⊥) → (r ≡ Some x) ↔ P
none_exactly r x P none not = ((λ some. absurd (cc (none, some))), (λ holds. absurd (not holds)))
