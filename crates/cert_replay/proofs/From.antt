-- What is found from something that is found.
use Rattle.std.proofs.Common.{◌≡◌, ◌↔◌, Option, Some, None, Bool, true, false, IsTrue, refl, sym, subst, ◌∙◌, true≢false}
use Rattle.cert_text.proofs.NodeWords.{none_iff, some_iff, some_one}

-- one is so, and from it this follows
pub record From {X Y : Type 0} (Is : X → Type 0) (Then : X → Y → Type 0) (y : Y) : Type 0 where
  pub by : X
  pub is : Is by
  pub so : Then by y

-- the fact holds, and this is what it gives
abbrev pub Where : {Y : Type 0} → Type 0 → Y → Y → Type 0
Where P a y = P × (y ≡ a)

-- this is what is found
abbrev pub Finds : {X : Type 0} → (X → Type 0) → Option X → Type 0
Finds {X} Is found = (x : X) → (found ≡ Some x) ↔ Is x

module _ {X Y : Type 0} (Is : X → Type 0) (Then : X → Y → Type 0) (R : Y → Type 0) (row : (y : Y) → From Is Then y ↔ R y) where
  -- where none is so, nothing follows
  pub from_none : Finds Is None → Finds R None
  from_none none = none_iff (λ y r. let f = (row y).1 r in let e = (none f.by).1 f.is in cc)

  -- where one is so, what follows from that one
  pub from_some : (x : X) → Finds Is (Some x) → (r : Option Y) → Finds (Then x) r → Finds R r
  from_some x one r finds y = (
    λ e. (row y).0 (record { by = x; is = (one x).0 refl; so = (finds y).0 e }),
    λ is.
        let f = (row y).1 is in
        let same : x ≡ f.by = some_one x f.by ((one f.by).1 f.is) in
        (finds y).1 (subst (λ z. Then z y) (sym same) f.so),
  )

module _ {Y : Type 0} (P : Type 0) (a : Y) where
  -- what a test lets through
  pub where_so : P → Finds (Where P a) (Some a)
  where_so p = some_iff a (p, refl) (λ y is. is.1)

  pub where_not : (P → ⊥) → Finds (Where P a) None
  where_not not = none_iff (λ y is. not is.0)

-- a relation is that of what follows from it
pub itself : {X Y : Type 0} (Is : X → Type 0) (Then : X → Y → Type 0) (y : Y) → From Is Then y ↔ From Is Then y
itself Is Then y = ((λ f. f), λ f. f)

-- what is alone found
pub one_finds : {Y : Type 0} (a : Y) → Finds (λ y. y ≡ a) (Some a)
one_finds a = some_iff a refl (λ y e. e)

-- a test that is true where the fact holds
module _ (P : Type 0) (test : Bool) (tells : IsTrue test ↔ P) where
  pub holds : test ≡ true → P
  holds e = tells.0 e

  pub fails : test ≡ false → P → ⊥
  fails e p = true≢false (sym (tells.1 p) ∙ e)

-- two that fail a test that each passes with itself differ
pub differs : {X : Type 0} (eq : X → X → Bool) → ((x : X) → eq x x ≡ true) → (x y : X) → false ≡ eq x y → x ≡ y → ⊥
differs eq self x y f e = true≢false (sym (subst (λ z. eq x z ≡ true) e (self x)) ∙ sym f)

-- what never holds, a false test tells
pub never : (P : Type 0) → (P → ⊥) → IsTrue false ↔ P
never P not = ((λ e. absurd (true≢false (sym e))), λ p. absurd (not p))

-- a test that each passes with itself, and with nothing else, tells what is equal
pub tells : {X : Type 0} (eq : X → X → Bool) → ((x y : X) → eq x y ≡ true → x ≡ y) → ((x : X) → eq x x ≡ true) → (x y : X) (r : Bool) → r ≡ eq x y → IsTrue r ↔ (x ≡ y)
tells eq same self x y r e = ((λ t. same x y (sym e ∙ t)), λ s. e ∙ subst (λ z. eq x z ≡ true) s (self x))

-- one thing after another
pub both : {P Q R : Type 0} → P ↔ Q → Q ↔ R → P ↔ R
both f g = ((λ p. g.0 (f.0 p)), λ r. f.1 (g.1 r))
