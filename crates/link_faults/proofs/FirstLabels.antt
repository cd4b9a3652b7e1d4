-- Labels by name.
use Rattle.std.proofs.Common.{◌≡◌, ℕ, zero, suc, ◌<◌, ◌⊎◌, Option, None, List, [], ◌∷◌, Some, slice_get, refl, ap, ◌∙◌, inl, inr, arith}
use Rattle.std.specs.Prelude.{◌↔◌}
use Rattle.std.proofs.lemmas.Bool.{cases_eq}
use Rattle.jim_ast.specs.declared.names.NameId.{NameId}
use Rattle.jim_ast.specs.declared.syntax.Label.{Label}
use Rattle.link_rules.specs.Bodies.{HasNoLabel, IsLabel}

-- two names are one or they aren't
same_name : (a b : NameId) → (a ≡ b) ⊎ (a ≡ b → ⊥)
same_name a b = elim (cases_eq a.0 b.0) [ inl e ↦ inl (λ i. record { 0 = e i }) | inr n ↦ inr (λ e. n (ap (λ (x : NameId). x.0) e)) ]

-- the first label with a name, or there is none
first_label : (labels : List Label) (name : NameId) → ((n : ℕ) × IsLabel labels name n) ⊎ HasNoLabel labels name
first_label [] name = inr (λ l h e. cc (h.1))
first_label (l ∷ labels) name = elim (same_name l.name name) [
  | inl same ↦ inl (l.index, record { place = 0; there = ap (λ (x : NameId). Some (record { name = x; index = l.index })) same; first = λ i m before there is. omega (arith, before) })
  | inr other ↦ elim (first_label labels name) [
    | inl found ↦ inl (found.0, record { place = suc found.1.place; there = found.1.there; first = later other found.1.first })
    | inr none ↦ inr (behind other none)
  ]
]
  where
    later : {n : ℕ} → (l.name ≡ name → ⊥) → ((i : ℕ) (m : Label) → i < n → slice_get labels i ≡ Some m → m.name ≡ name → ⊥)
        → (i : ℕ) (m : Label) → i < suc n → slice_get (l ∷ labels) i ≡ Some m → m.name ≡ name → ⊥
    later other first zero m before there is = let same : l ≡ m = cc (there) in other (ap (λ (x : Label). x.name) same ∙ is)
    later other first (suc i) m before there is = first i m (omega arith) there is

    behind : (l.name ≡ name → ⊥) → HasNoLabel labels name → HasNoLabel (l ∷ labels) name
    behind other none m (zero, there) is = let same : l ≡ m = cc (there) in other (ap (λ (x : Label). x.name) same ∙ is)
    behind other none m (suc i, there) is = none m (i, there) is

module _ (labels : List Label) (name : NameId) (o : Option ℕ) (says : (n : ℕ) → (o ≡ Some n) ↔ IsLabel labels name n) where
  -- a look-up that finds no label says that there is none
  pub no_label : o ≡ None → HasNoLabel labels name
  no_label none = elim (first_label labels name) [ inl found ↦ let e = (says found.0).1 found.1 in cc | inr h ↦ h ]

  -- and one that finds a label says that there is one
  pub some_label : (n : ℕ) → o ≡ Some n → HasNoLabel labels name → ⊥
  some_label n some none = let l = (says n).0 some in none _ (l.place, l.there) refl
