-- What is there or not: each is found out by looking through a list.
use Rattle.std.proofs.Common.{◌≡◌, ℕ, zero, suc, ◌<◌, ◌⊎◌, Bool, true, false, List, [], ◌∷◌, Some, slice_get, refl, sym, ap, ◌∙◌, inl, inr, true≢false, arith}
use Rattle.std.specs.Str.{bytes_eq}
use Rattle.std.proofs.lemmas.Bool.{cases_eq}
use Rattle.std.proofs.lemmas.Slice.Eq.{bytes_eq-Decides}
use Rattle.lists.specs.Lists.{Has}
use Rattle.jim_ast.specs.declared.names.NameId.{NameId}
use Rattle.jim_ast.specs.declared.syntax.Label.{Label}
use Rattle.link_rules.specs.Bodies.{HasNoLabel, IsLabel}
use Rattle.link_rules.specs.Classes.{DeclaredClass, IsDeclared, class_name}

-- one name or two
name_or_not : (x y : NameId) → (x ≡ y) ⊎ (x ≡ y → ⊥)
name_or_not x y = elim (cases_eq x.0 y.0) [ inl same ↦ inl (λ i. record { 0 = same i }) | inr apart ↦ inr (λ e. apart (ap (λ (n : NameId). n.0) e)) ]

-- a local is declared or not
pub has_or_not : (xs : List NameId) (x : NameId) → Has xs x ⊎ (Has xs x → ⊥)
has_or_not [] x = inr (λ h. cc (h.1))
has_or_not (y ∷ xs) x = elim (name_or_not y x) [
  | inl same ↦ inl (0, ap Some same)
  | inr apart ↦ elim (has_or_not xs x) [ inl h ↦ inl (suc h.0, h.1) | inr none ↦ inr (λ h. elsewhere apart none h.0 h.1) ]
]
  where
    elsewhere : (y ≡ x → ⊥) → (Has xs x → ⊥) → (i : ℕ) → slice_get (y ∷ xs) i ≡ Some x → ⊥
    elsewhere apart none zero e = apart cc
    elsewhere apart none (suc i) e = none (i, e)

-- the first label of the name behind another
behind : (l : Label) (labels : List Label) (name : NameId) (index : ℕ) → (l.name ≡ name → ⊥) → IsLabel labels name index → IsLabel (l ∷ labels) name index
behind l labels name index apart h = record {
  place = suc h.place;
  there = h.there;
  first = first;
}
  where
    first : (i : ℕ) (k : Label) → i < suc h.place → slice_get (l ∷ labels) i ≡ Some k → k.name ≡ name → ⊥
    first zero k before at same = apart (let e : l ≡ k = cc in ap (λ (k : Label). k.name) e ∙ same)
    first (suc i) k before at same = h.first i k (omega (arith, before)) at same

-- a label is there or not
pub label_or_not : (labels : List Label) (name : NameId) → ((index : ℕ) × IsLabel labels name index) ⊎ HasNoLabel labels name
label_or_not [] name = inr (λ l h e. cc (h.1))
label_or_not (l ∷ labels) name = elim (name_or_not l.name name) [
  | inl same ↦ inl (
    l.index,
    record {
      place = 0;
      there = ap Some (λ i. record { name = same i; index = l.index });
      first = λ i k before at e. omega (arith, before);
    },
  )
  | inr apart ↦ elim (label_or_not labels name) [
    | inl h ↦ inl (h.0, behind l labels name h.0 apart h.1)
    | inr none ↦ inr (λ k h e. elsewhere apart none k h.0 h.1 e)
  ]
]
  where
    elsewhere : (l.name ≡ name → ⊥) → HasNoLabel labels name → (k : Label) (i : ℕ) → slice_get (l ∷ labels) i ≡ Some k → k.name ≡ name → ⊥
    elsewhere apart none k zero at e = apart (let same : l ≡ k = cc in ap (λ (k : Label). k.name) same ∙ e)
    elsewhere apart none k (suc i) at e = none k (i, at) e

-- a class is declared or not
pub declared_or_not : (classes : List DeclaredClass) (name : List ℕ) → IsDeclared classes name ⊎ (IsDeclared classes name → ⊥)
declared_or_not [] name = inr (λ h. (let at = h.1.there in cc))
declared_or_not (c ∷ classes) name = by (bytes_eq (class_name c) name) refl (declared_or_not classes name)
  where
    elsewhere : (class_name c ≡ name → ⊥) → (IsDeclared classes name → ⊥) → (number : ℕ) (k : DeclaredClass) → slice_get (c ∷ classes) number ≡ Some k → class_name k ≡ name → ⊥
    elsewhere apart none zero k at e = apart (let same : c ≡ k = cc in ap class_name same ∙ e)
    elsewhere apart none (suc number) k at e = none (number, record { class = k; there = at; named = e })

    by : (b : Bool) → bytes_eq (class_name c) name ≡ b → IsDeclared classes name ⊎ (IsDeclared classes name → ⊥) → IsDeclared (c ∷ classes) name ⊎ (IsDeclared (c ∷ classes) name → ⊥)
    by true e rest = inl (0, record { class = c; there = refl; named = (bytes_eq-Decides (class_name c) name).0 e })
    by false e rest = elim rest [
      | inl h ↦ inl (suc h.0, record { class = h.1.class; there = h.1.there; named = h.1.named })
      | inr none ↦ inr (λ h. elsewhere (λ same. true≢false (sym ((bytes_eq-Decides (class_name c) name).1 same) ∙ e)) none h.0 h.1.class h.1.there h.1.named)
    ]
