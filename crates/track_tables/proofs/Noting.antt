-- Places that are noted one after another.
use Rattle.std.proofs.Common.{◌≡◌, ◌≢◌, ℕ, suc, zero, ◌+◌, ◌<◌, ◌≤◌, ◌↔◌, ◌⊎◌, Bool, true, false, List, [], ◌∷◌, ◌++◌, Some, eqb, length, map, slice_get, inl, inr, refl, sym, ap, ◌∙◌, subst, arith}
use Rattle.std.proofs.lemmas.Bool.{cases_eq, cases_lt, eqb-false, eqb-true}
use Rattle.std.proofs.lemmas.List.{append-nil}
use Rattle.lists.specs.Lists.{Has, IsApart}
use Rattle.lists.specs.declared.groups.Keyed.{Keyed}
use Rattle.lists.specs.Filings.{kept_if}
use Rattle.lists.specs.Groups.{items_with}
use Rattle.link_indexes.specs.Rows.{AreTheIndexes}
use Rattle.lists.proofs.Exactly.{AreExactly-push, AreExactly-same}
use Rattle.track_tables.specs.Noted.{noted_at}

-- the items with a key of two lists, one behind the other
items_with-append : (xs ys : List (Keyed ℕ ℕ)) (key : ℕ) → items_with eqb (xs ++ ys) key ≡ items_with eqb xs key ++ items_with eqb ys key
items_with-append [] ys key = refl
items_with-append (x ∷ xs) ys key = by (eqb x.key key) refl (items_with-append xs ys key)
  where
    by : (b : Bool) → eqb x.key key ≡ b → items_with eqb (xs ++ ys) key ≡ items_with eqb xs key ++ items_with eqb ys key
        → items_with eqb ((x ∷ xs) ++ ys) key ≡ items_with eqb (x ∷ xs) key ++ items_with eqb ys key
    by true e rest = rw e (ap (λ (zs : List ℕ). x.item ∷ zs) rest)
    by false e rest = rw e rest

-- a place is noted once for each of different sites, and for no other
noted_else : (sites : List ℕ) (place site : ℕ) → (Has sites site → ⊥) → items_with eqb (map (noted_at place) sites) site ≡ []
noted_else [] place site none = refl
noted_else (s ∷ sites) place site none = by (eqb s site) refl (noted_else sites place site (λ has. none (suc has.0, has.1)))
  where
    by : (b : Bool) → eqb s site ≡ b → items_with eqb (map (noted_at place) sites) site ≡ [] → items_with eqb (map (noted_at place) (s ∷ sites)) site ≡ []
    by true e rest = absurd (none (0, ap Some (eqb-true s site e)))
    by false e rest = rw e rest

noted_once : (sites : List ℕ) (place site : ℕ) → IsApart sites → Has sites site → items_with eqb (map (noted_at place) sites) site ≡ place ∷ []
noted_once [] place site apart has = absurd (let no = has.1 in cc)
noted_once (s ∷ sites) place site apart has =
    by (eqb s site) refl (λ ne. noted_once sites place site (λ i j x a b. let one : suc i ≡ suc j = apart (suc i) (suc j) x a b in omega (arith, one)) (further ne has.0 has.1))
  where
    further : s ≢ site → (i : ℕ) → slice_get (s ∷ sites) i ≡ Some site → Has sites site
    further ne zero at = absurd (ne (let e : Some s ≡ Some site = at in cc))
    further ne (suc i) at = (i, at)

    first_alone : s ≡ site → Has sites site → ⊥
    first_alone same more = let one : 0 ≡ suc more.0 = apart 0 (suc more.0) site (ap Some same) more.1 in omega (arith, one)

    by : (b : Bool) → eqb s site ≡ b → (s ≢ site → items_with eqb (map (noted_at place) sites) site ≡ place ∷ [])
        → items_with eqb (map (noted_at place) (s ∷ sites)) site ≡ place ∷ []
    by true e rest = rw e (ap (λ (zs : List ℕ). place ∷ zs) (noted_else sites place site (first_alone (eqb-true s site e))))
    by false e rest = rw e (rest (eqb-false s site e))

-- a site is among some, or not
is_among : (sites : List ℕ) (site : ℕ) → Has sites site ⊎ (Has sites site → ⊥)
is_among [] site = inr (λ has. let no = has.1 in cc)
is_among (s ∷ sites) site = elim (cases_eq s site) [
  | inl e ↦ inl (0, ap Some e)
  | inr ne ↦ elim (is_among sites site) [
    | inl has ↦ inl (suc has.0, has.1)
    | inr none ↦ inr (λ has. by ne none has.0 has.1)
  ]
]
  where
    by : s ≢ site → (Has sites site → ⊥) → (i : ℕ) → slice_get (s ∷ sites) i ≡ Some site → ⊥
    by ne none zero at = ne (let e : Some s ≡ Some site = at in cc)
    by ne none (suc i) at = none (i, at)

module _ (P : ℕ → Type 0) where
  -- the first places with the fact
  abbrev pub AreFirst : ℕ → List ℕ → Type 0
  AreFirst place places = AreTheIndexes (λ i. (i < place) × P i) places

  pub first_none : AreFirst 0 []
  first_none = record {
    each = λ i. ((λ has. absurd (let no = has.1 in cc)), (λ h. let low = h.0 in absurd (omega arith)));
    ordered = λ i j d less within. absurd (omega arith);
  }

  -- one place more has the fact, or hasn't
  either : (place i : ℕ) → P place → ((i < place + 1) × P i) ↔ (((i < place) × P i) ⊎ (i ≡ place))
  either place i here = (
    (λ h. elim (cases_lt i place) [ inl low ↦ inl (low, h.1) | inr high ↦ let low = h.0 in inr (omega (arith, low, high)) ]),
    (λ h. elim h [ inl l ↦ (let low = l.0 in omega (arith, low), l.1) | inr e ↦ (omega (arith, e), subst P (sym e) here) ]),
  )

  neither : (place i : ℕ) → (P place → ⊥) → ((i < place + 1) × P i) ↔ ((i < place) × P i)
  neither place i not = (
    (λ h. elim (cases_lt i place) [
      | inl low ↦ (low, h.1)
      | inr high ↦ let low = h.0 in let same : i ≡ place = omega (arith, low, high) in absurd (not (subst P same h.1))
    ]),
    (λ h. (let low = h.0 in omega (arith, low), h.1)),
  )

  module _ (noted : List (Keyed ℕ ℕ)) (sites : List ℕ) (place site : ℕ) (apart : IsApart sites) (held : Has sites site ↔ P place) (old : AreFirst place (items_with eqb noted site)) where
    pub first_next : AreFirst (place + 1) (items_with eqb (noted ++ map (noted_at place) sites) site)
    first_next = rw (items_with-append noted (map (noted_at place) sites) site) (elim (is_among sites site) [
      | inl has ↦
          rw (noted_once sites place site apart has)
          (AreExactly-push (items_with eqb noted site) place old (λ i h. h.0) (λ i. either place i (held.0 has)))
      | inr none ↦
          rw (noted_else sites place site none, append-nil (items_with eqb noted site))
          (AreExactly-same (items_with eqb noted site) old (λ i. neither place i (λ h. none (held.1 h))))
    ])

  -- all places with the fact, where none is further on
  pub first_all : (place : ℕ) (places : List ℕ) → ((i : ℕ) → P i → i < place) → AreFirst place places → AreTheIndexes P places
  first_all place places within first = AreExactly-same places first (λ i. ((λ h. (within i h, h)), (λ h. h.1)))
