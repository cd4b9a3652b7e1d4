-- Arrivals that are gathered site by site.
use Rattle.std.proofs.Common.{◌≡◌, ℕ, ◌+◌, ◌<◌, ◌↔◌, ◌⊎◌, List, [], length, get_or, take, Some, slice_get, sym, ap, ◌∙◌, subst, inl, inr, arith}
use Rattle.std.proofs.lemmas.Bool.{cases_lt}
use Rattle.lists.specs.Lists.{Has}
use Rattle.lists.proofs.Places.{slice_get-below}
use Rattle.spds_solve.specs.declared.arrivals.Arrival.{Arrival}
use Rattle.call_side.proofs.Lists.{Has-take_more}
use Rattle.spds_tables.specs.declared.tables.SiteTables.{SiteTables}
use Rattle.spds_tables.specs.Tables.{ArrivesAt}

-- an arrival by its numbers
is_arrival : (x y : Arrival) → x.site ≡ y.site → x.cell ≡ y.cell → x ≡ y
is_arrival x y a b = ap (λ (n : ℕ). record { site = n; cell = x.cell }) a ∙ ap (λ (n : ℕ). record { site = y.site; cell = n }) b

-- one more cell of a site
pub cell_more : (first old new : List Arrival) (site : ℕ) (cells : List ℕ) (i d : ℕ) → i < length cells
    → ((h : Arrival) → Has old h ↔ (Has first h ⊎ ((h.site ≡ site) × Has (take i cells) h.cell)))
    → ((h : Arrival) → Has new h ↔ (Has old h ⊎ (h ≡ record { site = site; cell = get_or cells i d })))
    → (h : Arrival) → Has new h ↔ (Has first h ⊎ ((h.site ≡ site) × Has (take (i + 1) cells) h.cell))
cell_more first old new site cells i d below was now h =
    let more = Has-take_more cells i d h.cell below in (
      (λ has. elim ((now h).0 has) [
        | inl o ↦ elim ((was h).0 o) [ inl f ↦ inl f | inr r ↦ inr (r.0, more.1 (inl r.1)) ]
        | inr e ↦ inr (ap (λ (x : Arrival). x.site) e, more.1 (inr (ap (λ (x : Arrival). x.cell) e)))
      ]),
      (λ k. elim k [
        | inl f ↦ (now h).1 (inl ((was h).1 (inl f)))
        | inr r ↦ elim (more.0 r.1) [
          | inl b ↦ (now h).1 (inl ((was h).1 (inr (r.0, b))))
          | inr e ↦ (now h).1 (inr (is_arrival h (record { site = site; cell = get_or cells i d }) r.0 e))
        ]
      ]),
    )

-- all cells of a site
pub cells_all : (first new : List Arrival) (site : ℕ) (t : SiteTables) (cells : List ℕ) → ((n : ℕ) → Has cells n ↔ ArrivesAt t.calls n)
    → ((h : Arrival) → Has new h ↔ (Has first h ⊎ ((h.site ≡ site) × Has cells h.cell)))
    → (h : Arrival) → Has new h ↔ (Has first h ⊎ ((h.site ≡ site) × ArrivesAt t.calls h.cell))
cells_all first new site t cells held now h = (
  (λ has. elim ((now h).0 has) [ inl f ↦ inl f | inr r ↦ inr (r.0, (held h.cell).0 r.1) ]),
  (λ k. elim k [ inl f ↦ (now h).1 (inl f) | inr r ↦ (now h).1 (inr (r.0, (held h.cell).1 r.1)) ]),
)

module _ (tables : List SiteTables) where
  -- no site was gone through yet
  pub arrived_none : (held : List Arrival) → held ≡ [] → (h : Arrival)
      → Has held h ↔ ((h.site < 0) × (t : SiteTables) × (slice_get tables h.site ≡ Some t) × ArrivesAt t.calls h.cell)
  arrived_none held e h = ((λ has. let there : Has [] h = subst (λ (xs : List Arrival). Has xs h) e has in cc there.1), (λ k. absurd (let low = k.0 in omega arith)))

  -- one more is
  pub arrived_more : (old new : List Arrival) (site : ℕ) (t : SiteTables) → slice_get tables site ≡ Some t
      → ((h : Arrival) → Has old h ↔ ((h.site < site) × (t : SiteTables) × (slice_get tables h.site ≡ Some t) × ArrivesAt t.calls h.cell))
      → ((h : Arrival) → Has new h ↔ (Has old h ⊎ ((h.site ≡ site) × ArrivesAt t.calls h.cell)))
      → (h : Arrival) → Has new h ↔ ((h.site < site + 1) × (t : SiteTables) × (slice_get tables h.site ≡ Some t) × ArrivesAt t.calls h.cell)
  arrived_more old new site t there was now h = (
    (λ has. elim ((now h).0 has) [
      | inl o ↦ let k = (was h).0 o in ((let low = k.0 in omega arith), k.1, k.2, k.3)
      | inr r ↦ ((let e = r.0 in omega arith), t, subst (λ (n : ℕ). slice_get tables n ≡ Some t) (sym r.0) there, r.1)
    ]),
    (λ k. elim (cases_lt h.site site) [
      | inl less ↦ (now h).1 (inl ((was h).1 (less, k.1, k.2, k.3)))
      | inr more ↦
          let e : h.site ≡ site = (let low = k.0 in omega arith) in
          let there2 : slice_get tables site ≡ Some k.1 = subst (λ (n : ℕ). slice_get tables n ≡ Some k.1) e k.2 in
          let same : k.1 ≡ t = cc (there, there2) in
          (now h).1 (inr (e, subst (λ (x : SiteTables). ArrivesAt x.calls h.cell) same k.3))
    ]),
  )

  -- all are
  pub arrived_all : (held : List Arrival) (done : ℕ) → length tables ≡ done
      → ((h : Arrival) → Has held h ↔ ((h.site < done) × (t : SiteTables) × (slice_get tables h.site ≡ Some t) × ArrivesAt t.calls h.cell))
      → (h : Arrival) → Has held h ↔ ((t : SiteTables) × (slice_get tables h.site ≡ Some t) × ArrivesAt t.calls h.cell)
  arrived_all held done e now h = (
    (λ has. let k = (now h).0 has in (k.1, k.2, k.3)),
    (λ k. (now h).1 ((let low = slice_get-below tables h.site k.0 k.1 in omega arith), k.0, k.1, k.2)),
  )
