-- The ends of stores by their cells.
use Rattle.std.proofs.Common.{◌≡◌, ℕ, zero, suc, ◌+◌, ◌<◌, ◌↔◌, ◌⊎◌, ◌++◌, Bool, true, false, List, [], ◌∷◌, Some, eqb, length, slice_get, refl, sym, ap, ◌∙◌, subst, inl, inr, arith}
use Rattle.std.proofs.lemmas.Bool.{cases_lt, eqb-false, eqb-true}
use Rattle.lists.specs.Lists.{Has}
use Rattle.lists.proofs.Places.{Has-push}
use Rattle.lists.specs.declared.groups.Keyed.{Keyed}
use Rattle.lists.specs.Filings.{kept_if}
use Rattle.lists.specs.Groups.{items_with}
use Rattle.spds_solve.specs.declared.ends.End.{End}
use Rattle.spds_solve.specs.declared.ends.End.TheVariants.{Arg, Base}
use Rattle.spds_solve.specs.declared.ends.Ends.{Ends}
use Rattle.spds_solve.specs.declared.ends.StoreEnd.{StoreEnd}
use Rattle.spds_solve.specs.Ends.{AreEnds, AreEndsBelow, cell_of, ends_in}
use Rattle.spds_tables.specs.declared.parts.Parts.{Parts}
use Rattle.spds_tables.specs.Parts.{store_at}

-- an end and its cell
abbrev pub keyed : ℕ → StoreEnd → Keyed ℕ StoreEnd
keyed key at = record { key = key; item = at }

-- the elements of a list with one in front
has_cons : {X : Type 0} (x y : X) (xs : List X) → Has (x ∷ xs) y ↔ ((y ≡ x) ⊎ Has xs y)
has_cons {X} x y xs = ((λ has. by has.0 has.1), (λ either. elim either [ inl e ↦ (0, ap Some (sym e)) | inr has ↦ (suc has.0, has.1) ]))
  where
    by : (i : ℕ) → slice_get (x ∷ xs) i ≡ Some y → (y ≡ x) ⊎ Has xs y
    by zero at = inl cc
    by (suc i) at = inr (i, at)

-- the ends with a key are those listed with it
with_has : (xs : List (Keyed ℕ StoreEnd)) (key : ℕ) (at : StoreEnd) → Has (items_with eqb xs key) at ↔ Has xs (keyed key at)
with_has [] key at = ((λ has. cc has.1), (λ has. cc has.1))
with_has (x ∷ xs) key at = by (with_has xs key at) (eqb x.key key) refl
  where
    cons : Has (x ∷ xs) (keyed key at) ↔ ((keyed key at ≡ x) ⊎ Has xs (keyed key at))
    cons = has_cons x (keyed key at) xs

    by : (Has (items_with eqb xs key) at ↔ Has xs (keyed key at)) → (b : Bool) → eqb x.key key ≡ b → Has (items_with eqb (x ∷ xs) key) at ↔ Has (x ∷ xs) (keyed key at)
    by rest true e =
        let one = has_cons x.item at (items_with eqb xs key) in
        let same : x.key ≡ key = eqb-true x.key key e in
        let is : items_with eqb (x ∷ xs) key ≡ x.item ∷ items_with eqb xs key = ap (λ t. kept_if t x.item (items_with eqb xs key)) e in (
          (λ has. cons.1 (elim (one.0 (subst (λ ys. Has ys at) is has)) [ inl a ↦ inl (ap (keyed key) a ∙ ap (λ n. keyed n x.item) (sym same)) | inr b ↦ inr (rest.0 b) ])),
          (λ has. subst (λ ys. Has ys at) (sym is) (one.1 (elim (cons.0 has) [ inl a ↦ inl (ap (λ (y : Keyed ℕ StoreEnd). y.item) a) | inr b ↦ inr (rest.1 b) ]))),
        )
    by rest false e =
        let is : items_with eqb (x ∷ xs) key ≡ items_with eqb xs key = ap (λ t. kept_if t x.item (items_with eqb xs key)) e in (
          (λ has. cons.1 (inr (rest.0 (subst (λ ys. Has ys at) is has)))),
          (λ has. subst (λ ys. Has ys at) (sym is) (elim (cons.0 has) [
            | inl a ↦ absurd (eqb-false x.key key e (sym (ap (λ (y : Keyed ℕ StoreEnd). y.key) a)))
            | inr b ↦ rest.1 b
          ])),
        )

-- ends as they are listed by their cells
pub ends_by : (parts : Parts) (ends : Ends) (listed : List (Keyed ℕ StoreEnd)) → AreEndsBelow parts (length parts.stores.items) listed
    → ((cell : ℕ) → ends_in ends cell ≡ items_with eqb listed cell) → AreEnds parts ends
ends_by parts ends listed all found cell at =
    let here = with_has listed cell at in
    let end = all (keyed cell at) in (
      (λ has. let h = end.0 (here.0 (subst (λ xs. Has xs at) (found cell) has)) in record { store = h.0; cell_is = h.1 }),
      (λ is. subst (λ xs. Has xs at) (sym (found cell)) (here.1 (end.1 (is.store, is.cell_is)))),
    )

-- none are listed
pub ends_none : (parts : Parts) → AreEndsBelow parts 0 []
ends_none parts x = ((λ has. cc has.1), (λ h. absurd (omega (arith, h.0))))

-- the ends of one more store are
pub ends_more : (parts : Parts) (store : ℕ) (old mid new : List (Keyed ℕ StoreEnd)) → mid ≡ old ++ keyed (store_at parts store).arg.calls (record { store = store; end = Arg }) ∷ []
    → new ≡ mid ++ keyed (store_at parts store).base.calls (record { store = store; end = Base }) ∷ [] → AreEndsBelow parts store old → AreEndsBelow parts (store + 1) new
ends_more parts store old mid new a b was x = (
  (λ has. elim (two.0 (subst (λ xs. Has xs x) b has)) [
    | inl h ↦ elim (one.0 (subst (λ xs. Has xs x) a h)) [ inl before ↦ (let k = (was x).0 before in (omega (arith, k.0), k.1)) | inr e ↦ arg e ]
    | inr e ↦ base e
  ]),
  (λ h. subst (λ xs. Has xs x) (sym b) (two.1 (elim (cases_lt x.item.store store) [
    | inl less ↦ inl (subst (λ xs. Has xs x) (sym a) (one.1 (inl ((was x).1 (less, h.1)))))
    | inr more ↦ (let e : x.item.store ≡ store = omega (arith, h.0, more) in either x.item.end refl e h.1)
  ]))),
)
  where
    one : Has (old ++ keyed (store_at parts store).arg.calls (record { store = store; end = Arg }) ∷ []) x ↔ (Has old x ⊎ (x ≡ keyed (store_at parts store).arg.calls (record { store = store; end = Arg })))
    one = Has-push old (keyed (store_at parts store).arg.calls (record { store = store; end = Arg })) x

    two : Has (mid ++ keyed (store_at parts store).base.calls (record { store = store; end = Base }) ∷ []) x ↔ (Has mid x ⊎ (x ≡ keyed (store_at parts store).base.calls (record { store = store; end = Base })))
    two = Has-push mid (keyed (store_at parts store).base.calls (record { store = store; end = Base })) x

    arg : x ≡ keyed (store_at parts store).arg.calls (record { store = store; end = Arg }) → (x.item.store < store + 1) × (x.key ≡ cell_of x.item.end (store_at parts x.item.store))
    arg e = subst (λ (y : Keyed ℕ StoreEnd). (y.item.store < store + 1) × (y.key ≡ cell_of y.item.end (store_at parts y.item.store))) (sym e) (omega arith, refl)

    base : x ≡ keyed (store_at parts store).base.calls (record { store = store; end = Base }) → (x.item.store < store + 1) × (x.key ≡ cell_of x.item.end (store_at parts x.item.store))
    base e = subst (λ (y : Keyed ℕ StoreEnd). (y.item.store < store + 1) × (y.key ≡ cell_of y.item.end (store_at parts y.item.store))) (sym e) (omega arith, refl)

    either : (end : End) → x.item.end ≡ end → x.item.store ≡ store → x.key ≡ cell_of x.item.end (store_at parts x.item.store)
        → Has mid x ⊎ (x ≡ keyed (store_at parts store).base.calls (record { store = store; end = Base }))
    either Arg at e k =
        inl (subst (λ xs. Has xs x) (sym a) (one.1 (inr (
        ap (λ n. keyed n x.item) (k ∙ ap (λ n. cell_of n (store_at parts x.item.store)) at ∙ ap (λ n. (store_at parts n).arg.calls) e)
        ∙ ap (keyed (store_at parts store).arg.calls) (ap (λ n. record { store = n; end = x.item.end }) e ∙ ap (λ n. record { store = store; end = n }) at)))))
    either Base at e k =
        inr (ap (λ n. keyed n x.item) (k ∙ ap (λ n. cell_of n (store_at parts x.item.store)) at ∙ ap (λ n. (store_at parts n).base.calls) e)
        ∙ ap (keyed (store_at parts store).base.calls) (ap (λ n. record { store = n; end = x.item.end }) e ∙ ap (λ n. record { store = store; end = n }) at))
