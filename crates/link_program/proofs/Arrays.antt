-- The arrays that a method makes.
use Rattle.std.proofs.Common.{◌≡◌, ℕ, ◌<◌, ◌≤◌, List, Some, true, false, ltb, length, map, slice_get, get_or, refl, sym, ap, subst, ◌∙◌, inl, inr, arith}
use borrow.Author.Tests.{ltb-true, ltb-false}
use Rattle.std.specs.Prelude.{AllPairs}
use Rattle.std.specs.List.Sorted.{IsNonDecreasingBy, IsPartitionPoint}
use Rattle.std.proofs.lemmas.List.{length-map}
use Rattle.std.proofs.Math.Nat.{eq-or-lt_of_le}
use Rattle.std.proofs.lemmas.Option.{get_or_from_slice_get, slice_get-get_or}
use Rattle.lists.proofs.Places.{slice_get-below}
use Rattle.link_program.specs.Elements.{element_of, elements_in}
use Rattle.link_program.specs.declared.elements.ElementText.{ElementText}
use Rattle.link_rules.specs.Accessed.{HasElementText, MakesArray}
use Rattle.link_rules.specs.Linked.{Element, LinkedProgram}
use Rattle.lists.specs.Lists.{AreIncreasing}
use Rattle.lists.proofs.Joined.{slice_get-mapped}
use Rattle.link_rules.specs.WellLinked.{FitsMethod, IsInForm}
use Rattle.link_program.proofs.Found.{at_map}

-- the one that is read has this text
pub text_at : (elements : List ElementText) (i index : ℕ) (e : ElementText) (text : List ℕ) → i < length elements → e ≡ get_or elements i e → e.index ≡ index → text ≡ e.text
    → HasElementText (elements_in elements) index text
text_at elements i index e text below read at is = record {
  element = element_of e;
  has = (i, at_map element_of elements i e (slice_get-get_or elements i e below ∙ ap Some (sym read)));
  at = at;
  is_text = sym is;
}

-- the indexes don't fall
pub rising : (elements : List ElementText) → AllPairs (λ a b. a.index < b.index) elements → IsNonDecreasingBy (λ (e : ElementText). e.index) elements
rising elements ordered i j d le below = elim (eq-or-lt_of_le le) [
  | inl same ↦ (let h = ap (λ k. (get_or elements k d).index) same in omega (arith, h))
  | inr less ↦ (let h = ordered i j d less below in omega (arith, h))
]

-- the array of an index stands behind all that stand before the index
module _ (elements : List ElementText) (index at : ℕ) (point : IsPartitionPoint (λ (e : ElementText). ltb e.index index ≡ true) (λ (e : ElementText). ltb e.index index ≡ false) elements at)
    (text : List ℕ) (h : HasElementText (elements_in elements) index text) where
  -- it is there
  found : (k : ℕ) × (e : ElementText) × (slice_get elements k ≡ Some e) × (e.index ≡ index)
  found = let e = slice_get-mapped element_of elements h.has.0 h.element h.has.1 in (h.has.0, e.0, e.1, ap (λ x. x.index) e.2 ∙ h.at)

  -- no array of the index stands before it
  not_before : (k : ℕ) (e : ElementText) → slice_get elements k ≡ Some e → e.index ≡ index → k < at → ⊥
  not_before k e there same less =
      let before : ltb e.index index ≡ true = subst (λ (x : ElementText). ltb x.index index ≡ true) (get_or_from_slice_get elements k e e there) (point.0 k e (omega arith) less) in
      let is_less = ltb-true e.index index before in
      omega (arith, is_less, same)

  -- so each stands at the place or behind
  at_most : (k : ℕ) (e : ElementText) → slice_get elements k ≡ Some e → e.index ≡ index → at ≤ k
  at_most k e there same = let no : k < at → ⊥ = not_before k e there same in omega (arith, no)

  -- the place is in the list
  pub at_below : at < length elements
  at_below =
      let f = found in
      let le = at_most f.0 f.1 f.2 f.3 in
      let below = slice_get-below elements f.0 f.1 f.2 in
      omega (arith, le, below)

  -- the array there is of the index
  pub text_there : AllPairs (λ a b. a.index < b.index) elements → (e : ElementText) (t : List ℕ) → e ≡ get_or elements at e → t ≡ e.text → HasElementText (elements_in elements) index t
  text_there ordered e t read is =
      let f = found in
      let le = at_most f.0 f.1 f.2 f.3 in
      let below = slice_get-below elements f.0 f.1 f.2 in
      let rises : (get_or elements at e).index ≤ (get_or elements f.0 e).index = rising elements ordered at f.0 e le below in
      let there = get_or_from_slice_get elements f.0 f.1 e f.2 in
      let up : e.index ≤ f.1.index = subst (λ (x : ElementText). e.index ≤ x.index) there (subst (λ (x : ElementText). x.index ≤ (get_or elements f.0 e).index) (sym read) rises) in
      let late : ltb e.index index ≡ false = subst (λ (x : ElementText). ltb x.index index ≡ false) (sym read) (point.1 at e (omega arith) (let b = at_below in b)) in
      let is_late = ltb-false e.index index late in
      text_at elements at index e t (let b = at_below in b) read (omega (arith, up, is_late, f.3)) is

-- arrays in the order of their indexes
pub ordered_pairs : (elements : List ElementText) → AreIncreasing (map (λ (e : Element). e.index) (elements_in elements)) → AllPairs (λ a b. a.index < b.index) elements
ordered_pairs elements ordered i j d less below =
    let at : (k : ℕ) → k < length elements → get_or (map (λ (e : Element). e.index) (elements_in elements)) k 0 ≡ (get_or elements k d).index = λ k h.
    get_or_from_slice_get (map (λ (e : Element). e.index) (elements_in elements)) k (get_or elements k d).index 0
    (at_map (λ (e : Element). e.index) (elements_in elements) k (element_of (get_or elements k d)) (at_map element_of elements k (get_or elements k d) (slice_get-get_or elements k d h))) in
    let counted : length (map (λ (e : Element). e.index) (elements_in elements)) ≡ length elements =
    length-map (elements_in elements) (λ (e : Element). e.index) ∙ length-map elements element_of in
    let rises = ordered i j 0 less (omega (arith, below, counted)) in
    let first = at i (omega (arith, less, below)) in
    let last = at j below in
    omega (arith, rises, first, last)

-- the type of the elements of each array that is made has a text
pub makes_found : (p : LinkedProgram) (number index : ℕ) → IsInForm p → (a : MakesArray p number index) → (text : List ℕ) × HasElementText a.method.elements index text
makes_found p number index form a =
    let fits : FitsMethod p a.method = subst (FitsMethod p) (get_or_from_slice_get p.methods number a.method a.method a.there) (form.methods number a.method (slice_get-below p.methods number a.method a.there)) in
    let e = fits.elements index a.code a.here a.makes in
    (e.0.text, record { element = e.0; has = e.1; at = e.2; is_text = refl })

-- they stand in the order of their indexes
pub makes_ordered : (p : LinkedProgram) (number index : ℕ) → IsInForm p → (a : MakesArray p number index) → AreIncreasing (map (λ (e : Element). e.index) a.method.elements)
makes_ordered p number index form a =
    let fits : FitsMethod p a.method = subst (FitsMethod p) (get_or_from_slice_get p.methods number a.method a.method a.there) (form.methods number a.method (slice_get-below p.methods number a.method a.there)) in
    fits.one_each
