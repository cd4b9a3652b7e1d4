-- Lists of triples that are found one after another, each over those before it.
use Rattle.std.proofs.Common.{◌≡◌, ℕ, zero, suc, ◌<◌, List, [], ◌∷◌, ◌++◌, Some, slice_get, take, arith}
use Rattle.lists.proofs.Elements.{slice_get-take_push}
use Rattle.lists.proofs.Places.{slice_get-append_left}
use Rattle.link_rules.specs.Linked.{LinkedProgram}
use Rattle.link_sites.specs.declared.site.Site.{Site}
use Rattle.spds_rules.specs.declared.store.StoreAt.{StoreAt}
use Rattle.spds_rules.specs.Demand.{Asked}
use Rattle.spds_rules.specs.Systems.{MayStore, Meets}
use Rattle.spds_laws.specs.Found.{AreFound, ClosedHoldsTheMeets, FoundAreMeets, Listed, Triple}
use Rattle.spds_laws.proofs.More.{may_store_more}
use Rattle.spds_laws.proofs.Rounds.{meets_closed, meets_least}

-- what stands in the front of a list
pub slice_get-taken : {X : Type 0} (n : ℕ) (xs : List X) (i : ℕ) (x : X) → slice_get (take n xs) i ≡ Some x → (i < n) × (slice_get xs i ≡ Some x)
slice_get-taken zero xs i x h = cc
slice_get-taken (suc n) [] i x h = cc
slice_get-taken (suc n) (y ∷ xs) zero x h = (omega arith, h)
slice_get-taken (suc n) (y ∷ xs) (suc i) x h = let t = slice_get-taken n xs i x h in (omega (arith, t.0), t.1)

module _ (p : LinkedProgram) (q : Asked) where
  -- over meets, what grows by what may be stored over it are meets
  pub grown_met : (Few More : Site → Site → StoreAt → Type 0) → ((o base : Site) (s : StoreAt) → Few o base s → Meets p q o base s)
      → ((o base : Site) (s : StoreAt) → More o base s → MayStore p q Few o base s)
      → (o base : Site) (s : StoreAt) → More o base s → Meets p q o base s
  grown_met Few More within grown o base s more = meets_closed p q o base s (may_store_more p q Few (Meets p q) within o base s (grown o base s more))

  -- what may be stored over a list may be over a longer one
  pub may_store_append : (triples behind : List Triple) (o base : Site) (s : StoreAt) → MayStore p q (Listed triples) o base s
      → MayStore p q (Listed (triples ++ behind)) o base s
  may_store_append triples behind =
      may_store_more p q (Listed triples) (Listed (triples ++ behind))
      (λ o base s has. (has.0, slice_get-append_left triples behind has.0 _ has.1))

  -- nothing is found at first
  pub none_found : AreFound p q []
  none_found i t h = cc

  -- one more is found
  pub push_found : (triples : List Triple) (t : Triple) → AreFound p q triples → MayStore p q (Listed triples) t.object t.base t.store
      → AreFound p q (triples ++ t ∷ [])
  push_found triples t found may = slice_get-take_push (λ (xs : List Triple) (x : Triple). MayStore p q (Listed xs) x.object x.base x.store) triples t found may

  -- the triples below an index are meets
  below_met : (triples : List Triple) → AreFound p q triples → (n i : ℕ) → i < n → (t : Triple) → slice_get triples i ≡ Some t
      → Meets p q t.object t.base t.store
  below_met triples found zero i below t there = absurd (omega arith)
  below_met triples found (suc n) i below t there =
      meets_closed p q t.object t.base t.store (may_store_more p q (Listed (take i triples)) (Meets p q)
      (λ o base s has.
      let taken = slice_get-taken i triples has.0 _ has.1 in
      below_met triples found n has.0 (omega (arith, taken.0)) (record { object = o; base = base; store = s }) taken.1)
      t.object t.base t.store (found i t there))

-- what is found is met
pub found_met : FoundAreMeets
found_met p q triples found o base s has = below_met p q triples found (suc has.0) has.0 (omega arith) (record { object = o; base = base; store = s }) has.1

-- where nothing is left to find, all meets are found
pub closed_holds : ClosedHoldsTheMeets
closed_holds p q triples closed = meets_least p q (Listed triples) closed
