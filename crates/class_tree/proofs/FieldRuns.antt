-- The look-up of a field by runs of places.
use Rattle.std.proofs.Common.{◌≡◌, ℕ, ◌+◌, ◌-◌, ◌<◌, ◌≤◌, Option, Some, None, IfNone, List, length, get_or, slice_get, sym, ap, subst, ◌∙◌, arith}
use Rattle.std.proofs.lemmas.Option.{slice_get-get_or}
use Rattle.class_tree.specs.declared.owners.Owners.{Owners}
use Rattle.class_tree.specs.declared.runs.Runs.{Runs}
use Rattle.class_tree.specs.Indexed.{AreRanked, HasFieldNear, TellsOf}
use Rattle.class_tree.specs.Owners.{HoldsOwner}
use Rattle.class_tree.specs.Runs.{AreRuns}
use Rattle.class_rules.specs.Lookups.{FieldHere, FieldOf, found, further, ended}
use Rattle.class_rules.specs.Rows.{Rows, HasParent, HasNoParent}
use Rattle.class_order.specs.declared.spans.Span.{Span}
use Rattle.class_order.specs.Tables.{HavePlaces}
use Rattle.lists.proofs.Elements.{same_read}
use Rattle.lists.proofs.Places.{slice_get-there}
use Rattle.class_tree.proofs.Running.{skip_run}
use Rattle.class_tree.proofs.TreeFacts.{field_nowhere}

-- a class that has a field near has what is found in it
field_near : (rows : Rows) (c key : ℕ) (r : Option ℕ) → FieldHere rows key c r → IfNone r (HasFieldNear rows c key → ⊥) → HasFieldNear rows c key → FieldOf rows c key r
field_near rows c key (Some row) here none near = found here
field_near rows c key None here none near = absurd (none near)

-- a class, its place, and the place that its run begins with
module _ (rows : Rows) (places : List ℕ) (runs : Runs) (are : AreRuns rows.classes places runs) (at place start : ℕ) (known : at < length rows.classes) (place_is : place ≡ get_or places at 0)
    (start_is : start ≡ get_or runs.starts.items place start) where
  pub place_within : place < length runs.tenants.items
  place_within = omega (arith, place_is, are.reached at known)

  begins : get_or runs.starts.items place 0 ≡ start
  begins = same_read runs.starts.items place 0 start (omega (arith, place_within, are.len)) ∙ sym start_is

  pub start_low : start ≤ place
  start_low = omega (arith, begins, are.begun place)

  pub tenant : (p t : ℕ) → p ≤ place → t ≡ get_or runs.tenants.items p t → slice_get runs.tenants.items p ≡ Some t
  tenant p t le e = slice_get-get_or runs.tenants.items p t (omega (arith, le, place_within)) ∙ ap Some (sym e)

  pub tenant_known : (p t : ℕ) → p ≤ place → t ≡ get_or runs.tenants.items p t → t < length rows.classes
  tenant_known p t le e = (are.placed p t (tenant p t le e)).0

  -- the places of classes above the run are smaller
  pub falls : (t b : ℕ) → t ≡ get_or runs.tenants.items start t → HasParent rows.classes t b → get_or places b 0 < get_or places at 0
  falls t b e named = omega (arith, are.falls t b named, (are.placed start t (tenant start t start_low e)).1, start_low, place_is)

  module _ (ranks : List ℕ) (table : List (List Span)) (near : Owners) (ranked : AreRanked rows ranks) (placed : HavePlaces (length rows.classes) places) (told : TellsOf (HasFieldNear rows) (length rows.classes) places table near)
      (key : ℕ) where
    -- the class at a place that isn't held has no field near
    none_at : (p c : ℕ) → slice_get runs.tenants.items p ≡ Some c → (HoldsOwner table near key p → ⊥) → FieldHere rows key c None
    none_at p c there none = let at = are.placed p c there in
        field_nowhere rows ranks ranked c key (λ n. none (subst (HoldsOwner table near key) at.1 ((told.exact c key at.0).1 n)))

    stands : slice_get runs.tenants.items place ≡ Some at
    stands =
        let t = slice_get-there runs.tenants.items place place_within in
        let d = are.placed place t.0 t.1 in
        t.1 ∙ ap Some (placed.own t.0 at d.0 known (d.1 ∙ place_is))

    -- where no place of the run behind one has a field near, the look-up goes on from there
    goes_back : (q d : ℕ) → start ≤ q → q ≤ place → slice_get runs.tenants.items q ≡ Some d → ((p : ℕ) → q < p → p ≤ place → HoldsOwner table near key p → ⊥)
        → (r : Option ℕ) → FieldOf rows d key r → FieldOf rows at key r
    goes_back q d ge le there none r of = by (place - q) (omega (arith, le))
      where
        by : (n : ℕ) → q + n ≡ place → FieldOf rows at key r
        by n is = skip_run rows.classes (FieldHere rows key) runs.tenants.items q n
            (λ p a b from lt. are.each place place_within p a b (omega (arith, ge, from, begins)) (omega (arith, lt, is)))
            (λ p x gt most at. none_at p x at (none p gt (omega (arith, most, is))))
            at d r (ap (slice_get runs.tenants.items) is ∙ stands) there of

    -- the last place held has what the class has
    pub field_at : (q t : ℕ) → t ≡ get_or runs.tenants.items q t → start ≤ q → q ≤ place → HoldsOwner table near key q → ((p : ℕ) → q < p → p ≤ place → HoldsOwner table near key p → ⊥)
        → (r : Option ℕ) → FieldHere rows key t r → IfNone r (HasFieldNear rows t key → ⊥) → FieldOf rows at key r
    field_at q t e ge le held none r here nothing =
        let there = tenant q t le e in
        let d = are.placed q t there in
        goes_back q t ge le there none r (field_near rows t key r here nothing ((told.exact t key d.0).0 (subst (HoldsOwner table near key) (sym d.1) held)))

    module _ (t : ℕ) (e : t ≡ get_or runs.tenants.items start t) (none : (p : ℕ) → start ≤ p → p ≤ place → HoldsOwner table near key p → ⊥) where
      nothing : FieldHere rows key t None
      nothing = none_at start t (tenant start t start_low e) (none start (omega arith) start_low)

      -- where the run has no field near, its first class gives what its parent gives
      pub field_above : (b : ℕ) → HasParent rows.classes t b → (r : Option ℕ) → FieldOf rows b key r → FieldOf rows at key r
      field_above b named r of = goes_back start t (omega arith) start_low (tenant start t start_low e) (λ p gt. none p (omega (arith, gt))) r (further nothing named of)

      pub field_ended : HasNoParent rows.classes t → FieldOf rows at key None
      field_ended named = goes_back start t (omega arith) start_low (tenant start t start_low e) (λ p gt. none p (omega (arith, gt))) None (ended nothing named)
