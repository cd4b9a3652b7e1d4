-- One more write of an object.
use Rattle.std.proofs.lemmas.List.Sums.{count_by-le-length}
use Rattle.std.proofs.Common.{◌≡◌, ◌≢◌, ℕ, ◌==◌, ◌≤◌, ◌<◌, ◌⊎◌, List, [], ◌∷◌, ◌++◌, Option, Some, None, true, false, length, map, nat_eq, refl, sym, ◌∙◌, inl, inr, arith, length-append}
use Rattle.std.specs.List.{filter, last_or}
use Rattle.std.proofs.lemmas.Bool.{eq-eqb}
use Rattle.std.proofs.lemmas.Bool.Decides.{eqb_tells}
use Rattle.std.proofs.lemmas.List.{append-nil, length-map, map-append}
use Rattle.std.proofs.lemmas.List.Sums.{length-filter}
use Rattle.std.proofs.lemmas.List.Elements.{filter-append}
use Rattle.indexmap.specs.IndexMap.{IndexMap, IsUnchanged, get}
use Rattle.step_heap.specs.declared.writes.Written.{Written}
use Rattle.step_rules.specs.declared.parts.Value.{Value}
use Rattle.step_heap.specs.Indexes.{Indexes, IsIndexed, values_in, write_of}

-- what is pushed is last
pub last_or-push : {X : Type 0} (o : Option X) (xs : List X) (x : X) → last_or o (xs ++ x ∷ []) ≡ Some x
last_or-push o [] x = refl
last_or-push o (y ∷ xs) x = last_or-push (Some y) xs x

-- a write of a field is the last of its values
pub values_in-same : (ws : List Written) (w : Written) (field : ℕ) → w.field ≡ field → values_in (ws ++ w ∷ []) field ≡ values_in ws field ++ w.value ∷ []
values_in-same ws w field e = rw (map-append write_of ws (w ∷ []), filter-append (λ x. x.field == field) (map write_of ws) (write_of w ∷ []), eq-eqb w.field field e, map-append (λ x. x.value) (filter (λ x. x.field == field) (map write_of ws)) (write_of w ∷ []))

-- the values of another field stay
pub values_in-other : (ws : List Written) (w : Written) (field : ℕ) → w.field == field ≡ false → values_in (ws ++ w ∷ []) field ≡ values_in ws field
values_in-other ws w field e = rw (map-append write_of ws (w ∷ []), filter-append (λ x. x.field == field) (map write_of ws) (write_of w ∷ []), e, append-nil (filter (λ x. x.field == field) (map write_of ws)))

-- a map with the same entries has the same values
get-kept : {S : Type 0} (old new : IndexMap ℕ Value S) (field : ℕ) → IsUnchanged old new → get nat_eq new field ≡ get nat_eq old field
get-kept old new field e = rw e refl

pub IsIndexed-add : {S : Type 0} (ws : List Written) (old new : IndexMap ℕ Value S) (cells new_cells : List Value) (w : Written)
    → IsIndexed ws old cells → length ws < 4294967290 → Indexes old cells w new new_cells → IsIndexed (ws ++ w ∷ []) new new_cells
IsIndexed-add ws old new cells new_cells w is few adds = record {
  few = omega (arith, length-append ws (w ∷ []));
  are_latest = λ field h. latest_at field h (eqb_tells w.field field);
  are_cells = cells_at (eqb_tells w.field 0);
} where
  latest_at : (field : ℕ) → field ≢ 0 → ((nat_eq w.field field ≡ true) × (w.field ≡ field)) ⊎ ((nat_eq w.field field ≡ false) × (w.field ≢ field))
      → get nat_eq new field ≡ last_or None (values_in (ws ++ w ∷ []) field)
  latest_at field h (inl e) = let p : w.field ≢ 0 = λ z. h (sym e.1 ∙ z) in
      (adds.latest p).0 field ∙ rw (e.0, values_in-same ws w field e.1, last_or-push {X = Value} None (values_in ws field) w.value) refl
  latest_at field h (inr e) = rw (values_in-other ws w field e.0) (kept (eqb_tells w.field 0)) where
    kept : ((nat_eq w.field 0 ≡ true) × (w.field ≡ 0)) ⊎ ((nat_eq w.field 0 ≡ false) × (w.field ≢ 0)) → get nat_eq new field ≡ last_or None (values_in ws field)
    kept (inl z) = get-kept old new field (adds.latest_kept z.1) ∙ is.are_latest field h
    kept (inr z) = (adds.latest z.1).0 field ∙ rw e.0 (is.are_latest field h)

  cells_at : ((nat_eq w.field 0 ≡ true) × (w.field ≡ 0)) ⊎ ((nat_eq w.field 0 ≡ false) × (w.field ≢ 0)) → new_cells ≡ values_in (ws ++ w ∷ []) 0
  cells_at (inl e) = adds.cells e.1 ∙ rw (values_in-same ws w 0 e.1, is.are_cells) refl
  cells_at (inr e) = adds.cells_kept e.1 ∙ rw (values_in-other ws w 0 e.0) is.are_cells

-- a field has no more values than there are writes
pub length-values_in : (ws : List Written) (field : ℕ) → length (values_in ws field) ≤ length ws
length-values_in ws field = rw (length-map, length-filter)
    (omega (arith, count_by-le-length (λ x. x.field == field) (map write_of ws), length-map ws write_of))
