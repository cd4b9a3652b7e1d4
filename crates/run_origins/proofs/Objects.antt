-- Objects keep their site and their class, as the heap changes.
use Rattle.std.proofs.Common.{◌≡◌, ℕ, ◌++◌, Some, List, [], ◌∷◌, slice_get, refl, sym, ap, ◌∙◌, subst, inl, inr}
use Rattle.std.specs.List.{slice_set}
use Rattle.std.proofs.lemmas.Bool.Decides.{eqb_tells}
use Rattle.lists.proofs.Places.{slice_get-append_left, slice_get-below, slice_get-set_other, slice_get-set_same}
use Rattle.step_rules.specs.declared.parts.Value.{Value}
use Rattle.step_rules.specs.States.{HeapObject, written}

-- each object is there, of the same site and class
abbrev pub Keeps : List HeapObject → List HeapObject → Type 0
Keeps old new = (x : ℕ) (object : HeapObject) → slice_get old x ≡ Some object
    → (later : HeapObject) × (slice_get new x ≡ Some later) × (later.site ≡ object.site) × (later.class ≡ object.class)

pub same_heap : (heap : List HeapObject) → Keeps heap heap
same_heap heap x object e = (object, e, refl, refl)

pub more_heap : (heap : List HeapObject) (object : HeapObject) → Keeps heap (heap ++ object ∷ [])
more_heap heap object x old e = (old, slice_get-append_left heap (object ∷ []) x old e, refl, refl)

pub set_heap : (heap : List HeapObject) (o field : ℕ) (value : Value) (object : HeapObject) → slice_get heap o ≡ Some object
    → Keeps heap (slice_set heap o (written object field value))
set_heap heap o field value object there x old e = elim (eqb_tells x o) [
  | inl same ↦
      let e_o : slice_get heap o ≡ Some old = subst (λ x. slice_get heap x ≡ Some old) same.1 e in
      let is : object ≡ old = cc in (
        written object field value,
        subst (λ x. slice_get (slice_set heap o (written object field value)) x ≡ Some (written object field value)) (sym same.1)
            (slice_get-set_same heap o (written object field value) (slice_get-below heap o object there)),
        ap (λ (h : HeapObject). h.site) is,
        ap (λ (h : HeapObject). h.class) is,
      )
  | inr other ↦ (old, slice_get-set_other heap o x (written object field value) other.1 ∙ e, refl, refl)
]

pub both : (a b c : List HeapObject) → Keeps a b → Keeps b c → Keeps a c
both a b c first second x object e =
    let one = first x object e in
    let two = second x one.0 one.1 in
    (two.0, two.1, two.2 ∙ one.2, two.3 ∙ one.3)
