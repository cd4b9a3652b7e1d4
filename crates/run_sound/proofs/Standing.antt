-- Methods that fit, and locals where one was set.
use Rattle.std.proofs.Common.{◌≡◌, ◌≢◌, ℕ, ◌<◌, ◌⊎◌, Option, Some, List, length, slice_get, sym, ap, ◌∙◌, subst, inl, inr}
use Rattle.std.specs.List.{slice_set}
use Rattle.std.proofs.lemmas.Bool.Decides.{eqb_tells}
use Rattle.lists.proofs.Places.{slice_get-set_other, slice_get-set_same}
use Rattle.link_rules.specs.Linked.{LinkedMethod, LinkedProgram}
use Rattle.link_rules.specs.WellLinked.{FitsCode, FitsMethod, IsWellLinked}
use Rattle.link_laws.proofs.Lists.{at_all}
use Rattle.step_rules.specs.declared.parts.Value.{Value}
use Rattle.step_rules.specs.Slots.{if_set}
use Rattle.step_rules.specs.States.{Frame}
use Rattle.run_sound.proofs.Invariant.{IsShaped}

-- a method of a well-linked program fits
pub method_fits : (p : LinkedProgram) → IsWellLinked p → (number : ℕ) (m : LinkedMethod) → slice_get p.methods number ≡ Some m → FitsMethod p m
method_fits p well number m e = at_all (FitsMethod p) p.methods number m well.form.methods e

-- so does that of a frame, and the statement at which it stands
pub form_fits : (p : LinkedProgram) → IsWellLinked p → (f : Frame) (form : IsShaped p f) → FitsMethod p form.method
form_fits p well f form = method_fits p well f.method form.method form.there

pub code_fits : (p : LinkedProgram) → IsWellLinked p → (f : Frame) (form : IsShaped p f) → FitsCode p form.method form.code
code_fits p well f form = at_all (FitsCode p form.method) form.method.code f.index form.code (form_fits p well f form).codes form.here

-- a local, where one was set
pub set_local : (locals : List (Option Value)) (to y : ℕ) (value v : Value) → to < length locals → if_set (slice_get (slice_set locals to (Some value)) y) ≡ Some v
    → ((y ≡ to) × (value ≡ v)) ⊎ ((y ≢ to) × (if_set (slice_get locals y) ≡ Some v))
set_local locals to y value v below e = elim (eqb_tells y to) [
  | inl same ↦
      let at_to : if_set (slice_get (slice_set locals to (Some value)) to) ≡ Some v = subst (λ y. if_set (slice_get (slice_set locals to (Some value)) y) ≡ Some v) same.1 e in
      let is : if_set (slice_get (slice_set locals to (Some value)) to) ≡ Some value = ap if_set (slice_get-set_same locals to (Some value) below) in
      inl (same.1, cc)
  | inr other ↦ inr (other.1, ap if_set (sym (slice_get-set_other locals to y (Some value) other.1)) ∙ e)
]

-- it is the one that was set, or as it was
pub other_local : (locals : List (Option Value)) (to y : ℕ) (value : Option Value)
    → (if_set (slice_get (slice_set locals to value) y) ≡ if_set (slice_get locals y)) ⊎ (y ≡ to)
other_local locals to y value = elim (eqb_tells y to) [ inl same ↦ inr same.1 | inr other ↦ inl (ap if_set (slice_get-set_other locals to y value other.1)) ]
