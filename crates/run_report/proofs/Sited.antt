-- Each object of a run has a site of the program.
use Rattle.std.proofs.Common.{◌≡◌, ℕ, zero, suc, ◌<◌, ◌++◌, Bool, true, false, Option, Some, None, List, [], ◌∷◌, length, slice_get, refl, sym, ap, subst, ◌∙◌, inl, inr, arith}
use Rattle.std.specs.List.{slice_set}
use Rattle.lists.specs.Lists.{Has}
use Rattle.std.proofs.lemmas.List.FromFn.{get_or-map-range_with_len, length-map-range_with_len}
use Rattle.std.proofs.lemmas.Option.{get_or_from_slice_get}
use Rattle.lists.proofs.Places.{slice_get-append_left, slice_get-below, slice_get-pushed}
use Rattle.lists.proofs.Joined.{slice_get-appended}
use Rattle.link_rules.specs.declared.code.Code.{Code}
use Rattle.link_rules.specs.declared.code.Code.TheVariants as code
use Rattle.link_rules.specs.Flow.{MayRaise}
use Rattle.link_rules.specs.Linked.{LinkedProgram}
use Rattle.link_sites.specs.declared.site.Site.{Site}
use Rattle.link_sites.specs.declared.site.Site.TheVariants as site
use Rattle.link_sites.specs.Places.{HasCode}
use Rattle.link_sites.specs.Sites.{IsSite, Makes}
use Rattle.step_rules.specs.declared.parts.Value.TheVariants.{Null, Number, Object}
use Rattle.step_rules.specs.declared.parts.Value.{Value}
use Rattle.step_rules.specs.Effects.{Effect, is_ill_typed, raises, throws, goes, gets, makes, nests, writes, sets, calls, returns, handles, leaves}
use Rattle.step_rules.specs.Offers.{Offers, OffersBy, UnwindsAt}
use Rattle.step_rules.specs.Runs.{IsFirstState, Run, begins, constants, steps}
use Rattle.step_rules.specs.States.{HeapObject, Point, State, new_object, place_of, under, written}
use Rattle.step_rules.specs.Steps.{Becomes, Leaves, Receives, ReceivesAt, Returns, Step}
use Rattle.run_covers.proofs.Offered.{AllOf, one_of, only}
use Rattle.run_report.specs.Reports.{AreSited}
use Rattle.run_report.proofs.Allowed.{IsAllowed, row_allowed}

-- what is raised and made at a point has a site of the program
abbrev IsSitedEffect : LinkedProgram → Point → Effect → Type 0
IsSitedEffect p at (raises kind) = IsSite p (site.Raised (place_of at.top) kind)
IsSitedEffect p at (makes to class) = IsSite p (site.New (place_of at.top))
IsSitedEffect p at (nests to o inner class) = IsSite p inner
IsSitedEffect p at _ = Unit {0}

module _ (p : LinkedProgram) (at : Point) where
  -- what a statement may do
  by_code : at.top.raised ≡ false → (c : Code) → HasCode p at.top.method at.top.index (λ code. code ≡ c) → (e : Effect) → IsAllowed p c e → IsSitedEffect p at e
  by_code unraised c here (raises kind) may = (unraised, record { code = here.code; at = here.at; is_so = subst (λ c. MayRaise c kind) (sym here.is_so) may })
  by_code unraised c here (makes to class) may = (unraised, record { code = here.code; at = here.at; is_so = subst (λ c. Makes c) (sym here.is_so) may })
  by_code unraised c here (nests to o inner class) may = may
  by_code unraised c here is_ill_typed may = tt
  by_code unraised c here (throws o) may = tt
  by_code unraised c here (goes index) may = tt
  by_code unraised c here (gets to v) may = tt
  by_code unraised c here (writes o field v) may = tt
  by_code unraised c here (sets field v) may = tt
  by_code unraised c here (calls frame) may = tt
  by_code unraised c here (returns v) may = tt
  by_code unraised c here (handles h o) may = tt
  by_code unraised c here (leaves o) may = tt

  -- what is in flight is caught or leaves
  unwinding : (thrown : Option Value) (offered : List Effect) → UnwindsAt p at thrown offered → AllOf (IsSitedEffect p at) offered
  unwinding (Some (Object o)) offered h = elim h.2.2 [
    | inl caught ↦ only (IsSitedEffect p at) (handles caught.0 o ∷ []) offered caught.2 (tt, tt)
    | inr none ↦ only (IsSitedEffect p at) (leaves o ∷ []) offered none.1 (tt, tt)
  ]
  unwinding (Some Null) offered h = elim h [ ]
  unwinding (Some Number) offered h = elim h [ ]
  unwinding None offered h = elim h [ ]

  by_flight : (raised : Bool) → at.top.raised ≡ raised → (offered : List Effect) → OffersBy raised p at offered → (e : Effect) → Has offered e → IsSitedEffect p at e
  by_flight false unraised offered h e has =
      by_code unraised h.code (record { code = h.code; at = h.at; is_so = refl }) e (one_of (IsAllowed p h.code) offered e (row_allowed p at h.code offered h.is_so) has)
  by_flight true raised offered h e has = one_of (IsSitedEffect p at) offered e (unwinding at.top.thrown offered h) has

  -- what a step may do
  offered_sited : (offered : List Effect) → Offers p at offered → (e : Effect) → Has offered e → IsSitedEffect p at e
  offered_sited offered h e has = by_flight at.top.raised refl offered h e has

  -- one more object
  sited_more : (new : HeapObject) → IsSite p new.site → AreSited p at.heap → AreSited p (at.heap ++ new ∷ [])
  sited_more new is before o object there = elim (slice_get-pushed at.heap new o object there) [
    | inl old ↦ before o object old
    | inr last ↦ subst (λ (x : HeapObject). IsSite p x.site) (sym last.1) is
  ]

  -- an object is replaced by one of the same site
  sited_written : (heap : List HeapObject) (o : ℕ) (old new : HeapObject) → slice_get heap o ≡ Some old → new.site ≡ old.site → AreSited p heap
      → AreSited p (slice_set heap o new)
  sited_written [] o old new there same before i object h = cc
  sited_written (x ∷ xs) zero old new there same before zero object h =
      let is : new ≡ object = cc in
      let was = before zero old there in
      subst (λ (z : HeapObject). IsSite p z.site) is (subst (IsSite p) (sym same) was)
  sited_written (x ∷ xs) zero old new there same before (suc i) object h = before (suc i) object h
  sited_written (x ∷ xs) (suc o) old new there same before zero object h = before zero object h
  sited_written (x ∷ xs) (suc o) old new there same before (suc i) object h = sited_written xs o old new there same (λ j. before (suc j)) i object h

  -- the heap is the same
  kept : (s : State) (heap : List HeapObject) → s.heap ≡ heap → AreSited p heap → AreSited p s.heap
  kept s heap e before = subst (AreSited p) (sym e) before

  receives : (to : Option ℕ) (v : Option Value) (caller : Point) (new : State) → Receives to v caller new → new.heap ≡ caller.heap
  receives None v caller new h = ap (λ (s : State). s.heap) h
  receives (Some to) (Some v) caller new h = ap (λ (s : State). s.heap) h
  receives (Some to) None caller new h = ap (λ (s : State). s.heap) h

  received : (c : Code) (v : Option Value) (caller : Point) (new : State) → ReceivesAt c v caller new → new.heap ≡ caller.heap
  received (code.Call to mode class key receiver args targets) v caller new h = receives to v caller new h
  received _ v caller new h = absurd h

  returned : (v : Option Value) (new : State) → Returns p at v new → new.heap ≡ at.heap
  returned v new h = elim h [
    | inl last ↦ ap (λ (s : State). s.heap) last.1
    | inr to ↦ received to.3.code v (under to.0 to.1 at) new to.3.is_so
  ]

  left : (o : ℕ) (new : State) → Leaves at o new → new.heap ≡ at.heap
  left o new h = elim h [ inl last ↦ ap (λ (s : State). s.heap) last.1 | inr to ↦ ap (λ (s : State). s.heap) to.3 ]

  heap_of : (s t : State) → s ≡ t → s.heap ≡ t.heap
  heap_of s t e = ap (λ (x : State). x.heap) e

  -- what an effect leads to
  becomes_sited : (e : Effect) (new : State) → Becomes p at e new → IsSitedEffect p at e → AreSited p at.heap → AreSited p new.heap
  becomes_sited is_ill_typed new h is before = kept new at.heap (heap_of new _ h) before
  becomes_sited (raises kind) new h is before = kept new _ (heap_of new _ h.2) (sited_more (new_object (site.Raised (place_of at.top) kind) h.0) is before)
  becomes_sited (throws o) new h is before = kept new at.heap (heap_of new _ h) before
  becomes_sited (goes index) new h is before = kept new at.heap (heap_of new _ h) before
  becomes_sited (gets to v) new h is before = kept new at.heap (heap_of new _ h) before
  becomes_sited (makes to class) new h is before = kept new _ (heap_of new _ h) (sited_more (new_object (site.New (place_of at.top)) class) is before)
  becomes_sited (nests to o inner class) new h is before =
      kept new _ (heap_of new _ h.2)
      (sited_written (at.heap ++ new_object inner class ∷ []) o h.0 (written h.0 0 (Object (length at.heap)))
      (slice_get-append_left at.heap (new_object inner class ∷ []) o h.0 h.1) refl (sited_more (new_object inner class) is before))
  becomes_sited (writes o field v) new h is before =
      kept new _ (heap_of new _ h.2) (sited_written at.heap o h.0 (written h.0 field v) h.1 refl before)
  becomes_sited (sets field v) new h is before = kept new at.heap (heap_of new _ h) before
  becomes_sited (calls frame) new h is before = kept new at.heap (heap_of new _ h) before
  becomes_sited (returns v) new h is before = kept new at.heap (returned v new h) before
  becomes_sited (handles handler o) new h is before = kept new at.heap (heap_of new _ h) before
  becomes_sited (leaves o) new h is before = kept new at.heap (left o new h) before

module _ (p : LinkedProgram) where
  -- a step
  step_sited : (old new : State) (choice : ℕ) → Step p old choice new → AreSited p old.heap → AreSited p new.heap
  step_sited old new choice step before =
      becomes_sited p step.at step.effect new step.becomes (offered_sited p step.at step.offered step.offers step.effect (choice, step.chosen))
      (subst (λ (s : State). AreSited p s.heap) step.stands before)

  -- the objects of so many constants
  constants_sited : (site_of : ℕ → Site) (class count : ℕ) → ((i : ℕ) → i < count → IsSite p (site_of i)) → AreSited p (constants site_of class count)
  constants_sited site_of class count are o object there =
      let made : ℕ → HeapObject = λ i. new_object (site_of i) class in
      let counted = length-map-range_with_len made 0 count in
      let below : o < count = omega (arith, counted, slice_get-below (constants site_of class count) o object there) in
      let is : made o ≡ object = sym (get_or-map-range_with_len made 0 count o o object below (omega arith)) ∙ get_or_from_slice_get (constants site_of class count) o object object there in
      subst (λ (x : HeapObject). IsSite p x.site) is (are o below)

  -- the first state
  first_sited : (s : State) → IsFirstState p s → AreSited p s.heap
  first_sited s first o object there =
      let texts = constants (λ i. site.Text i) first.string (length p.texts) in
      let classes = constants (λ i. site.Class i) first.class (length p.class_texts) in
      let heap : s.heap ≡ texts ++ classes = ap (λ (x : State). x.heap) first.is_state in
      elim (slice_get-appended texts classes o object (subst (λ xs. slice_get xs o ≡ Some object) heap there)) [
        | inl text ↦ constants_sited (λ i. site.Text i) first.string (length p.texts) (λ i below. below) o object text
        | inr class ↦ constants_sited (λ i. site.Class i) first.class (length p.class_texts) (λ i below. below) class.0 object class.2
      ]

  -- each object of a state that a run reaches has a site of the program
  pub run_sited : {count : ℕ} {s : State} → Run p count s → AreSited p s.heap
  run_sited {s = s} (begins first) = first_sited s first
  run_sited {s = s} (steps {s = old} run step) = step_sited old s _ step (run_sited run)
