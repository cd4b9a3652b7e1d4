-- Each state of a run has frames of methods that stay, and arrays of sites that stay.
use Rattle.std.proofs.Common.{◌≡◌, ℕ, ◌++◌, List, [], ◌∷◌, Option, Some, None, map, slice_get, slice_set, refl, sym, ap, ◌∙◌, subst, inl, inr}
use Rattle.std.specs.List.{range_with_len}
use Rattle.std.proofs.lemmas.Bool.{cases_eq}
use Rattle.lists.proofs.Places.{slice_get-append_left, slice_get-below, slice_get-push, slice_get-pushed, slice_get-set_other, slice_get-set_same}
use Rattle.lists.proofs.Joined.{slice_get-appended}
use Rattle.link_rules.specs.declared.code.Code.{Code}
use Rattle.link_rules.specs.declared.code.Code.TheVariants as code
use Rattle.link_rules.specs.Linked.{LinkedProgram}
use Rattle.link_laws.proofs.Lists.{at_map}
use Rattle.link_sites.specs.declared.site.Site.{Site}
use Rattle.link_sites.specs.declared.site.Site.TheVariants as site
use Rattle.step_rules.specs.declared.parts.Value.{Value}
use Rattle.step_rules.specs.declared.parts.Value.TheVariants.{Object}
use Rattle.step_rules.specs.Effects.{Effect}
use Rattle.step_rules.specs.Effects as effect
use Rattle.step_rules.specs.States.{Ending, Frame, HeapObject, Point, State, gets, goes_on, new_object, place_of, state_of, stopped, throws, under, written}
use Rattle.step_rules.specs.Steps.{Becomes, Receives, ReceivesAt}
use Rattle.narrow_covers.proofs.Alike.{SiteStays, inner_stays}
use Rattle.narrow_covers.proofs.Inner.{NestsWithin}

module _ (Stays : ℕ → Type 0) where
  -- the frames are of methods that stay
  abbrev pub AllStay : List Frame → Type 0
  AllStay frames = (i : ℕ) (frame : Frame) → slice_get frames i ≡ Some frame → Stays frame.method

  -- the objects are of sites that stay
  abbrev pub SitesStay : List HeapObject → Type 0
  SitesStay heap = (o : ℕ) (object : HeapObject) → slice_get heap o ≡ Some object → SiteStays Stays object.site

  -- a state of such frames and objects
  pub record IsStaying (s : State) : Type 0 where
    pub frames : AllStay s.frames
    pub sites : SitesStay s.heap

  -- frames below one
  pushed_frames : (below : List Frame) (top : Frame) → AllStay below → Stays top.method → AllStay (below ++ top ∷ [])
  pushed_frames below top all stays i frame e = elim (slice_get-pushed below top i frame e) [
    | inl old ↦ all i frame old
    | inr last ↦ subst (λ (f : Frame). Stays f.method) (sym last.1) stays
  ]

  below_stays : (below : List Frame) (top : Frame) → AllStay (below ++ top ∷ []) → AllStay below
  below_stays below top all i frame e = all i frame (slice_get-append_left below (top ∷ []) i frame e)

  last_stays : (below : List Frame) (top : Frame) → AllStay (below ++ top ∷ []) → Stays top.method
  last_stays below top all = all _ top (slice_get-push below top)

  -- the top frame of a state, and those below it
  pub top_stays : (at : Point) → IsStaying (state_of at) → Stays at.top.method
  top_stays at st = last_stays at.below at.top st.frames

  pub under_stays : (at : Point) → IsStaying (state_of at) → AllStay at.below
  under_stays at st = below_stays at.below at.top st.frames

  -- one more object
  pushed_sites : (heap : List HeapObject) (object : HeapObject) → SitesStay heap → SiteStays Stays object.site → SitesStay (heap ++ object ∷ [])
  pushed_sites heap object all stays i o e = elim (slice_get-pushed heap object i o e) [
    | inl old ↦ all i o old
    | inr last ↦ subst (λ (x : HeapObject). SiteStays Stays x.site) (sym last.1) stays
  ]

  -- an object of the same site in the place of another
  replaced_sites : (heap : List HeapObject) (number : ℕ) (old object : HeapObject) → SitesStay heap → slice_get heap number ≡ Some old
      → object.site ≡ old.site → SitesStay (slice_set heap number object)
  replaced_sites heap number old object all there same i o e = elim (cases_eq i number) [
    | inl here ↦
        let put = slice_get-set_same heap number object (slice_get-below heap number old there) in
        let is : object ≡ o = cc (put, e, here) in
        subst (SiteStays Stays) (sym same ∙ ap (λ (x : HeapObject). x.site) is) (all number old there)
    | inr other ↦ all i o (sym (slice_get-set_other heap number i object other) ∙ e)
  ]

  -- the objects of so many constants
  pub constant_sites : (site_of : ℕ → Site) (class from count : ℕ) → ((i : ℕ) → SiteStays Stays (site_of i))
      → SitesStay (map (λ i. new_object (site_of i) class) (range_with_len from count))
  constant_sites site_of class from count all i o e =
      let x = at_map (λ i. new_object (site_of i) class) (range_with_len from count) i o e in
      subst (λ (x : HeapObject). SiteStays Stays x.site) (sym x.2) (all x.0)

  pub joined_sites : (a b : List HeapObject) → SitesStay a → SitesStay b → SitesStay (a ++ b)
  joined_sites a b first second i o e = elim (slice_get-appended a b i o e) [ inl h ↦ first i o h | inr h ↦ second h.0 o h.2 ]

  -- a state of which the frames and the objects are so
  at_point : (at : Point) → AllStay at.below → Stays at.top.method → SitesStay at.heap → IsStaying (state_of at)
  at_point at below top sites = record { frames = pushed_frames at.below at.top below top; sites = sites }

  at_end : (how : Ending) (at : Point) → SitesStay at.heap → IsStaying (stopped how at)
  at_end how at sites = record { frames = λ i frame e. cc; sites = sites }

  module _ (p : LinkedProgram) where
    -- a caller goes on
    receives_stays : (to : Option ℕ) (value : Option Value) (caller : Point) (new : State) → Receives to value caller new → AllStay caller.below
        → Stays caller.top.method → SitesStay caller.heap → IsStaying new
    receives_stays None value caller new h below top sites = subst IsStaying (sym h) (at_point (goes_on caller) below top sites)
    receives_stays (Some to) (Some value) caller new h below top sites = subst IsStaying (sym h) (at_point (gets to value caller) below top sites)
    receives_stays (Some to) None caller new h below top sites = subst IsStaying (sym h) (at_end _ caller sites)

    received_stays : (c : Code) (value : Option Value) (caller : Point) (new : State) → ReceivesAt c value caller new → AllStay caller.below
        → Stays caller.top.method → SitesStay caller.heap → IsStaying new
    received_stays (code.Call to mode class key receiver args targets) value caller new h below top sites =
        receives_stays to value caller new h below top sites
    received_stays c value caller new h below top sites = elim h [ ]

    -- what an effect leads to
    pub becomes_stays : (at : Point) → IsStaying (state_of at) → (e : Effect) (new : State) → NestsWithin p at e
        → ((frame : Frame) → e ≡ effect.calls frame → Stays frame.method) → Becomes p at e new → IsStaying new
    becomes_stays at st effect.is_ill_typed new within entered h = subst IsStaying (sym h) (at_end _ at st.sites)
    becomes_stays at st (effect.raises kind) new within entered h = subst IsStaying (sym h.2) (at_point _ (under_stays at st) (top_stays at st)
        (pushed_sites at.heap (new_object (site.Raised (place_of at.top) kind) h.0) st.sites tt))
    becomes_stays at st (effect.throws o) new within entered h = subst IsStaying (sym h) (at_point _ (under_stays at st) (top_stays at st) st.sites)
    becomes_stays at st (effect.goes index) new within entered h = subst IsStaying (sym h) (at_point _ (under_stays at st) (top_stays at st) st.sites)
    becomes_stays at st (effect.gets to value) new within entered h = subst IsStaying (sym h) (at_point _ (under_stays at st) (top_stays at st) st.sites)
    becomes_stays at st (effect.makes to class) new within entered h = subst IsStaying (sym h) (at_point _ (under_stays at st) (top_stays at st)
        (pushed_sites at.heap (new_object (site.New (place_of at.top)) class) st.sites (top_stays at st)))
    becomes_stays at st (effect.nests to o inner class) new within entered h =
        let outer : within.0 ≡ h.0 = let a = within.1 in let b = h.1 in cc (a, b) in
        let stays = inner_stays Stays p within.0.site inner (st.sites o within.0 within.1) within.2 in
        subst IsStaying (sym h.2) (at_point _ (under_stays at st) (top_stays at st)
        (replaced_sites (at.heap ++ new_object inner class ∷ []) o h.0 (written h.0 0 (Object _)) (pushed_sites at.heap (new_object inner class) st.sites stays)
        (slice_get-append_left at.heap (new_object inner class ∷ []) o h.0 h.1) refl))
    becomes_stays at st (effect.writes o field value) new within entered h = subst IsStaying (sym h.2) (at_point _ (under_stays at st) (top_stays at st)
        (replaced_sites at.heap o h.0 (written h.0 field value) st.sites h.1 refl))
    becomes_stays at st (effect.sets field value) new within entered h =
        subst IsStaying (sym h) (at_point _ (under_stays at st) (top_stays at st) st.sites)
    becomes_stays at st (effect.calls frame) new within entered h = subst IsStaying (sym h) (at_point _ st.frames (entered frame refl) st.sites)
    becomes_stays at st (effect.returns value) new within entered h = elim h [
      | inl root ↦ subst IsStaying (sym root.1) (at_end _ at st.sites)
      | inr caller ↦
          let frames = subst AllStay caller.2 (under_stays at st) in
          received_stays caller.3.code value (under caller.0 caller.1 at) new caller.3.is_so (below_stays caller.0 caller.1 frames)
          (last_stays caller.0 caller.1 frames) st.sites
    ]
    becomes_stays at st (effect.handles handler o) new within entered h =
        subst IsStaying (sym h) (at_point _ (under_stays at st) (top_stays at st) st.sites)
    becomes_stays at st (effect.leaves o) new within entered h = elim h [
      | inl root ↦ subst IsStaying (sym root.1) (at_end _ at st.sites)
      | inr caller ↦
          let frames = subst AllStay caller.2 (under_stays at st) in
          subst IsStaying (sym caller.3) (at_point (throws o (under caller.0 caller.1 at)) (below_stays caller.0 caller.1 frames)
          (last_stays caller.0 caller.1 frames) st.sites)
    ]
