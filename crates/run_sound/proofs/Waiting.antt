-- The frames that wait.
use Rattle.std.proofs.Common.{◌≡◌, ℕ, ◌≤◌, ◌++◌, Bool, false, List, [], ◌∷◌, length, refl, sym, ap, subst}
use Rattle.std.proofs.Math.Seq.{take-append_seam}
use Rattle.std.proofs.lemmas.List.{map-append, reverse-append, take-append-le}
use Rattle.lists.proofs.Joined.{last_one}
use Rattle.link_rules.specs.Linked.{LinkedProgram}
use Rattle.link_rules.specs.WellLinked.{HasTarget}
use Rattle.link_sites.specs.declared.place.Place.{Place}
use Rattle.link_sites.specs.declared.site.Site.{Site}
use Rattle.link_sites.specs.Places.{before}
use Rattle.spds_rules.specs.Demand.{Asked}
use Rattle.spds_rules.specs.Systems.{IsString, called, root}
use Rattle.step_rules.specs.States.{Frame, place_of}
use Rattle.run_sound.specs.Frames.{places_of, string_of}
use Rattle.run_sound.proofs.Invariant.{IsTracked, Waits, more, none}
use Rattle.run_sound.proofs.Lists.{not_empty}

-- the string of a frame is as it was, where one more is on top
pub string_below : (frames : List Frame) (top : Frame) (number : ℕ) → number ≤ length frames → string_of (frames ++ top ∷ []) number ≡ string_of frames number
string_below frames top number below = ap places_of (take-append-le number frames (top ∷ []) below)

-- the frame on top has the places of all others
pub string_top : (frames : List Frame) (top : Frame) → string_of (frames ++ top ∷ []) (length frames) ≡ places_of frames
string_top frames top = ap places_of (take-append_seam frames (top ∷ []))

module _ (p : LinkedProgram) (q : Asked) (sites : List Site) where
  -- the string of the frame above them is one of its method's
  pub is_string : {below : List Frame} {callee : ℕ} {string : List Place} → Waits p q sites below callee string → IsString p callee string
  is_string (none is_root) = root is_root
  is_string (more waits unraised target tracked) = called target (is_string waits)

  -- it is made of the places where they wait, the innermost first
  pub is_places : {below : List Frame} {callee : ℕ} {string : List Place} → Waits p q sites below callee string → string ≡ places_of below
  is_places (none is_root) = refl
  is_places (more {below} {caller} {string} {callee} waits unraised target tracked) =
      let rest : string ≡ places_of below = is_places waits in
      let first : before caller.method caller.index ≡ place_of caller = ap (λ (r : Bool). record { method = caller.method; index = caller.index; raised = r }) (sym unraised) in
      let joined : places_of (below ++ caller ∷ []) ≡ place_of caller ∷ places_of below = rw (map-append, reverse-append) in
      cc

  -- the last of them is the caller of the frame above
  pub record HasCaller (below : List Frame) (caller : Frame) (callee : ℕ) (string : List Place) : Type 0 where
    pub outer : List Place
    pub is : string ≡ before caller.method caller.index ∷ outer
    pub waits : Waits p q sites below caller.method outer
    pub unraised : caller.raised ≡ false
    pub target : HasTarget p caller.method caller.index callee
    pub tracked : IsTracked p q sites caller outer

  -- it is found by taking the last frame off
  pub caller_of : {all : List Frame} {callee : ℕ} {string : List Place} → Waits p q sites all callee string
      → (below : List Frame) (caller : Frame) → all ≡ below ++ caller ∷ []
      → HasCaller below caller callee string
  caller_of (none is_root) = λ below caller e. absurd (not_empty below caller (sym e))
  caller_of (more {below = rest} {caller = last} {string} {callee} waits unraised target tracked) = λ below caller e.
      let parts = last_one rest below last caller e in
      subst (λ (f : Frame). HasCaller below f callee (before last.method last.index ∷ string)) parts.1 (record {
        outer = string;
        is = refl;
        waits = subst (λ fs. Waits p q sites fs last.method string) parts.0 waits;
        unraised = unraised;
        target = target;
        tracked = tracked;
      })
