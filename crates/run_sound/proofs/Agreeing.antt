-- A state that is kept agrees with the program.
use Rattle.std.proofs.Common.{◌≡◌, ℕ, ◌+◌, ◌<◌, ◌++◌, Some, true, List, [], ◌∷◌, length, slice_get, refl, sym, ap, ◌∙◌, subst, inl, inr, arith, length-append}
use Rattle.lists.proofs.Places.{slice_get-below, slice_get-pushed}
use Rattle.link_rules.specs.Linked.{LinkedMethod, LinkedProgram}
use Rattle.link_rules.specs.WellLinked.{HasTarget, IsInForm, IsRoot}
use Rattle.link_sites.specs.declared.place.Place.{Place}
use Rattle.link_sites.specs.declared.site.Site.{Site}
use Rattle.run_covers.proofs.Heap.{IsReal}
use Rattle.spds_rules.specs.Demand.{Asked}
use Rattle.spds_rules.specs.Systems.{IsString}
use Rattle.step_rules.specs.declared.parts.Value.TheVariants.{Object}
use Rattle.step_rules.specs.States.{Frame, State}
use Rattle.run_sound.specs.Agrees.{Agrees, WaitsFor}
use Rattle.run_sound.specs.Frames.{string_of}
use Rattle.run_sound.proofs.Invariant.{IsKept, Waits, more, none, sites_of}
use Rattle.run_sound.proofs.Waiting.{is_places, is_string, string_below, string_top}

-- with one more element at the end, the others stay where they are
stays : {X : Type 0} (xs : List X) (x : X) (i : ℕ) (y : X) → i < length xs → slice_get (xs ++ x ∷ []) i ≡ Some y → slice_get xs i ≡ Some y
stays xs x i y below e = elim (slice_get-pushed xs x i y e) [ inl there ↦ there | inr last ↦ absurd (omega (arith, below, last.0)) ]

module _ (p : LinkedProgram) (q : Asked) (sites : List Site) where
  -- the first frame is that of the last method
  root_first : {below : List Frame} {callee : ℕ} {string : List Place} → Waits p q sites below callee string → (top : Frame) → top.method ≡ callee
      → (frame : Frame) → slice_get (below ++ top ∷ []) 0 ≡ Some frame → frame.method + 1 ≡ length p.methods
  root_first (none {root} is_root) = λ top is frame e.
      let same : top ≡ frame = cc in ap (λ (n : ℕ). n + 1) (ap (λ (f : Frame). f.method) (sym same) ∙ is) ∙ is_root
  root_first (more {below} {caller} {string} {callee} waits unraised target tracked) = λ top is frame e.
      root_first waits caller refl frame (stays (below ++ caller ∷ []) top 0 frame (omega (arith, length-append below (caller ∷ []))) e)

  -- each frame waits for the one above it
  wait_for : {below : List Frame} {callee : ℕ} {string : List Place} → Waits p q sites below callee string → (top : Frame) → top.method ≡ callee
      → (number : ℕ) (frame above : Frame) → slice_get (below ++ top ∷ []) number ≡ Some frame → slice_get (below ++ top ∷ []) (number + 1) ≡ Some above
      → WaitsFor p frame above
  wait_for (none is_root) = λ top is number frame above e next. absurd (omega (arith, slice_get-below (top ∷ []) (number + 1) above next))
  wait_for (more {below} {caller} {string} {callee} waits unraised target tracked) = λ top is number frame above e next.
      let many = length-append below (caller ∷ []) in
      elim (slice_get-pushed (below ++ caller ∷ []) top (number + 1) above next) [
        | inl there ↦
            let few = slice_get-below (below ++ caller ∷ []) (number + 1) above there in
            wait_for waits caller refl number frame above (stays (below ++ caller ∷ []) top number frame (omega (arith, few)) e) there
        | inr last ↦
            let here = stays (below ++ caller ∷ []) top number frame (omega (arith, last.0)) e in
            elim (slice_get-pushed below caller number frame here) [
              | inl before ↦ absurd (omega (arith, slice_get-below below number frame before, last.0, many))
              | inr at ↦
                  let called : HasTarget p caller.method caller.index above.method =
                  subst (HasTarget p caller.method caller.index) (sym is ∙ ap (λ (f : Frame). f.method) (sym last.1)) target in
                  subst (λ (f : Frame). WaitsFor p f above) (sym at.1) (unraised, called)
            ]
      ]

  -- each frame's string is one of its method
  strings_are : {below : List Frame} {callee : ℕ} {string : List Place} → Waits p q sites below callee string → (top : Frame) → top.method ≡ callee
      → ((number : ℕ) (frame : Frame) → slice_get below number ≡ Some frame → IsString p frame.method (string_of below number))
      → (number : ℕ) (frame : Frame) → slice_get (below ++ top ∷ []) number ≡ Some frame → IsString p frame.method (string_of (below ++ top ∷ []) number)
  strings_are {below} {callee} {string} waits top is others number frame e = elim (slice_get-pushed below top number frame e) [
    | inl there ↦
        let few = slice_get-below below number frame there in
        subst (IsString p frame.method) (sym (string_below below top number (omega (arith, few)))) (others number frame there)
    | inr last ↦
        let at_top : string ≡ string_of (below ++ top ∷ []) number =
        is_places p q sites waits ∙ sym (string_top below top) ∙ ap (string_of (below ++ top ∷ [])) (sym last.0) in
        let method : callee ≡ frame.method = sym is ∙ ap (λ (f : Frame). f.method) (sym last.1) in
        subst (λ n. IsString p n (string_of (below ++ top ∷ []) number)) method (subst (IsString p callee) at_top (is_string p q sites waits))
  ]

  -- so are those of the frames that wait
  waiting_strings : {below : List Frame} {callee : ℕ} {string : List Place} → Waits p q sites below callee string → (number : ℕ) (frame : Frame)
      → slice_get below number ≡ Some frame → IsString p frame.method (string_of below number)
  waiting_strings (none is_root) = λ number frame e. cc
  waiting_strings (more {below} {caller} {string} waits unraised target tracked) = strings_are waits caller refl (waiting_strings waits)

-- what is in flight at a frame's statement is an object
abbrev pub IsFlying : State → Type 0
IsFlying s = (number : ℕ) (frame : Frame) → slice_get s.frames number ≡ Some frame → frame.raised ≡ true → (x : ℕ) × (frame.thrown ≡ Some (Object x))

module _ (p : LinkedProgram) (q : Asked) (form : IsInForm p) where
  -- the last method is the root
  is_root : (number : ℕ) → number + 1 ≡ length p.methods → (m : LinkedMethod) × IsRoot p number m
  is_root number last =
      let same : form.number ≡ number = omega (arith, form.is_root.last, last) in
      (form.root, subst (λ n. IsRoot p n form.root) same form.is_root)

  pub agrees : (s : State) → IsKept p q s → IsFlying s → IsReal p s.heap → Agrees p s
  agrees s kept flying real = elim kept.frames [
    | inl gone ↦ record {
      root = λ frame e. absurd (nothing gone 0 frame e);
      waiting = λ number frame above e next. absurd (nothing gone number frame e);
      strings = λ number frame e. absurd (nothing gone number frame e);
      flying = flying;
      classes = λ object has. (kept.memory.objects has.0 object has.1).class;
      instantiable = λ object has. real has.0 object has.1;
      fields = λ object write has written. (kept.memory.objects has.0 object has.1).fields write written;
    }
    | inr some ↦
        let there = λ (number : ℕ) (frame : Frame) (e : slice_get s.frames number ≡ Some frame).
        subst (λ (fs : List Frame). slice_get fs number ≡ Some frame) some.2 e in
        record {
          root = λ frame e. is_root frame.method (root_first p q (sites_of s.heap) some.3.waits some.1 refl frame (there 0 frame e));
          waiting = λ number frame above e next.
              wait_for p q (sites_of s.heap) some.3.waits some.1 refl number frame above (there number frame e) (there (number + 1) above next);
          strings = λ number frame e. subst (λ (fs : List Frame). IsString p frame.method (string_of fs number)) (sym some.2)
              (strings_are p q (sites_of s.heap) some.3.waits some.1 refl (waiting_strings p q (sites_of s.heap) some.3.waits) number frame (there number frame e));
          flying = flying;
          classes = λ object has. (kept.memory.objects has.0 object has.1).class;
          instantiable = λ object has. real has.0 object has.1;
          fields = λ object write has written. (kept.memory.objects has.0 object has.1).fields write written;
        }
  ] where
    nothing : s.frames ≡ [] → (number : ℕ) (frame : Frame) → slice_get s.frames number ≡ Some frame → ⊥
    nothing gone number frame e = let nowhere : slice_get [] number ≡ Some frame = subst (λ (fs : List Frame). slice_get fs number ≡ Some frame) gone e in cc
