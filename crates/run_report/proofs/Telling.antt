-- What is told of the objects and the slots of a state.
use Rattle.std.proofs.Common.{◌≡◌, ℕ, zero, suc, refl, ◌+◌, ◌<◌, ◌≤◌, ◌++◌, ◌∷◌, [], List, Some, None, length, take, get_or, slice_get, sym, subst, ◌∙◌, ap, inl, inr, append_assoc, append-nil, arith}
use Rattle.std.proofs.lemmas.List.{length-take-le, take_more}
use Rattle.lists.proofs.Places.{slice_get-below, slice_get-there}
use Rattle.link_rules.specs.Accessed.{At}
use Rattle.link_rules.specs.Linked.{LinkedProgram}
use Rattle.link_sites.specs.declared.site.Site.{Site}
use Rattle.link_sites.specs.Sites.{IsSite}
use Rattle.report_text.specs.Lines.{AddsLines, text_of}
use Rattle.report_text.specs.Texts.{AddsText, IsSiteText}
use Rattle.report_text.proofs.Growing.{text_of-append}
use Rattle.step_rules.specs.declared.parts.Slot.{Slot}
use Rattle.step_rules.specs.declared.parts.Value.{Value}
use Rattle.step_rules.specs.Shapes.{FitsFrame, FitsSlot, FitsValue}
use Rattle.step_rules.specs.Slots.{local_of, slot_of}
use Rattle.step_rules.specs.States.{Frame, HeapObject}
use Rattle.run_report.specs.Reports.{AddsLocal, AreLocalLines, AreSited, IsObjectText, LocalLines, none, set, unset}

module _ (p : LinkedProgram) (heap : List HeapObject) where
  -- the site of an object is one of the program
  pub object_site : (o : ℕ) (site : Site) → AreSited p heap → o < length heap → At heap o (λ (x : HeapObject). site ≡ x.site) → IsSite p site
  object_site o site sited below is =
      let x = slice_get-there heap o below in
      subst (IsSite p) (sym (is x.0 x.1)) (sited o x.0 x.1)

  -- the text of the site is that of the object
  pub object_text : (o : ℕ) (site : Site) (old new : List ℕ) → o < length heap → At heap o (λ (x : HeapObject). site ≡ x.site)
      → AddsText (IsSiteText p site) old new → AddsText (IsObjectText p heap o) old new
  object_text o site old new below is adds =
      let x = slice_get-there heap o below in
      record {
        added = adds.added;
        is_so = record { object = x.0; there = x.1; is_text = subst (λ s. IsSiteText p s adds.added) (is x.0 x.1) adds.is_so };
        grown = adds.grown;
      }

  -- a slot that is set holds what fits the heap
  pub slot_fits : (frames : List Frame) (number : ℕ) (from : Slot) (value : Value) → number < length frames → At frames number (FitsFrame p (length heap))
      → At frames number (λ f. Some value ≡ slot_of f from) → FitsValue (length heap) value
  slot_fits frames number from value below fits is =
      let f = slice_get-there frames number below in
      subst (FitsSlot (length heap)) (sym (is f.0 f.1)) ((fits f.0 f.1).holds from)

  -- the method of a frame is one of the program
  pub frame_method : (frames : List Frame) (number method : ℕ) → number < length frames → At frames number (FitsFrame p (length heap))
      → At frames number (λ f. f.method ≡ method) → method < length p.methods
  frame_method frames number method below fits is =
      let f = slice_get-there frames number below in
      subst (λ m. m < length p.methods) (is f.0 f.1) (slice_get-below p.methods f.0.method (fits f.0 f.1).method (fits f.0 f.1).there)

  module _ (frame : Frame) where
    -- no local, no line
    pub locals_none : (old : List ℕ) → AddsLines (LocalLines p heap frame []) old old
    locals_none old = record { lines = []; are_so = none; grown = sym (append-nil old) }

    -- one local more
    locals_push : (names : List (List ℕ)) (x : ℕ) (name old mid new : List ℕ) → x ≡ length names → AddsLines (LocalLines p heap frame names) old mid
        → AddsLocal p heap frame x name mid new → AddsLines (LocalLines p heap frame (names ++ name ∷ [])) old new
    locals_push names x name old mid new at before last = elim last [
      | inl is ↦
          let line = is.2.line in
          record {
            lines = before.lines ++ line ∷ [];
            are_so = set name line before.are_so (subst (λ i. local_of frame i ≡ Some is.0) at is.1) is.2.is_so;
            grown = is.2.grown ∙ ap (λ t. t ++ text_of (line ∷ [])) before.grown ∙ append_assoc old (text_of before.lines) (text_of (line ∷ []))
                ∙ ap (λ t. old ++ t) (sym (text_of-append before.lines (line ∷ [])));
          }
      | inr not ↦ record {
        lines = before.lines;
        are_so = unset name before.are_so (subst (λ i. local_of frame i ≡ None) at not.0);
        grown = not.1 ∙ before.grown;
      }
    ]

    -- the next local of a list
    pub locals_next : (names : List (List ℕ)) (x : ℕ) (d old mid new : List ℕ) → x < length names
        → AddsLines (LocalLines p heap frame (take x names)) old mid → AddsLocal p heap frame x (get_or names x d) mid new
        → AddsLines (LocalLines p heap frame (take (x + 1) names)) old new
    locals_next names x d old mid new below before last =
        rw (take_more names x d below) (locals_push (take x names) x (get_or names x d) old mid new (sym (length-take-le x names (omega arith))) before last)

-- the lines of all locals are those of the frame
pub locals_all : (p : LinkedProgram) (heap : List HeapObject) (frames : List Frame) (number method : ℕ) (names : List (List ℕ)) (old new : List ℕ)
    → At frames number (FitsFrame p (length heap)) → At frames number (λ f. f.method ≡ method)
    → At p.methods method (λ m. names ≡ m.locals)
    → At frames number (λ f. AddsLines (LocalLines p heap f names) old new) → At frames number (λ f. AddsLines (AreLocalLines p heap f) old new)
locals_all p heap frames number method names old new fits is listed adds f there =
    let fit = fits f there in
    let all = adds f there in
    let same : names ≡ fit.method.locals = listed fit.method (subst (λ m. slice_get p.methods m ≡ Some fit.method) (is f there) fit.there) in
    record {
      lines = all.lines;
      are_so = record { method = fit.method; there = fit.there; are_lines = subst (λ ns. LocalLines p heap f ns all.lines) same all.are_so };
      grown = all.grown;
    }

-- all elements are taken
pub taken_all : {X : Type 0} (xs : List X) (i : ℕ) → length xs ≤ i → take i xs ≡ xs
taken_all [] zero h = refl
taken_all [] (suc i) h = refl
taken_all (x ∷ xs) zero h = absurd (omega (arith, h))
taken_all (x ∷ xs) (suc i) h = ap (λ ys. x ∷ ys) (taken_all xs i (omega (arith, h)))
