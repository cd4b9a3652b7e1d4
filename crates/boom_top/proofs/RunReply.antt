-- What `run` is answered.
use Rattle.std.proofs.Common.{◌≡◌, ℕ, ◌++◌, List, [], ◌∷◌, ◌∙◌, Bool, None, Option, Some, ap, codes, false, inl, length, refl, subst, sym, true}
use Rattle.std.proofs.lemmas.Option.{same_Some}
use Rattle.std.specs.Fmt.{decimal}
use Rattle.lists.proofs.Joined.{last_one}
use Rattle.link_rules.specs.Linked.{LinkedMethod, LinkedProgram}
use Rattle.link_rules.specs.WellLinked.{IsInForm}
use Rattle.step_rules.specs.Slots.{local_of}
use Rattle.step_rules.specs.States.{Ending, Frame, HeapObject, State, ended, ill_typed, place_of, running, uncaught}
use Rattle.step_rules.specs.declared.parts.Value.{Value}
use Rattle.step_rules.specs.declared.parts.Value.TheVariants as value
use Rattle.boom_words.specs.Requests.{RunFor}
use Rattle.report_text.specs.Lines.{text_of}
use Rattle.report_text.specs.Texts.{IsSiteText}
use Rattle.run_report.proofs.OneRun.{named_one}
use Rattle.run_report.specs.Named.{digits_of}
use Rattle.run_report.specs.Reports.{AreEndLines, AreEndLinesBy, AreLocalLines, AreRunningLines, IsAtLine, IsFlightText, IsLocalLine, IsObjectText, IsRunText, IsValueText, LocalLines, none, set, unset}
use Rattle.boom_top.specs.RunReport.{IsRunReply}
use Rattle.boom_top.proofs.OneText.{place_text_one, site_text_one}
use Rattle.boom_top.proofs.Splits.{AreOne, ones}

module _ (p : LinkedProgram) (form : IsInForm p) where
  -- the text of an object, of a value and of what is in flight
  object_one : (heap : List HeapObject) (o : ℕ) (a b : List ℕ) → IsObjectText p heap o a → IsObjectText p heap o b → a ≡ b
  object_one heap o a b x y =
      let same = same_Some x.object y.object (sym x.there ∙ y.there) in
      site_text_one p form y.object.site a b (subst (λ (h : HeapObject). IsSiteText p h.site a) same x.is_text) y.is_text

  value_one : (heap : List HeapObject) (v : Value) (a b : List ℕ) → IsValueText p heap v a → IsValueText p heap v b → a ≡ b
  value_one heap value.Null a b x y = x ∙ sym y
  value_one heap value.Number a b x y = x ∙ sym y
  value_one heap (value.Object o) a b x y = object_one heap o a b x y

  flight_one : (heap : List HeapObject) (raised : Bool) (thrown : Option Value) (a b : List ℕ) → IsFlightText p heap raised thrown a → IsFlightText p heap raised thrown b
      → a ≡ b
  flight_one heap false thrown a b x y = x ∙ sym y
  flight_one heap true (Some (value.Object o)) a b x y = x.2 ∙ ap (λ t. codes " raised " ++ t) (object_one heap o x.0 y.0 x.1 y.1) ∙ sym y.2
  flight_one heap true (Some value.Null) a b x y = absurd x
  flight_one heap true (Some value.Number) a b x y = absurd x
  flight_one heap true None a b x y = absurd x

  at_line_one : (heap : List HeapObject) (frame : Frame) (a b : List ℕ) → IsAtLine p heap frame a → IsAtLine p heap frame b → a ≡ b
  at_line_one heap frame a b x y =
      let at = place_text_one p form (place_of frame) x.at y.at x.at_is y.at_is in
      let flight = flight_one heap frame.raised frame.thrown x.flight y.flight x.flight_is y.flight_is in
      x.line_is ∙ (λ i. codes "at " ++ at i ++ flight i) ∙ sym y.line_is

  -- the lines of locals
  local_line_one : (heap : List HeapObject) (name : List ℕ) (v w : Value) (a b : List ℕ) → v ≡ w → IsLocalLine p heap name v a → IsLocalLine p heap name w b → a ≡ b
  local_line_one heap name v w a b same x y =
      let moved = subst (λ (u : Value). IsValueText p heap u x.text) same x.is_text in
      x.line_is ∙ ap (λ t. codes "local " ++ name ++ codes " " ++ t) (value_one heap w x.text y.text moved y.is_text) ∙ sym y.line_is

  pushed : {X : Type 0} (xs : List X) (x : X) → [] ≡ xs ++ x ∷ [] → ⊥
  pushed [] x e = cc
  pushed (y ∷ xs) x e = cc

  locals_one : (heap : List HeapObject) (frame : Frame) {ns ms xs ys : List (List ℕ)} → LocalLines p heap frame ns xs → LocalLines p heap frame ms ys → ns ≡ ms → xs ≡ ys
  locals_one heap frame none none e = refl
  locals_one heap frame none (unset {names} name l at) e = absurd (pushed names name e)
  locals_one heap frame none (set {names} name line l at is) e = absurd (pushed names name e)
  locals_one heap frame (unset {names} name l at) none e = absurd (pushed names name (sym e))
  locals_one heap frame (set {names} name line l at is) none e = absurd (pushed names name (sym e))
  locals_one heap frame (unset {names} name l at) (unset {names = others} other k there) e =
      locals_one heap frame l k (last_one names others name other e).0
  locals_one heap frame (unset {names} name l at) (set {names = others} other line k there is) e =
      let same = (last_one names others name other e).0 in
      absurd (let nothing = sym (ap (λ (x : List (List ℕ)). local_of frame (length x)) same) ∙ at in let something = there in cc)
  locals_one heap frame (set {names} name line l at is) (unset {names = others} other k there) e =
      let same = (last_one names others name other e).0 in
      absurd (let something = sym (ap (λ (x : List (List ℕ)). local_of frame (length x)) same) ∙ at in let nothing = there in cc)
  locals_one heap frame (set {names} {lines} name line {value = v} l at is) (set {names = others} {lines = rest} other own {value = w} k there own_is) e =
      let last = last_one names others name other e in
      let value : v ≡ w = same_Some v w (sym at ∙ ap (λ (x : List (List ℕ)). local_of frame (length x)) last.0 ∙ there) in
      let before = locals_one heap frame l k last.0 in
      let here = local_line_one heap other v w line own value (subst (λ (x : List ℕ). IsLocalLine p heap x v line) last.1 is) own_is in
      (λ i. before i ++ here i ∷ [])

  -- the lines with how a run stands
  frame_locals_one : (heap : List HeapObject) (frame : Frame) (xs ys : List (List ℕ)) → AreLocalLines p heap frame xs → AreLocalLines p heap frame ys → xs ≡ ys
  frame_locals_one heap frame xs ys x y =
      let same = same_Some x.method y.method (sym x.there ∙ y.there) in
      locals_one heap frame x.are_lines y.are_lines (ap (λ (m : LinkedMethod). m.locals) same)

  running_one : (s : State) (xs ys : List (List ℕ)) → AreRunningLines p s xs → AreRunningLines p s ys → xs ≡ ys
  running_one s xs ys x y =
      let top = (last_one x.below y.below x.top y.top (sym x.frames_are ∙ y.frames_are)).1 in
      let at = at_line_one s.heap y.top x.at y.at (subst (λ (f : Frame). IsAtLine p s.heap f x.at) top x.at_is) y.at_is in
      let locals = frame_locals_one s.heap y.top x.locals y.locals (subst (λ (f : Frame). AreLocalLines p s.heap f x.locals) top x.locals_are) y.locals_are in
      x.lines_are ∙ (λ i. codes "end running" ∷ at i ∷ locals i) ∙ sym y.lines_are

  end_one : (s : State) (how : Ending) (xs ys : List (List ℕ)) → AreEndLinesBy p s how xs → AreEndLinesBy p s how ys → xs ≡ ys
  end_one s running xs ys x y = running_one s xs ys x y
  end_one s ended xs ys x y = x ∙ sym y
  end_one s ill_typed xs ys x y = x ∙ sym y
  end_one s (uncaught o) xs ys x y =
      let text = object_one s.heap o x.1.text y.1.text x.1.is_text y.1.is_text in
      let line : x.0 ≡ y.0 = x.1.line_is ∙ ap (λ t. codes "end uncaught " ++ t) text ∙ sym y.1.line_is in
      x.2 ∙ ap (λ (l : List ℕ). l ∷ []) line ∙ sym y.2

  run_text_one : (entry : List ℕ) (steps : ℕ) (digits : List ℕ) (a b : List ℕ) → IsRunText p entry steps digits a → IsRunText p entry steps digits b → a ≡ b
  run_text_one entry steps digits a b x y =
      let same = named_one p digits steps x.made y.made x.state y.state form x.run y.run in
      let lines = end_one y.state y.state.ending x.end_lines y.end_lines (subst (λ (s : State). AreEndLines p s x.end_lines) same.1 x.are_end_lines) y.are_end_lines in
      x.text_is ∙ (λ i. text_of ((codes "run " ++ entry) ∷ (codes "steps " ++ decimal (same.0 i)) ∷ lines i)) ∙ sym y.text_is

module _ (p : LinkedProgram) (entry : List ℕ) (asked : RunFor) where
  -- what is said of a run
  abbrev SaysRun : List (List ℕ) → Type 0
  SaysRun lines = IsRunText p entry asked.steps (digits_of asked.choices) (text_of lines)

  -- the replies are one
  pub run_ones : (Plain : Type 0) → AreOne p (IsRunReply p entry asked) Plain
  run_ones Plain = ones p (IsRunReply p entry asked) Plain SaysRun (λ s lines a. inl a) (λ s t xs ys a b. a.1 ∙ sym b.1)
      (λ form plain xs ys. run_text_one p form entry asked.steps (digits_of asked.choices) (text_of xs) (text_of ys))
