-- What is told of how a run stands.
use Rattle.std.proofs.Common.{◌≡◌, ℕ, ◌+◌, ◌-◌, ◌<◌, ◌++◌, ◌∷◌, [], List, Bool, true, false, Option, Some, None, codes, length, slice_get, sym, subst, ◌∙◌, ap, refl, append_assoc, append-nil, length-append, arith}
use Rattle.lists.proofs.Places.{slice_get-push, slice_get-there}
use Rattle.link_rules.specs.Accessed.{At}
use Rattle.link_rules.specs.Linked.{LinkedProgram}
use Rattle.link_sites.specs.declared.place.Place.{Place}
use Rattle.link_sites.specs.Places.{HasCode}
use Rattle.report_text.specs.Lines.{AddsLine, AddsLines, text_of}
use Rattle.report_text.specs.Texts.{AddsText}
use Rattle.report_text.proofs.Growing.{text_of-append}
use Rattle.step_rules.specs.declared.parts.Moved.TheVariants as moved
use Rattle.step_rules.specs.declared.parts.Value.{Value}
use Rattle.step_rules.specs.declared.parts.Value.TheVariants.{Null, Number, Object}
use Rattle.step_rules.specs.Shapes.{FitsFrame, HasShapeBy, IsInFlight}
use Rattle.step_rules.specs.States.{Ending, Frame, HeapObject, State, ended, ill_typed, place_of, running, uncaught}
use Rattle.step_rules.specs.Steps.{told}
use Rattle.run_report.specs.Reports.{AreEndLinesBy, AreLocalLines, AreRunningLines, IsAtLine, IsFlightText, IsTellable, IsValueText}

-- what a step tells says how the run stands
pub told_ended : (e : Ending) → moved.Ended ≡ told e → e ≡ ended
told_ended running h = cc
told_ended ended h = refl
told_ended (uncaught o) h = cc
told_ended ill_typed h = cc

pub told_ill_typed : (e : Ending) → moved.IllTyped ≡ told e → e ≡ ill_typed
told_ill_typed running h = cc
told_ill_typed ended h = cc
told_ill_typed (uncaught o) h = cc
told_ill_typed ill_typed h = refl

pub told_uncaught : (e : Ending) (o : ℕ) → moved.Uncaught o ≡ told e → e ≡ uncaught o
told_uncaught running o h = cc
told_uncaught ended o h = cc
told_uncaught (uncaught q) o h = ap (λ n. uncaught n) (same h)
  where
    same : moved.Uncaught o ≡ moved.Uncaught q → q ≡ o
    same h = cc
told_uncaught ill_typed o h = cc

module _ (p : LinkedProgram) (heap : List HeapObject) where
  -- nothing is in flight
  flight_none : (raised : Bool) (thrown : Option Value) → IsInFlight raised thrown → None ≡ thrown → IsFlightText p heap raised thrown []
  flight_none false thrown is e = refl
  flight_none true None is e = absurd is
  flight_none true (Some v) is e = cc

  -- an object is in flight
  flight_some : (raised : Bool) (thrown : Option Value) (v : Value) (site : List ℕ) → IsInFlight raised thrown → Some v ≡ thrown → IsValueText p heap v site
      → IsFlightText p heap raised thrown (codes " raised " ++ site)
  flight_some false None v site is e text = cc
  flight_some false (Some x) v site is e text = absurd is
  flight_some true None v site is e text = absurd is
  flight_some true (Some Null) v site is e text = absurd is
  flight_some true (Some Number) v site is e text = absurd is
  flight_some true (Some (Object o)) v site is e text =
      let same : v ≡ Object o = cc in
      (site, subst (λ x. IsValueText p heap x site) same text, refl)

  module _ (frames : List Frame) (number : ℕ) (fits : At frames number (FitsFrame p (length heap))) where
    -- the text of nothing
    pub adds_no_flight : (old : List ℕ) → At frames number (λ f. None ≡ f.thrown)
        → At frames number (λ f. AddsText (IsFlightText p heap f.raised f.thrown) old old)
    adds_no_flight old is f there =
        record { added = []; is_so = flight_none f.raised f.thrown (fits f there).flight (is f there); grown = sym (append-nil old) }

    -- the text of what is in flight
    pub adds_flight : (old mid new : List ℕ) (v : Value) → At frames number (λ f. Some v ≡ f.thrown) → mid ≡ old ++ codes " raised "
        → AddsText (IsValueText p heap v) mid new → At frames number (λ f. AddsText (IsFlightText p heap f.raised f.thrown) old new)
    adds_flight old mid new v is first adds f there =
        record {
          added = codes " raised " ++ adds.added;
          is_so = flight_some f.raised f.thrown v adds.added (fits f there).flight (is f there) adds.is_so;
          grown = adds.grown ∙ ap (λ t. t ++ adds.added) first ∙ append_assoc old (codes " raised ") adds.added;
        }

    -- a statement stands where the frame does
    pub frame_stands : (place : Place) → number < length frames → At frames number (λ f. place ≡ place_of f)
        → HasCode p place.method place.index (λ code. Unit {0})
    frame_stands place below is =
        let f = slice_get-there frames number below in
        let fit = fits f.0 f.1 in
        let code = slice_get-there fit.method.code f.0.index fit.within in
        let at : place ≡ place_of f.0 = is f.0 f.1 in
        subst (λ (x : Place). HasCode p x.method x.index (λ code. Unit {0})) (sym at)
        (record { code = code.0; at = record { method = fit.method; there = fit.there; here = code.1 }; is_so = tt })

-- the lines of a run that goes on
pub running_lines : (p : LinkedProgram) (s : State) (top : ℕ) (old first second new : List ℕ) → IsTellable p s → s.ending ≡ running
    → top ≡ length s.frames - 1 → first ≡ old ++ text_of (codes "end running" ∷ [])
    → At s.frames top (λ f. AddsLine (IsAtLine p s.heap f) first second) → At s.frames top (λ f. AddsLines (AreLocalLines p s.heap f) second new)
    → AddsLines (AreRunningLines p s) old new
running_lines p s top old first second new tellable goes at_top begun at locals =
    let shape = subst (λ e. HasShapeBy e p s) goes tellable.shape in
    let point = shape.0 in
    let frames : s.frames ≡ point.below ++ point.top ∷ [] = ap (λ (x : State). x.frames) shape.1 in
    let count : length s.frames ≡ length point.below + 1 = ap length frames ∙ length-append point.below (point.top ∷ []) in
    let number : top ≡ length point.below = omega (arith, at_top, count) in
    let there : slice_get s.frames top ≡ Some point.top =
    subst (λ fs. slice_get fs top ≡ Some point.top) (sym frames)
    (subst (λ n. slice_get (point.below ++ point.top ∷ []) n ≡ Some point.top) (sym number) (slice_get-push point.below point.top)) in
    let line = at point.top there in
    let rest = locals point.top there in
    record {
      lines = codes "end running" ∷ line.line ∷ rest.lines;
      are_so = record {
        below = point.below;
        top = point.top;
        frames_are = frames;
        at = line.line;
        at_is = line.is_so;
        locals = rest.lines;
        locals_are = rest.are_so;
        lines_are = refl;
      };
      grown = rest.grown ∙ ap (λ t. t ++ text_of rest.lines) (line.grown ∙ ap (λ t. t ++ text_of (line.line ∷ [])) begun)
          ∙ joined old (codes "end running" ∷ []) (line.line ∷ []) rest.lines;
    }
  where
    joined : (old : List ℕ) (a b c : List (List ℕ)) → ((old ++ text_of a) ++ text_of b) ++ text_of c ≡ old ++ text_of (a ++ (b ++ c))
    joined old a b c =
        append_assoc (old ++ text_of a) (text_of b) (text_of c) ∙ append_assoc old (text_of a) (text_of b ++ text_of c)
        ∙ ap (λ t. old ++ t) (ap (λ t. text_of a ++ t) (sym (text_of-append b c)) ∙ sym (text_of-append a (b ++ c)))

-- the line of a run that is over
pub ended_lines : (p : LinkedProgram) (s : State) (e : Ending) (line old new : List ℕ) → s.ending ≡ e → AreEndLinesBy p s e (line ∷ [])
    → new ≡ old ++ text_of (line ∷ []) → AddsLines (AreEndLinesBy p s s.ending) old new
ended_lines p s e line old new is lines grown =
    record { lines = line ∷ []; are_so = subst (λ x. AreEndLinesBy p s x (line ∷ [])) (sym is) lines; grown = grown }
