-- The lines of a verdict.
use Rattle.std.proofs.Common.{◌≡◌, ℕ, zero, suc, ◌<◌, ◌++◌, List, [], ◌∷◌, Some, codes, length, slice_get, refl, ap, ◌∙◌, append_assoc}
use Rattle.std.specs.Fmt.{decimal}
use Rattle.lists.proofs.Places.{slice_get-there}
use Rattle.link_rules.specs.Accessed.{At}
use Rattle.link_rules.specs.Linked.{LinkedProgram}
use Rattle.report_text.specs.Lines.{AddsLine}
use Rattle.report_text.specs.Texts.{AddsText, IsPlaceText, IsSiteText}
use Rattle.track_rules.specs.Protocols.{ProtocolParts}
use Rattle.track_verdicts.specs.declared.verdict.Finding.{Finding}
use Rattle.track_report.specs.Reports.{IsHeadLine, IsUnsafeLine, verdict_line}

-- parts behind a text, one after another
four : (old a x s y e : List ℕ) → old ++ (a ++ (x ++ (s ++ (y ++ e)))) ≡ old ++ ((a ++ x ++ s ++ y) ++ e)
four old a x s y e = simp append_assoc

eight : (old a x b y c s d e t : List ℕ) → ((((old ++ a) ++ x) ++ b) ++ y) ++ (c ++ (s ++ (d ++ (e ++ t)))) ≡ old ++ ((a ++ x ++ b ++ y ++ c ++ s ++ d ++ e) ++ t)
eight old a x b y c s d e t = simp append_assoc

module _ (p : LinkedProgram) (k : ProtocolParts) where
  -- the line with both classes
  pub head_line : (entry class old new : List ℕ) → k.class < length p.classes → At p.classes k.class (λ c. class ≡ c.name)
      → new ≡ old ++ (codes "typestate " ++ (entry ++ (codes " " ++ (class ++ 10 ∷ [])))) → AddsLine (IsHeadLine p k entry) old new
  head_line entry class old new below named grown =
      let there = slice_get-there p.classes k.class below in
      record {
        line = codes "typestate " ++ entry ++ codes " " ++ class;
        is_so = record { class = there.0; there = there.1; line_is = ap (λ n. codes "typestate " ++ entry ++ codes " " ++ n) (named there.0 there.1) };
        grown = grown ∙ four old (codes "typestate ") entry (codes " ") class (10 ∷ []);
      }

  -- the line of a finding
  pub unsafe_line : (f : Finding) (state event old begun sited apart placed new : List ℕ) → begun ≡ old ++ codes "unsafe " → AddsText (IsSiteText p f.site) begun sited
      → apart ≡ sited ++ codes " at " → AddsText (IsPlaceText p f.place) apart placed → slice_get k.states f.state ≡ Some state → slice_get k.events f.event ≡ Some event
      → new ≡ placed ++ (codes " state " ++ (state ++ (codes " event " ++ (event ++ 10 ∷ [])))) → AddsLine (IsUnsafeLine p k f) old new
  unsafe_line f state event old begun sited apart placed new first site second place state_is event_is last =
      let tail : List ℕ = codes " state " ++ (state ++ (codes " event " ++ (event ++ 10 ∷ []))) in
      record {
        line = codes "unsafe " ++ site.added ++ codes " at " ++ place.added ++ codes " state " ++ state ++ codes " event " ++ event;
        is_so = record {
          site = site.added;
          place = place.added;
          state = state;
          event = event;
          site_is = site.is_so;
          place_is = place.is_so;
          state_is = state_is;
          event_is = event_is;
          line_is = refl;
        };
        grown = last
            ∙ ap (λ t. t ++ tail) (place.grown ∙ ap (λ t. t ++ place.added) (second ∙ ap (λ t. t ++ codes " at ") (site.grown ∙ ap (λ t. t ++ site.added) first)))
            ∙ eight old (codes "unsafe ") site.added (codes " at ") place.added (codes " state ") state (codes " event ") event (10 ∷ []);
      }

-- there are findings
pub some_found : (n : ℕ) → (n ≡ 0 → ⊥) → verdict_line n ≡ codes "verdict unsafe " ++ decimal n
some_found zero some = absurd (some refl)
some_found (suc n) some = refl
