-- Texts that grow by what shows sites.
use Rattle.std.proofs.Common.{◌≡◌, ℕ, ◌+◌, ◌<◌, List, [], ◌∷◌, ◌++◌, codes, length, take, get_or, refl, sym, ap, ◌∙◌, append_assoc, append-nil}
use Rattle.std.proofs.lemmas.List.{take_more}
use Rattle.std.specs.Fmt.{decimal}
use Rattle.link_rules.specs.Linked.{LinkedProgram}
use Rattle.link_sites.specs.declared.site.Site.{Site}
use Rattle.spds_rules.specs.declared.node.Node.{Node}
use Rattle.cert_rules.specs.declared.certificate.Certificate.{Certificate}
use Rattle.cert_rules.specs.declared.line.Line.{Line}
use Rattle.cert_rules.specs.Lengths.{HasLength, cited_length, lengths_of}
use Rattle.cert_rules.specs.Spelled.{FitsNode, ended_lines}
use Rattle.cert_text.specs.Written.{written_lines}
use Rattle.cert_text.proofs.TextLines.{written_spells}
use Rattle.cert_rules.specs.Told.{as_told}
use Rattle.cert_make.specs.Needs.{IsLean}
use Rattle.cert_trace.specs.Explained.{IsExplained}
use Rattle.report_text.specs.Answers.{IsSiteLine}
use Rattle.report_text.specs.Lines.{AddsLine, AddsLines, text_of}
use Rattle.report_text.proofs.Growing.{text_of-append}
use Rattle.explain_text.specs.Explanations.{AreExplanations, IsExplanation, certificate_lines}

-- lines that end are the text of lines
ended_text : (lines : List (List ℕ)) → ended_lines lines ≡ text_of lines
ended_text [] = refl
ended_text (l ∷ lines) = ap (λ t. l ++ 10 ∷ t) (ended_text lines)

-- how long the field derivation of lines that are all needed is
abbrev lean_length : (lines : List Line) → IsLean lines → ℕ
lean_length lines lean = cited_length (lengths_of lines) lean.field

pub lean_has : (lines : List Line) (lean : IsLean lines) → HasLength lines (lean_length lines lean)
lean_has lines lean = (lean.field, lean.call, (lean.front, lean.whole), refl)

-- three texts behind a text
three : (old a b c : List ℕ) → ((old ++ a) ++ b) ++ c ≡ old ++ (a ++ (b ++ c))
three old a b c = simp append_assoc

module _ (p : LinkedProgram) where
  -- a text that grew by the lines of a site
  pub site_shown : (o : Site) (c : Certificate) → FitsNode c.target → IsExplained p c.target o c → (rules lines : ℕ)
      → ((long : ℕ) → HasLength c.lines long → rules ≡ as_told long) → lines ≡ length c.lines → (old mid next new : List ℕ)
      → AddsLine (IsSiteLine p o) old mid
      → next ≡ mid ++ text_of ((codes "length " ++ decimal rules) ∷ (codes "certificate " ++ decimal lines) ∷ [])
      → new ≡ next ++ ended_lines (written_lines c) → AddsLines (IsExplanation p c.target o) old new
  site_shown o c fits is rules lines told same old mid next new site e f =
      let long = lean_length c.lines is.lean in
      let has = lean_has c.lines is.lean in
      let sizes = (codes "length " ++ decimal (as_told long)) ∷ (codes "certificate " ++ decimal (length c.lines)) ∷ [] in
      let here : next ≡ mid ++ text_of sizes = rw (told long has, same) at e in
      record {
        lines = site.line ∷ certificate_lines long c;
        are_so = record { certificate = c; explained = is; spells = written_spells _ c refl fits is.fits; rules = long; has_length = has; site = site.line; site_is = site.is_so; lines_are = refl };
        grown = f ∙ ap (λ t. next ++ t) (ended_text (written_lines c)) ∙ ap (λ t. t ++ text_of (written_lines c)) (here ∙ ap (λ t. t ++ text_of sizes) site.grown)
            ∙ three old (text_of (site.line ∷ [])) (text_of sizes) (text_of (written_lines c))
            ∙ ap (λ t. old ++ t) (sym (text_of-append (site.line ∷ []) (certificate_lines long c) ∙ ap (λ t. text_of (site.line ∷ []) ++ t) (text_of-append sizes (written_lines c))));
      }

  module _ (n : Node) where
    -- the lines of one site more
    more : (sites : List Site) (o : Site) (lines own : List (List ℕ)) → AreExplanations p n sites lines → IsExplanation p n o own
        → AreExplanations p n (sites ++ o ∷ []) (lines ++ own)
    more [] o lines own none is = (own, [], is, refl, ap (λ t. t ++ own) none ∙ sym (append-nil own))
    more (site ∷ sites) o lines own before is =
        (before.0, before.1 ++ own, before.2, more sites o before.1 own before.3 is, ap (λ t. t ++ own) before.4 ∙ append_assoc before.0 before.1 own)

    -- no site, no line
    pub shown_none : (old : List ℕ) → AddsLines (AreExplanations p n []) old old
    shown_none old = record { lines = []; are_so = refl; grown = sym (append-nil old) }

    -- the lines of the next site
    pub shown_next : (sites : List Site) (i : ℕ) (d : Site) (old mid new : List ℕ) → i < length sites → AddsLines (AreExplanations p n (take i sites)) old mid
        → AddsLines (IsExplanation p n (get_or sites i d)) mid new → AddsLines (AreExplanations p n (take (i + 1) sites)) old new
    shown_next sites i d old mid new below before last =
        rw (take_more sites i d below) (record {
          lines = before.lines ++ last.lines;
          are_so = more (take i sites) (get_or sites i d) before.lines last.lines before.are_so last.are_so;
          grown = last.grown ∙ ap (λ t. t ++ text_of last.lines) before.grown ∙ append_assoc old (text_of before.lines) (text_of last.lines)
              ∙ ap (λ t. old ++ t) (sym (text_of-append before.lines last.lines));
        })
