-- Lines that were put behind none: what they give, how long they are, and that the shortest of a fact is no longer than a derivation.
use Rattle.std.proofs.Common.{◌≡◌, ◌∙◌, ℕ, zero, suc, ◌+◌, ◌≤◌, List, [], ◌∷◌, ◌++◌, Some, map, slice_index_or, refl, sym, ap, subst, arith}
use Rattle.std.proofs.lemmas.List.{map-append}
use Rattle.link_rules.specs.Linked.{LinkedProgram}
use Rattle.link_sites.specs.declared.site.Site.{Site}
use Rattle.spds_rules.specs.declared.node.Node.{Node}
use Rattle.spds_rules.specs.Answers.{IsAnswered}
use Rattle.spds_rules.specs.Systems.{Meets}
use Rattle.cert_rules.specs.declared.fact.Entry.{Entry}
use Rattle.cert_rules.specs.declared.fact.Entry.TheVariants.{Base}
use Rattle.cert_rules.specs.declared.fact.Fact.TheVariants.{At}
use Rattle.cert_rules.specs.declared.line.Line.{Line}
use Rattle.cert_rules.specs.declared.line.Line.TheVariants as line
use Rattle.cert_rules.specs.declared.line.Side.TheVariants.{Field, Call}
use Rattle.cert_rules.specs.Certified.{AreGiven}
use Rattle.spds_rules.specs.Demand.{about}
use Rattle.cert_rules.specs.Lengths.{IsNoLonger, IsShortest, cited_length, length_by, lengths_of, rules}
use Rattle.cert_laws.proofs.Givens.{given_more}
use Rattle.cert_lines.specs.Noted.{IsShortestOf, IsThere, Noted, length_at}
use Rattle.cert_rules.specs.Told.{as_told}
use Rattle.cert_make.proofs.Sums.{lengths_of-push, told_at, told_cited}
use Rattle.cert_work.specs.Added.{AreAdded, length_told}
use Rattle.cert_trace.specs.Closed.{AreClosed}
use Rattle.cert_trace.proofs.Held.{fields_held}

one_told : (n : ℕ) → as_told (as_told n + 1) ≡ as_told (n + 1)
one_told n = omega arith

two_told : (m n : ℕ) → as_told (as_told m + as_told n + 1) ≡ as_told (m + n + 1)
two_told m n = omega arith

-- a line is as long behind lengths as they are told
told_line : (lengths : List ℕ) (l : Line) → as_told (length_by (map as_told lengths) l) ≡ as_told (length_by lengths l)
told_line lengths (line.Start side n) = refl
told_line lengths (line.Jump from n) = refl
told_line lengths (line.Put from meet n) = refl
told_line lengths (line.Flow Field from n) = ap (λ (k : ℕ). as_told (k + 1)) (told_cited lengths from) ∙ one_told (cited_length lengths from)
told_line lengths (line.Flow Call from n) = refl
told_line lengths (line.PushField from meet n) = refl
told_line lengths (line.PushCall from n) = refl
told_line lengths (line.LinkField from meet n) = ap (λ (k : ℕ). as_told (k + 1)) (told_cited lengths from) ∙ one_told (cited_length lengths from)
told_line lengths (line.LinkCall from n) = refl
told_line lengths (line.Pop Field from link n) =
    (λ j. as_told (told_cited lengths from j + told_cited lengths link j + 1)) ∙ two_told (cited_length lengths from) (cited_length lengths link)
told_line lengths (line.Pop Call from link n) = refl
told_line lengths (line.BasePop from n) = refl
told_line lengths (line.Shared first second string) = refl
told_line lengths (line.Meet shared base) = refl
told_line lengths (line.Claim field call) = refl

module _ (p : LinkedProgram) (t : Node) where
  pub added_given : {old new : Noted} → AreAdded p t old new → AreGiven p t old.lines old.given → AreGiven p t new.lines new.given
  added_given AreAdded.none are = are
  added_given (AreAdded.more {mid} l fact rest even gives not) are = given_more p t mid.lines mid.given l (Some fact) (added_given rest are) gives

  pub added_told : {old new : Noted} → AreAdded p t old new → old.lengths ≡ map as_told (lengths_of old.lines) → new.lengths ≡ map as_told (lengths_of new.lines)
  added_told AreAdded.none told = told
  added_told (AreAdded.more {mid} l fact rest even gives not) told =
      let before = added_told rest told in
      let here : length_told mid l ≡ as_told (length_by (lengths_of mid.lines) l)
      = ap (λ (ns : List ℕ). as_told (length_by ns l)) before ∙ told_line (lengths_of mid.lines) l in
      (λ j. before j ++ here j ∷ []) ∙ sym (map-append as_told (lengths_of mid.lines) (length_by (lengths_of mid.lines) l ∷ []))
      ∙ ap (map as_told) (sym (lengths_of-push mid.lines l))

  -- no derivation of the field system is shorter than the shortest line
  pub closed_shortest : (w : Noted) → AreClosed p t w (Meets p (about t)) → w.lengths ≡ map as_told (lengths_of w.lines) → (o : Site) → IsAnswered p (about t) t o
      → (i : ℕ) → IsShortestOf w (At Field o Base t) i → IsShortest p t o (cited_length (lengths_of w.lines) (suc i))
  closed_shortest w is told o answered i least h =
      let held = fields_held p t is.wants w (Meets p (about t)) is.closed o h (is.closed.wanted.answered o answered) tt in
      let at : IsThere w (At Field o Base t) held.front = subst (λ (x : Entry). IsThere w (At Field o x t) held.front) held.spelled held.at in
      let short = least.least at.at at.gives in
      let is : length_at w i ≡ as_told (cited_length (lengths_of w.lines) (suc i))
      = ap (λ (ns : List ℕ). slice_index_or ns i 0) told ∙ told_at (lengths_of w.lines) i in
      as_far (cited_length (lengths_of w.lines) (suc i)) (rules h) (omega (arith, is, short, at.short, held.fits))
    where
      as_far : (m n : ℕ) → as_told m ≤ n → IsNoLonger m n
      as_far m n le = grind (arith, le)
