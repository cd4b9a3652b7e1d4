-- What a certificate of an answered site shows.
use Rattle.std.proofs.Common.{◌≡◌, ◌∙◌, ℕ, List, sym, ap, subst}
use Rattle.std.proofs.lemmas.List.{same_from_push}
use Rattle.link_rules.specs.Linked.{LinkedProgram}
use Rattle.link_sites.specs.declared.site.Site.{Site}
use Rattle.spds_rules.specs.declared.node.Node.{Node}
use Rattle.spds_rules.specs.Answers.{IsAnswered}
use Rattle.cert_rules.specs.declared.line.Line.{Line}
use Rattle.cert_rules.specs.declared.line.Line.TheVariants as line
use Rattle.spds_rules.specs.Demand.{about}
use Rattle.cert_rules.specs.Lengths.{CanClaim, HasLength, IsShortest, cited_length, lengths_of}
use Rattle.cert_trace.specs.Traces.{IsTraceOf}
use Rattle.cert_trace.specs.declared.evidence.Evidence.{Evidence}
use Rattle.cert_trace.specs.Evidence.{IsEvidence}

-- lines have one length
one_length : (lines : List Line) (a b : ℕ) → HasLength lines a → HasLength lines b → a ≡ b
one_length lines a b first second =
    let claims = same_from_push first.2.0 second.2.0 (line.Claim first.0 first.1) (line.Claim second.0 second.1) (sym first.2.1 ∙ second.2.1) in
    let last = claims.1 in
    let same : first.0 ≡ second.0 = cc in
    first.3 ∙ ap (cited_length (lengths_of lines)) same ∙ sym second.3

pub shortest_told : (p : LinkedProgram) (t : Node) (o : Site) (lines : List Line) (length : ℕ) → HasLength lines length → IsShortest p t o length
    → (other : ℕ) → HasLength lines other → IsShortest p t o other
shortest_told p t o lines length has shortest other is = subst (IsShortest p t o) (one_length lines length other has is) shortest

module _ (p : LinkedProgram) (t : Node) (e : Evidence) (is : IsEvidence p t e) (o : Site) (answered : IsAnswered p (about t) t o) where
  pub of_target : IsTraceOf p e.target e.work × IsAnswered p (about e.target) e.target o
  of_target = (subst (λ (n : Node). IsTraceOf p n e.work) (sym is.is_target) is.trace, subst (λ (n : Node). IsAnswered p (about n) n o) (sym is.is_target) answered)

  -- what a claim of its lines needs of the target
  pub claimed : (lines : List Line) (field call : ℕ) → lines ≡ e.work.written.lines → CanClaim p e.target e.work.written.lines o field call → CanClaim p t lines o field call
  claimed lines field call same can =
      subst (λ (ls : List Line). CanClaim p t ls o field call) (sym same) (subst (λ (n : Node). CanClaim p n e.work.written.lines o field call) is.is_target can)
