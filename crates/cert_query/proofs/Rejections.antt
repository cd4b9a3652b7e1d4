-- Lines are rejected by one number, or show something.
use Rattle.std.proofs.Common.{◌≡◌, ℕ, ◌+◌, ◌<◌, List, length, take, sym, ap, subst, ◌∙◌, inl, inr, arith}
use Rattle.std.proofs.lemmas.Bool.{cases_lt}
use Rattle.std.proofs.lemmas.List.{take-take, take_all}
use Rattle.lists.proofs.Places.{slice_get-below}
use Rattle.link_rules.specs.Linked.{LinkedProgram}
use Rattle.link_sites.specs.declared.site.Site.{Site}
use Rattle.spds_rules.specs.declared.node.Node.{Node}
use Rattle.cert_rules.specs.declared.line.Line.{Line}
use Rattle.cert_rules.specs.Certified.{AreGiven, IsCertified, IsRejected, IsUngiven}
use Rattle.cert_rules.specs.Given.{Facts, Gives}
use Rattle.cert_laws.proofs.Givens.{given_front, slice_get-front}
use Rattle.cert_laws.proofs.OneFact.{given_one}

module _ (p : LinkedProgram) (t : Node) (lines : List Line) where
  -- no list behind a line that gives nothing gives something
  ungiven_front : (i k : ℕ) (other : Facts) → IsUngiven p t lines i → i < k → AreGiven p t (take k lines) other → ⊥
  ungiven_front i k other un less are =
      let is = are.each i un.line (slice_get-front k lines i less ∙ un.there) in
      let front = subst (λ (l : List Line). AreGiven p t l (take i other)) (take-take i k lines (omega arith)) (given_front p t (take k lines) other i are) in
      let same = given_one p t (take i lines) (take i other) un.given front un.before in
      un.none is.fact (subst (λ (f : Facts). Gives p t f un.line is.fact) same is.gives)

  ungiven_all : (i : ℕ) (other : Facts) → IsUngiven p t lines i → AreGiven p t lines other → ⊥
  ungiven_all i other un are =
      ungiven_front i (length lines) other un (slice_get-below lines i un.line un.there)
      (subst (λ (l : List Line). AreGiven p t l other) (sym (take_all (length lines) lines (omega arith))) are)

  ungiven_one : (i k : ℕ) → IsUngiven p t lines i → IsUngiven p t lines k → i ≡ k
  ungiven_one i k un other = elim (cases_lt i k) [
    | inl less ↦ absurd (ungiven_front i k other.given un less other.before)
    | inr more ↦ elim (cases_lt k i) [
      | inl less ↦ absurd (ungiven_front k i un.given other less un.before)
      | inr same ↦ omega (arith, more, same)
    ]
  ]

  pub rejected_one : (i k : ℕ) → IsRejected p t lines i → IsRejected p t lines k → i ≡ k
  rejected_one i k (inl a) (inl b) = a.1 ∙ ap (λ n. n + 1) (ungiven_one a.0 b.0 a.2 b.2) ∙ sym b.1
  rejected_one i k (inl a) (inr b) = absurd (ungiven_all a.0 b.1.given a.2 b.1.are_given)
  rejected_one i k (inr a) (inl b) = absurd (ungiven_all b.0 a.1.given b.2 a.1.are_given)
  rejected_one i k (inr a) (inr b) = a.0 ∙ sym b.0

  -- lines that show something aren't rejected
  pub certified_kept : (o : Site) (k : ℕ) → IsCertified p t lines o → IsRejected p t lines k → ⊥
  certified_kept o k c (inl a) = ungiven_all a.0 c.given a.2 c.are_given
  certified_kept o k c (inr a) = a.1.none c.field c.call c.last

  -- the number isn't 0
  pub rejected_some : (k : ℕ) → IsRejected p t lines k → k ≡ 0 → ⊥
  rejected_some k (inl a) none = omega (arith, a.1, none)
  rejected_some k (inr a) none = omega (arith, a.0, none)
