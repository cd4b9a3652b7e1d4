use Rattle.std.proofs.Common.{◌≡◌, ◌∙◌, ◌+◌, ℕ, List, subst, ap, inl, inr, length, sym}
use Rattle.cert_rules.specs.declared.line.Line.{Line}
use Rattle.cert_rules.specs.Certified.{AreGiven, IsUngiven}
use Rattle.spds_rules.specs.Demand.{about}
use Rattle.link_rules.specs.Linked.{LinkedProgram}
use Rattle.spds_rules.specs.declared.node.Node.{Node}
use Rattle.cert_replay.specs.declared.error.ReplayError.TheVariants.{Rejected}
use Rattle.cert_replay.proofs.Claims.{accepted, accepted_alone, claim_wanted, none_certified, nothing_claimed}
use Rattle.cert_replay.proofs.Replayed.{refusal_of, same_refusal}
use Rattle.cert_replay.proofs.Stores.{stores_apart}
use Rattle.cert_replay.proofs.replaying.replay.Goals as goal

-- the number is that of the first line that gives nothing
abbrev FirstIn : LinkedProgram → Node → List Line → ℕ → Type 0
FirstIn p t lines k = (i : ℕ) × (k ≡ i + 1) × IsUngiven p t lines i

pub tables_of-requires : goal.tables_of-requires
tables_of-requires c = stores_apart c.args.linked.now (about c.args.certificate.now.target) c.args.demand.now.stores c.requires.demand.stores

pub returns-in-Some-clause-accepted : goal.returns-in-Some-clause-accepted
returns-in-Some-clause-accepted c =
    let q = c.args.certificate.now in
    accepted c.args.linked.now q.target q.lines c.as_slice-lines.result.now c.in_ok-given.given.items c.as_slice.result.now c.as_slice-lines.ensures c.as_slice.ensures.value c.in_ok-given.ensures.ok
    c.in-Some.site c.in-Some.ensures

pub returns-in-Some-clause-certified : goal.returns-in-Some-clause-certified
returns-in-Some-clause-certified c = λ o is.
    let q = c.args.certificate.now in
    accepted_alone c.args.linked.now q.target q.lines c.as_slice-lines.result.now c.in_ok-given.given.items c.as_slice.result.now c.as_slice-lines.ensures c.as_slice.ensures.value
    c.in_ok-given.ensures.ok c.in_ok-given.ensures.only c.in-Some.site c.in-Some.ensures o is

pub returns-clause-rejected : goal.returns-clause-rejected
returns-clause-rejected c = λ k e.
    let q = c.args.certificate.now in
    inr (
      sym (same_refusal (length c.as_slice-lines.result.now + 1) k e) ∙ ap (λ (l : List Line). length l + 1) c.as_slice-lines.ensures,
      nothing_claimed c.args.linked.now q.target q.lines c.as_slice-lines.result.now c.in_ok-given.given.items c.as_slice.result.now c.as_slice-lines.ensures c.as_slice.ensures.value
          c.in_ok-given.ensures.ok c.in-None.ensures,
    )

pub returns-clause-certified : goal.returns-clause-certified
returns-clause-certified c = λ o is.
    let q = c.args.certificate.now in
    absurd (none_certified c.args.linked.now q.target q.lines c.as_slice-lines.result.now c.in_ok-given.given.items c.as_slice.result.now c.as_slice-lines.ensures c.as_slice.ensures.value
    c.in_ok-given.ensures.ok c.in_ok-given.ensures.only c.in-None.ensures o is)

pub returns-in_err-given-clause-first : goal.returns-in_err-given-clause-first
returns-in_err-given-clause-first c = λ k is.
    let q = c.args.certificate.now in
    refusal_of k c.in_err-given.field-0.0 c.from_residual-in_err-given.result c.from_residual-in_err-given.ensures.1 (elim is [
      | inl un ↦ c.in_err-given.ensures.first k (subst (λ (l : List Line). FirstIn c.args.linked.now q.target l k) (sym c.as_slice-lines.ensures) un)
      | inr none ↦ inr (c.in_err-given.ensures.only none.1.given (subst (λ (l : List Line). AreGiven c.args.linked.now q.target l none.1.given) (sym c.as_slice-lines.ensures) none.1.are_given))
    ])

pub returns-in-Some-clause-first : goal.returns-in-Some-clause-first
returns-in-Some-clause-first c = λ k is.
    let q = c.args.certificate.now in
    elim is [
      | inl un ↦ c.in_ok-given.ensures.first k (subst (λ (l : List Line). FirstIn c.args.linked.now q.target l k) (sym c.as_slice-lines.ensures) un)
      | inr none ↦ claim_wanted c.args.linked.now q.target q.lines c.as_slice-lines.result.now c.in_ok-given.given.items c.as_slice.result.now c.as_slice-lines.ensures c.as_slice.ensures.value
          c.in_ok-given.ensures.ok c.in-Some.site c.in-Some.ensures none.1
    ]

pub returns-clause-first : goal.returns-clause-first
returns-clause-first c = λ k is.
    let q = c.args.certificate.now in
    elim is [
      | inl un ↦ absurd (c.in_ok-given.ensures.first k (subst (λ (l : List Line). FirstIn c.args.linked.now q.target l k) (sym c.as_slice-lines.ensures) un))
      | inr none ↦ inl (ap Rejected (ap (λ (l : List Line). length l + 1) c.as_slice-lines.ensures ∙ sym none.0))
    ]
