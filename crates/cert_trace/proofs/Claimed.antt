-- What a claim of an answered site cites is there.
use Rattle.std.proofs.Common.{◌≡◌, ℕ, zero, suc, ◌+◌, map, subst, arith}
use Rattle.link_rules.specs.Linked.{LinkedProgram}
use Rattle.link_sites.specs.declared.site.Site.{Site}
use Rattle.spds_rules.specs.declared.node.Node.{Node}
use Rattle.spds_rules.specs.Answers.{IsAnswered}
use Rattle.spds_rules.specs.Systems.{Meets}
use Rattle.cert_rules.specs.declared.fact.Entry.{Entry}
use Rattle.cert_rules.specs.declared.fact.Entry.TheVariants.{Base}
use Rattle.cert_rules.specs.declared.fact.Fact.TheVariants.{At}
use Rattle.cert_rules.specs.declared.line.Side.TheVariants.{Field, Call}
use Rattle.cert_rules.specs.Certified.{AreGiven}
use Rattle.spds_rules.specs.Demand.{about}
use Rattle.cert_rules.specs.Given.{Cites}
use Rattle.cert_rules.specs.Lengths.{CanClaim, IsShortest, cited_length, lengths_of}
use Rattle.cert_lines.specs.Noted.{IsShortestOf, IsThere, Noted}
use Rattle.cert_rules.specs.Told.{as_told}
use Rattle.cert_trace.specs.Closed.{AreClosed}
use Rattle.cert_trace.proofs.Held.{calls_held, fields_held}
use Rattle.cert_trace.proofs.Told.{closed_shortest}

module _ (p : LinkedProgram) (t : Node) (w : Noted) (closed : AreClosed p t w (Meets p (about t))) where
  pub field_there : (o : Site) → IsAnswered p (about t) t o → (most : ℕ) × IsThere w (At Field o Base t) most
  field_there o is =
      let held = fields_held p t closed.wants w (Meets p (about t)) closed.closed o is.0 (closed.closed.wanted.answered o is) tt in
      (held.front, subst (λ (x : Entry). IsThere w (At Field o x t) held.front) held.spelled held.at)

  pub call_there : (o : Site) → IsAnswered p (about t) t o → (i : ℕ) × (e : Entry) × Cites w.given i (At Call o e t)
  call_there o is =
      let held = calls_held p t closed.wants w (Meets p (about t)) closed.closed o is.1.1 (closed.closed.wanted.answered o is) in (suc held.at.0, held.entry, held.at.1)

  shortest_at : (o : Site) → IsAnswered p (about t) t o → (field : ℕ) → w.lengths ≡ map as_told (lengths_of w.lines) → Cites w.given field (At Field o Base t)
      → ((at : ℕ) → field ≡ at + 1 → IsShortestOf w (At Field o Base t) at) → IsShortest p t o (cited_length (lengths_of w.lines) field)
  shortest_at o answered zero told cites least = absurd cites
  shortest_at o answered (suc i) told cites least = closed_shortest p t w closed told o answered i (least i (omega arith))

  pub can_claim : AreGiven p t w.lines w.given → w.lengths ≡ map as_told (lengths_of w.lines) → (o : Site) → IsAnswered p (about t) t o → (field call : ℕ) → Cites w.given field (At Field o Base t)
      → ((at : ℕ) → field ≡ at + 1 → IsShortestOf w (At Field o Base t) at) → (e : Entry) → Cites w.given call (At Call o e t) → CanClaim p t w.lines o field call
  can_claim given told o answered field call cites least e calls =
      record { given = w.given; are_given = given; entry = e; by_fields = cites; by_calls = calls; shortest = shortest_at o answered field told cites least }
