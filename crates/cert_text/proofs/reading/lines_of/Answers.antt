use Rattle.std.proofs.Common.{length, sym, ap, subst, ◌∙◌, eq-eqb, true≢false, arith}
use borrow.Author.Tests.{eqb-true}
use Rattle.cert_rules.specs.Spelled.{AreLines}
use Rattle.cert_text.specs.Words.{texts}
use Rattle.cert_text.proofs.TextLines.{nil_of, popped_ended, popped_lines, some_parts}
use Rattle.cert_text.proofs.reading.lines_of.Goals as goal
use Rattle.cert_text.proofs.reading.lines_of.Goals.{then-not-is_empty+in_ok-push, else-not-is_empty}

pub returns-in_default : goal.returns-in_default
returns-in_default c = absurd (some_parts c.args.bytes.now c.in_ok-lines.lines.items c.in_ok-lines.ensures (omega (arith, c.in_ok-lines.lines.ok.0, c.in_default.ensures.cases.0)))

pub returns : goal.returns
returns c = elim c.if-not-is_empty.branch [
  | then-not-is_empty+in_ok-push w ↦
      subst (λ l. AreLines c.args.bytes.now (texts l)) (sym (ap (λ v. v.items) w.lines-is ∙ w.in_ok-push.ensures.items))
      (popped_lines c.args.bytes.now c.in_ok-lines.lines.items c.pop.new.self.items c.in-Some.last c.in_ok-lines.ensures c.in-Some.ensures.items
      (λ e. true≢false (sym (c.is_empty.ensures ∙ eq-eqb (length c.in-Some.last.now) 0 (ap length e)) ∙ w.if-not-is_empty.true)))
  | else-not-is_empty w ↦
      subst (λ l. AreLines c.args.bytes.now (texts l)) (sym (ap (λ v. v.items) w.lines-is))
      (popped_ended c.args.bytes.now c.in_ok-lines.lines.items c.pop.new.self.items c.in-Some.last c.in_ok-lines.ensures c.in-Some.ensures.items
      (nil_of c.in-Some.last.now (eqb-true (length c.in-Some.last.now) 0 (sym c.is_empty.ensures ∙ w.if-not-is_empty.false))))
]
