use Rattle.std.proofs.Common.{◌≡◌, ℕ, ◌+◌, Result, Err, subst, arith}
use Rattle.cert_text.specs.declared.error.CertError.{CertError}
use Rattle.cert_text.specs.declared.error.CertError.TheVariants.{NotCertificate}
use Rattle.cert_text.specs.Words.{IsFirstUnread, texts}
use Rattle.cert_text.proofs.TextLines.{lines_begin, lines_more, lines_none, lines_unread}
use Rattle.cert_text.proofs.reading.lines.Goals as goal

same_line : {A : Type 0} (i at : ℕ) → ◌≡◌ {A = Result A CertError} (Err (NotCertificate i)) (Err (NotCertificate at)) → i ≡ at
same_line i at e = cc

pub returns-in_default-clause-only : goal.returns-in_default-clause-only
returns-in_default-clause-only c = λ ls each.
    absurd (lines_none c.args.others.now c.loop-index.index _ c.in_ok-line.field-0 (omega arith) c.in_default.is c.in_ok-line.ensures ls each)

pub returns-in_default-clause-bad : goal.returns-in_default-clause-bad
returns-in_default-clause-bad c = λ at e.
    subst (IsFirstUnread (texts c.args.others.now)) (same_line (c.loop-index.index + 1) at e)
    (lines_unread c.args.others.now c.loop-index.index _ c.in_ok-line.field-0 c.loop-index.lines.items (omega arith) c.in_default.is c.in_ok-line.ensures c.loop-index.invariant.each)

pub loop-index-preserved : goal.loop-index-preserved
loop-index-preserved c = record {
  each = lines_more c.args.others.now c.loop-index.index _ c.in_ok-line.field-0 c.loop-index.lines.items c.push.new.self.items c.in-Some.line (omega arith) c.in_ok-push.ensures.items c.in-Some.is
      c.in_ok-line.ensures c.loop-index.invariant.each;
  one = lines_begin c.args.others.now c.loop-index.index _ c.in_ok-line.field-0 c.loop-index.lines.items c.push.new.self.items c.in-Some.line (omega arith) c.in_ok-push.ensures.items c.in-Some.is
      c.in_ok-line.ensures c.loop-index.invariant.one;
}
