use Rattle.std.proofs.Common.{◌++◌, sym, ap, subst, ◌∙◌, string_bytes}
use Rattle.cert_rules.specs.Spelled.{SpellsCertificate, ended_lines}
use Rattle.cert_text.specs.Written.{written_lines}
use Rattle.cert_text.proofs.TextLines.{written_spells}
use Rattle.cert_text.proofs.writing.cert_text.Goals as goal

pub returns : goal.returns
returns c =
    subst (λ l. SpellsCertificate l c.args.certificate.now) (sym (ap (λ v. v.items) c.into_bytes.ensures.value))
    (written_spells (string_bytes c.push_certificate.new.text) c.args.certificate.now
    (c.in_ok-push_certificate.ensures ∙ ap (λ l. l ++ ended_lines (written_lines c.args.certificate.now)) c.new-text.ensures.bytes) c.requires.target c.requires.lines)
