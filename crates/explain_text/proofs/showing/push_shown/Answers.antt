use Rattle.std.proofs.Common.{string_bytes, ap, length}
use Rattle.cert_text.proofs.LineWords.{on_ok}
use Rattle.explain_text.proofs.Shown.{site_shown}
use Rattle.explain_text.proofs.showing.push_shown.Goals as goal

pub returns : goal.returns
returns c =
    on_ok c.push_certificate.result (λ grown.
    site_shown c.args.linked.now c.args.site c.args.certificate.now c.requires.fits c.requires.shown c.in_ok-rules.rules _ c.in_ok-rules.ensures (ap length c.as_slice-lines.ensures)
    (string_bytes c.args.text.now) (string_bytes c.push_site_line.new.text) (string_bytes c.push_sizes.new.text) (string_bytes c.push_certificate.new.text)
    c.in_ok-push_site_line.ensures c.in_ok-push_sizes.ensures grown) c.push_certificate.ensures
