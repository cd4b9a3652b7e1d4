use Rattle.link_laws.proofs.Lists.{all_at, each_right}
use Rattle.cert_rules.specs.Spelled.{FitsLine, SpellsLine}
use Rattle.cert_rows.proofs.texts.is_read_back.Goals as goal

pub cert_text-requires-clause-lines : goal.cert_text-requires-clause-lines
cert_text-requires-clause-lines c =
    all_at FitsLine c.in-Ok.certificate.lines
    (λ i l there. (each_right SpellsLine c.in-Ok.ensures.ok.others c.in-Ok.certificate.lines i l c.in-Ok.ensures.ok.spelled there).2.1)
