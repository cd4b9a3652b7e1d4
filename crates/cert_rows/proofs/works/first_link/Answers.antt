use Rattle.std.proofs.Common.{sym}
use Rattle.cert_rows.proofs.works.first_link.Goals as goal

pub entry_below-requires : goal.entry_below-requires
entry_below-requires c = ((c.links.ensures c.in_ok-number.field-0.now).0 (0, sym c.in_ok-number.ensures.value)).1
