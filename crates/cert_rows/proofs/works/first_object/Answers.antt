use Rattle.std.proofs.Common.{sym}
use Rattle.cert_rows.proofs.works.first_object.Goals as goal

pub word_at-requires : goal.word_at-requires
word_at-requires c = ((c.objects.ensures c.in_ok-number.field-0.now).0 (0, sym c.in_ok-number.ensures.value)).1
