use Rattle.std.proofs.Common.{sym, ◌∙◌}
use Rattle.unicode_ident.proofs.IdentLemmas.{is_xid_start-ascii}
use Rattle.jim_text.proofs.chars.is_xid_start.Goals as goal

pub returns-then-c-lt128 : goal.returns-then-c-lt128
returns-then-c-lt128 c = c.is_ascii_alphabetic.ensures.value ∙ sym (is_xid_start-ascii _ c.if-c-lt128.true)
