use Rattle.std.proofs.Common.{sym, ◌∙◌, ap, refl}
use Rattle.jim_text.specs.Chars.Run.{ends, goes}
use Rattle.jim_text.specs.Ends.{is_in}
use Rattle.jim_text.proofs.CharLemmas.{char_same}
use Rattle.jim_text.proofs.chars.wide_next.Goals as goal

pub returns-then-contains-clause-next : goal.returns-then-contains-clause-next
returns-then-contains-clause-next c = goes c.in_ok-c.ensures.place (sym c.contains.ensures ∙ c.if-contains.true) (ends refl)

pub returns-else-contains-clause-next : goal.returns-else-contains-clause-next
returns-else-contains-clause-next c d next here =
    ap (is_in c.args.class) (char_same here c.in_ok-c.ensures.place).0 ∙ sym c.contains.ensures ∙ c.if-contains.false
