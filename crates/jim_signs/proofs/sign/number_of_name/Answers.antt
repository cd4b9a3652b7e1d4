use Rattle.std.proofs.Common.{IsUtf8, subst, sym, ◌∙◌}
use Rattle.jim_signs.proofs.TextLemmas.{contents_utf8}
use Rattle.jim_signs.proofs.sign.number_of_name.Goals as goal

pub number-requires-2 : goal.number-requires-2
number-requires-2 c = subst IsUtf8 (sym (c.deref.ensures.value ∙ c.in_ok-plain.ensures)) (contents_utf8 c.args.text.now c.requires)
