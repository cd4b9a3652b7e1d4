use Rattle.std.proofs.Common.{◌≡◌, ap, ◌∙◌, lit<}
use Rattle.std.proofs.lemmas.Iterator.{items_from_drains}
use Rattle.std.proofs.lemmas.Iterator.Splits.{YieldsList-from_str_split}
use Rattle.boom_words.specs.Fields.{field_parts, texts}
use Rattle.boom_words.proofs.fields.parts_of.Goals as goal

pub returns : goal.returns
returns c =
    let ran = c.in_ok-parts.ensures.ran in
    let cut : texts ran.0 ≡ field_parts c.args.word.now =
    items_from_drains ran.0 ran.1 (YieldsList-from_str_split 44 c.args.word.now (lit< tt) c.split.ensures.text c.split.ensures.has_more c.split.ensures.pattern) in
    let items : c.in_ok-parts.parts.items ≡ ran.0 = ran.2.0 in
    ap texts items ∙ cut
