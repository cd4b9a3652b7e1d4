use Rattle.std.proofs.Common.{◌≡◌, ◌==◌, ap, sym, subst, ◌∙◌, lit<}
use Rattle.std.specs.List.{slice_split}
use Rattle.std.proofs.lemmas.Iterator.{items_from_drains}
use Rattle.std.proofs.lemmas.Iterator.Splits.{YieldsList-from_str_split}
use Rattle.track_rules.specs.Protocols.{AreParts}
use Rattle.protocol_words.specs.Spellings.{texts}
use Rattle.protocol_words.proofs.Parts.{are_parts}
use Rattle.protocol_words.proofs.spelling.parts_of.Goals as goal

pub returns-clause-parts : goal.returns-clause-parts
returns-clause-parts c =
    let ran = c.in_ok-parts.ensures.ran in
    let cut : texts ran.0 ≡ slice_split (λ b. b == 59) c.args.word.now =
    items_from_drains ran.0 ran.1 (YieldsList-from_str_split 59 c.args.word.now (lit< tt) c.split.ensures.text c.split.ensures.has_more c.split.ensures.pattern) in
    let items : c.in_ok-parts.parts.items ≡ ran.0 = ran.2.0 in
    subst (AreParts c.args.word.now) (sym (ap texts items ∙ cut)) (are_parts c.args.word.now)
