use Rattle.std.proofs.Common.{◌++◌, codes, sym, ap, ◌∙◌, append_assoc}
use Rattle.std.specs.String.{string_bytes}
use Rattle.link_rules.specs.Names.{brackets}
use Rattle.link_rules.proofs.Dimensions.{brackets_more}
use Rattle.report_text.proofs.sites.push_brackets.Goals as goal

pub loop-preserved : goal.loop-preserved
loop-preserved c =
    c.in_ok-push_str.ensures.bytes ∙ ap (λ t. t ++ codes "[]") c.loop.invariant
    ∙ append_assoc (string_bytes c.args.text.now) (brackets c.loop.counter) (codes "[]") ∙ ap (λ t. string_bytes c.args.text.now ++ t) (sym (brackets_more c.loop.counter))
