use Rattle.std.proofs.Common.{◌∙◌}
use Rattle.rule_cells.specs.Renamed.{number_in}
use Rattle.rule_cells.proofs.Numbering.{renamed_all, renamed_more}
use Rattle.rule_cells.proofs.numbers.renumber.Goals as goal

pub loop-i-preserved : goal.loop-i-preserved
loop-i-preserved g c =
    c.in_ok-push.ensures.items
    ∙ renamed_more (number_in c.args.numbers.now) c.args.rules.now c.loop-i.few.items c.loop-i.i c.index-rules-i.result c.renamed-rule.result c.loop-i-test.true c.index-rules-i.is
    c.renamed-rule.ensures c.loop-i.invariant

pub returns : goal.returns
returns g c = renamed_all (number_in c.args.numbers.now) c.args.rules.now c.loop-i.few.items c.loop-i.i c.loop-i-test.false c.loop-i.invariant
