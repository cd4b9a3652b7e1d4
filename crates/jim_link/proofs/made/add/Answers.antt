use Rattle.link_classes.specs.Seen.{seen_method}
use Rattle.jim_link.proofs.Making.{adds_made, both_ok}
use Rattle.jim_link.proofs.made.add.Goals as goal

pub returns-clause-added : goal.returns-clause-added
returns-clause-added c =
    both_ok c.push_code.result
    (λ are puts. adds_made c.args.targets.now.world c.args.numbering.now c.args.text (seen_method c.args.method.now) c.in_ok-code.code c.args.made.now
    (record { methods = c.push_code.new.methods; constants = c.method_code.new.constants }) c.in_ok-code.ensures.code c.in_ok-code.ensures.uses are puts)
    c.push_code.ensures.methods c.push_code.ensures.put
