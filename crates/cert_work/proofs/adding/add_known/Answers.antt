use Rattle.std.proofs.Common.{◌∙◌, sym}
use Rattle.cert_work.proofs.Pushed.{added_one, there_one}
use Rattle.cert_work.proofs.adding.add_known.Goals as goal

pub returns-clause-added : goal.returns-clause-added
returns-clause-added c =
    added_one c.args.view.now.linked.now c.args.view.now.target c.args.written.now c.add.new.self c.args.line c.args.known.fact c.args.length
    (sym c.len-count.ensures.lengths ∙ c.len-count.ensures.given) c.requires.gives c.requires.long c.in_ok-add.ensures.ok

pub returns-clause-there : goal.returns-clause-there
returns-clause-there c =
    there_one c.args.written.now c.add.new.self c.args.line c.args.known.fact c.args.length (sym c.len-count.ensures.lengths ∙ c.len-count.ensures.given) c.in_ok-add.ensures.ok
