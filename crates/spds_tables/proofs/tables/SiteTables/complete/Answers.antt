use Rattle.std.proofs.Common.{ap, arith}
use Rattle.spds_tables.proofs.Built.{built_few, done_settled, settled_done}
use Rattle.std.specs.declared.result.Result.TheVariants.{Ok}
use Rattle.spds_tables.proofs.tables.SiteTables.complete.Goals as goal

pub grow-requires-clause-built : goal.grow-requires-clause-built
grow-requires-clause-built c =
    let some = c.requires.built in
    (some.0, some.1, c.loop.invariant some.0 some.1 some.2)

pub loop-preserved : goal.loop-preserved
loop-preserved c site mets was = c.in_ok-grow.ensures.built site mets (c.loop.invariant site mets was)

pub loop-smaller : goal.loop-smaller
loop-smaller c =
    let some = c.requires.built in
    let built = c.in_ok-grow.ensures.built some.0 some.1 (c.loop.invariant some.0 some.1 some.2) in
    let more = c.in_ok-grow.ensures.more (ap Ok c.if-branch.true) in
    let few = built_few c.args.parts.now some.0 some.1 c.grow.new.self built in
    omega arith

pub returns-then-self : goal.returns-then-self
returns-then-self c site mets was = done_settled c.args.parts.now site mets c.args.self.now was c.if-self.true

pub returns : goal.returns
returns c site mets was =
    settled_done c.args.parts.now site mets c.grow.new.self (c.in_ok-grow.ensures.done (ap Ok c.if-branch.false) site mets (c.loop.invariant site mets was))
