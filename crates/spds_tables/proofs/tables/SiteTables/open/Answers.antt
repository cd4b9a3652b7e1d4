use Rattle.std.proofs.Common.{◌∙◌, inr}
use Rattle.spds_tables.proofs.Built.{begun_built, starts_led}
use Rattle.spds_tables.proofs.tables.SiteTables.open.Goals as goal

pub begin_all-requires-clause-led : goal.begin_all-requires-clause-led
begin_all-requires-clause-led c s has =
    starts_led c.args.parts.now 0 c.requires.led c.args.self.now.calls c.requires.job.steps c.requires.job.last s (c.requires.among s has)

pub returns-clause-built : goal.returns-clause-built
returns-clause-built c site mets all built opens =
    let now = c.in_ok-begin_all.ensures in
    let tied = rw c.deref.ensures.value at now.tied in
    begun_built c.args.parts.now site mets all c.args.self.now _ _ c.args.starts.now now.steps now.last now.rules tied now.begun now.apart built opens

pub returns-clause-begun : goal.returns-clause-begun
returns-clause-begun c s has = (c.in_ok-begin_all.ensures.begun s).1 (inr has)

pub returns-clause-job : goal.returns-clause-job
returns-clause-job c =
    let now = c.in_ok-begin_all.ensures in
    let was = c.requires.job in
    record { steps = now.steps ∙ was.steps; last = now.last ∙ was.last; rules = now.rules ∙ was.rules; starts = rw c.deref.ensures.value at now.tied }
