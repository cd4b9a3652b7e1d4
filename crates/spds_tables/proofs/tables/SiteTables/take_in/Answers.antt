use Rattle.std.proofs.Common.{List, subst}
use Rattle.lists.specs.Lists.{Has}
use Rattle.spds_tables.specs.declared.numbered.StartAt.{StartAt}
use Rattle.spds_tables.proofs.Built.{met_passed, met_taken, starts_among}
use Rattle.spds_tables.proofs.Questions.{one_has}
use Rattle.spds_tables.proofs.tables.SiteTables.take_in.Goals as goal

pub open-requires-clause-among : goal.open-requires-clause-among
open-requires-clause-among c s has =
    starts_among c.args.parts.now c.args.met.base s (subst (λ (xs : List StartAt). Has xs s) c.starts_of-starts.ensures has)

pub returns-in_ok-add_pushes-clause-built : goal.returns-in_ok-add_pushes-clause-built
returns-in_ok-add_pushes-clause-built c mets all built opens =
    let starts = c.starts_of-starts.ensures in
    let own = opens c.args.met (one_has c.args.met) c.if-met-site.true in
    met_taken c.args.parts.now c.args.site mets all c.args.met c.open.new.self c.add_pushes.new.work c.push.new.self c.in_ok-push.ensures.items c.if-met-site.true
    (rw (c.deref.ensures.value, c.store_nodes.ensures, starts) at c.in_ok-add_pushes.ensures) c.in_ok-open.ensures.undone (rw starts at c.in_ok-open.ensures.begun)
    (c.in_ok-open.ensures.built c.args.site mets all built (rw starts own))

pub returns-else-met-site-clause-built : goal.returns-else-met-site-clause-built
returns-else-met-site-clause-built c mets all built _ = met_passed c.args.parts.now c.args.site mets all c.args.met c.args.self.now c.if-met-site.false built
