use Rattle.std.proofs.Common.{ℕ, [], subst, IsTrue, ◌↔◌}
use Rattle.auto_table.specs.declared.entry.Entry.TheVariants.{Base}
use Rattle.auto_table.specs.Cells.{weight_at}
use Rattle.spds_tables.specs.Systems.{Reaches}
use Rattle.call_side.proofs.Truth.{base_value, value_derives}
use Rattle.spds_tables.proofs.tables.SiteTables.has_fields.Goals as goal
use Rattle.weight_laws.specs.Reach.{reach_domain}

pub returns : goal.returns
returns c =
    let job = c.args.self.now.fields in
    let t = c.table.result.now in
    let value = value_derives job.rules job.starts job.steps job.last t c.table.ensures c.args.node [] (weight_at reach_domain t (Base job.last) c.args.node)
    (base_value job.steps job.last t c.args.node) in
    let same = subst (λ (last : ℕ). IsTrue (weight_at reach_domain t (Base last) c.args.node).0 ↔ Reaches job c.args.node []) c.requires.last value in
    rw c.at.ensures same
