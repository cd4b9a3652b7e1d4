use Rattle.std.proofs.Common.{List, sym, subst}
use Rattle.std.proofs.lemmas.Result.{IfOk-weaker}
use Rattle.auto_table.specs.declared.entry.Entry.{Entry}
use Rattle.post_star.specs.Sweeps.{AreEntriesAt}
use Rattle.weight_laws.specs.Rel.{rel_domain}
use Rattle.track_tables.proofs.ByNode.{entries_at}
use Rattle.track_tables.proofs.Exact.{value_exact}
use Rattle.track_tables.proofs.states.SiteStates.value.Goals as goal

pub any_value_from-requires : goal.any_value_from-requires
any_value_from-requires c = record {
  meant = c.self.invariant.meant;
  from = subst (λ (es : List Entry). AreEntriesAt rel_domain c.self.inside.table c.args.node es) (sym c.at.ensures) (entries_at c.self.inside.table c.self.inside.entries c.self.invariant c.args.node);
}

pub returns : goal.returns
returns c =
    rw (← c.self.view_is)
    (IfOk-weaker c.any_value_from.result _ _ (λ w any p k q a d n i is few there low.
    value_exact p k q a d is.job is.system few c.args.node n w i there low ((is.saturated.any_value c.args.node w).0 any)) c.any_value_from.ensures)
