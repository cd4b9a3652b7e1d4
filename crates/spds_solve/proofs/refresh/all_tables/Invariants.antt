use Rattle.std.proofs.Common.{◌≡◌, ℕ, Some, [], length, slice_get}
use Rattle.spds_solve.proofs.refresh.all_tables.Given as goal
use Rattle.spds_tables.specs.declared.tables.SiteTables.{SiteTables}
use Rattle.spds_tables.specs.Tables.{AreBuilt}

abbrev pub invariant-loop-site : goal.invariant-loop-site
invariant-loop-site l = record {
  count : length l.all.items ≡ l.site;
  each : (site : ℕ) (t : SiteTables) → slice_get l.all.items site ≡ Some t → AreBuilt l.parts site [] t;
}
