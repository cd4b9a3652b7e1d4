use Rattle.std.proofs.Common.{◌-◌, ℕ, List, length}
use Rattle.spds_tables.specs.declared.numbered.Met.{Met}
use Rattle.spds_tables.specs.Parts.{candidates}
use Rattle.spds_tables.specs.Tables.{AreBuilt}
use Rattle.spds_tables.proofs.tables.SiteTables.complete.Given as goal

abbrev pub invariant-loop : goal.invariant-loop
invariant-loop l = (site : ℕ) (mets : List Met) → AreBuilt l.parts site mets l.initial.self → AreBuilt l.parts site mets l.self

abbrev pub decreases-loop : goal.decreases-loop
decreases-loop l = length (candidates l.parts) - length l.self.begun
