use Rattle.std.proofs.Common.{◌++◌, List, take}
use Rattle.spds_tables.specs.declared.numbered.Met.{Met}
use Rattle.spds_tables.specs.Tables.{AreBuiltWithin, AreOpenFor, IsCallJob}
use Rattle.spds_tables.proofs.tables.SiteTables.catch_up.Given as goal

abbrev pub invariant-loop-met : goal.invariant-loop-met
invariant-loop-met l = record {
  job : IsCallJob l.parts l.self.begun l.self.calls;
  built : (first all : List Met) → AreBuiltWithin l.parts l.site first all l.initial.self → AreOpenFor l.parts l.site l.mets all
      → AreBuiltWithin l.parts l.site (first ++ take l.met-index l.mets) all l.self;
}
