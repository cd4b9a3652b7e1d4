use Rattle.std.proofs.Common.{take}
use Rattle.lists.specs.Lists.{Has}
use Rattle.link_sites.specs.declared.site.Site.{Site}
use Rattle.spds_rules.specs.declared.store.StoreAt.{StoreAt}
use Rattle.spds_solve.specs.declared.met.Met.{Met}
use Rattle.spds_solve.specs.Solved.{StandsForMeet}
use Rattle.cert_work.specs.Wants.{IsWider}
use Rattle.cert_trace.specs.Settled.{IsSettled}
use Rattle.cert_trace.proofs.filing.file_mets.Given as goal

abbrev pub invariant-loop-met : goal.invariant-loop-met
invariant-loop-met l = record {
  wider : IsWider l.fn.wants l.wants;
  settled : (met : Met) → Has (take l.met-index l.mets) met → (o base : Site) (s : StoreAt) → StandsForMeet l.demand met o base s → IsSettled l.wants l.stores o base s;
}
