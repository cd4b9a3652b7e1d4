use Rattle.std.proofs.Common.{take}
use Rattle.lists.specs.Lists.{Has}
use Rattle.spds_rules.specs.declared.store.StoreAt.{StoreAt}
use Rattle.cert_work.specs.Wants.{IsWanted, IsWider}
use Rattle.cert_trace.proofs.wanting.want_stores.Given as goal

abbrev pub invariant-loop-store : goal.invariant-loop-store
invariant-loop-store l = record {
  wider : IsWider l.fn.wants l.wants;
  both : (s : StoreAt) → Has (take l.store-index l.stores) s → IsWanted l.wants l.pairing.object s.arg × IsWanted l.wants l.pairing.base s.base;
}
