use Rattle.std.proofs.Common.{take}
use Rattle.lists.specs.Lists.{Has}
use Rattle.spds_rules.specs.declared.store.StoreAt.{StoreAt}
use Rattle.cert_trace.specs.Ahead.{IsArgFiled}
use Rattle.cert_trace.proofs.ahead.file_args.Given as goal

abbrev pub invariant-loop-store : goal.invariant-loop-store
invariant-loop-store l = (s : StoreAt) → Has (take l.store-index l.stores) s → IsArgFiled l.files s
