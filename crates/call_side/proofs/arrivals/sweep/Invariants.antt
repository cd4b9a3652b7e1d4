use Rattle.std.proofs.Common.{◌≡◌, ◌++◌, List}
use Rattle.auto_table.specs.declared.entry.Entry.{Entry}
use Rattle.lists.specs.Lists.{Has}
use Rattle.post_star.proofs.Loops.{EachBefore}
use Rattle.call_side.specs.Arrivals.{AreLive, GoesDown}
use Rattle.call_side.proofs.arrivals.sweep.Given as goal

abbrev pub invariant-loop-entry : goal.invariant-loop-entry
invariant-loop-entry l = record {
  sound : AreLive l.table l.initial.live.keys → AreLive l.table l.live.keys;
  behind : (behind : List Entry) × (l.live.keys ≡ l.initial.live.keys ++ behind);
  there : EachBefore (λ (e : Entry). GoesDown l.table l.initial.live.keys e → Has l.live.keys e) l.entries l.entry-index;
}
