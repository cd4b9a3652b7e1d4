use Rattle.std.proofs.Common.{◌≡◌, ◌↔◌, ◌⊎◌, ◌++◌, List, map, take}
use Rattle.lists.specs.Lists.{Has, IsApart}
use Rattle.spds_tables.specs.declared.numbered.StartAt.{StartAt}
use Rattle.spds_tables.specs.Parts.{call_start}
use Rattle.spds_tables.proofs.works.begin_all.Given as goal

abbrev pub invariant-loop-start : goal.invariant-loop-start
invariant-loop-start l = record {
  steps : l.work.steps ≡ l.initial.work.steps;
  last : l.work.last ≡ l.initial.work.last;
  rules : l.work.rules ≡ l.initial.work.rules;
  tied : l.work.starts ≡ map (call_start l.cells) l.begun;
  begun : (s : StartAt) → Has l.begun s ↔ (Has l.initial.begun s ⊎ Has (take l.start-index l.starts) s);
  apart : IsApart l.initial.begun → IsApart l.begun;
  behind : (behind : List StartAt) × (l.begun ≡ l.initial.begun ++ behind);
}
