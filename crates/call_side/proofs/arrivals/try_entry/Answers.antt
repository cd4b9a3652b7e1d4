use Rattle.std.proofs.Common.{sym, ◌∙◌, true≢false}
use Rattle.auto_table.proofs.Same.{same_entry, self_entry}
use Rattle.auto_table.specs.contracts.entry.EntryPartialEq.TheImpl as entry
use Rattle.lists.proofs.Keys.{Adds-insert_key}
use Rattle.lists.specs.Lists.{Adds}
use Rattle.lists.proofs.Places.{Has-adds_itself}
use Rattle.call_side.proofs.Arriving.{behind_adds, live_adds}
use Rattle.call_side.proofs.arrivals.try_entry.Goals as goal
use Rattle.call_side.proofs.arrivals.try_entry.Goals.{In_ok-insert}

module _ (c : In_ok-insert) where
  adds : Adds c.args.live.now.keys c.args.entry c.insert.new.self.keys
  adds = rw c.in_ok-insert.ensures.keys (Adds-insert_key entry.eq-value.it same_entry self_entry c.args.live.now.keys c.args.entry)

pub returns-in_ok-insert-clause-sound : goal.returns-in_ok-insert-clause-sound
returns-in_ok-insert-clause-sound c =
    live_adds c.args.table.now c.args.live.now.keys c.insert.new.self.keys c.args.entry (adds (goal.at.returns-in_ok-insert-clause-sound c).In_ok-insert) (c.goes_down.ensures.0 c.if-goes_down.true)

pub returns-in_ok-insert-clause-behind : goal.returns-in_ok-insert-clause-behind
returns-in_ok-insert-clause-behind c = behind_adds c.args.live.now.keys c.insert.new.self.keys c.args.entry (adds (goal.at.returns-in_ok-insert-clause-behind c).In_ok-insert)

pub returns-in_ok-insert-clause-there : goal.returns-in_ok-insert-clause-there
returns-in_ok-insert-clause-there c _ = Has-adds_itself c.args.live.now.keys c.insert.new.self.keys c.args.entry (adds (goal.at.returns-in_ok-insert-clause-there c).In_ok-insert)

pub returns-else-goes_down-clause-there : goal.returns-else-goes_down-clause-there
returns-else-goes_down-clause-there c down = absurd (true≢false (sym (c.goes_down.ensures.1 down) ∙ c.if-goes_down.false))
