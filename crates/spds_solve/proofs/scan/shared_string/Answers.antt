use Rattle.std.proofs.Common.{◌≡◌, Some, slice_get, arith}
use Rattle.lists.proofs.Places.{slice_get-read}
use Rattle.spds_solve.proofs.Scanning.{none_shared}
use Rattle.spds_solve.proofs.scan.shared_string.Goals as goal
use Rattle.spds_solve.proofs.scan.shared_string.Goals.{After-index-base}
use Rattle.spds_tables.specs.Tables.{AreSettled}

pub index-object-requires : goal.index-object-requires
index-object-requires c = omega (arith, c.requires.view.settled.count, c.requires.met.object, c.args.view.now.tables.now.each.ok.0)

pub index-base-requires : goal.index-base-requires
index-base-requires c = omega (arith, c.requires.view.settled.count, c.requires.met.base, c.args.view.now.tables.now.each.ok.0)

module _ (c : After-index-base) where
  one_is : slice_get c.args.view.now.tables.now.each.items c.args.met.object ≡ Some c.index-object.result.now
  one_is =
      slice_get-read c.args.view.now.tables.now.each.items c.args.met.object c.index-object.result.now (omega (arith, c.requires.view.settled.count, c.requires.met.object))
      c.index-object.ensures

  two_is : slice_get c.args.view.now.tables.now.each.items c.args.met.base ≡ Some c.index-base.result.now
  two_is =
      slice_get-read c.args.view.now.tables.now.each.items c.args.met.base c.index-base.result.now (omega (arith, c.requires.view.settled.count, c.requires.met.base))
      c.index-base.ensures

  one : AreSettled c.args.view.now.parts.now c.args.met.object c.requires.view.mets c.index-object.result.now
  one = c.requires.view.settled.each c.args.met.object _ one_is

  two : AreSettled c.args.view.now.parts.now c.args.met.base c.requires.view.mets c.index-base.result.now
  two = c.requires.view.settled.each c.args.met.base _ two_is

pub shared_word-requires-clause-first : goal.shared_word-requires-clause-first
shared_word-requires-clause-first c = (one (goal.at.shared_word-requires-clause-first c).After-index-base).calls

pub shared_word-requires-clause-second : goal.shared_word-requires-clause-second
shared_word-requires-clause-second c = (two (goal.at.shared_word-requires-clause-second c).After-index-base).calls

pub shared_word-requires-clause-first_steps : goal.shared_word-requires-clause-first_steps
shared_word-requires-clause-first_steps c = (one (goal.at.shared_word-requires-clause-first_steps c).After-index-base).built.calls.steps

pub shared_word-requires-clause-second_steps : goal.shared_word-requires-clause-second_steps
shared_word-requires-clause-second_steps c = (two (goal.at.shared_word-requires-clause-second_steps c).After-index-base).built.calls.steps

pub shared_word-requires-clause-first_last : goal.shared_word-requires-clause-first_last
shared_word-requires-clause-first_last c = (one (goal.at.shared_word-requires-clause-first_last c).After-index-base).built.calls.last

pub shared_word-requires-clause-second_last : goal.shared_word-requires-clause-second_last
shared_word-requires-clause-second_last c = (two (goal.at.shared_word-requires-clause-second_last c).After-index-base).built.calls.last

pub returns-in_ok-call_string-in-Some-clause-some : goal.returns-in_ok-call_string-in-Some-clause-some
returns-in_ok-call_string-in-Some-clause-some c =
    let at = (goal.at.returns-in_ok-call_string-in-Some-clause-some c).After-index-base in
    let first = rw (c.in-Some.is, c.stored-stored.ensures) at c.in_ok-shared.ensures.first in
    let second = rw (c.in-Some.is, c.stored-stored.ensures) at c.in_ok-shared.ensures.second in
    record {
      object = c.index-object.result.now;
      object_is = one_is at;
      base = c.index-base.result.now;
      base_is = two_is at;
      word = c.in-Some.word.items;
      at_arg = first;
      at_base = second;
      string_is = rw c.deref.ensures.value at c.in_ok-call_string-in-Some.ensures;
    }

pub returns-in-None-clause-none : goal.returns-in-None-clause-none
returns-in-None-clause-none c =
    let at = (goal.at.returns-in-None-clause-none c).After-index-base in
    none_shared c.args.view.now.parts.now c.args.view.now.tables.now.each.items c.args.met _ _ (one_is at) (two_is at)
    (rw (c.in-None.is, c.stored-stored.ensures) at c.in_ok-shared.ensures.none)
