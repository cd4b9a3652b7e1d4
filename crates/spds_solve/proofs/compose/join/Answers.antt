use Rattle.std.proofs.Common.{◌≡◌, ◌∙◌, get_or, ap}
use Rattle.std.proofs.lemmas.Option.{get_or_from_slice_get}
use Rattle.spds_solve.specs.declared.met.Met.{Met}
use Rattle.spds_solve.specs.Composing.{AreJoined, joined}
use Rattle.spds_solve.specs.Mets.{numbers}
use Rattle.spds_solve.proofs.Composing.{joined_last, joined_there, read_joined}
use Rattle.spds_solve.proofs.Scanning.{last_there}
use Rattle.spds_solve.proofs.compose.join.Goals as goal
use Rattle.spds_solve.proofs.compose.join.Goals.{After-index-found-next}
use Rattle.spds_tables.specs.declared.numbered.Met.{Met as Numbers}

module _ (c : After-index-found-next) where
  -- what is read are the two meets
  first_is : get_or c.as_slice-found.result.now c.args.first c.index-found-first.result ≡ c.requires.first
  first_is =
      get_or_from_slice_get c.as_slice-found.result.now c.args.first c.requires.first c.index-found-first.result
      (rw c.as_slice-found.ensures.value c.requires.first_is)

  next_is : c.index-found-next.result ≡ c.requires.next
  next_is =
      c.index-found-next.is ∙ get_or_from_slice_get c.as_slice-found.result.now c.args.next c.requires.next c.index-found-next.result
      (rw c.as_slice-found.ensures.value c.requires.next_is)

  abbrev read : Numbers
  read = record {
    object = (get_or c.as_slice-found.result.now c.args.first c.index-found-first.result).object;
    base = c.index-found-next.result.base;
    store = c.index-found-next.result.store;
  }

  read_is : read ≡ numbers (joined c.requires.first c.requires.next)
  read_is =
      read_joined (get_or c.as_slice-found.result.now c.args.first c.index-found-first.result) c.index-found-next.result c.requires.first c.requires.next first_is next_is

pub returns-then-contains-clause-joined : goal.returns-then-contains-clause-joined
returns-then-contains-clause-joined c = AreJoined.none

pub returns-then-contains-clause-there : goal.returns-then-contains-clause-there
returns-then-contains-clause-there c =
    let at = (goal.at.returns-then-contains-clause-there c).After-index-found-next in
    let mets = c.args.mets.now in
    joined_there mets mets c.args.first c.args.next c.requires (read at) (read_is at) (c.contains.ensures.0 c.if-contains.true)

pub returns-clause-joined : goal.returns-clause-joined
returns-clause-joined c =
    let at = (goal.at.returns-clause-joined c).After-index-found-next in
    joined_last c.args.mets.now c.add.new.self c.args.first c.args.next c.requires _ (read_is at)
    (c.from_vec-string.ensures ∙ c.in_ok-copied.ensures ∙ c.as_slice.ensures ∙ ap (λ (x : Met). x.string) (next_is at)) c.in_ok-add.ensures

pub returns-clause-there : goal.returns-clause-there
returns-clause-there c =
    let at = (goal.at.returns-clause-there c).After-index-found-next in
    joined_there c.args.mets.now c.add.new.self c.args.first c.args.next c.requires (read at) (read_is at)
    (last_there c.args.mets.now c.add.new.self _ c.in_ok-add.ensures)
