use Rattle.std.proofs.Common.{◌≡◌, ltb, false, length, arith}
use Rattle.std.proofs.lemmas.List.{length-map}
use Rattle.std.proofs.lemmas.Bool.{ltb-false}
use Rattle.spds_solve.specs.Mets.{numbers, numbers_of}
use Rattle.spds_solve.specs.Searches.{AllSettled, AreTaken}
use Rattle.spds_solve.proofs.Looking.{looked_all, still_met, still_noted}
use Rattle.spds_solve.proofs.Opening.{found_next}
use Rattle.spds_solve.proofs.Turns.{turn_complete, turn_found, turn_inside}
use Rattle.spds_solve.proofs.solver.turn.Goals as goal
use Rattle.spds_solve.proofs.solver.turn.Goals.{In_ok-bring}

module _ (g : _) (c : In_ok-bring g) where
  settled : AllSettled c.args.given.now.parts.now (numbers_of c.args.mets.now) c.bring.new.self.each.items
  settled = rw c.numbers.ensures at c.in_ok-bring.ensures.settled

  taken : AreTaken c.args.given.now.parts.now (numbers_of c.args.mets.now) c.bring.new.self
  taken = rw c.numbers.ensures at c.in_ok-bring.ensures.taken

pub bring-requires-clause-mets : goal.bring-requires-clause-mets
bring-requires-clause-mets g c = rw c.numbers.ensures c.requires.mets

pub bring-requires-clause-low : goal.bring-requires-clause-low
bring-requires-clause-low g c = rw c.numbers.ensures (omega (arith, length-map c.args.mets.now numbers))

pub bring-requires-clause-opens : goal.bring-requires-clause-opens
bring-requires-clause-opens g c = let given = c.args.given.now in rw c.numbers.ensures (found_next given.parts.now given.linked.now given.sites.now c.args.mets.now c.requires.found)

pub bring-requires-clause-taken : goal.bring-requires-clause-taken
bring-requires-clause-taken g c = rw c.numbers.ensures c.requires.looked.taken

pub look-requires-clause-view : goal.look-requires-clause-view
look-requires-clause-view g c = record {
  mets = numbers_of c.args.mets.now;
  settled = settled g (goal.at.look-requires-clause-view g c).In_ok-bring;
  sites = c.requires.sites;
  ends = c.requires.ends;
}

pub look-requires-clause-known : goal.look-requires-clause-known
look-requires-clause-known g c = c.requires.looked.known

pub look-requires-clause-flags : goal.look-requires-clause-flags
look-requires-clause-flags g c = (taken g (goal.at.look-requires-clause-flags g c).In_ok-bring).flags

pub look-requires-clause-noted : goal.look-requires-clause-noted
look-requires-clause-noted g c =
    let given = c.args.given.now in
    still_noted given.linked.now given.sites.now given.parts.now _ c.args.mets.now c.args.tables.now c.bring.new.self c.args.known.now c.requires.looked c.in_ok-bring.ensures.still

pub look-requires-clause-met : goal.look-requires-clause-met
look-requires-clause-met g c =
    let given = c.args.given.now in
    still_met given.linked.now given.sites.now given.parts.now _ c.args.mets.now c.args.tables.now c.bring.new.self c.args.known.now c.requires.looked c.in_ok-bring.ensures.still

pub returns-clause-mets : goal.returns-clause-mets
returns-clause-mets g c =
    let at = (goal.at.returns-clause-mets g c).In_ok-bring in
    let given = c.args.given.now in
    turn_inside given.linked.now given.sites.now given.parts.now c.args.mets.now c.look.new.mets c.bring.new.self.each.items (settled g at) c.in_ok-look.ensures.grown c.requires.mets

pub returns-clause-behind : goal.returns-clause-behind
returns-clause-behind g c = let grown = c.in_ok-look.ensures.grown in (grown.behind, grown.are)

pub returns-clause-found : goal.returns-clause-found
returns-clause-found g c =
    let at = (goal.at.returns-clause-found g c).In_ok-bring in
    let given = c.args.given.now in
    turn_found given.linked.now given.sites.now given.parts.now c.args.mets.now c.look.new.mets c.bring.new.self.each.items (settled g at) c.in_ok-look.ensures.grown c.requires.found

pub returns-clause-looked : goal.returns-clause-looked
returns-clause-looked g c =
    let at = (goal.at.returns-clause-looked g c).In_ok-bring in
    let given = c.args.given.now in
    let look = c.in_ok-look.ensures in
    looked_all given.linked.now given.sites.now given.parts.now (numbers_of c.args.mets.now) c.look.new.mets c.bring.new.self c.rest.new.self c.look.new.known
    (taken g at) (settled g at) c.rest.ensures.each c.rest.ensures.count look.known look.noted look.closed

pub returns-clause-done : goal.returns-clause-done
returns-clause-done g c e =
    let at = (goal.at.returns-clause-done g c).In_ok-bring in
    let given = c.args.given.now in
    let test : ltb (length c.as_slice-before.result.now) (length c.as_slice.result.now) ≡ false = cc in
    let short = rw (c.as_slice-before.ensures.value, c.as_slice.ensures.value) at (ltb-false _ _ test) in
    rw c.rest.ensures.each
    (turn_complete given.linked.now given.sites.now given.parts.now c.args.mets.now c.look.new.mets c.bring.new.self.each.items (settled g at)
    c.in_ok-look.ensures.grown c.in_ok-look.ensures.closed short c.requires.found)
