use Rattle.std.proofs.Common.{refl, arith}
use Rattle.spds_solve.specs.declared.refresh.Tables.{Tables}
use Rattle.spds_solve.proofs.Still.{completed_all, completed_still, completed_taken, taken_may}
use Rattle.spds_solve.proofs.refresh.Tables.complete_all.Goals as goal

pub complete_by-requires-clause-may : goal.complete_by-requires-clause-may
complete_by-requires-clause-may g c =
    let taken = c.requires.taken in
    rw c.deref.ensures.value
    (taken_may c.args.parts.now taken.0 c.args.self.now c.requires.led (omega (arith, c.in_ok-count_of.ensures, c.args.self.now.each.ok.0)) taken.1)

pub returns-clause-still : goal.returns-clause-still
returns-clause-still g c =
    let taken = c.requires.taken in
    completed_still c.args.parts.now c.args.self.now _ refl (rw c.deref.ensures.value at c.in_ok-complete_by.ensures) taken.0 taken.1

pub returns-clause-settled : goal.returns-clause-settled
returns-clause-settled g c mets taken =
    let new : Tables = record { each = c.complete_by.new.tables; changed = c.args.self.now.changed } in
    let done = rw c.deref.ensures.value at c.in_ok-complete_by.ensures in (
      completed_taken c.args.parts.now c.args.self.now new refl done mets taken,
      completed_all c.args.parts.now c.args.self.now new refl done mets taken,
    )
