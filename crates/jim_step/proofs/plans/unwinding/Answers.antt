use Rattle.lists.proofs.Places.{slice_get-below}
use Rattle.jim_step.proofs.Readies.{caught_in}
use Rattle.jim_step.specs.Frames.{frame_of}
use Rattle.step_rules.specs.declared.parts.Slot.TheVariants as slot
use Rattle.jim_step.proofs.plans.unwinding.Goals as goal

pub object-requires : goal.object-requires
object-requires c = rw (c.in-Some.is, c.in-Object.is) at (c.requires.fits.top.holds slot.Thrown)

pub catches-catches-requires : goal.catches-catches-requires
catches-catches-requires c =
    slice_get-below c.args.linked.now.methods c.args.frame.now.place.method c.requires.fits.top.method c.requires.fits.top.there

pub unwind-requires-clause-caught : goal.unwind-requires-clause-caught
unwind-requires-clause-caught c = rw (c.catches-catches.ensures c.requires.fits.top.method c.requires.fits.top.there)
    (caught_in c.args.linked.now c.args.frame.now.place.method c.requires.fits.top.method c.tell_form.ensures c.requires.fits.top.there)

pub returns-in-Object-clause-row : goal.returns-in-Object-clause-row
returns-in-Object-clause-row c =
    let m = c.requires.fits.top.method in
    let unwinds = rw (c.catches-catches.ensures m c.requires.fits.top.there, c.class-class.ensures)
    at (c.unwind.ensures.row c.args.linked.now (frame_of c.args.frame.now)) in
    rw (c.in-Some.is, c.in-Object.is) (m, c.requires.fits.top.there, (c.object.result.now, c.object.ensures, unwinds))
