use Rattle.jim_step.specs.Frames.{frame_of}
use Rattle.step_rules.specs.declared.parts.Slot.TheVariants as slot
use Rattle.jim_step.proofs.plans.row.Goals as goal

pub load-requires-clause-base : goal.load-requires-clause-base
load-requires-clause-base c = rw c.local.ensures (c.requires.fits.top.holds (slot.Local c.in-Load.base))

pub store-requires-clause-base : goal.store-requires-clause-base
store-requires-clause-base c = rw c.local-in-Store.ensures (c.requires.fits.top.holds (slot.Local c.in-Store.base))

pub load_cell-requires : goal.load_cell-requires
load_cell-requires c = record { class = c.requires.classes.object; base = rw c.local-in-LoadCell.ensures (c.requires.fits.top.holds (slot.Local c.in-LoadCell.base)) }

pub store_cell-requires : goal.store_cell-requires
store_cell-requires c = record { base = rw c.local-in-StoreCell.ensures (c.requires.fits.top.holds (slot.Local c.in-StoreCell.base)) }

pub returns-in-LoadStatic-clause-row : goal.returns-in-LoadStatic-clause-row
returns-in-LoadStatic-clause-row c =
    rw c.in-LoadStatic.is (c.load_static.ensures.row c.args.linked.now (frame_of c.args.frame.now) c.args.heap.now)
