use Rattle.std.proofs.Common.{sym, subst, arith}
use Rattle.std.proofs.lemmas.Option.{slice_get-get_or}
use Rattle.call_side.specs.Openings.{AreOpenings}
use Rattle.lists.proofs.Places.{slice_get-read}
use Rattle.post_star.proofs.Loops.{each_all}
use Rattle.spds_solve.specs.Looks.{IsNotedOpening}
use Rattle.spds_solve.proofs.Looking.{each_next, opening_kept, site_noted}
use Rattle.spds_solve.proofs.Noting.{keeps_self, keeps_then}
use Rattle.spds_solve.proofs.looks.note_site.Goals as goal

pub index-requires : goal.index-requires
index-requires c = omega (arith, c.requires.view.settled.count, c.requires.site, c.args.view.now.tables.now.each.ok.0)

pub openings-requires : goal.openings-requires
openings-requires c = (c.requires.view.settled.each c.args.site _ (slice_get-read c.args.view.now.tables.now.each.items c.args.site c.index.result.now (omega (arith, c.requires.view.settled.count, c.requires.site)) c.index.ensures)).calls

pub loop-opening-init : goal.loop-opening-init
loop-opening-init c = record { known = c.requires.known; keeps = keeps_self c.args.known.now; noted = λ i x low there. absurd (omega arith) }

pub loop-opening-preserved : goal.loop-opening-preserved
loop-opening-preserved c =
    let was = c.loop-opening.invariant in
    let now = c.in_ok-note_cell.ensures in
    let view = c.args.view.now in
    record {
      known = now.known;
      keeps = keeps_then c.args.known.now c.loop-opening.known c.note_cell.new.known was.keeps now.keeps;
      noted = each_next (IsNotedOpening view c.loop-opening.known c.args.site) (IsNotedOpening view c.note_cell.new.known c.args.site)
          c.deref-opening-items.result.now c.loop-opening.opening-index _ (slice_get-get_or c.deref-opening-items.result.now c.loop-opening.opening-index _ (omega arith))
          (opening_kept view c.loop-opening.known c.note_cell.new.known now.keeps c.args.site) (rw c.head_of-head.ensures at now.noted) was.noted;
    }

pub returns-clause-noted : goal.returns-clause-noted
returns-clause-noted c =
    let here = slice_get-read c.args.view.now.tables.now.each.items c.args.site c.index.result.now (omega (arith, c.requires.view.settled.count, c.requires.site)) c.index.ensures in
    site_noted c.args.view.now c.loop-opening.known c.args.site c.index.result.now c.deref-opening-items.result.now here
    (subst (AreOpenings c.index.result.now.calls) (sym c.deref-opening-items.ensures.value) c.in_ok-openings.ensures)
    (each_all (IsNotedOpening c.args.view.now c.loop-opening.known c.args.site) c.deref-opening-items.result.now c.loop-opening.opening-index (omega arith) c.loop-opening.invariant.noted)
