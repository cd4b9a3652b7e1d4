use Rattle.std.proofs.Common.{inl, inr, sym, subst, arith}
use Rattle.std.proofs.lemmas.Bool.{cases_eq}
use Rattle.lists.proofs.Places.{slice_get-below}
use Rattle.spds_solve.specs.Looks.{IsNotedAt}
use Rattle.spds_solve.proofs.Looking.{noted_kept}
use Rattle.spds_solve.proofs.looks.note_all.Goals as goal

pub loop-site-init : goal.loop-site-init
loop-site-init c = record { known = c.requires.known; noted = λ k low. absurd (omega arith); still = c.requires.noted }

pub note_changed-requires-clause-site : goal.note_changed-requires-clause-site
note_changed-requires-clause-site c = omega (arith, c.requires.view.settled.count, c.args.view.now.tables.now.each.ok.0)

pub note_changed-requires-clause-flag : goal.note_changed-requires-clause-flag
note_changed-requires-clause-flag c = omega (arith, c.requires.flags, c.requires.view.settled.count, c.args.view.now.tables.now.each.ok.0)

pub note_changed-requires-clause-noted : goal.note_changed-requires-clause-noted
note_changed-requires-clause-noted c = c.loop-site.invariant.still c.loop-site.site

pub loop-site-preserved : goal.loop-site-preserved
loop-site-preserved c =
    let was = c.loop-site.invariant in
    let now = c.in_ok-note_changed.ensures in
    let view = c.args.view.now in
    let kept = noted_kept view.linked.now view.sites.now view.parts.now view.tables.now.each.items c.loop-site.known c.note_changed.new.known now.keeps in
    record {
      known = now.known;
      noted = λ k below. elim (cases_eq k c.loop-site.site) [
        | inl e ↦ subst (IsNotedAt view c.note_changed.new.known) (sym e) now.noted
        | inr n ↦ kept k (was.noted k (omega arith))
      ];
      still = λ k still. kept k (was.still k still);
    }

pub returns-clause-noted : goal.returns-clause-noted
returns-clause-noted c site t at word there =
    let below = slice_get-below c.args.view.now.tables.now.each.items site t there in
    c.loop-site.invariant.noted site (omega (arith, c.args.view.now.tables.now.each.ok.0)) t at word there
