use Rattle.std.proofs.Common.{List, sym, subst, arith}
use Rattle.std.proofs.lemmas.Option.{slice_get-get_or}
use Rattle.lists.specs.Lists.{Has}
use Rattle.post_star.proofs.Loops.{each_all}
use Rattle.spds_solve.specs.declared.ends.StoreEnd.{StoreEnd}
use Rattle.spds_solve.specs.Looks.{IsNotedEnd}
use Rattle.spds_solve.proofs.Looking.{each_next, end_kept, end_read}
use Rattle.spds_solve.proofs.Noting.{keeps_self, keeps_then}
use Rattle.spds_solve.proofs.looks.note_cell.Goals as goal

pub loop-at-init : goal.loop-at-init
loop-at-init c = record { known = c.requires.known; keeps = keeps_self c.args.known.now; noted = λ i x low there. absurd (omega arith) }

pub note_end-requires-clause-store : goal.note_end-requires-clause-store
note_end-requires-clause-store c =
    end_read c.args.view.now c.requires.view c.args.cell c.at-at-items.result.now c.loop-at.at-index _ (omega arith) c.at-at-items.ensures

pub loop-at-preserved : goal.loop-at-preserved
loop-at-preserved c =
    let was = c.loop-at.invariant in
    let now = c.in_ok-note_end.ensures in
    let view = c.args.view.now in
    record {
      known = now.known;
      keeps = keeps_then c.args.known.now c.loop-at.known c.note_end.new.known was.keeps now.keeps;
      noted = each_next (IsNotedEnd view c.loop-at.known c.args.site c.args.head) (IsNotedEnd view c.note_end.new.known c.args.site c.args.head)
          c.at-at-items.result.now c.loop-at.at-index _ (slice_get-get_or c.at-at-items.result.now c.loop-at.at-index _ (omega arith))
          (end_kept view c.loop-at.known c.note_end.new.known now.keeps c.args.site c.args.head) now.noted was.noted;
    }

pub returns-clause-noted : goal.returns-clause-noted
returns-clause-noted c at is =
    let has = subst (λ (xs : List StoreEnd). Has xs at) (sym c.at-at-items.ensures) ((c.requires.view.ends c.args.cell at).1 is) in
    each_all (IsNotedEnd c.args.view.now c.loop-at.known c.args.site c.args.head) c.at-at-items.result.now c.loop-at.at-index (omega arith) c.loop-at.invariant.noted at has
