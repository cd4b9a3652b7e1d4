use Rattle.std.proofs.Common.{ap, sym, ◌∙◌, Some, subst}
use Rattle.auto_table.specs.declared.entry.Entry.TheVariants.{Pushed}
use Rattle.auto_table.specs.Cells.{IsRow}
use Rattle.std.proofs.lemmas.Option.{slice_get-get_or}
use Rattle.post_star.specs.declared.key.Key.TheVariants.{Marked}
use Rattle.post_star.proofs.Applies.{decide_by}
use Rattle.post_star.proofs.Loops.{row_begins, row_goes, row_ends, applied_over, found_in, listed_in}
use Rattle.post_star.proofs.rise.Rising.work_row.Goals as goal

pub loop-reached-init : goal.loop-reached-init
loop-reached-init g c = row_begins g.met.W.Weight.laws _ c.requires.told c.requires.sound c.args.part.now.rules.now c.requires.listed c.deref-reached-items.result.now c.args.self.now.items.items (Pushed c.args.pushed c.args.mark) c.args.parent

pub work_pops-requires-clause-listed : goal.work_pops-requires-clause-listed
work_pops-requires-clause-listed g c = λ rule h. c.requires.listed rule (listed_in c.args.part.now.index.now.marked (Marked c.reached-item.result.node c.args.mark) c.requires.own.1.marked c.at-pops.ensures rule h)

pub loop-reached-preserved : goal.loop-reached-preserved
loop-reached-preserved g c = row_goes g.met.W.Weight.laws _ c.requires.told c.requires.sound c.args.part.now.rules.now c.requires.listed c.loop-reached.reached-index c.reached-item.result
    (slice_get-get_or c.deref-reached-items.result.now c.loop-reached.reached-index c.reached-item.result c.loop-reached-test.true ∙ ap Some (sym c.reached-item.is))
    c.loop-reached.invariant c.in_ok-work_pops.ensures.progress
    (applied_over g.W.Weight.domain c.args.part.now.rules.now c.args.system.now.steps.now c.work_pops.new.self.table c.work_pops.new.self.items.items c.reached-item.result.node c.requires.own.1.marked c.args.pushed c.args.mark c.args.parent
    (λ rule h. c.in_ok-work_pops.ensures.applied rule (found_in c.args.part.now.index.now.marked (Marked c.reached-item.result.node c.args.mark) c.at-pops.ensures rule h)))

pub returns-clause-applied : goal.returns-clause-applied
returns-clause-applied g c = row_ends g.met.W.Weight.laws _ c.requires.told c.requires.sound c.args.part.now.rules.now c.requires.listed c.loop-reached.reached-index c.loop-reached-test.false (subst (λ xs. IsRow g.W.Weight.domain c.args.self.now.table (Pushed c.args.pushed c.args.mark) xs) (sym (c.deref-reached-items.ensures.value ∙ c.in_ok-row.ensures)) c.row.ensures.each) (decide_by g.W.Weight.domain g.W.PartialEq.eq g.met.W.Weight.same g.met.W.Eq.laws.refl) c.loop-reached.invariant
