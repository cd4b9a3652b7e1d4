use Rattle.std.proofs.Common.{◌≡◌, Some, ℕ, List, [], ◌∷◌, length, arith, ap, refl, sym, ◌∙◌}
use Rattle.std.proofs.lemmas.Bool.{false≢true}
use Rattle.std.proofs.lemmas.Option.{slice_get-get_or}
use Rattle.post_star.proofs.Applies.{decide_by}
use Rattle.post_star.proofs.Sums.{summed_none, linked_more, parent_all, parent_meant, pushed_empty, pushed_other, base_leads, base_stops}
use Rattle.post_star.proofs.reading.+reading_of.Goals as goal

empty : (w : List ℕ) → length w ≡ 0 → w ≡ []
empty [] e = refl
empty (x ∷ w) e = absurd (omega arith)

pub returns-then-first-mark : goal.returns-then-first-mark
returns-then-first-mark g t c = rw c.zero-then-first-mark.ensures (pushed_other g.met.W.Weight.laws _ _ _ c.parents-parents.ensures.meant c.in-Pushed.node c.in-Pushed.mark _ _ _ _ c.in-Pushed.is c.in-Some.ensures.cases.0 c.if-first-mark.true)

pub loop-linked-init : goal.loop-linked-init
loop-linked-init g t c = summed_none g.met.W.Weight.laws _ (parent_meant g.met.W.Weight.laws _ _ _ c.parents-parents.ensures.meant _ _) _ _ c.zero-sum.ensures

pub loop-linked-preserved : goal.loop-linked-preserved
loop-linked-preserved g t c = linked_more g.met.W.Weight.laws _ _ _ c.parents-parents.ensures.meant c.args.entry c.parents-parents.result.now c.parents-parents.ensures.each _ c.loop-linked.linked-index c.linked-item.result _ _ _ _
    (slice_get-get_or c.parents-parents.result.now c.loop-linked.linked-index c.linked-item.result c.loop-linked-test.true ∙ ap Some (sym c.linked-item.is)) c.combine-sum.ensures c.extend-product.ensures c.reading_of.ensures c.loop-linked.invariant

pub returns-then-leads : goal.returns-then-leads
returns-then-leads g t c = rw (c.one.ensures, c.in-Base.is) (base_leads g.met.W.Weight.laws _ _ _ c.parents-parents.ensures.meant _ _ (c.if-leads.ensures.0 refl))

pub returns-else-leads : goal.returns-else-leads
returns-else-leads g t c = rw (c.zero.ensures, c.in-Base.is) (base_stops g.met.W.Weight.laws _ _ _ c.parents-parents.ensures.meant _ _ (λ h. false≢true (c.if-leads.ensures.1 h)))

pub returns-in-None : goal.returns-in-None
returns-in-None g t c = rw c.zero-in-None.ensures (pushed_empty g.met.W.Weight.laws _ _ _ c.parents-parents.ensures.meant c.in-Pushed.node c.in-Pushed.mark _ _ c.in-Pushed.is (empty _ c.in-None.ensures.cases))

pub returns-after-loop-linked : goal.returns-after-loop-linked
returns-after-loop-linked g t c = rw (c.in-Some.ensures.cases.0, c.if-first-mark.false) (parent_all g.met.W.Weight.laws _ _ _ c.parents-parents.ensures.meant
    (decide_by g.W.Weight.domain g.W.PartialEq.eq g.met.W.Weight.same g.met.W.Eq.laws.refl) c.args.entry c.parents-parents.result.now c.parents-parents.ensures.each c.in-Pushed.node c.in-Pushed.mark _ c.loop-linked.linked-index _ c.in-Pushed.is c.loop-linked-test.false c.loop-linked.invariant)
