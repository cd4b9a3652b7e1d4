use Rattle.std.proofs.Common.{length, ◌∙◌, List, inl, inr, subst, sym}
use Rattle.std.proofs.lemmas.List.{nil_from_length}
use borrow.Author.Tests.{eqb-true}
use Rattle.auto_table.specs.declared.rule.Rule.{Rule}
use Rattle.lists.specs.Lists.{Has}
use Rattle.rule_cells.specs.Followed.{AreAdded, AreSights}
use Rattle.rule_cells.specs.Made.{head_at, offset_at}
use Rattle.rule_cells.proofs.Following.{thinned_by, thinned_none}
use Rattle.rule_cells.proofs.followed.thinned.Goals as goal

pub returns-then-is_empty : goal.returns-then-is_empty
returns-then-is_empty g c =
    let slice = c.as_slice.result.now in
    let stay = c.in_ok-stay.field-0.stay.items in
    let over = c.in_ok-stay.field-0.over.items in
    thinned_none g.W.Weight.domain c.args.rules.now stay over c.in_ok-stay.ensures
    (sym c.as_slice.ensures.value ∙ nil_from_length slice (eqb-true (length slice) 0 (sym c.is_empty.ensures ∙ c.if-is_empty.true)))

pub sights-requires : goal.sights-requires
sights-requires g c = record {
  ones = λ r has. c.requires.ones r ((c.in_ok-stay.ensures r).0 (inl (subst (λ (rs : List (Rule g.row.W.Denot)). Has rs r) c.deref.ensures.value has)));
}

pub keep_others-requires : goal.keep_others-requires
keep_others-requires g c = record {
  ones = λ r has. c.requires.ones r ((c.in_ok-stay.ensures r).0 (inr (subst (λ (rs : List (Rule g.row.W.Denot)). Has rs r) c.deref-4.ensures.value has)));
}

pub returns : goal.returns
returns g c =
    let d = g.W.Weight.domain in
    let stay = c.in_ok-stay.field-0.stay.items in
    let over = c.in_ok-stay.field-0.over.items in
    let few = c.keep_others.new.few.items in
    let seen = c.in_ok-seen.seen in
    let sees = subst (λ (rs : List (Rule g.row.W.Denot)). AreSights d rs c.args.kept.now seen.shapes.keys (head_at d seen.cells.items) (offset_at d seen.cells.items))
    c.deref.ensures.value c.in_ok-seen.ensures in
    let added = c.in_ok-keep_others.ensures stay c.args.kept.now (rw c.deref-3.ensures.value sees) in
    thinned_by d c.args.rules.now stay over few c.in_ok-stay.ensures (subst (λ (rs : List (Rule g.row.W.Denot)). AreAdded d stay stay few rs) c.deref-4.ensures.value added)
