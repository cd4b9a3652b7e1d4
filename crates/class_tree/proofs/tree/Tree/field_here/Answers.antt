use Rattle.std.proofs.Common.{None, get_or, subst, sym, inl, inr, ◌∙◌}
use Rattle.std.specs.List.{Contains, All}
use Rattle.std.proofs.lemmas.List.Elements.{Contains-get_or}
use Rattle.class_tree.specs.Indexed.{HasFieldNear, IsFirstNear}
use Rattle.class_rules.specs.Lookups.{FieldHere}
use Rattle.lists.proofs.Elements.{Contains-at}
use Rattle.class_rules.proofs.Parents.{interface_named}
use Rattle.class_tree.proofs.FirstInterfaces.{first_path, found_first, none_first}
use Rattle.class_tree.proofs.SoleFields.{sole_found}
use Rattle.class_tree.proofs.TreeFacts.{field_nowhere, field_from_interface, not_near, step-above}
use Rattle.class_tree.proofs.tree.Tree.field_here.Goals as goal

pub find-requires-clause-rising : goal.find-requires-clause-rising
find-requires-clause-rising c = let ix = rw c.self.view_is at c.self.invariant in ix.firsts.paths.rising c.args.fields.now.key

pub returns-in-Some-clause-here : goal.returns-in-Some-clause-here
returns-in-Some-clause-here c =
    let ix = rw c.self.view_is at c.self.invariant in
    c.loop-row.invariant.goes_on c.in-Some.row (found_first c.args.self.now _ ix.ranked _ ix.interfaces_len ix.interfaces_are c.args.fields.now.key (first_path c.args.self.now _ ix.ranked _ ix.interfaces_len ix.interfaces_are c.args.fields.now.key _ ix.firsts c.loop-row.at c.loop-row.invariant.within) c.in-Some.row (sym c.in-Some.ensures))

pub returns-in-Some-sole-clause-here : goal.returns-in-Some-sole-clause-here
returns-in-Some-sole-clause-here c =
    let ix = rw c.self.view_is at c.self.invariant in
    let sole = (c.sole.ensures c.in-Some-sole.owner).0 c.in-Some-sole.is in
    let near = (c.requires.fields.exact c.loop-row.at c.loop-row.invariant.within).0 (inr (c.in-Some-sole.owner, sole.listed, sole.held)) in
    let found = sole_found c.args.self.now _ ix.ranked c.loop-row.at c.args.fields.now.key c.in-Some-sole.owner near (c.requires.fields.sole c.loop-row.at c.in-Some-sole.owner c.loop-row.invariant.within sole) in
    subst (FieldHere c.args.self.now c.args.fields.now.key c.args.class) (sym (c.get.ensures ∙ ix.fields c.in-Some-sole.owner c.args.fields.now.key ∙ found.1)) (c.loop-row.invariant.goes_on found.0 found.2)

pub returns-in-Some-sole-clause-near : goal.returns-in-Some-sole-clause-near
returns-in-Some-sole-clause-near c =
    let ix = rw c.self.view_is at c.self.invariant in
    let sole = (c.sole.ensures c.in-Some-sole.owner).0 c.in-Some-sole.is in
    let near = (c.requires.fields.exact c.loop-row.at c.loop-row.invariant.within).0 (inr (c.in-Some-sole.owner, sole.listed, sole.held)) in
    let found = sole_found c.args.self.now _ ix.ranked c.loop-row.at c.args.fields.now.key c.in-Some-sole.owner near (c.requires.fields.sole c.loop-row.at c.in-Some-sole.owner c.loop-row.invariant.within sole) in
    rw (c.get.ensures ∙ ix.fields c.in-Some-sole.owner c.args.fields.now.key ∙ found.1) cc

pub first_near-requires-clause-classes : goal.first_near-requires-clause-classes
first_near-requires-clause-classes c = λ k d h.
    let ix = rw c.self.view_is at c.self.invariant in
    let m = Contains-get_or c.get-in-loop-row.result.now k d h in
    step-above _ ix.hierarchy c.loop-row.at _ (inr (interface_named c.args.self.now.implements c.loop-row.at _ (subst (λ xs. Contains xs (get_or c.get-in-loop-row.result.now k d)) (c.get-in-loop-row.ensures ∙ ix.interfaces_are c.loop-row.at) m)))

pub loop-row-smaller : goal.loop-row-smaller
loop-row-smaller c =
    let ix = rw c.self.view_is at c.self.invariant in
    let first = subst (λ xs. IsFirstNear c.args.self.now xs c.args.fields.now.key c.in-Some-first_near.interface) (c.get-in-loop-row.ensures ∙ ix.interfaces_are c.loop-row.at) c.in-Some-first_near.ensures.some in
    ix.ranked.falls c.loop-row.at c.in-Some-first_near.interface (inr (interface_named c.args.self.now.implements c.loop-row.at _ (Contains-at _ first.index _ first.there)))

pub loop-row-preserved : goal.loop-row-preserved
loop-row-preserved c =
    let ix = rw c.self.view_is at c.self.invariant in
    let missing = none_first c.args.self.now _ ix.ranked _ ix.interfaces_len ix.interfaces_are c.args.fields.now.key (first_path c.args.self.now _ ix.ranked _ ix.interfaces_len ix.interfaces_are c.args.fields.now.key _ ix.firsts c.loop-row.at c.loop-row.invariant.within) (sym c.in_default.ensures) in
    let first = subst (λ xs. IsFirstNear c.args.self.now xs c.args.fields.now.key c.in-Some-first_near.interface) (c.get-in-loop-row.ensures ∙ ix.interfaces_are c.loop-row.at) c.in-Some-first_near.ensures.some in
    record {
      within = step-above _ ix.hierarchy c.loop-row.at _ (inr (interface_named c.args.self.now.implements c.loop-row.at _ (Contains-at _ first.index _ first.there)));
      goes_on = λ r here. c.loop-row.invariant.goes_on r (field_from_interface _ _ ix.ranked c.loop-row.at c.args.fields.now.key c.in-Some-first_near.interface first.index r missing first.there first.first here);
      near = inr first.near;
    }

pub returns-in-None-clause-here : goal.returns-in-None-clause-here
returns-in-None-clause-here c =
    let ix = rw c.self.view_is at c.self.invariant in
    let missing = none_first c.args.self.now _ ix.ranked _ ix.interfaces_len ix.interfaces_are c.args.fields.now.key (first_path c.args.self.now _ ix.ranked _ ix.interfaces_len ix.interfaces_are c.args.fields.now.key _ ix.firsts c.loop-row.at c.loop-row.invariant.within) (sym c.in_default.ensures) in
    let others = subst (All (λ i. HasFieldNear c.args.self.now i c.args.fields.now.key → ⊥)) (c.get-in-loop-row.ensures ∙ ix.interfaces_are c.loop-row.at) c.in-None.ensures.none in
    let none = not_near _ _ ix.ranked c.loop-row.at c.args.fields.now.key missing others in
    elim c.loop-row.invariant.near [
      | inl first ↦ subst (λ k. FieldHere c.args.self.now c.args.fields.now.key k None) first (field_nowhere _ _ ix.ranked c.loop-row.at c.args.fields.now.key none)
      | inr near ↦ absurd (none near)
    ]

pub returns-in-None-clause-near : goal.returns-in-None-clause-near
returns-in-None-clause-near c =
    let ix = rw c.self.view_is at c.self.invariant in
    let missing = none_first c.args.self.now _ ix.ranked _ ix.interfaces_len ix.interfaces_are c.args.fields.now.key (first_path c.args.self.now _ ix.ranked _ ix.interfaces_len ix.interfaces_are c.args.fields.now.key _ ix.firsts c.loop-row.at c.loop-row.invariant.within) (sym c.in_default.ensures) in
    let others = subst (All (λ i. HasFieldNear c.args.self.now i c.args.fields.now.key → ⊥)) (c.get-in-loop-row.ensures ∙ ix.interfaces_are c.loop-row.at) c.in-None.ensures.none in
    let none = not_near _ _ ix.ranked c.loop-row.at c.args.fields.now.key missing others in
    elim c.loop-row.invariant.near [
      | inl first ↦ subst (λ k. HasFieldNear c.args.self.now k c.args.fields.now.key → ⊥) first none
      | inr near ↦ absurd (none near)
    ]
