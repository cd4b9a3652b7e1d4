use Rattle.std.proofs.Common.{◌∷◌, ◌++◌, [], List, Some, length, take, ap, ◌∙◌, sym, subst}
use Rattle.std.proofs.lemmas.List.{take_all, take_more}
use Rattle.std.proofs.lemmas.Option.{slice_get-get_or}
use Rattle.auto_table.specs.declared.rule.Rule.{Rule}
use Rattle.rule_marks.specs.Sharing.{IsJoining, leader_in}
use Rattle.rule_marks.proofs.Gathering.{joining_none}
use Rattle.rule_marks.proofs.sharing.join_all.Goals as goal

pub loop-i-init : goal.loop-i-init
loop-i-init g c =
    joining_none g.W.Weight.domain (length c.args.leaders.now) (leader_in c.args.leaders.now) c.args.made.now.items c.args.flags.now c.requires.flags

pub join_one-requires-clause-below : goal.join_one-requires-clause-below
join_one-requires-clause-below g c =
    c.requires.below c.index-shared-i.result
    (c.loop-i.i, slice_get-get_or c.args.shared.now c.loop-i.i c.index-shared-i.result c.loop-i-test.true ∙ ap Some (sym c.index-shared-i.is))

pub join_one-requires-clause-leaders : goal.join_one-requires-clause-leaders
join_one-requires-clause-leaders g c =
    c.requires.leaders c.index-shared-i.result
    (c.loop-i.i, slice_get-get_or c.args.shared.now c.loop-i.i c.index-shared-i.result c.loop-i-test.true ∙ ap Some (sym c.index-shared-i.is))

pub loop-i-preserved : goal.loop-i-preserved
loop-i-preserved g c =
    subst
    (λ (rs : List (Rule g.row.W.Denot)). IsJoining g.W.Weight.domain (length c.args.leaders.now) (leader_in c.args.leaders.now) c.args.made.now.items rs
    c.join_one.new.made.items c.join_one.new.flags)
    (ap (λ y. take c.loop-i.i c.args.shared.now ++ y ∷ []) c.index-shared-i.is ∙ sym (take_more c.args.shared.now c.loop-i.i c.index-shared-i.result c.loop-i-test.true))
    (c.in_ok-join_one.ensures _ _ c.loop-i.invariant)

pub returns : goal.returns
returns g c = λ r.
    let all = subst
    (λ (rs : List (Rule g.row.W.Denot)). IsJoining g.W.Weight.domain (length c.args.leaders.now) (leader_in c.args.leaders.now) c.args.made.now.items rs
    c.loop-i.made.items c.loop-i.flags)
    (take_all c.loop-i.i c.args.shared.now c.loop-i-test.false) c.loop-i.invariant in
    all.joined_are r
