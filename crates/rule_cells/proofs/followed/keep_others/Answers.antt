use Rattle.std.proofs.Common.{List, Some, ap, sym, ◌∙◌, subst}
use Rattle.std.proofs.lemmas.List.{take_all}
use Rattle.std.proofs.lemmas.Option.{slice_get-get_or}
use Rattle.auto_table.specs.declared.rule.Rule.{Rule}
use Rattle.rule_cells.specs.Followed.{AreAdded}
use Rattle.rule_cells.proofs.Following.{added_more, added_none}
use Rattle.rule_cells.proofs.followed.keep_others.Goals as goal

pub loop-i-init : goal.loop-i-init
loop-i-init g c rules kept sights = added_none g.W.Weight.domain rules c.args.few.now.items

pub keep_other-requires : goal.keep_other-requires
keep_other-requires g c =
    let more = c.args.more.now in
    let r = c.index-more-i.result in
    record { one = c.requires.ones r (c.loop-i.i, slice_get-get_or more c.loop-i.i r c.loop-i-test.true ∙ ap Some (sym c.index-more-i.is)) }

pub loop-i-preserved : goal.loop-i-preserved
loop-i-preserved g c rules kept sights =
    added_more g.W.Weight.domain rules c.args.few.now.items c.loop-i.few.items c.keep_other.new.few.items c.args.more.now c.loop-i.i c.index-more-i.result c.loop-i-test.true
    c.index-more-i.is (c.loop-i.invariant rules kept sights) (c.in_ok-keep_other.ensures rules kept sights)

pub returns : goal.returns
returns g c rules kept sights = subst (λ (rs : List (Rule g.row.W.Denot)). AreAdded g.W.Weight.domain rules c.args.few.now.items c.loop-i.few.items rs)
    (take_all c.loop-i.i c.args.more.now c.loop-i-test.false) (c.loop-i.invariant rules kept sights)
