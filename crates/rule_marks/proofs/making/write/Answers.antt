use Rattle.std.proofs.Common.{◌≡◌, ◌+◌, ◌++◌, ◌∷◌, [], false, refl, sym, ap, ◌∙◌, subst}
use Rattle.std.proofs.lemmas.Result.{on_ok_weaker}
use Rattle.auto_table.specs.declared.rule.Rule.{Rule}
use Rattle.auto_table.specs.declared.rule.Rule.TheVariants.{Push, Pop}
use Rattle.rule_marks.specs.Making.{IsWriting, splits_by, splitting_of}
use Rattle.rule_marks.proofs.Writing.{IsWhole, writes_pop, writes_push, writes_whole}
use Rattle.rule_marks.proofs.making.write.Goals as goal

pub returns-in-Flow : goal.returns-in-Flow
returns-in-Flow g c =
    on_ok_weaker c.put.result
    (λ is. λ rules was.
    let s = splitting_of (splits_by c.args.marks.now.are_split.now c.args.marks.now.common) c.args.marks.now.common c.args.marks.now.nodes c.args.marks.now.bases in
    writes_whole g.W.Weight.domain s rules c.args.rule.now c.args.rules.now.items _ c.args.entries.now c.args.exits.now
    (subst (λ (q : Rule g.row.W.Denot). IsWhole g.W.Weight.domain s q) (sym c.in-Flow.is) tt) is was)
    c.put.ensures

pub returns-then-enters : goal.returns-then-enters
returns-then-enters g c =
    on_ok_weaker c.put_both.result
    (λ adds. λ rules was.
    let d = g.W.Weight.domain in
    let s = splitting_of (splits_by c.args.marks.now.are_split.now c.args.marks.now.common) c.args.marks.now.common c.args.marks.now.nodes c.args.marks.now.bases in
    subst (λ (q : Rule g.row.W.Denot). IsWriting d s (rules ++ q ∷ []) c.put_both.new.rules.items c.put_both.new.flags c.args.exits.now) (sym c.in-Push.is)
    (writes_push d s rules c.in-Push.from c.in-Push.to c.in-Push.mark c.in-Push.weight (Push c.in-Push.from (s.entry c.in-Push.to) c.in-Push.mark c.in-Push.weight)
    c.push_common-common.result c.args.rules.now.items c.put_both.new.rules.items c.args.entries.now c.args.exits.now c.put_both.new.flags
    (sym c.splits-enters.ensures ∙ c.if-enters.true) refl c.push_common-common.ensures
    adds c.put_both.ensures.flags was))
    c.put_both.ensures.rules

pub returns-else-enters : goal.returns-else-enters
returns-else-enters g c =
    on_ok_weaker c.put-else-enters.result
    (λ is. λ rules was.
    let s = splitting_of (splits_by c.args.marks.now.are_split.now c.args.marks.now.common) c.args.marks.now.common c.args.marks.now.nodes c.args.marks.now.bases in
    let whole : s.is_split (s.room c.in-Push.to) c.in-Push.mark ≡ false = sym c.splits-enters.ensures ∙ c.if-enters.false in
    writes_whole g.W.Weight.domain s rules c.args.rule.now c.args.rules.now.items _ c.args.entries.now c.args.exits.now
    (subst (λ (q : Rule g.row.W.Denot). IsWhole g.W.Weight.domain s q) (sym c.in-Push.is) whole) is was)
    c.put-else-enters.ensures

pub returns-then-leaves : goal.returns-then-leaves
returns-then-leaves g c =
    on_ok_weaker c.put_both-then-leaves.result
    (λ adds. λ rules was.
    let d = g.W.Weight.domain in
    let s = splitting_of (splits_by c.args.marks.now.are_split.now c.args.marks.now.common) c.args.marks.now.common c.args.marks.now.nodes c.args.marks.now.bases in
    subst
    (λ (q : Rule g.row.W.Denot). IsWriting d s (rules ++ q ∷ []) c.put_both-then-leaves.new.rules.items c.args.entries.now c.put_both-then-leaves.new.flags)
    (sym c.in-Pop.is)
    (writes_pop d s rules c.in-Pop.from c.in-Pop.mark c.in-Pop.to c.in-Pop.weight (Pop (s.exit c.in-Pop.from) c.in-Pop.mark c.in-Pop.to c.in-Pop.weight)
    c.pop_common-common.result c.args.rules.now.items c.put_both-then-leaves.new.rules.items c.args.entries.now
    c.args.exits.now c.put_both-then-leaves.new.flags (sym c.splits-leaves.ensures ∙ c.if-leaves.true) refl
    c.pop_common-common.ensures adds c.put_both-then-leaves.ensures.flags was))
    c.put_both-then-leaves.ensures.rules

pub returns-else-leaves : goal.returns-else-leaves
returns-else-leaves g c =
    on_ok_weaker c.put-else-leaves.result
    (λ is. λ rules was.
    let s = splitting_of (splits_by c.args.marks.now.are_split.now c.args.marks.now.common) c.args.marks.now.common c.args.marks.now.nodes c.args.marks.now.bases in
    let whole : s.is_split (s.room c.in-Pop.from) c.in-Pop.mark ≡ false = sym c.splits-leaves.ensures ∙ c.if-leaves.false in
    writes_whole g.W.Weight.domain s rules c.args.rule.now c.args.rules.now.items _ c.args.entries.now c.args.exits.now
    (subst (λ (q : Rule g.row.W.Denot). IsWhole g.W.Weight.domain s q) (sym c.in-Pop.is) whole) is was)
    c.put-else-leaves.ensures
