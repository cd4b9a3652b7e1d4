use Rattle.std.proofs.Common.{◌↔◌, ◌≡◌, ◌≤◌, ℕ, List, ap, eqb, length, sym, subst, ◌∙◌, arith}
use Rattle.std.proofs.lemmas.Result.{IfOk-weaker}
use Rattle.lists.specs.Lists.{Has}
use Rattle.lists.specs.declared.groups.Keyed.{Keyed}
use Rattle.lists.specs.Groups.{items_with}
use Rattle.site_events.specs.Callers.{IsCaller}
use Rattle.site_events.proofs.Calling.{paired_all, paired_more, paired_none}
use Rattle.site_events.proofs.callers.all_callers.Goals as goal

pub loop-target-init : goal.loop-target-init
loop-target-init c = rw c.new-pairs.ensures.items (paired_none c.args.linked.now)

pub loop-target-preserved : goal.loop-target-preserved
loop-target-preserved c =
    let p = c.args.linked.now in
    let target = c.loop-target.target in
    let are = subst (λ (xs : List ℕ). (m : ℕ) → Has xs m ↔ IsCaller p target m) (sym c.keys.ensures.value) c.in_ok-methods.ensures in
    paired_more p target c.keys.result.now c.loop-target.pairs.items c.put_under.new.pairs.items are c.in_ok-put_under.ensures c.loop-target.invariant

pub returns : goal.returns
returns c =
    let p = c.args.linked.now in
    let past : length p.methods ≤ c.loop-target.target = omega arith in
    IfOk-weaker c.of.result _ _
    (λ found filed. paired_all p c.loop-target.target c.loop-target.pairs.items found past c.loop-target.invariant
    (λ target. filed target ∙ ap (λ (xs : List (Keyed ℕ ℕ)). items_with eqb xs target) c.deref.ensures.value))
    c.of.ensures
