use Rattle.std.proofs.lemmas.Result.{IfOk-weaker}
use Rattle.call_side.proofs.AtNode.{IfSome-weaker, if_none_weaker}
use Rattle.call_side.proofs.Spelled.{Holds-spelled, SpellsFrom-holds}
use Rattle.call_side.proofs.common.shared_at.Goals as goal

pub returns-clause-first : goal.returns-clause-first
returns-clause-first c =
    let steps = c.args.bases.now.steps in
    let last = c.args.bases.now.last in
    let firsts = c.in_ok-firsts.firsts.items in
    IfOk-weaker c.shared_from.result _ _ (λ r. IfSome-weaker r _ _ (λ word. Holds-spelled steps last c.args.a.now c.args.n firsts word.items c.in_ok-firsts.ensures))
    (rw c.deref.ensures.value at c.shared_from.ensures.first)

pub returns-clause-second : goal.returns-clause-second
returns-clause-second c =
    let steps = c.args.bases.now.steps in
    let last = c.args.bases.now.last in
    let seconds = c.in_ok-seconds.seconds.items in
    IfOk-weaker c.shared_from.result _ _ (λ r. IfSome-weaker r _ _ (λ word. Holds-spelled steps last c.args.b.now c.args.m seconds word.items c.in_ok-seconds.ensures))
    (rw c.deref-2.ensures.value at c.shared_from.ensures.second)

pub returns-clause-none : goal.returns-clause-none
returns-clause-none c =
    let steps = c.args.bases.now.steps in
    let last = c.args.bases.now.last in
    let firsts = c.in_ok-firsts.firsts.items in
    let seconds = c.in_ok-seconds.seconds.items in
    IfOk-weaker c.shared_from.result _ _ (λ r. if_none_weaker r (λ none word first second.
    none word (SpellsFrom-holds steps last c.args.a.now c.args.n firsts word c.in_ok-firsts.ensures first) (SpellsFrom-holds steps last c.args.b.now c.args.m seconds word c.in_ok-seconds.ensures second)))
    (rw (c.deref.ensures.value, c.deref-2.ensures.value) at c.shared_from.ensures.none)
