use Rattle.std.proofs.Common.{◌<◌, ◌∙◌, List, ℕ, inl, inr, sym, subst, arith}
use Rattle.call_side.specs.Coded.{code, HasWord, node_count}
use Rattle.call_side.proofs.Coding.{has_within, shared_word, word_shared}
use Rattle.call_side.proofs.sharing.shared_by_works.Goals as goal

pub returns-then-n-ge-NODES-clause-none : goal.returns-then-n-ge-NODES-clause-none
returns-then-n-ge-NODES-clause-none c = λ word a b.
    let first : c.args.n < node_count = has_within c.args.first.now c.saturated-a.result.now c.saturated-a.ensures c.args.n word a in
    let second : c.args.m < node_count = has_within c.args.second.now c.saturated-b.result.now c.saturated-b.ensures c.args.m word b in
    elim c.then-n-ge-NODES.either [ inl x ↦ absurd (omega arith) | inr y ↦ absurd (omega arith) ]

pub returns-in_ok-decoded-in-Some-clause-first : goal.returns-in_ok-decoded-in-Some-clause-first
returns-in_ok-decoded-in-Some-clause-first c =
    let bases = c.args.bases.now in
    let split = c.split.result.now in
    let holds = rw (c.in-Some.is, c.split.ensures.last) at c.in_ok-found.ensures.first in
    let p = shared_word bases.steps bases.last split.steps c.split.ensures.coded c.args.first.now c.saturated-a.result.now c.saturated-a.ensures c.requires.first_steps c.requires.first_last
    c.args.n c.if-n-ge-NODES.false c.in-Some.word.items holds in
    subst (λ (word : List ℕ). HasWord c.args.first.now c.args.n word) (sym (c.in_ok-decoded-in-Some.ensures bases.steps p.0 (c.deref.ensures.value ∙ p.1))) p.2

pub returns-in_ok-decoded-in-Some-clause-second : goal.returns-in_ok-decoded-in-Some-clause-second
returns-in_ok-decoded-in-Some-clause-second c =
    let bases = c.args.bases.now in
    let split = c.split.result.now in
    let holds = rw (c.in-Some.is, c.split.ensures.last) at c.in_ok-found.ensures.second in
    let p = shared_word bases.steps bases.last split.steps c.split.ensures.coded c.args.second.now c.saturated-b.result.now c.saturated-b.ensures c.requires.second_steps c.requires.second_last
    c.args.m c.if-m-ge-NODES.false c.in-Some.word.items holds in
    subst (λ (word : List ℕ). HasWord c.args.second.now c.args.m word) (sym (c.in_ok-decoded-in-Some.ensures bases.steps p.0 (c.deref.ensures.value ∙ p.1))) p.2

pub returns-in-None-clause-none : goal.returns-in-None-clause-none
returns-in-None-clause-none c = λ word a b.
    let bases = c.args.bases.now in
    let split = c.split.result.now in
    let nothing = rw (c.in-None.is, c.split.ensures.last) at c.in_ok-found.ensures.none in
    nothing (code bases.steps word)
    (word_shared bases.steps bases.last split.steps c.split.ensures.coded c.args.first.now c.saturated-a.result.now c.saturated-a.ensures c.requires.first_steps c.requires.first_last c.args.n word a)
    (word_shared bases.steps bases.last split.steps c.split.ensures.coded c.args.second.now c.saturated-b.result.now c.saturated-b.ensures c.requires.second_steps c.requires.second_last c.args.m word b)
