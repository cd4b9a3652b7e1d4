use Rattle.std.proofs.Common.{◌∙◌, ◌+◌, ℕ, ap, inl, sym}
use Rattle.lists.proofs.Places.{slice_get-read}
use Rattle.cert_replay.specs.declared.error.ReplayError.TheVariants.{Rejected}
use Rattle.cert_replay.proofs.Replayed.{refused_all, refused_one, replayed_whole, replay_all, replay_next, replay_one, replay_refused, same_refusal}
use Rattle.cert_replay.proofs.replaying.judge_lines.Goals as goal

pub loop-index-preserved : goal.loop-index-preserved
loop-index-preserved c =
    let v = c.args.view.now in
    let l = c.loop-index in
    let line = c.index-lines-index.result in
    let there = slice_get-read c.args.lines.now l.index line c.loop-index-test.true c.index-lines-index.is in
    rw c.in_ok-push.ensures.items
    (replay_next v.linked.now v.target c.args.lines.now l.index l.given.items line c.in-Some.gives there (rw c.as_slice.ensures.value at c.in-Some.ensures) l.invariant)

pub returns-in_default-clause-only : goal.returns-in_default-clause-only
returns-in_default-clause-only c = λ other are.
    let v = c.args.view.now in
    let l = c.loop-index in
    let line = c.index-lines-index.result in
    let there = slice_get-read c.args.lines.now l.index line c.loop-index-test.true c.index-lines-index.is in
    absurd (refused_all v.linked.now v.target c.args.lines.now l.index l.given.items line there (rw c.as_slice.ensures.value at c.in_default.ensures) l.invariant other are)

pub returns-in_default-clause-rejected : goal.returns-in_default-clause-rejected
returns-in_default-clause-rejected c = λ k e.
    let v = c.args.view.now in
    let l = c.loop-index in
    let line = c.index-lines-index.result in
    let there = slice_get-read c.args.lines.now l.index line c.loop-index-test.true c.index-lines-index.is in (
      l.index,
      sym (same_refusal (l.index + 1) k e),
      replay_refused v.linked.now v.target c.args.lines.now l.index l.given.items line there (rw c.as_slice.ensures.value at c.in_default.ensures) l.invariant,
    )

pub returns-clause-ok : goal.returns-clause-ok
returns-clause-ok c =
    let v = c.args.view.now in
    replay_all v.linked.now v.target c.args.lines.now c.loop-index.index c.loop-index.given.items c.loop-index-test.false c.loop-index.invariant

pub returns-clause-only : goal.returns-clause-only
returns-clause-only c = λ other are.
    let v = c.args.view.now in
    replay_one v.linked.now v.target c.args.lines.now c.loop-index.index c.loop-index.given.items c.loop-index-test.false c.loop-index.invariant other are

pub returns-in_default-clause-first : goal.returns-in_default-clause-first
returns-in_default-clause-first c = λ k un.
    let v = c.args.view.now in
    let l = c.loop-index in
    let line = c.index-lines-index.result in
    let there = slice_get-read c.args.lines.now l.index line c.loop-index-test.true c.index-lines-index.is in
    let same = refused_one v.linked.now v.target c.args.lines.now l.index l.given.items line there (rw c.as_slice.ensures.value at c.in_default.ensures) l.invariant un.0 un.2 in
    inl (ap Rejected (ap (λ (i : ℕ). i + 1) same ∙ sym un.1))

pub returns-clause-first : goal.returns-clause-first
returns-clause-first c = λ k un.
    let v = c.args.view.now in
    replayed_whole v.linked.now v.target c.args.lines.now c.loop-index.index c.loop-index.given.items c.loop-index-test.false c.loop-index.invariant un.0 un.2
