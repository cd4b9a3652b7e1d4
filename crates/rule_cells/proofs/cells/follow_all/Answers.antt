use Rattle.std.proofs.Common.{◌≡◌, ◌+◌, ◌-◌, ℕ, length, arith, subst}
use Rattle.rule_cells.specs.Forests.{AreRooted}
use Rattle.rule_cells.proofs.cells.follow_all.Goals as goal

pub loop-done-init : goal.loop-done-init
loop-done-init g c = λ rules kept told are was.
    let all : length c.args.entries.now ≡ length c.args.entries.now - 0 = omega arith in
    subst (λ (n : ℕ). AreRooted g.W.Weight.domain rules kept c.args.entries.now n c.args.cells.now) all was

pub loop-done-preserved : goal.loop-done-preserved
loop-done-preserved g c = λ rules kept told are was.
    let entries = c.args.entries.now in
    let done = c.loop-done.done in
    let before : length entries - done ≡ length entries - 1 - done + 1 = omega arith in
    let after : length entries - 1 - done ≡ length entries - (done + 1) = omega arith in
    subst (λ (n : ℕ). AreRooted g.W.Weight.domain rules kept entries n c.follow.new.cells) after
    (c.follow.ensures rules kept told are
    (subst (λ (n : ℕ). AreRooted g.W.Weight.domain rules kept entries n c.loop-done.cells) before (c.loop-done.invariant rules kept told are was)))

pub returns : goal.returns
returns g c = λ rules kept told are was.
    let entries = c.args.entries.now in
    let none : length entries - c.loop-done.done ≡ 0 = omega arith in
    subst (λ (n : ℕ). AreRooted g.W.Weight.domain rules kept entries n c.loop-done.cells) none (c.loop-done.invariant rules kept told are was)
