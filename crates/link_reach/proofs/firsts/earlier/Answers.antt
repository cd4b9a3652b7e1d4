use Rattle.std.proofs.Common.{arith, ◌≤◌}
use Rattle.link_reach.proofs.FirstFaults.{none_more, keeps_old, takes_new, before_old, before_none}
use Rattle.link_reach.proofs.firsts.earlier.Goals as goal

pub returns-in_default : goal.returns-in_default
returns-in_default c = λ w rows m is judged first. none_more w rows c.args.row m is c.args.first (rw c.in_default.is at judged) first

pub returns-in-Some-first : goal.returns-in-Some-first
returns-in-Some-first c = λ w rows m is judged first. keeps_old w rows c.args.row m is c.in-Some-first.old c.if-old-row.true (rw c.in-Some-first.is at first)

pub returns-in_default-first : goal.returns-in_default-first
returns-in_default-first c = λ w rows m is judged first.
    let not_before : c.args.row ≤ c.in-Some-first.old.number = omega (arith, c.if-old-row.false) in
    takes_new w rows c.args.row m is c.in-Some.fault (rw c.in-Some.is at judged) (before_old w rows c.args.row c.in-Some-first.old not_before (rw c.in-Some-first.is at first))

pub returns-in_default-first-2 : goal.returns-in_default-first-2
returns-in_default-first-2 c = λ w rows m is judged first. takes_new w rows c.args.row m is c.in-Some.fault (rw c.in-Some.is at judged) (before_none w rows c.args.row (rw c.in_default-first.is at first))
