use Rattle.std.proofs.Common.{◌≡◌, ◌+◌, ℕ, List, get_or, take, subst, arith}
use Rattle.std.proofs.lemmas.List.{take_all}
use Rattle.lists.specs.Lists.{Has}
use Rattle.spds_solve.specs.Known.{AreSeen, IsPairOf, met_at}
use Rattle.spds_solve.proofs.Noting.{pairs_next, pairs_none, seen_both, seen_none}
use Rattle.spds_solve.proofs.known.pair_with.Goals as goal

pub loop-other-init : goal.loop-other-init
loop-other-init c = seen_none c.args.mets.now (IsPairOf c.args.end c.args.post (Has (take 0 c.args.others.now))) c.args.pending.now.keys (pairs_none c.args.end c.args.post)

pub loop-other-preserved : goal.loop-other-preserved
loop-other-preserved c =
    let at = c.loop-other.other-index in
    let end = c.args.end in
    let post = c.args.post in
    seen_both c.args.mets.now (IsPairOf end post (Has (take at c.args.others.now))) (λ m. m ≡ met_at end post (get_or c.args.others.now at _))
    (IsPairOf end post (Has (take (at + 1) c.args.others.now))) c.args.pending.now.keys c.loop-other.pending.keys c.put.new.pending.keys c.loop-other.invariant
    (rw c.met_of.ensures at c.in_ok-put.ensures) (pairs_next end post c.args.others.now at _ (omega arith))

pub returns : goal.returns
returns c =
    subst (λ (xs : List ℕ). AreSeen c.args.mets.now (IsPairOf c.args.end c.args.post (Has xs)) c.args.pending.now.keys c.loop-other.pending.keys)
    (take_all c.loop-other.other-index c.args.others.now (omega arith)) c.loop-other.invariant
