use Rattle.std.proofs.Common.{ℕ, List, subst, sym, inl, inr, arith}
use Rattle.std.proofs.lemmas.List.{take_all}
use Rattle.lists.specs.Lists.{Has}
use Rattle.spds_solve.specs.Composing.{AreJoined, IsThere}
use Rattle.spds_solve.proofs.Composing.{joined_longer, joined_more, ready_longer, there_longer, there_since}
use Rattle.spds_solve.proofs.compose.follow.Goals as goal
use Rattle.call_side.proofs.Lists.{Has-take_more, has-read}

pub loop-first-init : goal.loop-first-init
loop-first-init c = record { joined = AreJoined.none; there = λ place has x y p q. cc has.1 }

pub join-requires : goal.join-requires
join-requires c =
    ready_longer c.args.mets.now c.loop-first.mets (joined_longer c.args.mets.now c.loop-first.invariant.joined) _ c.args.next
    (c.requires _ (has-read c.args.firsts.now c.loop-first.first-index _ c.loop-first-test.true))

pub loop-first-preserved : goal.loop-first-preserved
loop-first-preserved c =
    let was = c.loop-first.invariant in
    let now = c.in_ok-join.ensures in
    let old = c.args.mets.now in
    let mid = c.loop-first.mets in
    let new = c.join.new.mets in
    record {
      joined = joined_more was.joined now.joined;
      there = λ place has. elim ((Has-take_more c.args.firsts.now c.loop-first.first-index 0 place (omega arith)).0 has) [
        | inl before ↦ there_longer old mid new (joined_longer mid now.joined) place c.args.next (was.there place before)
        | inr last ↦
            let here = there_since old mid new (joined_longer old was.joined) _ c.args.next now.there in
            subst (λ (n : ℕ). IsThere old new n c.args.next) (sym last) here
      ];
    }

pub returns-clause-there : goal.returns-clause-there
returns-clause-there c =
    let all = take_all c.loop-first.first-index c.args.firsts.now (omega arith) in
    λ place has. c.loop-first.invariant.there place (subst (λ (xs : List ℕ). Has xs place) (sym all) has)
