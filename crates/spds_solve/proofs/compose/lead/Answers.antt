use Rattle.std.proofs.Common.{ℕ, List, subst, sym, inl, inr, arith}
use Rattle.std.proofs.lemmas.List.{take_all}
use Rattle.std.proofs.lemmas.Option.{slice_get-get_or}
use Rattle.lists.specs.Lists.{Has}
use Rattle.spds_solve.specs.Composing.{AreJoined, IsThere}
use Rattle.spds_solve.proofs.Composing.{joined_longer, joined_more, lead_ready, there_longer, there_since}
use Rattle.spds_solve.proofs.compose.lead.Goals as goal
use Rattle.call_side.proofs.Lists.{Has-take_more}

pub loop-next-init : goal.loop-next-init
loop-next-init c = record { joined = AreJoined.none; there = λ place has x y p q. cc has.1 }

pub join-requires : goal.join-requires
join-requires c =
    lead_ready c.args.mets.now c.loop-next.mets (joined_longer c.args.mets.now c.loop-next.invariant.joined) c.args.first c.requires.0 c.requires.1 c.requires.2
    c.args.nexts.now c.requires.3 c.loop-next.next-index _ (slice_get-get_or c.args.nexts.now c.loop-next.next-index 0 (omega arith)) c.loop-next.invariant.there

pub loop-next-preserved : goal.loop-next-preserved
loop-next-preserved c =
    let was = c.loop-next.invariant in
    let now = c.in_ok-join.ensures in
    let old = c.args.mets.now in
    let mid = c.loop-next.mets in
    let new = c.join.new.mets in
    record {
      joined = joined_more was.joined now.joined;
      there = λ place has. elim ((Has-take_more c.args.nexts.now c.loop-next.next-index 0 place (omega arith)).0 has) [
        | inl before ↦ there_longer old mid new (joined_longer mid now.joined) c.args.first place (was.there place before)
        | inr last ↦
            let here = there_since old mid new (joined_longer old was.joined) c.args.first _ now.there in
            subst (λ (n : ℕ). IsThere old new c.args.first n) (sym last) here
      ];
    }

pub returns-clause-there : goal.returns-clause-there
returns-clause-there c =
    let all = take_all c.loop-next.next-index c.args.nexts.now (omega arith) in
    λ place has. c.loop-next.invariant.there place (subst (λ (xs : List ℕ). Has xs place) (sym all) has)
