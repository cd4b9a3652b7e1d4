use Rattle.std.proofs.Common.{◌≡◌, ℕ, List, Some, get_or, slice_get, subst, sym}
use Rattle.std.proofs.lemmas.Option.{slice_get-get_or}
use Rattle.lists.specs.Lists.{Has}
use Rattle.post_star.specs.declared.key.Key.TheVariants.{Node}
use Rattle.post_star.specs.Groups.{found_at}
use Rattle.spds_solve.specs.declared.met.Met.{Met}
use Rattle.spds_solve.proofs.Composing.{composed_passed, follow_ready, joined_longer}
use Rattle.spds_solve.proofs.compose.pass.Goals as goal
use Rattle.spds_solve.proofs.compose.pass.Goals.{After-at}

module _ (c : After-at) where
  -- the meet that is gone through
  abbrev met : Met
  met = get_or c.args.mets.now c.args.ways.now.done c.index-as_slice-at.result

  there : slice_get c.args.mets.now c.args.ways.now.done ≡ Some met
  there = slice_get-get_or c.args.mets.now c.args.ways.now.done c.index-as_slice-at.result c.requires.more

  firsts_are : c.at.result.now ≡ found_at c.args.ways.now.by_base (Node met.object)
  firsts_are = rw c.as_slice.ensures.value at c.at.ensures

pub follow-requires : goal.follow-requires
follow-requires c first has =
    let at = (goal.at.follow-requires c).After-at in
    follow_ready c.args.mets.now c.args.ways.now c.requires.composed (met at) (there at) first (subst (λ (xs : List ℕ). Has xs first) (firsts_are at) has)

pub returns-clause-composed : goal.returns-clause-composed
returns-clause-composed c =
    let at = (goal.at.returns-clause-composed c).After-at in
    composed_passed c.args.mets.now c.follow.new.mets (joined_longer c.args.mets.now c.in_ok-follow.ensures.joined) c.args.ways.now c.requires.composed (met at) (there at)
    c.add.new.self (rw c.as_slice.ensures.value at c.in_ok-add.ensures.last)
    (λ first has. c.in_ok-follow.ensures.there first (subst (λ (xs : List ℕ). Has xs first) (sym (firsts_are at)) has))
