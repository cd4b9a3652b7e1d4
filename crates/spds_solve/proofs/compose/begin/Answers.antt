use Rattle.std.proofs.Common.{◌≡◌, ℕ, List, Some, get_or, slice_get, subst, sym}
use Rattle.std.proofs.lemmas.Option.{slice_get-get_or}
use Rattle.lists.specs.Lists.{Has}
use Rattle.post_star.specs.declared.key.Key.TheVariants.{Node}
use Rattle.post_star.specs.Groups.{found_at}
use Rattle.spds_solve.specs.declared.met.Met.{Met}
use Rattle.spds_solve.specs.Composing.{AreFiled}
use Rattle.spds_solve.proofs.Composing.{composed_begun, joined_longer}
use Rattle.spds_solve.proofs.compose.begin.Goals as goal
use Rattle.spds_solve.proofs.compose.begin.Goals.{After-at}

module _ (c : After-at) where
  -- the meet that gives more
  abbrev met : Met
  met = get_or c.args.mets.now c.args.at c.index-as_slice-at.result

  there : slice_get c.args.mets.now c.args.at ≡ Some met
  there = slice_get-get_or c.args.mets.now c.args.at c.index-as_slice-at.result c.requires.there

  nexts_are : c.at.result.now ≡ found_at c.args.ways.now.by_object (Node met.base)
  nexts_are = rw c.as_slice.ensures.value at c.at.ensures

pub lead-requires : goal.lead-requires
lead-requires c =
    let at = (goal.at.lead-requires c).After-at in (
      c.args.ways.now.done,
      met at,
      there at,
      subst (AreFiled c.args.mets.now c.args.ways.now.done (met at).base) (sym (nexts_are at)) (c.requires.composed.filed (met at).base),
    )

pub returns-clause-composed : goal.returns-clause-composed
returns-clause-composed c =
    let at = (goal.at.returns-clause-composed c).After-at in
    composed_begun c.args.mets.now c.lead.new.mets (joined_longer c.args.mets.now c.in_ok-lead.ensures.joined) c.args.ways.now c.requires.composed c.args.at (met at)
    (there at) c.add.new.self (rw c.as_slice.ensures.value at c.in_ok-add.ensures.last)
    (λ next has. c.in_ok-lead.ensures.there next (subst (λ (xs : List ℕ). Has xs next) (sym (nexts_are at)) has))
