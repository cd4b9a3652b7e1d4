use Rattle.std.proofs.lemmas.Option.{slice_get-get_or}
use Rattle.class_tree.proofs.Lowest.{all_defaults, first_one, nothing_more, one_again, two_defaults}
use Rattle.class_tree.proofs.tree.Tree.defaults.Goals as goal
use Rattle.class_tree.proofs.tree.Tree.defaults.Goals.{in-Some+in-Nothing, in-Some+in-One, in_default}

pub returns : goal.returns
returns c =
    all_defaults c.args.self.now c.args.class c.args.key c.reached-reached.result.now c.reached-reached.ensures c.loop-interface.interface-index c.loop-interface-test.false c.loop-interface.found c.loop-interface.invariant

pub returns-in_default-found : goal.returns-in_default-found
returns-in_default-found c =
    two_defaults c.args.self.now c.args.class c.args.key c.reached-reached.result.now c.loop-interface.interface-index _ c.default_from.result
    (slice_get-get_or c.reached-reached.result.now c.loop-interface.interface-index 0 c.loop-interface-test.true) c.default_from.ensures
    c.in-One.first c.in-Some.row c.in-Some.is c.if-first-row.false (rw c.in-One.is at c.loop-interface.invariant)

pub loop-interface-preserved : goal.loop-interface-preserved
loop-interface-preserved c =
    let there = slice_get-get_or c.reached-reached.result.now c.loop-interface.interface-index 0 c.loop-interface-test.true in
    elim c.match-default_from.branch [
      | in-Some+in-Nothing w ↦ rw w.found-is (first_one c.args.self.now c.args.class c.args.key c.reached-reached.result.now c.loop-interface.interface-index _ c.default_from.result
          there c.default_from.ensures w.in-Some.row w.in-Some.is (rw w.in-Nothing.is at c.loop-interface.invariant))
      | in-Some+in-One w ↦ rw w.found-is (one_again c.args.self.now c.args.class c.args.key c.reached-reached.result.now c.loop-interface.interface-index _ c.default_from.result
          there c.default_from.ensures w.in-One.first w.in-Some.row w.in-Some.is w.if-first-row.true (rw w.in-One.is at c.loop-interface.invariant))
      | in_default w ↦ rw w.found-is (nothing_more c.args.self.now c.args.class c.args.key c.reached-reached.result.now c.loop-interface.interface-index _ c.default_from.result
          there c.default_from.ensures w.in_default.is c.loop-interface.found c.loop-interface.invariant)
    ]
