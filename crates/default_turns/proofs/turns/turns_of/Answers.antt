use Rattle.std.proofs.Common.{true≢false, sym, ◌∙◌}
use Rattle.default_turns.specs.declared.stays.Stay.{Stay}
use Rattle.default_turns.proofs.Begun.{furthest_next, told_all, told_next, told_none, told_same}
use Rattle.default_turns.proofs.turns.turns_of.Goals as goal
use Rattle.default_turns.proofs.turns.turns_of.Goals.{then-is_last_there+in_ok-add_turn, else-is_last_there}

abbrev none : Stay
none = record { row = 0; start = 0; end = 0 }

pub loop-at-init : goal.loop-at-init
loop-at-init c = rw c.new-turns.ensures.items (record {
  furthest = c.none-furthest.ensures;
  told = λ rows places key are. told_none rows places key c.args.stays.now are;
})

pub loop-at-preserved : goal.loop-at-preserved
loop-at-preserved c =
    let stays = c.args.stays.now in
    let at = c.loop-at.at in
    let h = c.loop-at-test.true in
    let furthest = furthest_next stays c.requires at none h c.with-furthest.result (c.with-furthest.ensures _ c.loop-at.invariant.furthest) in
    record {
      furthest = furthest;
      told = λ rows places key are. elim c.if-is_last_there.branch [
        | then-is_last_there+in_ok-add_turn w ↦ rw w.turns-is (told_next stays c.requires at none h rows places key are c.loop-at.turns.items (c.loop-at.invariant.told rows places key are)
            w.defaults.result _ (w.defaults.ensures _ furthest) w.in_ok-add_turn.ensures)
        | else-is_last_there w ↦ rw w.turns-is (told_same stays c.requires at none h rows places key are c.loop-at.turns.items (c.loop-at.invariant.told rows places key are)
            (λ last. true≢false (sym (c.is_last_there.ensures.1 last) ∙ w.if-is_last_there.false)))
      ];
    }

pub returns : goal.returns
returns c = λ rows places key are. told_all rows places key c.args.stays.now c.loop-at.at c.loop-at.turns.items c.loop-at-test.false (c.loop-at.invariant.told rows places key are)
