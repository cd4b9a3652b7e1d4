use Rattle.std.proofs.Common.{sym, ◌∙◌}
use Rattle.post_star.specs.Measures.{scope_of}
use Rattle.post_star.proofs.Loops.{settling_first, settled}
use Rattle.post_star.proofs.Scopes.{scope_is, scope_within, within_first, turn_less, no_items}
use Rattle.post_star.specs.Systems.{rules_of}
use Rattle.post_star.proofs.rise.Rising.run.Goals as goal

pub loop-item-init : goal.loop-item-init
loop-item-init g c = record { settling = c.requires.settling; within = scope_within (rules_of c.args.system.now) c.args.system.now.steps.now c.args.self.now.table c.args.self.now.items.items g.W.Weight.domain }

pub turn-requires-clause-settling : goal.turn-requires-clause-settling
turn-requires-clause-settling g c = settling_first g.met.W.Weight.laws _ c.requires.told c.in-Some.ensures.items c.loop-item.invariant.settling

pub loop-item-preserved : goal.loop-item-preserved
loop-item-preserved g c = record {
  settling = c.in_ok-turn.ensures.settling;
  within = (c.in_ok-turn.ensures.spent (scope_of (rules_of c.args.system.now) c.args.system.now.steps.now c.args.self.now.table c.args.self.now.items.items) (scope_is (rules_of c.args.system.now) c.args.system.now.steps.now c.args.self.now.table c.args.self.now.items.items) (within_first g.W.Weight.domain _ _ c.loop-item.self.items.items c.pop_front.new.self.items c.in-Some.item c.in-Some.ensures.items c.loop-item.invariant.within)).0;
}

pub loop-item-smaller : goal.loop-item-smaller
loop-item-smaller g c = turn_less g.W.Weight.domain (scope_of (rules_of c.args.system.now) c.args.system.now.steps.now c.args.self.now.table c.args.self.now.items.items) c.loop-item.self.table c.turn.new.self.table c.loop-item.self.items.items c.pop_front.new.self.items c.turn.new.self.items.items c.in-Some.item c.in-Some.ensures.items
    (c.in_ok-turn.ensures.spent (scope_of (rules_of c.args.system.now) c.args.system.now.steps.now c.args.self.now.table c.args.self.now.items.items) (scope_is (rules_of c.args.system.now) c.args.system.now.steps.now c.args.self.now.table c.args.self.now.items.items) (within_first g.W.Weight.domain _ _ c.loop-item.self.items.items c.pop_front.new.self.items c.in-Some.item c.in-Some.ensures.items c.loop-item.invariant.within)).1

pub returns : goal.returns
returns g c = record {
  sound = c.loop-item.invariant.settling.sound;
  closed = settled g.met.W.Weight.laws _ c.requires.told (no_items c.loop-item.self.items.items (sym c.loop-item.self.items.ok.0 ∙ c.in_default.ensures.cases.0)) c.loop-item.invariant.settling;
}
