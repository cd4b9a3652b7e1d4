use Rattle.std.proofs.Common.{◌∙◌, sym, subst}
use Rattle.post_star.specs.Sweeps.{IsSweeping, used_scope}
use Rattle.post_star.proofs.Sweeping.{sweeping_first}
use Rattle.post_star.proofs.Scopes.{turn_less, no_items}
use Rattle.post_star.proofs.over_words.sum_up.Goals as goal

pub loop-item-init : goal.loop-item-init
loop-item-init g c = record { sweeping = c.in_ok-begin.ensures.sweeping; begun = c.in_ok-begin.ensures.begun }

pub go_on-requires : goal.go_on-requires
go_on-requires g c = record {
  sweeping = sweeping_first g.W.Weight.domain c.in-Some.ensures.items c.loop-item.invariant.sweeping;
  begun = c.loop-item.invariant.begun;
}

pub loop-item-preserved : goal.loop-item-preserved
loop-item-preserved g c = record { sweeping = c.in_ok-go_on.ensures.sweeping; begun = c.in_ok-go_on.ensures.begun }

pub loop-item-smaller : goal.loop-item-smaller
loop-item-smaller g c = turn_less g.W.Weight.domain (used_scope c.args.table.now c.args.node) c.loop-item.sums.table c.go_on.new.sums.table c.loop-item.sums.items.items c.pop_front.new.self.items c.go_on.new.sums.items.items c.in-Some.item c.in-Some.ensures.items c.in_ok-go_on.ensures.spent

pub returns : goal.returns
returns g c = record {
  sweeping = subst (λ xs. IsSweeping g.W.Weight.domain c.args.table.now c.args.node c.loop-item.sums.table xs) (no_items c.loop-item.sums.items.items (sym c.loop-item.sums.items.ok.0 ∙ c.in_default.ensures.cases.0)) c.loop-item.invariant.sweeping;
  begun = c.loop-item.invariant.begun;
}
