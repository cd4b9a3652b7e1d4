use Rattle.std.proofs.Common.{◌≡◌, ◌+◌, ◌-◌, refl, inl, inr, arith}
use Rattle.spds_nodes.proofs.Filed.{IsFiled-none, level_pushed, levels_end}
use Rattle.spds_nodes.proofs.stores.push_levels.Goals as goal

pub loop-inner-init : goal.loop-inner-init
loop-inner-init c = record {
  filed = IsFiled-none c.args.place _ _ (λ s over. let level = over.2 in omega (arith, over.1, level.1));
  within = inr refl;
}

pub loop-inner-preserved : goal.loop-inner-preserved
loop-inner-preserved c =
    let inner = c.loop-inner.inner in
    let one : inner ≡ (inner - 1) + 1 = omega arith in
    record {
      filed = level_pushed c.args.place _ _ _ inner (inner - 1) one c.loop-inner.invariant.filed (rw c.level_var.ensures at c.in_ok-push.ensures.items);
      within = inl (omega arith);
    }

pub returns : goal.returns
returns c = levels_end c.args.place _ _ c.loop-inner.inner c.args.levels (omega arith) c.loop-inner.invariant.within c.loop-inner.invariant.filed
