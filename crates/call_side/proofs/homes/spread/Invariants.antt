use Rattle.std.proofs.Common.{◌-◌, ◌^◌, ℕ, List}
use Rattle.post_star.specs.declared.bases.BaseStep.{BaseStep}
use Rattle.call_side.specs.Indexed.{AreHomes, AreSpread, IsFiledBy, below_key}
use Rattle.call_side.specs.Trails.{AreKept}
use Rattle.call_side.proofs.homes.spread.Given as goal

abbrev pub invariant-loop-base : goal.invariant-loop-base
invariant-loop-base l = record {
  kept : AreKept l.initial.homes.bases.keys l.homes.bases.keys;
  spread : (all : List BaseStep) → IsFiledBy below_key all l.by_below → AreSpread all l.number l.homes.bases.keys;
  homes : (all : List BaseStep) (last : ℕ) → IsFiledBy below_key all l.by_below
      → AreHomes all last l.initial.homes.bases.keys l.initial.homes.origins.items → AreHomes all last l.homes.bases.keys l.homes.origins.items;
}

abbrev pub decreases-loop-base : goal.decreases-loop-base
decreases-loop-base l = 2 ^ 63 - l.number
