-- Which marks are worth splitting.
use Rattle.std.specs.Prelude.{ℕ, Bool, ◌&&◌, List, eqb, leb, length, map}
use Rattle.std.specs.List.{list_any}
use Rattle.lists.specs.declared.groups.Keyed.{Keyed}
use Rattle.lists.specs.Groups.{items_with}
use Rattle.post_star.specs.declared.bases.BaseStep.{BaseStep}

-- a step's mark, by the base from which it leads
abbrev pub keyed_by_base : BaseStep → Keyed ℕ ℕ
keyed_by_base s = record { key = s.base; item = s.mark }

-- the marks of the steps from a base: of the calls that enter it
abbrev pub entering : List BaseStep → ℕ → List ℕ
entering steps base = items_with eqb (map keyed_by_base steps) base

-- twelve calls or more enter the base of the step, and two or more the one below, from which its call leads
abbrev pub is_crowded : List BaseStep → BaseStep → Bool
is_crowded steps s = leb 12 (length (entering steps s.base)) && leb 2 (length (entering steps s.below))

-- so it is with a step by the mark
abbrev pub crowds : List BaseStep → ℕ → BaseStep → Bool
crowds steps mark s = eqb s.mark mark && is_crowded steps s

abbrev pub crowded : List BaseStep → ℕ → Bool
crowded steps mark = list_any (crowds steps mark) steps
