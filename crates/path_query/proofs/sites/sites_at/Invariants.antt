use Rattle.std.proofs.Common.{◌≡◌, Some, slice_get, take}
use Rattle.lists.specs.Lists.{Each}
use Rattle.path_query.proofs.sites.sites_at.Given as goal

-- those of the first numbers
abbrev pub invariant-loop-number : goal.invariant-loop-number
invariant-loop-number l = Each (λ k o. slice_get l.demand.sites k ≡ Some o) (take l.number-index l.numbers) l.sites.items
