use Rattle.std.proofs.Common.{◌≡◌, Some, slice_get, take}
use Rattle.lists.specs.Lists.{Each}
use Rattle.link_codes.proofs.calls.numbers.Given as goal

abbrev pub invariant-loop-row : goal.invariant-loop-row
invariant-loop-row l = Each (λ row n. slice_get l.numbering n ≡ Some row) (take l.row-index l.rows) l.numbers.items
