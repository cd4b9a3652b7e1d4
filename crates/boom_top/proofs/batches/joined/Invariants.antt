use Rattle.std.proofs.Common.{◌≡◌, ◌++◌, [], ◌∷◌, codes, length, take}
use Rattle.std.specs.Fmt.{decimal}
use Rattle.std.specs.List.{concat}
use Rattle.boom_top.proofs.batches.joined.Given as goal

abbrev pub invariant-loop-number : goal.invariant-loop-number
invariant-loop-number l = l.text.items ≡ ((codes "batch " ++ decimal (length l.texts)) ++ 10 ∷ []) ++ concat (take l.number l.texts)
