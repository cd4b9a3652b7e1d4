use Rattle.std.proofs.Common.{◌≡◌, take}
use Rattle.std.specs.List.{flat_map}
use Rattle.type_track.proofs.search.joined.Given as goal

-- those of the first lists
abbrev pub invariant-loop-list : goal.invariant-loop-list
invariant-loop-list l = l.findings.items ≡ flat_map (λ list. list.items) (take l.list-index l.lists)
