use Rattle.std.proofs.Common.{◌≡◌, ℕ, ◌-◌, ◌<◌, ◌^◌, Some, slice_get}
use Rattle.lists.specs.Grown.{IsLonger}
use Rattle.cert_lines.specs.declared.keys.FieldAt.{FieldAt}
use Rattle.cert_trace.specs.Ahead.{IsSearched}
use Rattle.cert_trace.proofs.ahead.search.Given as goal

abbrev pub invariant-loop-at : goal.invariant-loop-at
invariant-loop-at l = record {
  longer : IsLonger l.fn.found.keys l.found.keys;
  searched : (i : ℕ) (at : FieldAt) → i < l.at → slice_get l.found.keys i ≡ Some at → IsSearched l.found.keys l.back l.args at;
}

abbrev pub decreases-loop-at : goal.decreases-loop-at
decreases-loop-at l = 2 ^ 32 - l.at
