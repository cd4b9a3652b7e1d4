use Rattle.std.proofs.Common.{◌≡◌, ◌++◌, ◌==◌, length}
use Rattle.std.specs.List.{slice_split}
use Rattle.cert_text.specs.Words.{texts}
use Rattle.cert_text.proofs.cuts.parts.Given as goal

abbrev pub invariant-loop-part : goal.invariant-loop-part
invariant-loop-part l = texts l.parts.items ++ slice_split (λ b. b == l.mark) l.rest ≡ slice_split (λ b. b == l.mark) l.text

abbrev pub decreases-loop-part : goal.decreases-loop-part
decreases-loop-part l = length l.rest
