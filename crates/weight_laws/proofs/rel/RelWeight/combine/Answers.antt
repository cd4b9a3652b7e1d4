use Rattle.std.proofs.Common.{ap, arith, get_or}
use Rattle.std.specs.Int.RustNames.{bit_or}
use Rattle.std.proofs.lemmas.List.FromFn.{fill_by_all}
use Rattle.weight_laws.specs.RelLaws.{rel}
use Rattle.weight_laws.proofs.rel.RelWeight.combine.Goals as goal

pub returns : goal.returns
returns c = ap rel (fill_by_all (λ i. bit_or (get_or c.args.self.0 i 0) (get_or c.args.other.0 i 0)) c.loop-i.row-items 16 0 c.loop-i-test.array_long (λ k h. c.loop-i.invariant.done k (omega arith)))
