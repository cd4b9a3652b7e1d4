use Rattle.std.proofs.Common.{◌++◌, ◌∷◌, [], codes, length}
use Rattle.std.specs.Fmt.{decimal}
use Rattle.boom_top.proofs.Batched.{concat_next}
use Rattle.boom_top.proofs.batches.joined.Goals as goal

pub loop-number-preserved : goal.loop-number-preserved
loop-number-preserved c =
    concat_next c.args.texts.now c.loop-number.number c.text.result.now ((codes "batch " ++ decimal (length c.args.texts.now)) ++ 10 ∷ []) c.loop-number.text.items
    c.extend_from_slice.new.self.items c.text.ensures c.loop-number.invariant c.in_ok-extend_from_slice.ensures.items
