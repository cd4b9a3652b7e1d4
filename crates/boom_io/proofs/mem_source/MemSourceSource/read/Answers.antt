use Rattle.std.proofs.Common.{arith, ap, sym, ◌∙◌}
use Rattle.std.proofs.lemmas.List.{take_rest}
use Rattle.boom_io.specs.Memory.{Tape}
use Rattle.boom_io.proofs.Moves.{front_read, end_read}
use Rattle.boom_io.proofs.mem_source.MemSourceSource.read.Goals as goal

pub returns-clause-bytes : goal.returns-clause-bytes
returns-clause-bytes c =
    let rest = take_rest c.self.inside.bytes.items c.self.inside.at in
    let moved = rw (c.deref-2.ensures.value, rest) at c.copy_front-count.ensures.moved in
    let count = rw (c.deref-2.ensures.value, rest) at c.copy_front-count.ensures.count in (
      sym (ap (λ (t : Tape). t.left) c.self.view_is) ∙ front_read _ _ _ _ moved,
      λ z long. end_read c.self.inside.bytes.items c.copy_front-count.new.to c.self.inside.at _ _ _ count (omega arith) (omega arith) z,
    )
