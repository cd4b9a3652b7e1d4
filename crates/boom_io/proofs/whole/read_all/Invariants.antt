use Rattle.std.proofs.Common.{◌≡◌, ◌-◌, ◌<◌, ◌≤◌, vec_len}
use Rattle.std.specs.Io.KnownBytes.{Consumes}
use Rattle.boom_io.proofs.whole.read_all.Given as goal

abbrev pub invariant-loop-piece : goal.invariant-loop-piece
invariant-loop-piece g l =
    let faults = g.S.Source.faults in
    let left = g.S.Source.left in
    record {
      some : 0 < vec_len l.piece;
      within : vec_len l.bytes ≤ l.most;
      consumed : Consumes (left l.fn.source) (left l.source) l.bytes.items;
      no_fault : faults l.source ≡ faults l.fn.source;
    }

abbrev pub decreases-loop-piece : goal.decreases-loop-piece
decreases-loop-piece g l = l.most - vec_len l.bytes
