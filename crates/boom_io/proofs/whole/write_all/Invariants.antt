use Rattle.std.proofs.Common.{◌≡◌, length, take, ◌-◌, ◌≤◌}
use Rattle.std.specs.Io.KnownBytes.{Appends}
use Rattle.boom_io.proofs.whole.write_all.Given as goal

abbrev pub invariant-loop-done : goal.invariant-loop-done
invariant-loop-done g l =
    let faults = g.K.Sink.faults in
    let written = g.K.Sink.written in
    record {
      within : l.done ≤ length l.bytes;
      appended : Appends (written l.fn.sink) (written l.sink) (take l.done l.bytes);
      no_fault : faults l.sink ≡ faults l.fn.sink;
    }

abbrev pub decreases-loop-done : goal.decreases-loop-done
decreases-loop-done g l = length l.bytes - l.done
