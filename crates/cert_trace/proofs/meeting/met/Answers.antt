use Rattle.std.proofs.Common.{refl}
use Rattle.cert_trace.proofs.meeting.met.Goals as goal

pub add-requires-clause-gives : goal.add-requires-clause-gives
add-requires-clause-gives c =
    let m = c.args.meeting.now in (
      record {
        object = m.object;
        base = m.base;
        store = m.store;
        under_one = c.requires.shared;
        as_base = c.requires.base;
        store_in = c.requires.store;
        has = c.requires.has;
      },
      refl,
    )
