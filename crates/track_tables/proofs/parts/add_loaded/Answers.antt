use Rattle.std.proofs.Common.{inl, inr, sym}
use Rattle.call_side.proofs.Arriving.{inserted}
use Rattle.track_tables.proofs.parts.add_loaded.Goals as goal

pub returns-in_ok-insert : goal.returns-in_ok-insert
returns-in_ok-insert c number =
    let in_it = inserted c.args.loaded.now.keys c.insert.new.self.keys c.args.edge.to c.in_ok-insert.ensures.keys number in (
      (λ has. elim (in_it.0 has) [ inl was ↦ inl was | inr same ↦ inr (c.is_loaded.ensures.0 c.if-is_loaded.true, sym same) ]),
      (λ h. in_it.1 (elim h [ inl was ↦ inl was | inr load ↦ inr (sym load.1) ])),
    )
