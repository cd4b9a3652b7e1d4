use Rattle.std.proofs.Common.{◌≡◌, ℕ, subst}
use Rattle.std.proofs.lemmas.Option.{slice_get-get_or}
use Rattle.lists.proofs.Grown.{has_longer, longer_adds}
use Rattle.lists.proofs.Places.{Has-adds_itself}
use Rattle.spds_rules.specs.declared.edge.Edge.{Edge}
use Rattle.spds_rules.specs.declared.edge.EdgeKind.TheVariants.{Load}
use Rattle.cert_work.proofs.Growing.{each_next}
use Rattle.cert_trace.specs.Ahead.{IsFound}
use Rattle.cert_trace.proofs.ahead.add_loads.Goals as goal
use Rattle.cert_trace.proofs.ahead.add_loads.Goals.{in-Load+in_ok-add, in_default}

pub loop-edge-preserved : goal.loop-edge-preserved
loop-edge-preserved c =
    let there = slice_get-get_or _ _ _ c.loop-edge-test.true in
    elim c.match-edge.branch [
      | in-Load+in_ok-add w ↦
          let keys = w.in_ok-add.ensures.keys in
          rw w.found-is
          (each_next (λ (e : Edge). (f : ℕ) → e.kind ≡ Load f → IsFound w.add.new.self.keys f e.from) c.args.edges.now c.loop-edge.edge-index _ there
          (λ e has f loads. has_longer _ _ (longer_adds _ _ _ keys) (record { field = f; node = e.from }) (c.loop-edge.invariant e has f loads))
          (λ f loads.
          let is = w.in-Load.is in
          let same : w.in-Load.field ≡ f = cc in subst (λ (k : ℕ). IsFound w.add.new.self.keys k _) same (Has-adds_itself _ _ _ keys)))
      | in_default w ↦
          rw w.found-is
          (each_next (λ (e : Edge). (f : ℕ) → e.kind ≡ Load f → IsFound c.loop-edge.found.keys f e.from) c.args.edges.now c.loop-edge.edge-index _ there c.loop-edge.invariant
          (λ f loads. absurd (w.in_default.not-Load f loads)))
    ]
