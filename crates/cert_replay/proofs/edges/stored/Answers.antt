use Rattle.std.proofs.Common.{get_or}
use Rattle.std.proofs.lemmas.Option.{slice_get-get_or}
use Rattle.cert_replay.proofs.Steps.{no_store, stored_next}
use Rattle.cert_replay.proofs.edges.stored.Goals as goal

pub loop-store-preserved : goal.loop-store-preserved
loop-store-preserved c =
    let stores = c.args.stores.now in
    let i = c.loop-store.store-index in
    stored_next stores i (get_or stores i no_store) c.loop-store.pairs.keys c.add.new.self.keys c.requires (slice_get-get_or stores i no_store c.loop-store-test.true) c.loop-store.invariant
    c.in_ok-add.ensures.keys
