use Rattle.std.proofs.Common.{get_or}
use Rattle.std.proofs.lemmas.Option.{slice_get-get_or}
use Rattle.cert_make.proofs.Found.{grown_next}
use Rattle.cert_make.proofs.needs.add_all.Goals as goal

pub loop-number-preserved : goal.loop-number-preserved
loop-number-preserved c =
    let numbers = c.args.numbers.now in
    let i = c.loop-number.number-index in
    grown_next numbers i (get_or numbers i 0) c.args.found.now.keys c.loop-number.found.keys c.add.new.self.keys (slice_get-get_or numbers i 0 c.loop-number-test.true) c.loop-number.invariant
    c.in_ok-add.ensures.keys
