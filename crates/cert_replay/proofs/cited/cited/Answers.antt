use Rattle.std.proofs.Common.{◌≡◌, ◌+◌, sym, arith}
use Rattle.std.proofs.lemmas.Bool.{ltb-false, ltb-true}
use Rattle.std.proofs.lemmas.Option.{slice_get_past}
use Rattle.lists.proofs.Places.{slice_get-read}
use Rattle.cert_replay.proofs.CitedFacts.{cites_at, cites_beyond, cites_zero}
use Rattle.cert_replay.proofs.cited.cited.Goals as goal

pub returns-in_err-index : goal.returns-in_err-index
returns-in_err-index c =
    let given = c.args.given.now in
    let number = c.args.number in
    rw c.from_residual.ensures (cites_zero given number (omega (arith, c.in_err-index.ensures)))

pub returns-in_err-get : goal.returns-in_err-get
returns-in_err-get c =
    let given = c.args.given.now in
    let number = c.args.number in
    let index = c.in_ok-index.index in
    let next : number ≡ index + 1 = omega (arith, c.in_ok-index.ensures) in
    rw c.from_residual-in_err-get.ensures (cites_beyond given number index next (slice_get_past given index (ltb-false _ _ (sym c.in_err-get.ensures.lookup.0))))

pub returns : goal.returns
returns c =
    let given = c.args.given.now in
    let number = c.args.number in
    let index = c.in_ok-index.index in
    let next : number ≡ index + 1 = omega (arith, c.in_ok-index.ensures) in
    cites_at given number index next c.in_ok-get.field-0.now (slice_get-read given index c.in_ok-get.field-0.now (ltb-true _ _ (sym c.in_ok-get.ensures.lookup.0)) c.in_ok-get.ensures.lookup.1)
