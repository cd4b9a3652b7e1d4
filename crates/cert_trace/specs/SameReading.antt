-- The derived test on readings is equality.
use Rattle.std.proofs.Common.{◌≡◌, eqb-true, true}
use Rattle.std.proofs.lemmas.Bool.{and_parts}
use Rattle.cert_rules.proofs.Same.{same_entry}
use Rattle.cert_trace.specs.declared.reading.Reading.{Reading}
use Rattle.cert_trace.specs.contracts.reading.ReadingPartialEq.TheImpl as reading

pub same_reading : (x y : Reading) → reading.eq-value.it x y ≡ true → x ≡ y
same_reading x y h =
    let p = and_parts _ _ h in
    let level = eqb-true x.level y.level p.0 in
    let entry = same_entry x.entry y.entry p.1 in
    λ j. record { level = level j; entry = entry j }
