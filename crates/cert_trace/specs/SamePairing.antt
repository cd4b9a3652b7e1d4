-- The derived test on pairs of sites is equality.
use Rattle.std.proofs.Common.{◌≡◌, true}
use Rattle.std.proofs.lemmas.Bool.{and_parts}
use Rattle.demand_set.proofs.SameSite.{same_site}
use Rattle.cert_trace.specs.declared.pairing.Pairing.{Pairing}
use Rattle.cert_trace.specs.contracts.pairing.PairingPartialEq.TheImpl as pairing

pub same_pairing : (x y : Pairing) → pairing.eq-value.it x y ≡ true → x ≡ y
same_pairing x y h =
    let p = and_parts _ _ h in
    let object = same_site x.object y.object p.0 in
    let base = same_site x.base y.base p.1 in
    λ j. record { object = object j; base = base j }
