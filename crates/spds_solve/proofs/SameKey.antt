-- The derived tests on numbers of meets and on arrivals are equality.
use Rattle.std.proofs.Common.{◌≡◌, true, rules}
use Rattle.spds_solve.specs.declared.arrivals.Arrival.{Arrival}
use Rattle.spds_solve.specs.contracts.arrivals.ArrivalPartialEq.TheImpl as arrival
use Rattle.spds_tables.specs.declared.numbered.Met.{Met as Numbers}
use Rattle.spds_tables.specs.contracts.numbered.MetPartialEq.TheImpl as met

pub same_arrival : (x y : Arrival) → arrival.eq-value.it x y ≡ true → x ≡ y
same_arrival x y h = search rules

pub self_arrival : (x : Arrival) → arrival.eq-value.it x x ≡ true
self_arrival x = search rules

pub same_met : (x y : Numbers) → met.eq-value.it x y ≡ true → x ≡ y
same_met x y h = search rules

pub self_met : (x : Numbers) → met.eq-value.it x x ≡ true
self_met x = search rules
