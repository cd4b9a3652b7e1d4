-- The derived test on start nodes is equality.
use Rattle.std.proofs.Common.{◌≡◌, true, rules}
use Rattle.spds_tables.specs.declared.numbered.StartAt.{StartAt}
use Rattle.spds_tables.specs.contracts.numbered.StartAtPartialEq.TheImpl.{eq-value}

-- start nodes that pass the test are equal
pub same : (x y : StartAt) → (eq-value).it x y ≡ true → x ≡ y
same x y h = search rules

-- each passes the test with itself
pub self : (x : StartAt) → (eq-value).it x x ≡ true
self x = search rules
