-- The derived test on entries is equality.
use Rattle.std.proofs.Common.{◌≡◌, true, rules}
use Rattle.auto_table.specs.declared.entry.Entry.{Entry}
use Rattle.auto_table.specs.contracts.entry.EntryPartialEq.TheImpl as entry

pub same_entry : (x y : Entry) → entry.eq-value.it x y ≡ true → x ≡ y
same_entry x y h = search rules

pub self_entry : (x : Entry) → entry.eq-value.it x x ≡ true
self_entry x = search rules
