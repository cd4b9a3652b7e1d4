-- What two facts of one value say.
use Rattle.std.proofs.Common.{Ok, Err}
use Rattle.std.specs.Result.{IfOk}
use Rattle.std.specs.declared.result.Result.{Result}

-- a third follows from two of a value, if there is one
pub both_ok : {A E : Type 0} (r : Result A E) (P Q R : A → Type 0) → IfOk r P → IfOk r Q → ((a : A) → P a → Q a → R a) → IfOk r R
both_ok (Ok a) P Q R p q then = then a p q
both_ok (Err e) P Q R p q then = tt
