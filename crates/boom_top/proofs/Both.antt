-- Facts on the value of a result, or of an option.
use Rattle.std.proofs.Common.{Ok, Err, Result, Option, Some, None}
use Rattle.std.specs.Option.{IfNone, IfSome}
use Rattle.std.specs.Result.{IfOk}

-- two facts of the value, if there is one, make a third
pub IfOk-both : {T E : Type 0} (r : Result T E) (P Q R : T → Type 0) → IfOk r P → IfOk r Q → ((v : T) → P v → Q v → R v) → IfOk r R
IfOk-both (Ok v) P Q R p q f = f v p q
IfOk-both (Err e) P Q R p q f = tt

-- a fact of the value, if there is one, makes another
pub IfOk-one : {T E : Type 0} (r : Result T E) (P R : T → Type 0) → IfOk r P → ((v : T) → P v → R v) → IfOk r R
IfOk-one (Ok v) P R p f = f v p
IfOk-one (Err e) P R p f = tt

-- a fact of what an option has, if it has something, makes another
pub IfSome-one : {T : Type 0} (o : Option T) (P R : T → Type 0) → IfSome o P → ((v : T) → P v → R v) → IfSome o R
IfSome-one (Some v) P R p f = f v p
IfSome-one None P R p f = tt

-- so does one that holds where it has nothing
pub IfNone-one : {T : Type 0} (o : Option T) (P R : Type 0) → IfNone o P → (P → R) → IfNone o R
IfNone-one (Some v) P R p f = tt
IfNone-one None P R p f = f p
