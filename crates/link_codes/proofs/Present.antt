-- What is looked up is there.
use Rattle.std.proofs.Common.{◌≡◌, Option, Some, ap}
use Rattle.std.specs.Prelude.{IsSome}
use Rattle.std.specs.Option.{is_some}

-- an option that is some value is some
pub is_some_from : {X : Type 0} (o : Option X) (x : X) → o ≡ Some x → IsSome o
is_some_from o x e = ap is_some e
