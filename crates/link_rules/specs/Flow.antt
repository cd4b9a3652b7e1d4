-- Which statement may follow which, over code, and what a statement may raise.
use Rattle.std.specs.Prelude.{◌≡◌, ℕ, ◌+◌, ◌<◌, ◌≤◌, ◌⊎◌, List, Option, Some, None, true}
use Rattle.lists.specs.Lists.{Has}
use Rattle.link_rules.specs.declared.code.Catch.{Catch}
use Rattle.link_rules.specs.declared.code.Code.{Code}
use Rattle.link_rules.specs.declared.code.Code.TheVariants.{This, Param, Caught, Copy, Cast, New, NewArray, NewMulti, Numeric, Length, Load, Store, LoadCell, StoreCell, LoadStatic, StoreStatic, Call, If, Goto, Switch, Return, Throw, Monitor, Skip}

-- a run may go on from the statement at t to the one at s
abbrev pub Next : Code → ℕ → ℕ → Type 0
Next (If jump) t s = (s ≡ t + 1) ⊎ (s ≡ jump)
Next (Goto jump) t s = s ≡ jump
Next (Switch jumps) t s = Has jumps s
Next (Return arg) t s = ⊥
Next (Throw arg) t s = ⊥
Next (This to) t s = s ≡ t + 1
Next (Param to number) t s = s ≡ t + 1
Next (Caught to) t s = s ≡ t + 1
Next (Copy to arg) t s = s ≡ t + 1
Next (Cast to arg) t s = s ≡ t + 1
Next (New to class) t s = s ≡ t + 1
Next (NewArray to) t s = s ≡ t + 1
Next (NewMulti to levels) t s = s ≡ t + 1
Next (Numeric to divides) t s = s ≡ t + 1
Next (Length to arg) t s = s ≡ t + 1
Next (Load to base field) t s = s ≡ t + 1
Next (Store base field arg) t s = s ≡ t + 1
Next (LoadCell to base) t s = s ≡ t + 1
Next (StoreCell base arg) t s = s ≡ t + 1
Next (LoadStatic to field) t s = s ≡ t + 1
Next (StoreStatic field arg) t s = s ≡ t + 1
Next (Call to mode class key receiver args targets) t s = s ≡ t + 1
Next (Monitor arg) t s = s ≡ t + 1
Next Skip t s = s ≡ t + 1

-- the handler covers the statement at t
abbrev pub CoversPlace : Catch → ℕ → Type 0
CoversPlace catch t = (catch.from ≤ t) × (t < catch.to)

-- the handlers of the statement at t
abbrev pub Handles : List Catch → ℕ → ℕ → Type 0
Handles catches t h = (catch : Catch) × Has catches catch × CoversPlace catch t × (h ≡ catch.handler)

-- a call on a receiver may be one on null
abbrev pub RaisesNull : Option ℕ → ℕ → Type 0
RaisesNull (Some receiver) k = k ≡ 0
RaisesNull None k = ⊥

-- the implicit exceptions that a statement may raise, by their numbers: null, the index, the kind of what is stored, a negative size, a failed cast
-- and a division by zero, as the Java Virtual Machine Specification has them
abbrev pub MayRaise : Code → ℕ → Type 0
MayRaise (Load to base field) k = k ≡ 0
MayRaise (Store base field arg) k = k ≡ 0
MayRaise (Length to arg) k = k ≡ 0
MayRaise (Monitor arg) k = k ≡ 0
MayRaise (Throw arg) k = k ≡ 0
MayRaise (Call to mode class key receiver args targets) k = RaisesNull receiver k
MayRaise (LoadCell to base) k = k < 2
MayRaise (StoreCell base arg) k = k < 3
MayRaise (NewArray to) k = k ≡ 3
MayRaise (NewMulti to levels) k = k ≡ 3
MayRaise (Cast to arg) k = k ≡ 4
MayRaise (Numeric to divides) k = (divides ≡ true) × (k ≡ 5)
MayRaise (This to) k = ⊥
MayRaise (Param to number) k = ⊥
MayRaise (Caught to) k = ⊥
MayRaise (Copy to arg) k = ⊥
MayRaise (New to class) k = ⊥
MayRaise (LoadStatic to field) k = ⊥
MayRaise (StoreStatic field arg) k = ⊥
MayRaise (If jump) k = ⊥
MayRaise (Goto jump) k = ⊥
MayRaise (Switch jumps) k = ⊥
MayRaise (Return arg) k = ⊥
MayRaise Skip k = ⊥

-- a return from the method
abbrev pub IsReturn : Code → Type 0
IsReturn (Return arg) = Unit {0}
IsReturn _ = ⊥

-- a statement that an exception may come out of: a throw, a call, or one that may raise an implicit exception
abbrev pub IsRaised : Code → Type 0
IsRaised (Throw arg) = Unit {0}
IsRaised (Call to mode class key receiver args targets) = Unit {0}
IsRaised c = (k : ℕ) × MayRaise c k
