-- What a statement may do.
use Rattle.std.specs.Prelude.{ℕ, Option}
use Rattle.link_sites.specs.declared.site.Site.{Site}
use Rattle.step_rules.specs.declared.parts.Value.{Value}
use Rattle.step_rules.specs.States.{Frame}

-- one thing that a step may do
pub data Effect : Type 0 where
  -- the statement isn't well typed, and the run ends
  is_ill_typed : Effect
  -- an implicit exception of this kind is made and is in flight
  raises : ℕ → Effect
  -- the object is in flight
  throws : ℕ → Effect
  -- the frame goes on at the statement with this index
  goes : ℕ → Effect
  -- the local gets the value, and the frame goes on at the next statement
  gets : ℕ → Value → Effect
  -- a new object of the class is made, and the local gets it
  makes : ℕ → ℕ → Effect
  -- a new array of the site and the class is made and written into the array as an element, and the local gets it
  nests : ℕ → ℕ → Site → ℕ → Effect
  -- the value is written into a field of the object
  writes : ℕ → ℕ → Value → Effect
  -- the static field gets the value
  sets : ℕ → Value → Effect
  -- a method is called
  calls : Frame → Effect
  -- the method returns, with a value or without one
  returns : Option Value → Effect
  -- the handler at this index catches the object
  handles : ℕ → ℕ → Effect
  -- no handler catches the object: it leaves the method
  leaves : ℕ → Effect
