-- The numbers of calls: the rank of a call among all calls of the program.
use Rattle.std.specs.Prelude.{◌≤◌, ◌^◌, ℕ, List, AllPairs, length}
use Rattle.link_rules.specs.declared.code.Code.{Code}
use Rattle.link_rules.specs.declared.code.Code.TheVariants.{Call}
use Rattle.link_rules.specs.Linked.{LinkedProgram}
use Rattle.lists.specs.Lists.{AreExactly}
use Rattle.link_sites.specs.declared.place.Place.{Place}
use Rattle.link_sites.specs.Places.{ComesBefore, before}
use Rattle.link_sites.specs.Sites.{IsUnraised}

-- a call
abbrev pub IsCall : Code → Type 0
IsCall (Call to mode class key receiver args targets) = Unit {0}
IsCall _ = ⊥

-- a call of the program stands at the place, and no exception is in flight there
abbrev pub IsCallPlace : LinkedProgram → Place → Type 0
IsCallPlace p place = IsUnraised p place IsCall

-- all calls of the program, each once, by method and index. The number of a call, which is its mark in words, is its place in this list, from 0
abbrev pub AreTheCalls : LinkedProgram → List Place → Type 0
AreTheCalls p places = AreExactly ComesBefore (IsCallPlace p) places

-- the calls that come before an index of a method, each once, in this order
abbrev pub AreCallsUpTo : LinkedProgram → ℕ → ℕ → List Place → Type 0
AreCallsUpTo p method index places = AreExactly ComesBefore (λ place. IsCallPlace p place × ComesBefore place (before method index)) places

-- places in order, few enough to be numbered
pub record AreNumbered (places : List Place) : Type 0 where
  pub ordered : AllPairs ComesBefore places
  pub few : length places ≤ 2 ^ 32
