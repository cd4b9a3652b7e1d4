-- From which methods a run may come to some methods, and what a call may come to.
use Rattle.std.specs.Prelude.{◌↔◌, ℕ, List}
use Rattle.lists.specs.Lists.{Has}
use Rattle.link_rules.specs.Linked.{LinkedProgram}
use Rattle.link_rules.specs.WellLinked.{HasTarget}
use Rattle.link_sites.specs.declared.place.Place.{Place}
use Rattle.track_systems.specs.Weights.{IsInside}

-- the methods that are told, and those that call a loud method: a run of a loud method may come to one that is told
pub data IsLoud (p : LinkedProgram) (told : List ℕ) : ℕ → Type 0 where
  here : {method : ℕ} → Has told method → IsLoud p told method
  calls : {method index target : ℕ} → HasTarget p method index target → IsLoud p told target → IsLoud p told method

-- some target of the call is loud
abbrev pub HasLoudTarget : LinkedProgram → List ℕ → Place → Type 0
HasLoudTarget p told c = (target : ℕ) × HasTarget p c.method c.index target × IsLoud p told target

-- calls with a loud target are exactly those of which a run may enter a method that is told
abbrev pub LoudCallsEnter : Type 0
LoudCallsEnter = (p : LinkedProgram) (told : List ℕ) (c : Place) → HasLoudTarget p told c ↔ ((method : ℕ) × IsInside p c method × Has told method)
