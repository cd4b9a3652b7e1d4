-- What a call with a loud target may enter.
use Rattle.std.proofs.Common.{ℕ, List}
use Rattle.lists.specs.Lists.{Has}
use Rattle.link_rules.specs.Linked.{LinkedProgram}
use Rattle.link_sites.specs.declared.place.Place.{Place}
use Rattle.track_systems.specs.Weights as weights
use Rattle.track_systems.specs.Weights.{IsInside}
use Rattle.site_events.specs.Loud as loud
use Rattle.site_events.specs.Loud.{HasLoudTarget, IsLoud, LoudCallsEnter}

-- what a run of a method that is inside comes to is inside
enters : (p : LinkedProgram) (told : List ℕ) (c : Place) (n : ℕ) → IsInside p c n → IsLoud p told n → (method : ℕ) × IsInside p c method × Has told method
enters p told c n inside (loud.here is) = (n, inside, is)
enters p told c n inside (loud.calls {target = target} has is) = enters p told c target (weights.called inside has) is

-- what is inside was come to from a target
entered : (p : LinkedProgram) (told : List ℕ) (c : Place) (n : ℕ) → IsInside p c n → IsLoud p told n → HasLoudTarget p told c
entered p told c n (weights.target has) is = (n, has, is)
entered p told c n (weights.called {number = number} inside has) is = entered p told c number inside (loud.calls has is)

pub loud_calls_enter : LoudCallsEnter
loud_calls_enter p told c = (
  (λ has. enters p told c has.0 (weights.target has.1) has.2),
  (λ h. entered p told c h.0 h.1 (loud.here h.2)),
)
