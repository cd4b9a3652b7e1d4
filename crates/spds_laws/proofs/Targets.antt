-- Targets of calls in well linked programs, and the call strings of the root.
use Rattle.std.proofs.Common.{◌≡◌, ℕ, ◌+◌, List, [], ◌∷◌, All, length, refl, arith}
use Rattle.link_laws.proofs.Lists.{at_all}
use Rattle.link_rules.specs.declared.code.Code.TheVariants as code
use Rattle.link_rules.specs.Linked.{LinkedMethod, LinkedProgram}
use Rattle.link_rules.specs.WellLinked.{HasTarget, IsWellLinked, IsWellLinkedCode, SuitsCall}
use Rattle.link_sites.specs.declared.place.Place.{Place}
use Rattle.spds_rules.specs.Systems.{IsString}
use Rattle.spds_laws.proofs.Strings.{string_called}

module _ (p : LinkedProgram) (well : IsWellLinked p) where
  -- a target suits its call
  pub target_suits : (number index target : ℕ) (h : HasTarget p number index target) → SuitsCall p h.receiver (length h.args) target
  target_suits number index target h =
      let codes = at_all (λ (m : LinkedMethod). All (IsWellLinkedCode p) m.code) p.methods number h.method well.codes h.there in
      let suits = at_all (IsWellLinkedCode p) h.method.code index (code.Call h.to h.mode h.class h.key h.receiver h.args h.targets) codes h.call in
      at_all (SuitsCall p h.receiver (length h.args)) h.targets h.has.0 target suits.0 h.has.1

  -- the root, which is no target, has the empty call string alone
  pub root_string : (number : ℕ) → number + 1 ≡ length p.methods → (string : List Place) → IsString p number string → string ≡ []
  root_string number last [] is = refl
  root_string number last (call ∷ rest) is = let suits = target_suits _ _ number (string_called p is).target in absurd (omega (arith, suits.not_root))
