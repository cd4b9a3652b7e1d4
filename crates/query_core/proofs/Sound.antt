-- What a query answers holds for each run.
use Rattle.std.proofs.Common.{ℕ, List, [], ◌∷◌, refl, sym, subst}
use Rattle.link_rules.specs.Linked.{LinkedProgram}
use Rattle.link_rules.specs.WellLinked.{IsWellLinked}
use Rattle.link_sites.specs.declared.site.Site.{Site}
use Rattle.spds_rules.specs.declared.node.Node.{Node}
use Rattle.spds_rules.specs.Answers.{IsAnswered, IsShared}
use Rattle.spds_rules.specs.Demand.{Demand, Demanded, about, asked}
use Rattle.step_rules.specs.declared.parts.Slot.TheVariants.{Local}
use Rattle.run_covers.specs.Covers.{IsCovered}
use Rattle.run_sound.specs.Frames.{node_of}
use Rattle.run_sound.proofs.Simulating.{runs_answered, runs_shared}
use Rattle.query_core.specs.Answers.{AreSharedBy, HoldsAllRuns, IsAnswerTo, SharesAllRuns}

module _ (p : LinkedProgram) (well : IsWellLinked p) (covered : IsCovered p) where
  -- what a local holds is of a site of its node's answer
  pub answer_sound : (n : Node) (sites : List Site) (demanded : ℕ) → IsAnswerTo p n sites demanded → HoldsAllRuns p n sites
  answer_sound n sites demanded answer count s number frame x o run holds is =
      let q = about n in
      let target = subst (Demand p q) is (Demanded.target (0, refl)) in
      let found = runs_answered p well covered q count s number frame x o run holds target in
      (found.0, found.1, (answer.answer.each found.0.site).1 (subst (λ (m : Node). IsAnswered p q m found.0.site) (sym is) found.2))

  -- what two locals of a frame hold is of a site that their nodes share
  pub shared_sound : (a b : Node) (sites : List Site) (demanded : ℕ) → AreSharedBy p a b sites demanded → SharesAllRuns p a b sites
  shared_sound a b sites demanded answer count s number frame x y o run holds holds_too is is_too =
      let q = asked (a ∷ b ∷ []) in
      let target = subst (Demand p q) is (Demanded.target (0, refl)) in
      let target_too = subst (Demand p q) is_too (Demanded.target (1, refl)) in
      let found = runs_shared p well covered q count s number frame x y o run holds holds_too target target_too in
      let moved = subst (λ (m : Node). IsShared p q m (node_of frame (Local y)) found.0.site) (sym is) found.2 in
      (found.0, found.1, (answer.shared.each found.0.site).1 (subst (λ (m : Node). IsShared p q a m found.0.site) (sym is_too) moved))
