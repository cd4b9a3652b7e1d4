-- A table that is sound for some rules and starts is sound for more.
use Rattle.std.proofs.Common.{ℕ, List}
use Rattle.auto_table.specs.declared.rule.Rule.{Rule}
use Rattle.auto_table.specs.declared.entry.Entry.{Entry}
use Rattle.auto_table.specs.declared.entry.Entry.TheVariants.{Base, Pushed}
use Rattle.lists.specs.Lists.{Has}
use Rattle.auto_table.specs.Cells.{Cells}
use Rattle.post_star.specs.declared.bases.Start.{Start}
use Rattle.post_star.specs.declared.bases.BaseStep.{BaseStep}
use Rattle.post_star.specs.Derivations.{Derives, starts_at, flows, pushes, pops, one}
use Rattle.post_star.specs.Works.{Runs, no_rule, then_flow, then_push, then_pop, EntryRuns, LinkRuns, IsSound}
use Rattle.post_star.proofs.Combinations.{combines_bind}
use Rattle.weight_laws.specs.Law.{Domain, IsLawful}

module _ {W : Type 0} (d : Domain W) (rules more : List (Rule W)) (r : (x : Rule W) → Has rules x → Has more x) where
  runs_more : {m : ℕ} {v : List ℕ} {n : ℕ} {w : List ℕ} {x : W} → Runs d rules m v n w x → Runs d more m v n w x
  runs_more no_rule = no_rule
  runs_more (then_flow h p) = then_flow (r _ h) (runs_more p)
  runs_more (then_push h p) = then_push (r _ h) (runs_more p)
  runs_more (then_pop h p) = then_pop (r _ h) (runs_more p)

  module _ (starts others : List (Start W)) (steps : List BaseStep) (s : (x : Start W) → Has starts x → Has others x) where
    derives_more : {last n : ℕ} {w : List ℕ} {x : W} → Derives d rules starts steps last n w x → Derives d more others steps last n w x
    derives_more (starts_at h p) = starts_at (s _ h) p
    derives_more (flows h p) = flows (r _ h) (derives_more p)
    derives_more (pushes h p) = pushes (r _ h) (derives_more p)
    derives_more (pops h p) = pops (r _ h) (derives_more p)

    entry_more : (e : Entry) (n : ℕ) (x : W) → EntryRuns d rules starts steps e n x → EntryRuns d more others steps e n x
    entry_more (Base b) n x p = derives_more p
    entry_more (Pushed m k) n x p = runs_more p

    link_more : (c p : Entry) (x : W) → LinkRuns d rules starts steps c p x → LinkRuns d more others steps c p x
    link_more (Base b) p x h = h
    link_more (Pushed m k) (Base b) x h = derives_more h
    link_more (Pushed m k) (Pushed n j) x h = runs_more h

    pub sound_more : (l : IsLawful W d) (t : Cells W) → IsSound d rules starts steps t → IsSound d more others steps t
    sound_more l t h = record {
      weights = λ e n. combines_bind l (λ x p. one (entry_more e n x p)) (h.weights e n);
      links = λ c p. combines_bind l (λ x q. one (link_more c p x q)) (h.links c p);
    }
