-- The rules of saturation keep a table sound.
use Rattle.std.proofs.Common.{◌≡◌, ℕ, List, [], ◌∷◌, refl, sym, subst}
use Rattle.auto_table.specs.declared.rule.Rule.{Rule}
use Rattle.auto_table.specs.declared.rule.Rule.TheVariants.{Flow, Push, Pop}
use Rattle.auto_table.specs.declared.entry.Entry.{Entry}
use Rattle.auto_table.specs.declared.entry.Entry.TheVariants.{Base, Pushed}
use Rattle.lists.specs.Lists.{Has}
use Rattle.auto_table.specs.Cells.{Cells, weight_at, link_at, IsBlank}
use Rattle.post_star.specs.declared.bases.Start.{Start}
use Rattle.post_star.specs.declared.bases.BaseStep.{BaseStep}
use Rattle.post_star.specs.Derivations.{step_of, starts_at, flows, pushes, pops, Combines, none, one}
use Rattle.post_star.specs.Works.{no_rule, then_flow, then_push, then_pop, EntryRuns, LinkRuns, IsTold, IsSound}
use Rattle.post_star.proofs.Combinations.{combines_meant, combines_right, combines_product}
use Rattle.post_star.proofs.Joins.{derives_longer, runs_longer, derives_run, runs_join, entry_meant, link_meant}
use Rattle.weight_laws.specs.Law.{Domain, IsLawful}

module _ {W : Type 0} {d : Domain W} {rules : List (Rule W)} {starts : List (Start W)} (l : IsLawful W d) (steps : List BaseStep) (told : IsTold d rules starts) where
  -- one derivation
  flow_run : (e : Entry) (m n : ℕ) (v x : W) → Has rules (Flow m n v) → EntryRuns d rules starts steps e m x → EntryRuns d rules starts steps e n (d.extend x v)
  flow_run (Base b) m n v x h p = flows h p
  flow_run (Pushed o k) m n v x h p = then_flow h p

  push_run : (e : Entry) (m n k : ℕ) (v x : W) → Has rules (Push m n k v) → EntryRuns d rules starts steps e m x → LinkRuns d rules starts steps (Pushed n k) e (d.extend x v)
  push_run (Base b) m n k v x h p = pushes h p
  push_run (Pushed o j) m n k v x h p = then_push h p

  pop_run : (e : Entry) (o m n k : ℕ) (v y x : W) → Has rules (Pop m k n v) → LinkRuns d rules starts steps (Pushed o k) e y → EntryRuns d rules starts steps (Pushed o k) m x
      → EntryRuns d rules starts steps e n (d.extend (d.extend y x) v)
  pop_run (Base b) o m n k v y x h r p = pops h (derives_run l steps told r p)
  pop_run (Pushed a j) o m n k v y x h r p = then_pop h (runs_join l steps told r (runs_longer p (j ∷ [])))

  pop_base_run : (b b' m n k : ℕ) (v x : W) → Has rules (Pop m k n v) → Has steps (step_of b k b') → EntryRuns d rules starts steps (Base b) m x → EntryRuns d rules starts steps (Base b') n (d.extend x v)
  pop_base_run b b' m n k v x h s p = pops h (derives_longer p (k ∷ []) b' (b', s, refl))

  -- what a sound table has
  module _ {t : Cells W} (s : IsSound d rules starts steps t) where
    pub weight_meant : (e : Entry) (n : ℕ) → d.IsMeant (weight_at d t e n)
    weight_meant e n = combines_meant l (entry_meant l steps told e n) (s.weights e n)

    pub link_meant_at : (c p : Entry) → d.IsMeant (link_at d t c p)
    link_meant_at c p = combines_meant l (link_meant l steps told c p) (s.links c p)

    pub flow_sound : (e : Entry) (m n : ℕ) (v : W) → Has rules (Flow m n v) → Combines d (EntryRuns d rules starts steps e n) (d.extend (weight_at d t e m) v)
    flow_sound e m n v h = combines_right l (entry_meant l steps told e m) v (told.rule _ h) (λ x p. flow_run e m n v x h p) (s.weights e m)

    pub push_entry_sound : (n k : ℕ) → Combines d (EntryRuns d rules starts steps (Pushed n k) n) d.one
    push_entry_sound n k = one no_rule

    pub push_link_sound : (e : Entry) (m n k : ℕ) (v : W) → Has rules (Push m n k v) → Combines d (LinkRuns d rules starts steps (Pushed n k) e) (d.extend (weight_at d t e m) v)
    push_link_sound e m n k v h = combines_right l (entry_meant l steps told e m) v (told.rule _ h) (λ x p. push_run e m n k v x h p) (s.weights e m)

    pub pop_sound : (e : Entry) (o m n k : ℕ) (v : W) → Has rules (Pop m k n v)
        → Combines d (EntryRuns d rules starts steps e n) (d.extend (d.extend (link_at d t (Pushed o k) e) (weight_at d t (Pushed o k) m)) v)
    pop_sound e o m n k v h =
        combines_right l {D = PopRuns} pop_meant v (told.rule _ h) (λ x p. subst (λ (z : W). EntryRuns d rules starts steps e n (d.extend z v)) (sym p.4) (pop_run e o m n k v p.0 p.1 h p.2 p.3))
        (combines_product l (link_meant l steps told (Pushed o k) e) (entry_meant l steps told (Pushed o k) m) (λ y x r p. (y, x, r, p, refl)) (s.links (Pushed o k) e) (s.weights (Pushed o k) m))
      where
        PopRuns : W → Type 0
        PopRuns z = (y : W) × (x : W) × LinkRuns d rules starts steps (Pushed o k) e y × EntryRuns d rules starts steps (Pushed o k) m x × (z ≡ d.extend y x)

        pop_meant : (z : W) → PopRuns z → d.IsMeant z
        pop_meant z p = subst (λ (a : W). d.IsMeant a) (sym p.4) (l.extend_meant _ _ (link_meant l steps told (Pushed o k) e p.0 p.2) (entry_meant l steps told (Pushed o k) m p.1 p.3))

    pub pop_base_sound : (b b' m n k : ℕ) (v : W) → Has rules (Pop m k n v) → Has steps (step_of b k b')
        → Combines d (EntryRuns d rules starts steps (Base b') n) (d.extend (weight_at d t (Base b) m) v)
    pop_base_sound b b' m n k v h q = combines_right l (entry_meant l steps told (Base b) m) v (told.rule _ h) (λ x p. pop_base_run b b' m n k v x h q p) (s.weights (Base b) m)

  pub start_sound : (s : Start W) → Has starts s → Combines d (EntryRuns d rules starts steps (Base s.base) s.node) s.weight
  start_sound s h = one (starts_at h refl)

module _ {W : Type 0} {d : Domain W} {rules : List (Rule W)} {starts : List (Start W)} {steps : List BaseStep} where
  pub sound_blank : (t : Cells W) → IsBlank d t → IsSound d rules starts steps t
  sound_blank t b = record {
    weights = λ e n. subst (λ (x : W). Combines d (EntryRuns d rules starts steps e n) x) (sym (b.weights e n)) none;
    links = λ c p. subst (λ (x : W). Combines d (LinkRuns d rules starts steps c p) x) (sym (b.links c p)) none;
  }
