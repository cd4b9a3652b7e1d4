-- In a sound table each reading is a combination of finitely many derivations.
use Rattle.std.proofs.Common.{◌≡◌, inl, inr, ℕ, List, [], ◌∷◌, refl, sym, ap, ◌∙◌, subst}
use Rattle.auto_table.specs.declared.rule.Rule.{Rule}
use Rattle.auto_table.specs.declared.entry.Entry.{Entry}
use Rattle.auto_table.specs.declared.entry.Entry.TheVariants.{Base, Pushed}
use Rattle.auto_table.specs.Cells.{Cells, IsUsed, by_weight, by_child, by_parent}
use Rattle.post_star.specs.declared.bases.Start.{Start}
use Rattle.post_star.specs.declared.bases.BaseStep.{BaseStep}
use Rattle.post_star.specs.Derivations.{Leads, step_of, IsNamed, by_start, by_below, IsLed, Derives, starts_at, flows, pushes, pops, DerivesAny, any_word, Combines, one}
use Rattle.post_star.specs.Readings.{Reads, at_base, at_link, ReadsAt, from_entry, ReadsAny, any_base, any_link, ReadsAnyAt, any_entry}
use Rattle.post_star.specs.Works.{Runs, EntryRuns, LinkRuns, IsTold, IsSound}
use Rattle.post_star.proofs.Combinations.{combines_any, combines_product}
use Rattle.post_star.proofs.Joins.{derives_longer, runs_longer, derives_run, derives_meant, entry_meant, link_meant}
use Rattle.weight_laws.specs.Law.{Domain, IsLawful}

module _ {W : Type 0} {starts : List (Start W)} (steps : List BaseStep) where
  leads_named : (b : ℕ) (word : List ℕ) (c : ℕ) → IsNamed starts steps b → Leads steps b word c → IsNamed starts steps c
  leads_named b [] c n h = subst (λ (x : ℕ). IsNamed starts steps x) h n
  leads_named b (mark ∷ word) c n h = leads_named h.0 word c (by_below (step_of b mark h.0) h.1 refl) h.2

  module _ {d : Domain W} {rules : List (Rule W)} where
    derives_named : {b n : ℕ} {w : List ℕ} {x : W} → Derives d rules starts steps b n w x → IsNamed starts steps b
    derives_named {b} (starts_at {s} {word} h p) = leads_named s.base word b (by_start s h refl) p
    derives_named (flows h p) = derives_named p
    derives_named (pushes h p) = derives_named p
    derives_named (pops h p) = derives_named p

module _ {W : Type 0} {d : Domain W} {rules : List (Rule W)} {starts : List (Start W)} (l : IsLawful W d) (steps : List BaseStep) (told : IsTold d rules starts) (last : ℕ) where
  -- what the product of a reading's links stands for
  abbrev Before : Entry → List ℕ → W → Type 0
  Before (Base b) word x = Leads steps b word last × (x ≡ d.one)
  Before (Pushed m k) word x = (rest : List ℕ) × (word ≡ k ∷ rest) × Derives d rules starts steps last m word x

  before_meant : (e : Entry) (word : List ℕ) (x : W) → Before e word x → d.IsMeant x
  before_meant (Base b) word x p = subst (λ (z : W). d.IsMeant z) (sym p.1) l.one_meant
  before_meant (Pushed m k) word x p = derives_meant l steps told p.2

  one_more : (x y : W) → x ≡ d.one → d.IsMeant y → y ≡ d.extend x y
  one_more x y e m = sym (ap (λ (z : W). d.extend z y) e ∙ l.one_extend y m)

  glue_link : (node mark : ℕ) (e : Entry) (word : List ℕ) (x y : W) → Before e word x → LinkRuns d rules starts steps (Pushed node mark) e y → Before (Pushed node mark) (mark ∷ word) (d.extend x y)
  glue_link node mark (Base b) word x y p r =
      (word, refl, subst (λ (z : W). Derives d rules starts steps last node (mark ∷ word) z) (one_more x y p.1 (derives_meant l steps told r)) (derives_longer r word last p.0))
  glue_link node mark (Pushed m k) word x y p r =
      (word, refl, derives_run l steps told p.2 (subst (λ (u : List ℕ). Runs d rules m u node (mark ∷ u) y) (sym p.1) (runs_longer r p.0)))

  glue_entry : (e : Entry) (n : ℕ) (word : List ℕ) (x y : W) → Before e word x → EntryRuns d rules starts steps e n y → Derives d rules starts steps last n word (d.extend x y)
  glue_entry (Base b) n word x y p r = subst (λ (z : W). Derives d rules starts steps last n word z) (one_more x y p.1 (derives_meant l steps told r)) (derives_longer r word last p.0)
  glue_entry (Pushed m k) n word x y p r = derives_run l steps told p.2 (subst (λ (u : List ℕ). Runs d rules m u n u y) (sym p.1) (runs_longer r p.0))

  module _ {t : Cells W} (s : IsSound d rules starts steps t) where
    reads_combine : {e : Entry} {word : List ℕ} {x : W} → Reads d steps last t e word x → Combines d (Before e word) x
    reads_combine (at_base p) = one (p, refl)
    reads_combine (at_link {node} {mark} {parent} {word} r) =
        combines_product l (before_meant parent word) (link_meant l steps told (Pushed node mark) parent) (glue_link node mark parent word) (reads_combine r) (s.links (Pushed node mark) parent)

    pub reading_combines : {n : ℕ} {word : List ℕ} {x : W} → ReadsAt d steps last t n word x → Combines d (Derives d rules starts steps last n word) x
    reading_combines {n} {word} (from_entry {entry} r) =
        combines_product l (before_meant entry word) (entry_meant l steps told entry n) (glue_entry entry n word) (reads_combine r) (s.weights entry n)

    -- a base of the table is named
    pub base_named : (b : ℕ) → IsUsed d t (Base b) → IsNamed starts steps b
    base_named b (by_weight n h) = elim (combines_any l (s.weights (Base b) n)) [ inl p ↦ derives_named steps p.1 | inr z ↦ absurd (h z) ]
    base_named b (by_child p h) = elim (combines_any l (s.links (Base b) p)) [ inl q ↦ absurd q.1 | inr z ↦ absurd (h z) ]
    base_named b (by_parent c h) = elim (combines_any l (s.links c (Base b))) [ inl q ↦ linked c q.0 q.1 | inr z ↦ absurd (h z) ]
      where
        linked : (c : Entry) (x : W) → LinkRuns d rules starts steps c (Base b) x → IsNamed starts steps b
        linked (Base e) x r = absurd r
        linked (Pushed m k) x r = derives_named steps r

    module _ (led : IsLed starts steps last) where
      abbrev BeforeAny : Entry → W → Type 0
      BeforeAny (Base b) x = x ≡ d.one
      BeforeAny (Pushed m k) x = (rest : List ℕ) × Derives d rules starts steps last m (k ∷ rest) x

      before_any_meant : (e : Entry) (x : W) → BeforeAny e x → d.IsMeant x
      before_any_meant (Base b) x p = subst (λ (z : W). d.IsMeant z) (sym p) l.one_meant
      before_any_meant (Pushed m k) x p = derives_meant l steps told p.1

      glue_any_link : (node mark : ℕ) (e : Entry) (x y : W) → BeforeAny e x → LinkRuns d rules starts steps (Pushed node mark) e y → BeforeAny (Pushed node mark) (d.extend x y)
      glue_any_link node mark (Base b) x y p r =
          let u = led b (derives_named steps r) in
          (u.0, subst (λ (z : W). Derives d rules starts steps last node (mark ∷ u.0) z) (one_more x y p (derives_meant l steps told r)) (derives_longer r u.0 last u.1))
      glue_any_link node mark (Pushed m k) x y p r = (k ∷ p.0, derives_run l steps told p.1 (runs_longer r p.0))

      glue_any_entry : (e : Entry) (n : ℕ) (x y : W) → BeforeAny e x → EntryRuns d rules starts steps e n y → DerivesAny d rules starts steps last n (d.extend x y)
      glue_any_entry (Base b) n x y p r =
          let u = led b (derives_named steps r) in
          any_word {word = u.0} (subst (λ (z : W). Derives d rules starts steps last n u.0 z) (one_more x y p (derives_meant l steps told r)) (derives_longer r u.0 last u.1))
      glue_any_entry (Pushed m k) n x y p r = any_word {word = k ∷ p.0} (derives_run l steps told p.1 (runs_longer r p.0))

      reads_any_combine : {e : Entry} {x : W} → ReadsAny d t e x → Combines d (BeforeAny e) x
      reads_any_combine any_base = one refl
      reads_any_combine (any_link {node} {mark} {parent} r) =
          combines_product l (before_any_meant parent) (link_meant l steps told (Pushed node mark) parent) (glue_any_link node mark parent) (reads_any_combine r) (s.links (Pushed node mark) parent)

      pub reading_any_combines : {n : ℕ} {x : W} → ReadsAnyAt d t n x → Combines d (DerivesAny d rules starts steps last n) x
      reading_any_combines {n} (any_entry {entry} r) =
          combines_product l (before_any_meant entry) (entry_meant l steps told entry n) (glue_any_entry entry n) (reads_any_combine r) (s.weights entry n)
