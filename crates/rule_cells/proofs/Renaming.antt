-- The law of new numbers.
use Rattle.std.proofs.Common.{◌≡◌, ℕ, List, ◌∷◌, refl, sym, ap, ◌∙◌, subst}
use Rattle.auto_table.specs.declared.rule.Rule.{Rule}
use Rattle.auto_table.specs.declared.rule.Rule.TheVariants.{Flow, Push, Pop}
use Rattle.lists.specs.Lists.{Has}
use Rattle.post_star.specs.declared.bases.Start.{Start}
use Rattle.post_star.specs.declared.bases.BaseStep.{BaseStep}
use Rattle.post_star.specs.Derivations.{Derives, starts_at, flows, pushes, pops, DerivesAny, any_word, Leads}
use Rattle.weight_laws.specs.Law.{Domain}
use Rattle.rule_cells.specs.Renamed.{AnyDerivationsAreRenamed, AreRenamed, DerivationsAreRenamed, renamed, renamed_start}

module _ {W : Type 0} (d : Domain W) (number old_number : ℕ → ℕ) (rules few : List (Rule W)) (starts few_starts : List (Start W))
    (are : AreRenamed number old_number rules few starts few_starts) (steps : List BaseStep) (last : ℕ) where
  abbrev Old : ℕ → List ℕ → W → Type 0
  Old = Derives d rules starts steps last

  abbrev New : ℕ → List ℕ → W → Type 0
  New = Derives d few few_starts steps last

  pub forth : {n : ℕ} {word : List ℕ} {x : W} → Old n word x → New (number n) word x
  forth (starts_at {s} {word} has leads) = starts_at {s = renamed_start number s} ((are.starts_are (renamed_start number s)).1 (s, has, refl)) leads
  forth (flows has derived) = flows ((are.rules_are _).1 (_, has, refl)) (forth derived)
  forth (pushes has derived) = pushes ((are.rules_are _).1 (_, has, refl)) (forth derived)
  forth (pops has derived) = pops ((are.rules_are _).1 (_, has, refl)) (forth derived)

  start_back : (r : Start W) (word : List ℕ) → Has few_starts r → Leads steps r.base word last → Old (old_number r.node) word r.weight
  start_back r word has leads =
      let s = (are.starts_are r).0 has in
      let node : old_number r.node ≡ s.0.node = ap (λ (t : Start W). old_number t.node) s.2 ∙ are.start_nodes s.0 s.1 in
      subst (λ (n : ℕ). Old n word r.weight) (sym node)
      (subst (λ (w : W). Old s.0.node word w) (sym (ap (λ (t : Start W). t.weight) s.2))
      (starts_at s.1 (subst (λ (b : ℕ). Leads steps b word last) (ap (λ (t : Start W). t.base) s.2) leads)))

  flow_back : (from to : ℕ) (weight : W) (word : List ℕ) (x : W) (q : Rule W) → Has rules q → Flow from to weight ≡ renamed number q → Old (old_number from) word x
      → Old (old_number to) word (d.extend x weight)
  flow_back from to weight word x (Flow f t w) has e given =
      let source : old_number from ≡ f = let is : from ≡ number f = cc in ap old_number is ∙ are.sources _ has in
      let target : old_number to ≡ t = let is : to ≡ number t = cc in ap old_number is ∙ are.targets _ has in
      let weighs : w ≡ weight = cc in
      subst (λ (n : ℕ). Old n word (d.extend x weight)) (sym target)
      (flows (subst (λ (v : W). Has rules (Flow f t v)) weighs has) (subst (λ (n : ℕ). Old n word x) source given))
  flow_back from to weight word x (Push f t k w) has e given = cc
  flow_back from to weight word x (Pop f k t w) has e given = cc

  push_back : (from to mark : ℕ) (weight : W) (word : List ℕ) (x : W) (q : Rule W) → Has rules q → Push from to mark weight ≡ renamed number q → Old (old_number from) word x
      → Old (old_number to) (mark ∷ word) (d.extend x weight)
  push_back from to mark weight word x (Flow f t w) has e given = cc
  push_back from to mark weight word x (Push f t k w) has e given =
      let source : old_number from ≡ f = let is : from ≡ number f = cc in ap old_number is ∙ are.sources _ has in
      let target : old_number to ≡ t = let is : to ≡ number t = cc in ap old_number is ∙ are.targets _ has in
      let marks : k ≡ mark = cc in
      let weighs : w ≡ weight = cc in
      subst (λ (n : ℕ). Old n (mark ∷ word) (d.extend x weight)) (sym target)
      (pushes (subst (λ (m : ℕ). Has rules (Push f t m weight)) marks (subst (λ (v : W). Has rules (Push f t k v)) weighs has))
      (subst (λ (n : ℕ). Old n word x) source given))
  push_back from to mark weight word x (Pop f k t w) has e given = cc

  pop_back : (from mark to : ℕ) (weight : W) (word : List ℕ) (x : W) (q : Rule W) → Has rules q → Pop from mark to weight ≡ renamed number q → Old (old_number from) (mark ∷ word) x
      → Old (old_number to) word (d.extend x weight)
  pop_back from mark to weight word x (Flow f t w) has e given = cc
  pop_back from mark to weight word x (Push f t k w) has e given = cc
  pop_back from mark to weight word x (Pop f k t w) has e given =
      let source : old_number from ≡ f = let is : from ≡ number f = cc in ap old_number is ∙ are.sources _ has in
      let target : old_number to ≡ t = let is : to ≡ number t = cc in ap old_number is ∙ are.targets _ has in
      let marks : k ≡ mark = cc in
      let weighs : w ≡ weight = cc in
      subst (λ (n : ℕ). Old n word (d.extend x weight)) (sym target)
      (pops (subst (λ (m : ℕ). Has rules (Pop f m t weight)) marks (subst (λ (v : W). Has rules (Pop f k t v)) weighs has))
      (subst (λ (n : ℕ). Old n (mark ∷ word) x) source given))

  pub back : {n : ℕ} {word : List ℕ} {x : W} → New n word x → Old (old_number n) word x
  back (starts_at {s = r} {word} has leads) = start_back r word has leads
  back (flows {from} {to} {word} {x} {weight} has derived) = let q = (are.rules_are _).0 has in flow_back from to weight word x q.0 q.1 q.2 (back derived)
  back (pushes {from} {to} {mark} {word} {x} {weight} has derived) = let q = (are.rules_are _).0 has in push_back from to mark weight word x q.0 q.1 q.2 (back derived)
  back (pops {from} {mark} {to} {word} {x} {weight} has derived) = let q = (are.rules_are _).0 has in pop_back from mark to weight word x q.0 q.1 q.2 (back derived)

  pub old_again : (n : ℕ) → old_number (number n) ≡ n → (word : List ℕ) (x : W) → New (number n) word x → Old n word x
  old_again n same word x derived = subst (λ (m : ℕ). Old m word x) same (back derived)

  pub any_forth : {n : ℕ} {x : W} → DerivesAny d rules starts steps last n x → DerivesAny d few few_starts steps last (number n) x
  any_forth (any_word derived) = any_word (forth derived)

  pub any_back : {m : ℕ} {x : W} → DerivesAny d few few_starts steps last m x → DerivesAny d rules starts steps last (old_number m) x
  any_back (any_word derived) = any_word (back derived)

  pub any_again : (n : ℕ) → old_number (number n) ≡ n → (x : W) → DerivesAny d few few_starts steps last (number n) x → DerivesAny d rules starts steps last n x
  any_again n same x derived = subst (λ (m : ℕ). DerivesAny d rules starts steps last m x) same (any_back derived)

module _ {W : Type 0} (d : Domain W) where
  pub derivations_renamed : DerivationsAreRenamed d
  derivations_renamed number old_number rules few starts few_starts are n same steps last word x = (
    (λ p. forth d number old_number rules few starts few_starts are steps last p),
    (λ p. old_again d number old_number rules few starts few_starts are steps last n same word x p),
  )

  pub any_derivations_renamed : AnyDerivationsAreRenamed d
  any_derivations_renamed number old_number rules few starts few_starts are n same steps last x = (
    (λ p. any_forth d number old_number rules few starts few_starts are steps last p),
    (λ p. any_again d number old_number rules few starts few_starts are steps last n same x p),
  )
