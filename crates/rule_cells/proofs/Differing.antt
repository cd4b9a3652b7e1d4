-- Rules, each once.
use Rattle.std.proofs.Common.{◌≡◌, ◌↔◌, ◌⊎◌, ◌<◌, ◌+◌, ℕ, List, [], ◌∷◌, ◌++◌, get_or, length, map, take, refl, sym, ap, ◌∙◌, subst, inl, inr}
use Rattle.std.proofs.lemmas.List.{take_more}
use Rattle.auto_table.specs.declared.rule.Rule.{Rule}
use Rattle.auto_table.specs.declared.rule.Rule.TheVariants as rule
use Rattle.lists.specs.Lists.{Adds, Has}
use Rattle.lists.proofs.Joined.{Has-either, Has-left, Has-right}
use Rattle.post_star.specs.declared.bases.BaseStep.{BaseStep}
use Rattle.post_star.specs.declared.bases.Start.{Start}
use Rattle.post_star.specs.Derivations.{Derives, starts_at, flows, pushes, pops}
use Rattle.post_star.specs.Works.{weight_of}
use Rattle.post_star.proofs.Scopes.{has_last}
use Rattle.weight_laws.specs.Law.{Domain}
use Rattle.rule_cells.specs.declared.distinct.Shape.{Shape}
use Rattle.rule_cells.specs.declared.distinct.Shape.TheVariants as shape
use Rattle.rule_cells.specs.CellRules.{HaveCells}
use Rattle.rule_cells.specs.Distinct.{AreShapes, rule_of, shape_of}
use Rattle.rule_cells.specs.Renamed.{number_in, renamed, renamed_start}
use Rattle.rule_cells.proofs.Entering.{has_pushed}

-- a rule that weighs one is that of its shape
pub rule_of-shape_of : {W : Type 0} (d : Domain W) (r : Rule W) → weight_of r ≡ d.one → rule_of d (shape_of r) ≡ r
rule_of-shape_of d (rule.Flow from to weight) one = ap (rule.Flow from to) (sym one)
rule_of-shape_of d (rule.Push from to mark weight) one = ap (rule.Push from to mark) (sym one)
rule_of-shape_of d (rule.Pop from mark to weight) one = ap (rule.Pop from mark to) (sym one)

shape_of-rule_of : {W : Type 0} (d : Domain W) (s : Shape) → shape_of (rule_of d s) ≡ s
shape_of-rule_of d (shape.Flow from to) = refl
shape_of-rule_of d (shape.Push from to mark) = refl
shape_of-rule_of d (shape.Pop from mark to) = refl

module _ {W : Type 0} (d : Domain W) (old new : List Shape) (few : List (Rule W)) (r : Rule W) (one : weight_of r ≡ d.one) (adds : Adds old (shape_of r) new)
    (was : AreShapes d old few) where
  -- a rule of another shape came
  pub shapes_more : (Has old (shape_of r) → ⊥) → AreShapes d new (few ++ r ∷ [])
  shapes_more none = elim adds [
    | inl there ↦ absurd (none there.0)
    | inr last ↦ λ s. (
      (λ has. elim (has_pushed old (shape_of r) s (subst (λ (ss : List Shape). Has ss s) last.1 has)) [
        | inl before ↦ Has-left few (r ∷ []) (rule_of d s) ((was s).0 before)
        | inr is ↦ subst (λ (x : Rule W). Has (few ++ r ∷ []) x) (sym (ap (rule_of d) is ∙ rule_of-shape_of d r one)) (has_last few r)
      ]),
      (λ has. subst (λ (ss : List Shape). Has ss s) (sym last.1) (elim (has_pushed few r (rule_of d s) has) [
        | inl before ↦ Has-left old (shape_of r ∷ []) s ((was s).1 before)
        | inr is ↦ subst (λ (x : Shape). Has (old ++ shape_of r ∷ []) x) (sym (sym (shape_of-rule_of d s) ∙ ap shape_of is)) (has_last old (shape_of r))
      ])),
    )
  ]

  -- one of its shape is there already
  pub shapes_same : Has old (shape_of r) → AreShapes d new few
  shapes_same has = elim adds [
    | inl there ↦ subst (λ (ss : List Shape). AreShapes d ss few) (sym there.1) was
    | inr last ↦ absurd (last.0 has)
  ]

  pub rule_there : Has old (shape_of r) → Has few r
  rule_there has = subst (λ (x : Rule W). Has few x) (rule_of-shape_of d r one) ((was (shape_of r)).0 has)

pub rule_pushed : {W : Type 0} (few : List (Rule W)) (r x : Rule W) → Has (few ++ r ∷ []) x ↔ (Has few x ⊎ (x ≡ r))
rule_pushed {W} few r x = (
  has_pushed few r x,
  (λ either. elim either [ inl has ↦ Has-left few (r ∷ []) x has | inr is ↦ subst (λ (y : Rule W). Has (few ++ r ∷ []) y) (sym is) (has_last few r) ]),
)

-- one rule more came in, where what is said of rules is said of those that came
pub rules_more : {W : Type 0} (rules : List (Rule W)) (old new : Rule W → Type 0) (i : ℕ) (r : Rule W) → i < length rules → r ≡ get_or rules i r
    → ((x : Rule W) → old x ↔ Has (take i rules) x) → ((x : Rule W) → new x ↔ (old x ⊎ (x ≡ r))) → (x : Rule W) → new x ↔ Has (take (i + 1) rules) x
rules_more {W} rules old new i r below is was now x = subst (λ (rs : List (Rule W)). new x ↔ Has rs x)
    (ap (λ (y : Rule W). take i rules ++ y ∷ []) is ∙ sym (take_more rules i r below)) (
      (λ has. (rule_pushed (take i rules) r x).1 (elim ((now x).0 has) [ inl before ↦ inl ((was x).0 before) | inr e ↦ inr e ])),
      (λ has. (now x).1 (elim ((rule_pushed (take i rules) r x).0 has) [ inl before ↦ inl ((was x).1 before) | inr e ↦ inr e ])),
    )

-- the same rules derive the same
module _ {W : Type 0} (d : Domain W) (rules more : List (Rule W)) (starts : List (Start W)) (steps : List BaseStep) (last : ℕ)
    (r : (x : Rule W) → Has rules x → Has more x) where
  pub derives_same : {n : ℕ} {word : List ℕ} {x : W} → Derives d rules starts steps last n word x → Derives d more starts steps last n word x
  derives_same (starts_at h p) = starts_at h p
  derives_same (flows h p) = flows (r _ h) (derives_same p)
  derives_same (pushes h p) = pushes (r _ h) (derives_same p)
  derives_same (pops h p) = pops (r _ h) (derives_same p)

module _ {W : Type 0} (few many : List (Rule W)) (same : (x : Rule W) → Has few x ↔ Has many x) (own : List (Rule W)) where
  with_own : (x : Rule W) → Has (few ++ own) x ↔ Has (many ++ own) x
  with_own x = (
    (λ has. elim (Has-either few own x has) [ inl a ↦ Has-left many own x ((same x).0 a) | inr b ↦ Has-right many own x b ]),
    (λ has. elim (Has-either many own x has) [ inl a ↦ Has-left few own x ((same x).1 a) | inr b ↦ Has-right few own x b ]),
  )

-- so cells may have the rules between them each once
pub cells_same : {W : Type 0} (d : Domain W) (rules : List (Rule W)) (kept cells : List ℕ) (few many : List (Rule W)) → ((x : Rule W) → Has few x ↔ Has many x)
    → HaveCells d rules kept cells many → HaveCells d rules kept cells few
cells_same {W} d rules kept cells few many same have own starts lead steps last n word x =
    let all = have own starts lead steps last n word x in
    let its = map (renamed (number_in cells)) own in
    let begun = map (renamed_start (number_in cells)) starts in (
      (λ h. derives_same d (many ++ its) (few ++ its) begun steps last (λ r. (with_own few many same its r).1) (all.0 h)),
      (λ h. all.1 (derives_same d (few ++ its) (many ++ its) begun steps last (λ r. (with_own few many same its r).0) h)),
    )
