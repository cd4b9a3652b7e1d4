-- What is carried from a head, over its flows.
use Rattle.std.proofs.Common.{◌≡◌, ◌⊎◌, inl, inr, ℕ, List, ◌++◌, refl, sym, ap, ◌∙◌, subst}
use Rattle.auto_table.specs.declared.rule.Rule.{Rule}
use Rattle.auto_table.specs.declared.rule.Rule.TheVariants.{Flow}
use Rattle.lists.specs.Lists.{Has}
use Rattle.lists.proofs.Joined.{Has-either, Has-left}
use Rattle.post_star.specs.declared.bases.Start.{Start}
use Rattle.post_star.specs.declared.bases.BaseStep.{BaseStep}
use Rattle.post_star.specs.Derivations.{Derives, flows}
use Rattle.post_star.specs.Measures.{to_of}
use Rattle.post_star.specs.Works.{AreTold, IsTold, weight_of}
use Rattle.post_star.proofs.Joins.{derives_meant}
use Rattle.weight_laws.specs.Law.{Domain, IsLawful}
use Rattle.rule_cells.specs.Cells.{IsCarried, IsCarriedFrom, here, further}

-- the last flow over which all is carried to a node
pub record IsLast {W : Type 0} (d : Domain W) (rules : List (Rule W)) (kept : List ℕ) (h n : ℕ) (w : W) : Type 0 where
  pub before : ℕ
  pub product : W
  pub weight : W
  pub first : IsCarriedFrom d rules kept h before product
  pub last : IsCarried rules kept before n weight
  pub is : w ≡ d.extend product weight

module _ {W : Type 0} (d : Domain W) (rules : List (Rule W)) (kept : List ℕ) where
  -- the node is the head, or there is a last flow
  pub last_flow : {h n : ℕ} {w : W} → IsCarriedFrom d rules kept h n w → ((h ≡ n) × (w ≡ d.one)) ⊎ IsLast d rules kept h n w
  last_flow here = inl (refl, refl)
  last_flow (further {m} {x} {w} first last) = inr (record { before = m; product = x; weight = w; first = first; last = last; is = refl })

  -- to a kept node all is carried from itself alone
  pub kept_head : {h n : ℕ} {w : W} → Has kept n → IsCarriedFrom d rules kept h n w → (h ≡ n) × (w ≡ d.one)
  kept_head has c = elim (last_flow c) [ inl own ↦ own | inr l ↦ absurd (l.last.free has) ]

  -- rules that lead to kept nodes don't change what is carried
  pub carried_more : (own : List (Rule W)) → ((r : Rule W) → Has own r → Has kept (to_of r)) → {m n : ℕ} {w : W} → IsCarried rules kept m n w
      → IsCarried (rules ++ own) kept m n w
  carried_more own leads {m} {n} {w} c = record {
    flow = Has-left rules own (Flow m n w) c.flow;
    only = λ r has to. elim (Has-either rules own r has) [
      | inl common ↦ c.only r common to
      | inr more ↦ absurd (c.free (subst (λ (k : ℕ). Has kept k) to (leads r more)))
    ];
    free = c.free;
  }

  pub carried_from_more : (own : List (Rule W)) → ((r : Rule W) → Has own r → Has kept (to_of r)) → {h n : ℕ} {w : W} → IsCarriedFrom d rules kept h n w
      → IsCarriedFrom d (rules ++ own) kept h n w
  carried_from_more own leads here = here
  carried_from_more own leads (further first last) = further (carried_from_more own leads first) (carried_more own leads last)

  -- the weights of a chain are one where those of the rules are
  pub carried_one : IsLawful W d → ((r : Rule W) → Has rules r → weight_of r ≡ d.one) → {h n : ℕ} {w : W} → IsCarriedFrom d rules kept h n w → w ≡ d.one
  carried_one l ones here = refl
  carried_one l ones (further {x} {w} first last) =
      ap (λ (t : W). d.extend t w) (carried_one l ones first) ∙ ap (d.extend d.one) (ones _ last.flow) ∙ l.extend_one d.one l.one_meant

  module _ (l : IsLawful W d) {starts : List (Start W)} (steps : List BaseStep) (told : IsTold d rules starts) where
    -- the product of a chain is meant
    pub carried_meant : {h n : ℕ} {w : W} → IsCarriedFrom d rules kept h n w → d.IsMeant w
    carried_meant here = l.one_meant
    carried_meant (further first last) = l.extend_meant _ _ (carried_meant first) (told.rule _ last.flow)

    -- what a head gives goes on along the chain
    pub carry : {last h n : ℕ} {word : List ℕ} {y w : W} → IsCarriedFrom d rules kept h n w → Derives d rules starts steps last h word y
        → Derives d rules starts steps last n word (d.extend y w)
    carry {last} {h} {word = word} {y} here given = subst (λ (t : W). Derives d rules starts steps last h word t) (sym (l.extend_one y (derives_meant l steps told given))) given
    carry {last} {n = n} {word} {y} (further {x} {w} first flow) given =
        subst (λ (t : W). Derives d rules starts steps last n word t)
        (l.extend_assoc y x w (derives_meant l steps told given) (carried_meant first) (told.rule _ flow.flow))
        (flows flow.flow (carry first given))

  -- chains are joined
  module _ (l : IsLawful W d) (told : AreTold d rules) where
    pub product_meant : {h n : ℕ} {w : W} → IsCarriedFrom d rules kept h n w → d.IsMeant w
    product_meant here = l.one_meant
    product_meant (further first last) = l.extend_meant _ _ (product_meant first) (told _ last.flow)

    pub carried_on : {h m n : ℕ} {x y : W} → IsCarriedFrom d rules kept h m x → IsCarriedFrom d rules kept m n y → IsCarriedFrom d rules kept h n (d.extend x y)
    carried_on {h} {m} {x = x} c here = subst (λ (t : W). IsCarriedFrom d rules kept h m t) (sym (l.extend_one x (product_meant c))) c
    carried_on {h} {n = n} {x} c (further {x = y} {w} first last) =
        subst (λ (t : W). IsCarriedFrom d rules kept h n t) (l.extend_assoc x y w (product_meant c) (product_meant first) (told _ last.flow))
        (further (carried_on c first) last)
