-- Of an accepted program, a class has one number.
use Rattle.std.proofs.Common.{◌≡◌, ℕ, List, sym, ◌∙◌}
use Rattle.link_rules.specs.Classes.{IsNamed}
use Rattle.link_rules.specs.Refusals.{IsAccepted, whole}
use Rattle.link_rules.specs.World.{World}
use Rattle.link_rules.specs.declared.refusal.LinkKind.TheVariants as rule
use Rattle.link_laws.proofs.OneList.{number_one}

module _ (w : World) (accepted : IsAccepted w) where
  -- a class has one number
  pub class_one : (name : List ℕ) (a b : ℕ) → IsNamed w.classes name a → IsNamed w.classes name b → a ≡ b
  class_one name a b p q = number_one a b
      (λ below. accepted (whole rule.DuplicateClass b) (record {
        class = q.class;
        there = q.there;
        earlier = a;
        before = below;
        same = record { class = p.class; there = p.there; named = p.named ∙ sym q.named };
      }))
      (λ below. accepted (whole rule.DuplicateClass a) (record {
        class = p.class;
        there = p.there;
        earlier = b;
        before = below;
        same = record { class = q.class; there = q.there; named = q.named ∙ sym p.named };
      }))
