-- A call of static or special mode has one target.
use Rattle.std.proofs.Common.{◌≡◌, ℕ, Some, None, List, [], ◌∷◌, length, refl, sym, ap, ◌∙◌, arith}
use Rattle.std.proofs.lemmas.Option.{same_Some}
use Rattle.class_rules.proofs.LawFacts.{path_one}
use Rattle.class_rules.proofs.Selected.{selection_one}
use Rattle.lists.specs.Lists.{Has, IsApart}
use Rattle.jim_ast.specs.declared.syntax.Mode.{Mode}
use Rattle.jim_ast.specs.declared.syntax.Mode.TheVariants.{Special, Virtual, Interface, Static}
use Rattle.link_rules.specs.Classes.{IsNamed}
use Rattle.link_rules.specs.Faults.{FindsNone, FindsSeveral}
use Rattle.link_rules.specs.Linked.{LinkedProgram}
use Rattle.link_rules.specs.Targets.{AreTargetRows}
use Rattle.link_rules.specs.WellLinked.{HasOneTarget}
use Rattle.link_rules.specs.World.{World}
use Rattle.link_laws.proofs.Calls.{finds, selects}
use Rattle.link_laws.proofs.Stands.{IsMade}

-- a list with an element, each once and all the same, has one
single : (xs : List ℕ) (x : ℕ) → Has xs x → IsApart xs → ((a b : ℕ) → Has xs a → Has xs b → a ≡ b) → length xs ≡ 1
single [] x h apart same = cc (h.1)
single (a ∷ []) x h apart same = refl
single (a ∷ b ∷ xs) x h apart same = let one : b ≡ a = same b a (1, refl) (0, refl) in let twice : ◌≡◌ {A = ℕ} 0 1 = apart 0 1 a refl (ap Some one) in absurd (omega arith)

module _ (w : World) (p : LinkedProgram) (made : IsMade w p) where
  -- what such a call finds is one method
  pub one_target : (mode : Mode) (name : List ℕ) (class key : ℕ) (rows targets : List ℕ) → IsNamed w.classes name class
      → (FindsNone w mode class key → ⊥) → (FindsSeveral w mode class key → ⊥) → AreTargetRows w mode class key rows
      → length rows ≡ length targets → HasOneTarget mode targets
  one_target Static name class key rows targets named refused settled are many =
      let r = finds w p made name class key named refused in
      sym many ∙ single rows r.0 ((are.each r.0).1 r.1) are.apart (λ a b h k. same_Some a b (path_one w.rows class key (Some a) (Some b) ((are.each a).0 h) ((are.each b).0 k)))
  one_target Special name class key rows targets named refused settled are many =
      let r = selects w p made name class key named refused settled in
      sym many ∙ single rows r.0 ((are.each r.0).1 r.1) are.apart (λ a b h k. same_Some a b (selection_one w.rows class key (Some a) (Some b) ((are.each a).0 h) ((are.each b).0 k)))
  one_target Virtual name class key rows targets named refused settled are many = tt
  one_target Interface name class key rows targets named refused settled are many = tt
