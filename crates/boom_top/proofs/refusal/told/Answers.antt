use Rattle.std.proofs.Common.{◌≡◌, ℕ, List, [], ◌∷◌, ◌++◌, codes, refl, ◌∙◌, append_assoc}
use Rattle.std.specs.Fmt.{decimal}
use Rattle.link_rules.specs.declared.refusal.LinkKind.{LinkKind}
use Rattle.link_rules.specs.declared.refusal.LinkKind.TheVariants as rule
use Rattle.boom_top.specs.Refusals.{told_text}
use Rattle.boom_top.proofs.Both.{IfOk-one}
use Rattle.boom_top.proofs.refusal.told.Goals as goal

-- of a rule on the code of methods the place is told, and the index
placed : (kind : LinkKind) (place : List ℕ) (index : ℕ) → (kind ≡ rule.DuplicateClass → ⊥) → (kind ≡ rule.UnknownParent → ⊥) → (kind ≡ rule.CyclicClass → ⊥)
    → (kind ≡ rule.NoEntry → ⊥) → told_text kind place index ≡ codes " " ++ place ++ codes " " ++ decimal index
placed rule.DuplicateClass place index a b c d = absurd (a refl)
placed rule.UnknownParent place index a b c d = absurd (b refl)
placed rule.CyclicClass place index a b c d = absurd (c refl)
placed rule.NoEntry place index a b c d = absurd (d refl)
placed _ place index a b c d = refl

-- the parts of a line
spread : (a w s p d e : List ℕ) → (a ++ w ++ s ++ p ++ s ++ d) ++ e ≡ (a ++ (w ++ (s ++ p ++ s ++ d))) ++ e
spread a w s p d e = simp append_assoc

pub returns-in_default : goal.returns-in_default
returns-in_default c =
    let behind = placed c.args.kind c.args.place.now c.args.index c.in_default.not-DuplicateClass c.in_default.not-UnknownParent c.in_default.not-CyclicClass
    c.in_default.not-NoEntry in
    IfOk-one c.told_at.result _ _ c.told_at.ensures (λ text e. rw (behind, ← c.word_of_rule-word.ensures)
    (e ∙ spread (codes "refused NotLinked ") c.word_of_rule-word.result.now (codes " ") c.args.place.now (decimal c.args.index) (10 ∷ [])))
