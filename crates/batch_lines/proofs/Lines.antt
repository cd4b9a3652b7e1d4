-- Lists cut at a mark.
use Rattle.std.proofs.Common.{◌≡◌, ℕ, suc, ◌==◌, false, List, [], ◌∷◌, ◌++◌, Some, All, refl, ap, ◌∙◌, eq-eqb}
use Rattle.std.specs.List.{slice_split}
use Rattle.std.proofs.lemmas.List.Splits.{slice_split_at, slice_split_none}
use Rattle.lists.specs.Lists.{Has}
use Rattle.lists.proofs.Cutting.{all_other}

-- a part in front of a mark is cut off first
pub cut_next : (c : ℕ) (rest part behind : List ℕ) → rest ≡ part ++ c ∷ behind → (Has part c → ⊥) → slice_split (λ b. b == c) rest ≡ part ∷ slice_split (λ b. b == c) behind
cut_next c rest part behind e lacks = ap (slice_split (λ b. b == c)) e ∙ slice_split_at (λ b. b == c) part c behind (all_other c part lacks) (eq-eqb c c refl)

pub cut_none : (c : ℕ) (rest : List ℕ) → (Has rest c → ⊥) → slice_split (λ b. b == c) rest ≡ rest ∷ []
cut_none c rest lacks = slice_split_none (λ b. b == c) rest (all_other c rest lacks)
