-- Names that are numbered one by one.
use Rattle.std.proofs.Common.{◌≡◌, ℕ, ◌+◌, ◌++◌, List, [], ◌∷◌, slice_get, take, Some, refl, ap, ◌∙◌}
use Rattle.std.proofs.lemmas.List.{take_more}
use Rattle.std.proofs.lemmas.Option.{get_or_from_slice_get}
use Rattle.lists.proofs.Places.{slice_get-adds, slice_get-below}
use Rattle.lists.specs.Lists.{Adds}
use Rattle.jim_ast.specs.declared.names.NameId.{NameId}
use Rattle.link_classes.specs.Numbered.{AreNumbers, IsNumber, Keeps}
use Rattle.lists.proofs.SideBySide.{Each-push}

-- numbers stay when names come behind others
pub numbers_kept : (old new names : List (List ℕ)) (ids : List NameId) → AreNumbers old names ids → Keeps old new → AreNumbers new names ids
numbers_kept old new names ids before kept = record { as_many = before.as_many; each = λ i text id p q. kept id.0 text (before.each i text id p q) }

pub Keeps-adds : (old new : List (List ℕ)) (text : List ℕ) → Adds old text new → Keeps old new
Keeps-adds old new text adds = λ i x h. slice_get-adds old new text adds i x h

-- one name more
pub numbers_more : (old new names : List (List ℕ)) (ids : List NameId) (text : List ℕ) (id : NameId) → AreNumbers old names ids → Adds old text new
    → slice_get new id.0 ≡ Some text → AreNumbers new (names ++ text ∷ []) (ids ++ id ∷ [])
numbers_more old new names ids text id before adds there = Each-push (IsNumber new) names ids text id (numbers_kept old new names ids before (Keeps-adds old new text adds)) there

-- the first names and one more of them
pub one_more : (names : List (List ℕ)) (i : ℕ) (text : List ℕ) → slice_get names i ≡ Some text → take (i + 1) names ≡ take i names ++ text ∷ []
one_more names i text there = take_more names i text (slice_get-below names i text there) ∙ ap (λ t. take i names ++ t ∷ []) (get_or_from_slice_get names i text text there)

-- six names that come one by one
pub one_by_one : {X : Type 0} (xs : List X) (a b c d e f : X) → (((((xs ++ a ∷ []) ++ b ∷ []) ++ c ∷ []) ++ d ∷ []) ++ e ∷ []) ++ f ∷ [] ≡ xs ++ a ∷ b ∷ c ∷ d ∷ e ∷ f ∷ []
one_by_one [] a b c d e f = refl
one_by_one (x ∷ xs) a b c d e f = ap (λ l. x ∷ l) (one_by_one xs a b c d e f)
