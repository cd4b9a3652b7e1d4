-- What a part of a list has, the list has.
use Rattle.std.proofs.Common.{◌≡◌, ℕ, zero, suc, ◌<◌, ◌++◌, List, [], ◌∷◌, Option, Some, None, length, get_or, slice_get, flat_map, refl, sym, ap, subst, ◌∙◌}
use Rattle.std.specs.List.{cons_option, filter_map}
use Rattle.std.proofs.lemmas.Option.{slice_get-get_or, get_or_from_slice_get}
use Rattle.lists.proofs.Places.{slice_get-append_left, slice_get-below}
use Rattle.lists.specs.Lists.{Has}
use Rattle.lists.proofs.Joined.{Has-left, Has-right}
use Rattle.jim_ast.specs.declared.names.NameId.{NameId}
use Rattle.jim_ast.specs.declared.syntax.Imm.{Imm}
use Rattle.link_rules.specs.Conditions.{AreWithin}
use Rattle.link_rules.specs.Statements.{operand_local}

-- what is made of an element is among all that is made
pub Has-flat_map : {X Y : Type 0} (f : X → List Y) (xs : List X) (i : ℕ) (x : X) (y : Y) → slice_get xs i ≡ Some x → Has (f x) y → Has (flat_map f xs) y
Has-flat_map f [] i x y there h = cc
Has-flat_map f (z ∷ xs) zero x y there h = let same : x ≡ z = cc in Has-left (f z) (flat_map f xs) y (subst (λ x. Has (f x) y) same h)
Has-flat_map f (z ∷ xs) (suc i) x y there h = Has-right (f z) (flat_map f xs) y (Has-flat_map f xs i x y there h)

-- behind what an option gives
behind_option : {Y : Type 0} (o : Option Y) (ys : List Y) (y : Y) → Has ys y → Has (cons_option o ys) y
behind_option None ys y h = h
behind_option (Some z) ys y h = (suc h.0, h.1)

-- what an element gives is among all that is given
pub Has-filter_map : {X Y : Type 0} (f : X → Option Y) (xs : List X) (i : ℕ) (x : X) (y : Y) → slice_get xs i ≡ Some x → f x ≡ Some y → Has (filter_map f xs) y
Has-filter_map f [] i x y there is = cc
Has-filter_map f (z ∷ xs) zero x y there is =
    let same : z ≡ x = cc in
    subst (λ o. Has (cons_option o (filter_map f xs)) y) (sym (ap f same ∙ is)) (0, refl)
Has-filter_map f (z ∷ xs) (suc i) x y there is = behind_option (f z) (filter_map f xs) y (Has-filter_map f xs i x y there is)

-- the local of an operand behind others
pub Has-operand : (before : List NameId) (a : Imm) (x : NameId) → operand_local a ≡ Some x → Has (before ++ filter_map operand_local (a ∷ [])) x
Has-operand before a x is = Has-right before (filter_map operand_local (a ∷ [])) x (Has-filter_map operand_local (a ∷ []) 0 a x refl is)

-- names of a part are among those of the whole
pub within_part : (names : List (List ℕ)) (ids part : List NameId) → AreWithin names ids → ((x : NameId) → Has part x → Has ids x) → AreWithin names part
within_part names ids part within among k d below =
    let h = among (get_or part k d) (k, slice_get-get_or part k d below) in
    subst (λ (x : NameId). x.0 < length names) (get_or_from_slice_get ids h.0 (get_or part k d) (get_or part k d) h.1) (within h.0 (get_or part k d) (slice_get-below ids h.0 (get_or part k d) h.1))
