-- Texts of types, and the arrays of statements.
use Rattle.std.proofs.Common.{◌≡◌, ℕ, ◌+◌, ◌<◌, ◌++◌, List, [], ◌∷◌, length, take, get_or, codes, flat_map, append_assoc, length-take, sym, ap, ◌∙◌, arith}
use Rattle.std.specs.List.{enumerate_from}
use Rattle.std.proofs.lemmas.Grind.{flat_map-append}
use Rattle.std.proofs.lemmas.List.{append-nil, take_more}
use Rattle.link_classes.proofs.Growing.{numbered-push}
use Rattle.link_rules.specs.Names.{brackets}
use Rattle.link_rules.proofs.Dimensions.{brackets_more}

-- a text with a pair of brackets more
pub text_more : (now text old base : List ℕ) (n : ℕ) → text ≡ old ++ (base ++ brackets n) → now ≡ text ++ codes "[]" → now ≡ old ++ (base ++ brackets (n + 1))
text_more now text old base n so_far pushed =
    pushed ∙ ap (λ t. t ++ codes "[]") so_far ∙ append_assoc old (base ++ brackets n) (codes "[]") ∙ ap (λ t. old ++ t) (append_assoc base (brackets n) (codes "[]"))
    ∙ ap (λ t. old ++ (base ++ t)) (sym (brackets_more n))

-- the same of the first elements of a list
pub numbered_more : {X Y : Type 0} (f : ℕ × X → List Y) (xs : List X) (i : ℕ) (x : X) → i < length xs → x ≡ get_or xs i x
    → flat_map f (enumerate_from 0 (take (i + 1) xs)) ≡ flat_map f (enumerate_from 0 (take i xs)) ++ f (i, x)
numbered_more f xs i x below at =
    let place : 0 + length (take i xs) ≡ i = omega (arith, below, length-take i xs) in
    ap (λ zs. flat_map f (enumerate_from 0 zs)) (take_more xs i x below ∙ ap (λ y. take i xs ++ y ∷ []) (sym at)) ∙ numbered-push f 0 (take i xs) x
    ∙ ap (λ k. flat_map f (enumerate_from 0 (take i xs)) ++ f (k, x)) place

-- what is made of one element more
pub flat_map_more : {X Y : Type 0} (f : X → List Y) (xs : List X) (i : ℕ) (x : X) → i < length xs → x ≡ get_or xs i x
    → flat_map f (take (i + 1) xs) ≡ flat_map f (take i xs) ++ f x
flat_map_more f xs i x below at =
    ap (flat_map f) (take_more xs i x below ∙ ap (λ y. take i xs ++ y ∷ []) (sym at)) ∙ flat_map-append f (take i xs) (x ∷ []) ∙ ap (λ l. flat_map f (take i xs) ++ l) (append-nil (f x))
