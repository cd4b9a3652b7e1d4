-- Lists of members that grow class by class.
use Rattle.std.proofs.Common.{◌≡◌, ◌⊎◌, ℕ, suc, ◌+◌, ◌<◌, ◌++◌, List, [], ◌∷◌, flat_map, length, map, take, drop, get_or, sym, ap, subst, ◌∙◌, append_assoc, length-append, arith, slice_get, Some, inl, inr, length-take}
use Rattle.std.specs.List.{enumerate_from}
use Rattle.std.proofs.lemmas.List.{append-nil, length-map, map-append, take-append-drop, take_more}
use Rattle.std.specs.Option.{option_map}
use Rattle.std.proofs.lemmas.Option.{get_or_from_slice_get, slice_get-get_or, slice_get-map}
use Rattle.link_rules.specs.Classes.{DeclaredClass}
use Rattle.lists.specs.Lists.{Each}
use Rattle.lists.proofs.Places.{slice_get-below, slice_get-pushed}
use Rattle.link_classes.specs.declared.seen.ClassIn.{ClassIn}
use Rattle.link_classes.specs.Seen.{seen_class, seen_classes}
use Rattle.lists.proofs.SideBySide.{Each-push}

-- below the next number: below this one, or this one
pub below_or_last : (n m : ℕ) → n < m + 1 → (n < m) ⊎ (n ≡ m)
below_or_last n m h = grind arith

-- one more element, with its number, at the end
pub numbered-push : {X Y : Type 0} (f : ℕ × X → List Y) (n : ℕ) (xs : List X) (x : X)
    → flat_map f (enumerate_from n (xs ++ x ∷ [])) ≡ flat_map f (enumerate_from n xs) ++ f (n + length xs, x)
numbered-push f n [] x = let e : n ≡ n + 0 = omega arith in append-nil (f (n, x)) ∙ ap (λ k. f (k, x)) e
numbered-push f n (y ∷ xs) x =
    let e : n + 1 + length xs ≡ n + suc (length xs) = omega arith in
    ap (λ zs. f (n, y) ++ zs) (numbered-push f (n + 1) xs x ∙ ap (λ k. flat_map f (enumerate_from (n + 1) xs) ++ f (k, x)) e)
    ∙ sym (append_assoc (f (n, y)) (flat_map f (enumerate_from (n + 1) xs)) (f (n + suc (length xs), x)))

-- one element more of a list, as what is made of it
pub taken_more : {A D : Type 0} (seen : A → D) (xs : List A) (i : ℕ) (x : A) → i < length xs → x ≡ get_or xs i x → map seen (take (i + 1) xs) ≡ map seen (take i xs) ++ seen x ∷ []
taken_more seen xs i x below there =
    let taken : take (i + 1) xs ≡ take i xs ++ x ∷ [] = take_more xs i x below ∙ ap (λ k. take i xs ++ k ∷ []) (sym there) in
    ap (map seen) taken ∙ map-append seen (take i xs) (x ∷ [])

-- the first elements and the rest
pub taken_whole : {A D : Type 0} (seen : A → D) (xs : List A) (i : ℕ) → map seen (take i xs) ++ map seen (drop i xs) ≡ map seen xs
taken_whole seen xs i = sym (map-append seen (take i xs) (drop i xs)) ∙ ap (map seen) (take-append-drop i xs)

-- one class more, as it is seen
pub seen_more : (classes : List ClassIn) (i : ℕ) (c : ClassIn) → i < length classes → c ≡ get_or classes i c
    → seen_classes (take (i + 1) classes) ≡ seen_classes (take i classes) ++ seen_class c ∷ []
seen_more classes i c below there = taken_more seen_class classes i c below there

-- the members of one class more
pub members_more : {Y : Type 0} (f : ℕ × DeclaredClass → List Y) (classes : List ClassIn) (i : ℕ) (c : ClassIn) → i < length classes → c ≡ get_or classes i c
    → flat_map f (enumerate_from 0 (seen_classes (take (i + 1) classes))) ≡ flat_map f (enumerate_from 0 (seen_classes (take i classes))) ++ f (i, seen_class c)
members_more f classes i c below there =
    let seen = seen_more classes i c below there in
    let counted : length (seen_classes (take i classes)) ≡ i = length-map (take i classes) seen_class ∙ length-take_below i classes below in
    ap (λ cs. flat_map f (enumerate_from 0 cs)) seen ∙ numbered-push f 0 (seen_classes (take i classes)) (seen_class c)
    ∙ ap (λ k. flat_map f (enumerate_from 0 (seen_classes (take i classes))) ++ f (k, seen_class c)) (counted_from_zero (length (seen_classes (take i classes))) ∙ counted)
  where
    counted_from_zero : (n : ℕ) → 0 + n ≡ n
    counted_from_zero n = omega arith

    length-take_below : (i : ℕ) (xs : List ClassIn) → i < length xs → length (take i xs) ≡ i
    length-take_below i xs h = omega (arith, length-take i xs)

-- what is made of one element more of a list
pub added_more : {A B D : Type 0} (seen : A → D) (made : B → D) (before : List D) (now : List A) (x : A) (xs : List B) (i : ℕ) (y : B)
    → map seen now ≡ before ++ map made (take i xs) → i < length xs → y ≡ get_or xs i y → seen x ≡ made y
    → map seen (now ++ x ∷ []) ≡ before ++ map made (take (i + 1) xs)
added_more seen made before now x xs i y so_far below there same =
    let taken : take (i + 1) xs ≡ take i xs ++ y ∷ [] = take_more xs i y below ∙ ap (λ k. take i xs ++ k ∷ []) (sym there) in
    let right : map made (take (i + 1) xs) ≡ map made (take i xs) ++ made y ∷ [] = ap (map made) taken ∙ map-append made (take i xs) (y ∷ []) in
    map-append seen now (x ∷ []) ∙ ap (λ l. l ++ seen x ∷ []) so_far ∙ append_assoc before (map made (take i xs)) (seen x ∷ [])
    ∙ ap (λ z. before ++ (map made (take i xs) ++ z ∷ [])) same ∙ ap (λ l. before ++ l) (sym right)

-- the same where nothing stands before
pub map-more : {A B D : Type 0} (seen : A → D) (made : B → D) (now : List A) (x : A) (xs : List B) (i : ℕ) (y : B)
    → map seen now ≡ map made (take i xs) → i < length xs → slice_get xs i ≡ Some y → seen x ≡ made y → map seen (now ++ x ∷ []) ≡ map made (take (i + 1) xs)
map-more seen made now x xs i y so_far below there same = added_more seen made [] now x xs i y so_far below (sym (get_or_from_slice_get xs i y y there)) same

-- a class where it stands, as it is seen
pub seen_there : (classes : List ClassIn) (i : ℕ) (c : ClassIn) → i < length classes → c ≡ get_or classes i c → slice_get (seen_classes classes) i ≡ Some (seen_class c)
seen_there classes i c below is = slice_get-map seen_class classes i ∙ ap (option_map seen_class) (slice_get-get_or classes i c below ∙ ap Some (sym is))

-- the same where what is made of the first elements of a list stands behind others
pub Each-more : {X Y B : Type 0} (R : X → Y → Type 0) (before : List X) (made : B → X) (xs : List B) (i : ℕ) (b : B) (ys : List Y) (y : Y)
    → Each R (before ++ map made (take i xs)) ys → i < length xs → slice_get xs i ≡ Some b → R (made b) y → Each R (before ++ map made (take (i + 1) xs)) (ys ++ y ∷ [])
Each-more R before made xs i b ys y so_far below there last =
    let taken : take (i + 1) xs ≡ take i xs ++ b ∷ [] = take_more xs i b below ∙ ap (λ k. take i xs ++ k ∷ []) (get_or_from_slice_get xs i b b there) in
    let longer : map made (take (i + 1) xs) ≡ map made (take i xs) ++ made b ∷ [] = ap (map made) taken ∙ map-append made (take i xs) (b ∷ []) in
    let whole : before ++ map made (take (i + 1) xs) ≡ (before ++ map made (take i xs)) ++ made b ∷ [] =
    ap (λ l. before ++ l) longer ∙ sym (append_assoc before (map made (take i xs)) (made b ∷ [])) in
    subst (λ l. Each R l (ys ++ y ∷ [])) (sym whole) (Each-push R (before ++ map made (take i xs)) ys (made b) y so_far last)
