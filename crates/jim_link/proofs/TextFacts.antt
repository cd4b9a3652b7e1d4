-- Texts in a row.
use Rattle.std.proofs.Common.{◌≡◌, ℕ, ◌+◌, ◌<◌, ◌≤◌, ◌++◌, List, [], ◌∷◌, length, map, take, get_or, refl, sym, ap, ◌∙◌, append_assoc, arith}
use Rattle.std.specs.List.{join_with_byte}
use Rattle.std.proofs.lemmas.List.{length-map, length-take-le, map-append, take_all, take_more}
use Rattle.jim_ast.specs.declared.syntax.Ty.{Ty}
use Rattle.link_rules.specs.Names.{type_text, types_text}
use Rattle.jim_link.specs.Texts.{separator}

-- one more text behind a comma
join_push : (xs : List (List ℕ)) (y : List ℕ) → join_with_byte 44 (xs ++ y ∷ []) ≡ join_with_byte 44 xs ++ (separator (length xs) ++ y)
join_push [] y = refl
join_push (x ∷ []) y = refl
join_push (x ∷ z ∷ xs) y =
    ap (λ (t : List ℕ). x ++ (44 ∷ t)) (join_push (z ∷ xs) y) ∙ sym (append_assoc x (44 ∷ join_with_byte 44 (z ∷ xs)) (44 ∷ y))

-- the text of one type more
pub types_more : (names : List (List ℕ)) (types : List Ty) (i : ℕ) (d : Ty) (text before added now : List ℕ) → i < length types
    → before ≡ text ++ types_text names (take i types) → added ≡ before ++ separator i → now ≡ added ++ type_text names (get_or types i d)
    → now ≡ text ++ types_text names (take (i + 1) types)
types_more names types i d text before added now below a b c =
    let ty = get_or types i d in
    let count : length (map (type_text names) (take i types)) ≡ i = length-map (take i types) (type_text names) ∙ length-take-le i types (omega arith) in
    let joined : types_text names (take (i + 1) types) ≡ types_text names (take i types) ++ (separator i ++ type_text names ty) =
    ap (types_text names) (take_more types i d below) ∙ ap (join_with_byte 44) (map-append (type_text names) (take i types) (ty ∷ []))
    ∙ join_push (map (type_text names) (take i types)) (type_text names ty)
    ∙ ap (λ n. types_text names (take i types) ++ (separator n ++ type_text names ty)) count in
    c ∙ ap (λ (t : List ℕ). t ++ type_text names ty) (b ∙ ap (λ (t : List ℕ). t ++ separator i) a)
    ∙ (append_assoc (text ++ types_text names (take i types)) (separator i) (type_text names ty)
    ∙ (append_assoc text (types_text names (take i types)) (separator i ++ type_text names ty) ∙ ap (λ (t : List ℕ). text ++ t) (sym joined)))

-- all of them
pub types_all : (names : List (List ℕ)) (types : List Ty) (i : ℕ) (text now : List ℕ) → length types ≤ i → now ≡ text ++ types_text names (take i types)
    → now ≡ text ++ types_text names types
types_all names types i text now past is = is ∙ ap (λ (ts : List Ty). text ++ types_text names ts) (take_all i types past)

-- one more element of a mapped list
pub mapped_more : {X Y : Type 0} (f : X → Y) (xs : List X) (i : ℕ) (d : X) (y : Y) (old now : List Y) → i < length xs → y ≡ f (get_or xs i d)
    → old ≡ map f (take i xs) → now ≡ old ++ y ∷ [] → now ≡ map f (take (i + 1) xs)
mapped_more f xs i d y old now below is before put =
    put ∙ ap (λ ys. ys ++ y ∷ []) before ∙ ap (λ z. map f (take i xs) ++ z ∷ []) is ∙ sym (map-append f (take i xs) (get_or xs i d ∷ []))
    ∙ sym (ap (map f) (take_more xs i d below))

-- all of them
pub mapped_all : {X Y : Type 0} (f : X → Y) (xs : List X) (i : ℕ) (now : List Y) → length xs ≤ i → now ≡ map f (take i xs) → now ≡ map f xs
mapped_all f xs i now past is = is ∙ ap (map f) (take_all i xs past)
