-- The fields of a path, part by part.
use Rattle.std.proofs.Common.{◌≡◌, ◌≢◌, ℕ, zero, suc, ◌+◌, ◌<◌, ◌≤◌, false, List, [], ◌∷◌, ◌++◌, Option, Some, None, IfNone, Bor, length, get_or, codes, refl, sym, ap, subst, ◌∙◌, true≢false, arith}
use Rattle.std.specs.List.{AllZip}
use Rattle.std.specs.Option.{is_some}
use Rattle.std.proofs.lemmas.List.{length-append, length-map}
use Rattle.std.proofs.lemmas.List.Elements.{All-get_or}
use Rattle.std.proofs.lemmas.Slice.Zip.{AllZip-long}
use Rattle.boom_words.specs.Fields.{AreFields, FieldName, IsPlain, IsPlainName, SpellsField, cells, field_parts, named, texts}
use Rattle.boom_words.proofs.Elements.{zip_map, zip_one}

-- what is said of no value, where there is none
pub none_told : {X P : Type 0} (o : Option X) → is_some o ≡ false → IfNone o P → P
none_told None e h = h
none_told (Some x) e h = absurd (true≢false e)

-- no character of the text is a colon
abbrev pub HasNoColon : List ℕ → Type 0
HasNoColon text = (i : ℕ) → i < length text → get_or text i 0 ≢ 58

no_colon : (name : List ℕ) → IsPlainName name → HasNoColon name
no_colon name is i h = (All-get_or IsPlain name i 0 h is.plain).2

colon_at : (class name : List ℕ) → get_or (class ++ 58 ∷ name) (length class) 0 ≡ 58
colon_at [] name = refl
colon_at (x ∷ xs) name = colon_at xs name

-- a text is cut at its first colon in one way
cut_once : (a b x y : List ℕ) → HasNoColon a → HasNoColon x → a ++ 58 ∷ b ≡ x ++ 58 ∷ y → (a ≡ x) × (b ≡ y)
cut_once [] b [] y p q e = (refl, cc)
cut_once [] b (x ∷ xs) y p q e = let same : x ≡ 58 = cc in absurd (q 0 (omega arith) same)
cut_once (x ∷ xs) b [] y p q e = let same : x ≡ 58 = cc in absurd (p 0 (omega arith) same)
cut_once (x ∷ xs) b (z ∷ zs) y p q e =
    let first : x ≡ z = cc in
    let rest : xs ++ 58 ∷ b ≡ zs ++ 58 ∷ y = cc in
    let more = cut_once xs b zs y (λ i h. p (suc i) (omega (arith, h))) (λ i h. q (suc i) (omega (arith, h))) rest in
    (cc (first, more.0), more.1)

-- no text spells the cells and a named field
not_both : (class name : List ℕ) → codes "[]" ≡ class ++ 58 ∷ name → 0 < length class → ⊥
not_both [] name e some = absurd (omega (arith, some))
not_both (x ∷ []) name e some = let same : 93 ≡ 58 = ap (λ l. get_or l 1 0) e in omega (arith, same)
not_both (x ∷ y ∷ zs) name e some =
    let long : 2 ≡ suc (suc (length (zs ++ 58 ∷ name))) = ap length e in
    omega (arith, long, length-append zs (58 ∷ name))

-- a part spells one field
part_one : (part : List ℕ) (a b : FieldName) → SpellsField part a → SpellsField part b → a ≡ b
part_one part cells cells p q = refl
part_one part cells (named class name) p q = absurd (not_both class name (sym p ∙ q.is_text) q.is_class.some)
part_one part (named class name) cells p q = absurd (not_both class name (sym q ∙ p.is_text) p.is_class.some)
part_one part (named class name) (named c n) p q =
    let same = cut_once class name c n (no_colon class p.is_class) (no_colon c q.is_class) (sym p.is_text ∙ q.is_text) in
    cc (same.0, same.1)

-- a word spells one path
pub fields_one : (word : List ℕ) (a b : List FieldName) → AreFields word a → AreFields word b → a ≡ b
fields_one word a b p q = zip_one SpellsField part_one (field_parts word) a b p.spelled q.spelled

-- a text without a colon spells the cells alone
pub only_cells : (part : List ℕ) → HasNoColon part → (part ≡ codes "[]" → ⊥) → (field : FieldName) → SpellsField part field → ⊥
only_cells part none other cells h = other h
only_cells part none other (named class name) h =
    let long : length part ≡ length class + suc (length name) = ap length h.is_text ∙ length-append class (58 ∷ name) in
    none (length class) (omega (arith, long)) (ap (λ text. get_or text (length class) 0) h.is_text ∙ colon_at class name)

-- a text that is cut at its first colon spells no field where one of the two isn't plain
pub not_plain : (part class name : List ℕ) → part ≡ class ++ 58 ∷ name → HasNoColon class → (part ≡ codes "[]" → ⊥)
    → (IsPlainName class → IsPlainName name → ⊥) → (field : FieldName) → SpellsField part field → ⊥
not_plain part class name e none other bad cells h = other h
not_plain part class name e none other bad (named c n) h =
    let same = cut_once c n class name (no_colon c h.is_class) none (sym h.is_text ∙ e) in
    bad (subst IsPlainName same.0 h.is_class) (subst IsPlainName same.1 h.is_name)

-- the part spells the field
abbrev pub Reads : Bor (List ℕ) → FieldName → Type 0
Reads part field = SpellsField part.now field

zip_at : (parts : List (Bor (List ℕ))) (fields : List FieldName) (i : ℕ) (d : Bor (List ℕ)) → i < length parts → AllZip SpellsField (texts parts) fields
    → (field : FieldName) × Reads (get_or parts i d) field
zip_at [] fields i d less zip = absurd (omega arith)
zip_at (x ∷ xs) [] i d less zip = absurd zip
zip_at (x ∷ xs) (f ∷ fs) zero d less zip = (f, zip.0)
zip_at (x ∷ xs) (f ∷ fs) (suc i) d less zip = zip_at xs fs i d (omega arith) zip.1

-- what is read of all parts, where these are few, is what the word spells
pub all_read : (word : List ℕ) (parts : List (Bor (List ℕ))) (fields : List FieldName) → texts parts ≡ field_parts word → length parts ≤ 4
    → AllZip Reads parts fields → AreFields word fields
all_read word parts fields cut few zip =
    let spelled = zip_map (λ part. part.now) SpellsField parts fields zip in
    let long : length fields ≡ length parts = AllZip-long SpellsField (texts parts) fields spelled ∙ length-map parts (λ part. part.now) in
    record {
      spelled = subst (λ ps. AllZip SpellsField ps fields) cut spelled;
      few = omega (arith, long);
    }

-- a word with a part that spells no field spells no path
pub bad_part : (word : List ℕ) (parts : List (Bor (List ℕ))) (i : ℕ) (d : Bor (List ℕ)) → texts parts ≡ field_parts word → i < length parts
    → ((field : FieldName) → Reads (get_or parts i d) field → ⊥) → (fields : List FieldName) → AreFields word fields → ⊥
bad_part word parts i d cut less none fields are =
    let at = zip_at parts fields i d less (subst (λ ps. AllZip SpellsField ps fields) (sym cut) are.spelled) in
    none at.0 at.1

-- a word of more than four parts spells no path
pub too_many : (word : List ℕ) (parts : List (Bor (List ℕ))) → texts parts ≡ field_parts word → 4 < length parts
    → (fields : List FieldName) → AreFields word fields → ⊥
too_many word parts cut many fields are =
    let long : length fields ≡ length parts =
    AllZip-long SpellsField (field_parts word) fields are.spelled ∙ ap length (sym cut) ∙ length-map parts (λ part. part.now) in
    let few = are.few in
    omega (arith, long, few, many)
