-- The first places of texts, as the texts come.
use Rattle.std.proofs.Common.{◌≡◌, ℕ, ◌+◌, ◌<◌, ◌++◌, true, false, List, [], ◌∷◌, Option, Some, None, length, length-append, slice_get, get_or, take, ◌≤◌, refl, sym, ap, subst, ◌∙◌, inl, inr, arith}
use Rattle.std.proofs.lemmas.List.{take_all, take_more, length-take-le}
use Rattle.std.specs.Option.{IfNone, IfSome, is_some}
use Rattle.std.proofs.lemmas.Option.{slice_get-get_or}
use Rattle.lists.specs.Lists.{Adds, Has}
use Rattle.jim_ast.specs.declared.names.NameId.{NameId}
use Rattle.lists.proofs.Places.{slice_get-append_left, slice_get-below, slice_get-push, slice_get-pushed}
use Rattle.link_program.specs.Places.{ArePlaces}
use Rattle.link_rules.specs.Accessed.{IsFirstPlace}
use Rattle.link_program.specs.declared.places.FirstPlaces.{FirstPlaces}

-- a first place stays the first
still_first : (texts : List (List ℕ)) (text last : List ℕ) (n : ℕ) → IsFirstPlace texts text n → IsFirstPlace (texts ++ last ∷ []) text n
still_first texts text last n is = record {
  holds = slice_get-append_left texts (last ∷ []) n text is.holds;
  first = λ m less there. elim (slice_get-pushed texts last m text there) [
    | inl old ↦ is.first m less old
    | inr end ↦ (let below = slice_get-below texts n text is.holds in absurd (omega (arith, less, below, end.0)))
  ];
}

-- no text has a place
pub places_none : (t : FirstPlaces) → t.texts ≡ [] → t.places.items ≡ [] → ArePlaces [] t
places_none t none none_too = record {
  as_many = cc;
  each = λ k n text there. (let below = slice_get-below t.texts k text there in absurd (omega (arith, below, subst (λ (xs : List (List ℕ)). length xs ≡ 0) (sym none) refl)));
  all = λ i text there. absurd (cc (there));
}

-- a text that was there comes again
pub places_again : (texts : List (List ℕ)) (text : List ℕ) (t : FirstPlaces) → Has t.texts text → ArePlaces texts t → ArePlaces (texts ++ text ∷ []) t
places_again texts text t has are = record {
  as_many = are.as_many;
  each = λ k n x there place. still_first texts x text n (are.each k n x there place);
  all = λ i x there. elim (slice_get-pushed texts text i x there) [
    | inl old ↦ are.all i x old
    | inr end ↦ subst (Has t.texts) (sym end.1) has
  ];
}

-- a new one comes
pub places_more : (texts : List (List ℕ)) (text : List ℕ) (t now : FirstPlaces) → (Has t.texts text → ⊥) → now.texts ≡ t.texts ++ text ∷ []
    → now.places.items ≡ t.places.items ++ length texts ∷ [] → ArePlaces texts t → ArePlaces (texts ++ text ∷ []) now
places_more texts text t now new e f are = record { as_many = as_many; each = each; all = all }
  where
    as_many : length now.places.items ≡ length now.texts
    as_many = rw (e, f) (omega (arith, length-append t.texts (text ∷ []), length-append t.places.items (length texts ∷ []), are.as_many))

    none_before : (i : ℕ) → slice_get texts i ≡ Some text → ⊥
    none_before i there = new (are.all i text there)

    first_here : IsFirstPlace (texts ++ text ∷ []) text (length texts)
    first_here = record {
      holds = slice_get-push texts text;
      first = λ m less there. elim (slice_get-pushed texts text m text there) [ inl old ↦ none_before m old | inr end ↦ absurd (omega (arith, less, end.0)) ];
    }

    each : (k n : ℕ) (x : List ℕ) → slice_get now.texts k ≡ Some x → slice_get now.places.items k ≡ Some n → IsFirstPlace (texts ++ text ∷ []) x n
    each k n x there place = elim (slice_get-pushed t.texts text k x (rw e at there)) [
      | inl old ↦ elim (slice_get-pushed t.places.items (length texts) k n (rw f at place)) [
        | inl old_too ↦ still_first texts x text n (are.each k n x old old_too)
        | inr end ↦ (let below = slice_get-below t.texts k x old in absurd (omega (arith, below, end.0, are.as_many)))
      ]
      | inr end ↦ elim (slice_get-pushed t.places.items (length texts) k n (rw f at place)) [
        | inl old ↦ (let below = slice_get-below t.places.items k n old in absurd (omega (arith, below, end.0, are.as_many)))
        | inr end_too ↦ subst (λ m. IsFirstPlace (texts ++ text ∷ []) x m) (sym end_too.1) (subst (λ (z : List ℕ). IsFirstPlace (texts ++ text ∷ []) z (length texts)) (sym end.1) first_here)
      ]
    ]

    all : (i : ℕ) (x : List ℕ) → slice_get (texts ++ text ∷ []) i ≡ Some x → Has now.texts x
    all i x there = elim (slice_get-pushed texts text i x there) [
      | inl old ↦ (let h = are.all i x old in rw e (h.0, slice_get-append_left t.texts (text ∷ []) h.0 x h.1))
      | inr end ↦ rw (e, end.1) (length t.texts, slice_get-push t.texts text)
    ]

-- a text that is found is there
pub found_has : (names : List (List ℕ)) (text : List ℕ) (o : Option NameId) → is_some o ≡ true → IfSome o (λ (id : NameId). slice_get names id.0 ≡ Some text) → Has names text
found_has names text None is h = absurd (cc (is))
found_has names text (Some id) is h = (id.0, h)

-- one that isn't found isn't there
pub not_found : (P : Type 0) (o : Option NameId) → is_some o ≡ false → IfNone o P → P
not_found P None is h = h
not_found P (Some id) is h = absurd (cc (is))

-- what is added is new
pub adds_new : {X : Type 0} (old new : List X) (x : X) → Adds old x new → (Has old x → ⊥) → new ≡ old ++ x ∷ []
adds_new old new x adds none = elim adds [ inl a ↦ absurd (none a.0) | inr b ↦ b.1 ]

-- the first place that is kept
pub place_at : (texts : List (List ℕ)) (text : List ℕ) (t : FirstPlaces) (k n : ℕ) → ArePlaces texts t → slice_get t.texts k ≡ Some text → n ≡ get_or t.places.items k n
    → IsFirstPlace texts text n
place_at texts text t k n are there read =
    let below : k < length t.places.items = (let h = slice_get-below t.texts k text there in omega (arith, h, are.as_many)) in
    are.each k n text there (slice_get-get_or t.places.items k n below ∙ ap Some (sym read))

-- how many texts came before
pub length_taken : (texts : List (List ℕ)) (i : ℕ) → i < length texts → i ≡ length (take i texts)
length_taken texts i below = sym (length-take-le i texts (omega arith))

-- the next text of a list came
pub places_next : (texts : List (List ℕ)) (i : ℕ) (item text : List ℕ) (now : FirstPlaces) → i < length texts → item ≡ get_or texts i item → text ≡ item
    → ArePlaces (take i texts ++ text ∷ []) now → ArePlaces (take (i + 1) texts) now
places_next texts i item text now below read is are =
    subst (λ ts. ArePlaces ts now) (sym (take_more texts i item below)) (subst (λ (t : List ℕ). ArePlaces (take i texts ++ t ∷ []) now) (is ∙ read) are)

-- all texts came
pub places_all : (texts : List (List ℕ)) (i : ℕ) (t : FirstPlaces) → length texts ≤ i → ArePlaces (take i texts) t → ArePlaces texts t
places_all texts i t past are = subst (λ ts. ArePlaces ts t) (take_all i texts past) are
