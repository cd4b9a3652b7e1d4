-- The list of names as it grows.
use Rattle.std.proofs.Common.{◌≡◌, ℕ, zero, suc, ◌+◌, Bool, true, false, cond, ◌||◌, not, List, [], ◌∷◌, ◌++◌, slice_get, Some, refl, sym, ap, ◌∙◌, inl, inr, true≢false, length, arith, if◌then◌else◌}
use Rattle.std.specs.List.{list_any}
use Rattle.std.specs.Str.{bytes_eq}
use Rattle.std.proofs.lemmas.Slice.Eq.{bytes_eq-Decides}
use Rattle.std.proofs.lemmas.List.Folds.{list_any-append}
use Rattle.lists.proofs.Places.{slice_get-push}
use Rattle.lists.specs.Lists.{Has, IsApart, Adds}
use Rattle.jim_signs.specs.Names.{with_text, place_of}

-- the test finds what a place has
pub list_any-Has : (text : List ℕ) (names : List (List ℕ)) → Has names text → list_any (bytes_eq text) names ≡ true
list_any-Has text [] h = cc (h.1)
list_any-Has text (name ∷ names) h = at h.0 h.1 (list_any-Has text names)
  where
    at : (i : ℕ) → slice_get (name ∷ names) i ≡ Some text → (Has names text → list_any (bytes_eq text) names ≡ true) → (bytes_eq text name || list_any (bytes_eq text) names) ≡ true
    at zero e rest = let same : text ≡ name = cc in ap (λ t. t || list_any (bytes_eq text) names) ((bytes_eq-Decides text name).1 same)
    at (suc i) e rest = or_true (bytes_eq text name) (rest (i, e))
      where
        or_true : (t : Bool) {d : Bool} → d ≡ true → (t || d) ≡ true
        or_true true e = refl
        or_true false e = e

-- what the test finds, a place has
pub Has-list_any : (text : List ℕ) (names : List (List ℕ)) → list_any (bytes_eq text) names ≡ true → Has names text
Has-list_any text [] h = absurd (true≢false (sym h))
Has-list_any text (name ∷ names) h = by (bytes_eq text name) refl (Has-list_any text names)
  where
    by : (t : Bool) → bytes_eq text name ≡ t → (list_any (bytes_eq text) names ≡ true → Has names text) → Has (name ∷ names) text
    by true e rest = (0, ap Some (sym ((bytes_eq-Decides text name).0 e)))
    by false e rest = let p = rest (sym (ap (λ t. t || list_any (bytes_eq text) names) e) ∙ h) in (suc p.0, p.1)

-- a text that is added is put last, unless it is there
pub with_text-adds : (old new : List (List ℕ)) (text : List ℕ) → Adds old text new → new ≡ with_text old text
with_text-adds old new text adds = elim adds [
  | inl a ↦ a.1 ∙ sym (ap (λ t. if t then old else old ++ text ∷ []) (list_any-Has text old a.0))
  | inr b ↦ b.1 ∙ sym (ap (λ t. if t then old else old ++ text ∷ []) (absent (list_any (bytes_eq text) old) refl b.0))
]
  where
    absent : (t : Bool) → list_any (bytes_eq text) old ≡ t → (Has old text → ⊥) → list_any (bytes_eq text) old ≡ false
    absent true e none = absurd (none (Has-list_any text old e))
    absent false e none = e

-- where no text stands twice, the place that has a text is its place
pub place_of-slice_get : (names : List (List ℕ)) (text : List ℕ) (i : ℕ) → IsApart names → slice_get names i ≡ Some text → i ≡ place_of names text
place_of-slice_get [] text i apart h = cc
place_of-slice_get (name ∷ names) text zero apart h =
    let same : text ≡ name = cc in
    sym (ap (λ t. cond (not t) (1 + place_of names text) 0) ((bytes_eq-Decides text name).1 same))
place_of-slice_get (name ∷ names) text (suc i) apart h =
    by (bytes_eq text name) refl (place_of-slice_get names text i (λ j k x p q. let e = apart (suc j) (suc k) x p q in omega arith) h)
  where
    by : (t : Bool) → bytes_eq text name ≡ t → i ≡ place_of names text → suc i ≡ cond (not (bytes_eq text name)) (1 + place_of names text) 0
    by true e rest =
        let same : text ≡ name = (bytes_eq-Decides text name).0 e in
        let two : 0 ≡ suc i = apart 0 (suc i) text (ap Some (sym same)) h in
        absurd (omega arith)
    by false e rest = let here : suc i ≡ 1 + place_of names text = omega arith in here ∙ sym (ap (λ t. cond (not t) (1 + place_of names text) 0) e)

-- a text that is there keeps its place
pub place_of-append : (names more : List (List ℕ)) (text : List ℕ) → list_any (bytes_eq text) names ≡ true → place_of (names ++ more) text ≡ place_of names text
place_of-append [] more text h = absurd (true≢false (sym h))
place_of-append (name ∷ names) more text h = by (bytes_eq text name) refl (place_of-append names more text)
  where
    by : (t : Bool) → bytes_eq text name ≡ t → (list_any (bytes_eq text) names ≡ true → place_of (names ++ more) text ≡ place_of names text)
        → cond (not (bytes_eq text name)) (1 + place_of (names ++ more) text) 0 ≡ cond (not (bytes_eq text name)) (1 + place_of names text) 0
    by true e rest = ap (λ t. cond (not t) (1 + place_of (names ++ more) text) 0) e ∙ sym (ap (λ t. cond (not t) (1 + place_of names text) 0) e)
    by false e rest = ap (λ n. cond (not (bytes_eq text name)) (1 + n) 0) (rest (sym (ap (λ t. t || list_any (bytes_eq text) names) e) ∙ h))

-- and stays there
pub list_any-more : (names more : List (List ℕ)) (text : List ℕ) → list_any (bytes_eq text) names ≡ true → list_any (bytes_eq text) (names ++ more) ≡ true
list_any-more names more text h = rw (list_any-append (bytes_eq text) names more, h) refl

-- the text that was put is there
pub list_any-with_text : (names : List (List ℕ)) (text : List ℕ) → list_any (bytes_eq text) (with_text names text) ≡ true
list_any-with_text names text = by (list_any (bytes_eq text) names) refl
  where
    last : list_any (bytes_eq text) (names ++ text ∷ []) ≡ true
    last = list_any-Has text (names ++ text ∷ []) (length names, slice_get-push names text)

    by : (t : Bool) → list_any (bytes_eq text) names ≡ t → list_any (bytes_eq text) (if t then names else names ++ text ∷ []) ≡ true
    by true e = e
    by false e = last

-- the place of a text that is there has it
pub slice_get-place_of : (names : List (List ℕ)) (text : List ℕ) → list_any (bytes_eq text) names ≡ true → slice_get names (place_of names text) ≡ Some text
slice_get-place_of [] text h = absurd (true≢false (sym h))
slice_get-place_of (name ∷ names) text h = by (bytes_eq text name) refl (slice_get-place_of names text)
  where
    by : (t : Bool) → bytes_eq text name ≡ t → (list_any (bytes_eq text) names ≡ true → slice_get names (place_of names text) ≡ Some text)
        → slice_get (name ∷ names) (cond (not (bytes_eq text name)) (1 + place_of names text) 0) ≡ Some text
    by true e rest = ap (λ t. slice_get (name ∷ names) (cond (not t) (1 + place_of names text) 0)) e ∙ ap Some (sym ((bytes_eq-Decides text name).0 e))
    by false e rest =
        let next : 1 + place_of names text ≡ suc (place_of names text) = omega arith in
        ap (λ t. slice_get (name ∷ names) (cond (not t) (1 + place_of names text) 0)) e ∙ ap (slice_get (name ∷ names)) next
        ∙ rest (sym (ap (λ t. t || list_any (bytes_eq text) names) e) ∙ h)
