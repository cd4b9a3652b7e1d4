-- The names of a text are the texts that its tokens say, each once, in the order in which they are first said.
use Rattle.std.proofs.Common.{◌≡◌, ℕ, ◌<◌, Bool, true, false, List, [], ◌∷◌, ◌++◌, Option, Some, None, length, slice_get, refl, sym, ◌∙◌, subst, inl, inr, arith, if◌then◌else◌, fold}
use Rattle.std.specs.List.{list_any}
use Rattle.std.specs.Str.{bytes_eq}
use Rattle.std.proofs.lemmas.List.{append_assoc, append-nil}
use Rattle.lists.specs.Lists.{Has, Adds}
use Rattle.lists.proofs.Places.{IsApart-adds, Has-adds_itself, slice_get-adds, slice_get-added, slice_get-append_left, slice_get-below, slice_get-push, slice_get-pushed}
use Rattle.jim_text.specs.declared.Token.{Token}
use Rattle.jim_signs.specs.Names.{AreFirsts, contents, names_of, said, text_of, with_contents, with_text}
use Rattle.jim_signs.proofs.NameLemmas.{list_any-Has, Has-list_any}

-- a text that is put is one that was there, or stands last
Adds-with_text : (names : List (List ℕ)) (text : List ℕ) → Adds names text (with_text names text)
Adds-with_text names text = by (list_any (bytes_eq text) names) refl
  where
    by : (t : Bool) → list_any (bytes_eq text) names ≡ t → Adds names text (if t then names else names ++ text ∷ [])
    by true e = inl (Has-list_any text names e, refl)
    by false e = inr ((λ h. cc (sym (list_any-Has text names h) ∙ e)), refl)

module _ (before old new : List (List ℕ)) (text : List ℕ) (firsts : AreFirsts before old) (adds : Adds old text new) where
  abbrev all : List (List ℕ)
  all = before ++ text ∷ []

  is_said : (t : List ℕ) → Has new t → Has all t
  is_said t h = elim (slice_get-added old new text adds h.0 t h.1) [
    | inl there ↦ let p = (firsts.each t).1 (h.0, there) in (p.0, slice_get-append_left before _ p.0 t p.1)
    | inr same ↦ rw same (length before, slice_get-push before text)
  ]

  is_named : (t : List ℕ) → Has all t → Has new t
  is_named t h = elim (slice_get-pushed before text h.0 t h.1) [
    | inl there ↦ let p = (firsts.each t).0 (h.0, there) in (p.0, slice_get-adds old new text adds p.0 t p.1)
    | inr last ↦ rw last.1 (Has-adds_itself old new text adds)
  ]

  -- a name that stands before another stood there before
  stood : (i j : ℕ) (first second : List ℕ) → i < j → slice_get new i ≡ Some first → slice_get new j ≡ Some second → slice_get old i ≡ Some first
  stood i j first second less p q = elim adds [
    | inl a ↦ rw a.1 at p
    | inr b ↦ elim (slice_get-pushed old text i first (rw b.1 at p)) [
      | inl there ↦ there
      | inr last ↦ elim (slice_get-pushed old text j second (rw b.1 at q)) [
        | inl there ↦ absurd (let low = slice_get-below old j second there in omega arith)
        | inr again ↦ absurd (omega (arith, last.0, again.0))
      ]
    ]
  ]

  ordered : (i j b : ℕ) (first second : List ℕ) → i < j → slice_get new i ≡ Some first → slice_get new j ≡ Some second → slice_get all b ≡ Some second
      → (a : ℕ) × (a < b) × (slice_get all a ≡ Some first)
  ordered i j b first second less p q at_b =
      let here : slice_get old i ≡ Some first = stood i j first second less p q in
      elim (slice_get-pushed before text b second at_b) [
        | inl there ↦
            let named = (firsts.each second).0 (b, there) in
            let same : named.0 ≡ j = IsApart-adds old new text firsts.apart adds named.0 j second (slice_get-adds old new text adds named.0 second named.1) q in
            let found = firsts.in_order i j b first second less here (subst (λ k. slice_get old k ≡ Some second) same named.1) there in
            (found.0, found.1, slice_get-append_left before _ found.0 first found.2)
        | inr last ↦
            let found = (firsts.each first).1 (i, here) in
            (found.0, rw last.0 (slice_get-below before found.0 first found.1), slice_get-append_left before _ found.0 first found.1)
      ]

  pub AreFirsts-next : AreFirsts (before ++ text ∷ []) new
  AreFirsts-next = record {
    apart = IsApart-adds old new text firsts.apart adds;
    each = λ t. (is_named t, is_said t);
    in_order = ordered;
  }

module _ (bytes : List ℕ) where
  abbrev put : List (List ℕ) → Token → List (List ℕ)
  put names token = with_contents names (contents token.kind (text_of bytes token))

  of_more : (before names : List (List ℕ)) (tokens : List Token) → AreFirsts before names → AreFirsts (before ++ said bytes tokens) (fold put names tokens)
  of_more before names [] firsts = rw (append-nil before) firsts
  of_more before names (token ∷ tokens) firsts =
      by (contents token.kind (text_of bytes token)) refl (λ more new next. of_more more new tokens next)
    where
      by : (says : Option (List ℕ)) → contents token.kind (text_of bytes token) ≡ says
          → ((more new : List (List ℕ)) → AreFirsts more new → AreFirsts (more ++ said bytes tokens) (fold put new tokens))
          → AreFirsts (before ++ said bytes (token ∷ tokens)) (fold put names (token ∷ tokens))
      by None e rest = rw e (rest before names firsts)
      by (Some text) e rest = rw e (rw (← append_assoc before (text ∷ []) (said bytes tokens))
          (rest (before ++ text ∷ []) (with_text names text) (AreFirsts-next before names (with_text names text) text firsts (Adds-with_text names text))))

pub AreFirsts-names_of : (bytes : List ℕ) (tokens : List Token) → AreFirsts (said bytes tokens) (names_of bytes tokens)
AreFirsts-names_of bytes tokens = of_more bytes [] [] tokens (record {
  apart = λ i j x p q. cc;
  each = λ t. ((λ h. cc (h.1)), (λ h. cc (h.1)));
  in_order = λ i j b first second less p q r. cc;
})
