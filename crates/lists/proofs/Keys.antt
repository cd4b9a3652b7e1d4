-- A set that keeps the order in which its keys came, as a list.
use Rattle.std.proofs.Common.{◌≡◌, ℕ, zero, suc, Bool, true, false, ◌||◌, List, [], ◌∷◌, ◌++◌, slice_get, Some, refl, sym, ap, ◌∙◌, inl, inr, true≢false, if◌then◌else◌, IsTrue, ◌↔◌, not, MatchBool}
use Rattle.std.specs.List.{list_any, position}
use Rattle.std.proofs.lemmas.List.Quantifiers.{position-Some}
use Rattle.std.proofs.lemmas.Option.{slice_get-get_or}
use Rattle.indexmap.specs.IndexSet.{insert_key}
use Rattle.lists.specs.Lists.{Has, Adds}

module _ {X : Type 0} (eq : X → X → Bool) (same : (x y : X) → eq x y ≡ true → x ≡ y) (self : (x : X) → eq x x ≡ true) where
  -- where the test finds a key, the list has it
  pub has-list_any : (ks : List X) (k : X) → list_any (eq k) ks ≡ true → Has ks k
  has-list_any [] k h = absurd (true≢false (sym h))
  has-list_any (x ∷ xs) k h = by (eq k x) refl (has-list_any xs k)
    where
      by : (b : Bool) → eq k x ≡ b → (list_any (eq k) xs ≡ true → Has xs k) → Has (x ∷ xs) k
      by true e rest = (0, ap Some (sym (same k x e)))
      by false e rest = let p = rest (sym (ap (λ c. c || list_any (eq k) xs) e) ∙ h) in (suc p.0, p.1)

  -- where the test finds no key, no place has it
  pub not-list_any : (ks : List X) (k : X) (i : ℕ) → list_any (eq k) ks ≡ false → slice_get ks i ≡ Some k → ⊥
  not-list_any [] k i h p = cc
  not-list_any (x ∷ xs) k i h p = by (eq k x) refl i p (not-list_any xs k)
    where
      by : (b : Bool) → eq k x ≡ b → (i : ℕ) → slice_get (x ∷ xs) i ≡ Some k → ((j : ℕ) → list_any (eq k) xs ≡ false → slice_get xs j ≡ Some k → ⊥) → ⊥
      by true e i p rest = true≢false (sym (ap (λ c. c || list_any (eq k) xs) e) ∙ h)
      by false e zero p rest = let e2 : x ≡ k = cc in true≢false (sym (self k) ∙ ap (eq k) (sym e2) ∙ e)
      by false e (suc i) p rest = rest i (sym (ap (λ c. c || list_any (eq k) xs) e) ∙ h) p

  -- a key that is put into the set is added
  pub Adds-insert_key : (ks : List X) (k : X) → Adds ks k (insert_key eq ks k)
  Adds-insert_key ks k = by (list_any (eq k) ks) refl
    where
      by : (b : Bool) → list_any (eq k) ks ≡ b → Adds ks k (insert_key eq ks k)
      by true e = inl (has-list_any ks k e, ap (λ c. if c then ks else ks ++ k ∷ []) e)
      by false e = inr ((λ p. not-list_any ks k p.0 e p.1), ap (λ c. if c then ks else ks ++ k ∷ []) e)

  -- whether a key is there
  pub Has-list_any : (ks : List X) (k : X) (b : Bool) → b ≡ list_any (eq k) ks → IsTrue b ↔ Has ks k
  Has-list_any ks k true e = (λ _. has-list_any ks k (sym e), λ _. refl)
  Has-list_any ks k false e = ((λ h. absurd (true≢false (sym h))), λ p. absurd (not-list_any ks k p.0 (sym e) p.1))

  -- the place at which a key is found has it
  pub slice_get-position : (ks : List X) (k : X) (i : ℕ) → Some i ≡ position (eq k) ks → slice_get ks i ≡ Some k
  slice_get-position ks k i h =
      let p = position-Some (eq k) ks i k (sym h) in
      slice_get-get_or ks i k p.0 ∙ ap Some (sym (same k _ p.1))

  -- a key that is not found goes last
  pub insert_key-new : (ks mid : List X) (k : X) → mid ≡ ks → list_any (eq k) ks ≡ false → insert_key eq mid k ≡ ks ++ k ∷ []
  insert_key-new ks mid k e h = ap (λ (xs : List X). insert_key eq xs k) e ∙ ap (λ c. if c then ks else ks ++ k ∷ []) h

  pub not-found : (ks : List X) (k : X) → list_any (eq k) ks ≡ false → Has ks k → ⊥
  not-found ks k h p = not-list_any ks k p.0 h p.1

  -- whether a key that is put into the set is new
  pub put-insert_key : (ks new : List X) (k : X) (is_new : Bool) → is_new ≡ not (list_any (eq k) ks) → new ≡ insert_key eq ks k
      → MatchBool is_new ((new ≡ ks ++ k ∷ []) × (Has ks k → ⊥)) ((new ≡ ks) × Has ks k)
  put-insert_key ks new k is_new e put = by (list_any (eq k) ks) refl
    where
      by : (b : Bool) → list_any (eq k) ks ≡ b → MatchBool is_new ((new ≡ ks ++ k ∷ []) × (Has ks k → ⊥)) ((new ≡ ks) × Has ks k)
      by true h = rw (e, h) (put ∙ ap (λ c. if c then ks else ks ++ k ∷ []) h, has-list_any ks k h)
      by false h = rw (e, h) (put ∙ ap (λ c. if c then ks else ks ++ k ∷ []) h, λ p. not-list_any ks k p.0 h p.1)
