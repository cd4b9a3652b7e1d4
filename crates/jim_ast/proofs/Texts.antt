-- A set of texts, as the list of their bytes in the order in which they came.
use Rattle.std.proofs.Common.{◌≡◌, ℕ, suc, ◌<◌, true, List, [], ◌∷◌, ◌++◌, Some, get_or, length, map, slice_get, refl, ap, sym, ◌∙◌}
use Rattle.std.specs.Option.{option_map}
use Rattle.std.specs.Str.{bytes_eq}
use Rattle.std.proofs.lemmas.Slice.Eq.{bytes_eq-Decides}
use Rattle.std.proofs.lemmas.Option.{slice_get-map, slice_get-get_or}

Some-same : {xs ys : List ℕ} → Some xs ≡ Some ys → xs ≡ ys
Some-same e = cc

module _ {K : Type 0} (bytes : K → List ℕ) where
  -- the key at a place has the bytes at that place
  pub slice_get-bytes : (ks : List K) (i : ℕ) (k : K) → slice_get ks i ≡ Some k → slice_get (map bytes ks) i ≡ Some (bytes k)
  slice_get-bytes ks i k h = slice_get-map bytes ks i ∙ ap (option_map bytes) h

  -- a key that indexing reads
  pub slice_get-read : (ks : List K) (i : ℕ) (k : K) (own : List ℕ) → i < length ks → k ≡ get_or ks i k → own ≡ bytes k → slice_get (map bytes ks) i ≡ Some own
  slice_get-read ks i k own below read e = slice_get-bytes ks i k (slice_get-get_or ks i k below ∙ ap Some (sym read)) ∙ ap Some (sym e)

  -- its bytes are those of a text
  pub slice_get-same : (ks : List K) (i : ℕ) (k : K) (own text : List ℕ) → i < length ks → k ≡ get_or ks i k → own ≡ bytes k → bytes_eq own text ≡ true
      → slice_get (map bytes ks) i ≡ Some text
  slice_get-same ks i k own text below read e same = slice_get-read ks i k own below read e ∙ ap Some ((bytes_eq-Decides own text).0 same)

  -- where the text stands, it has its bytes
  pub slice_get-own : (ks : List K) (i : ℕ) (k : K) (own text : List ℕ) → i < length ks → k ≡ get_or ks i k → own ≡ bytes k → slice_get (map bytes ks) i ≡ Some text
      → bytes_eq own text ≡ true
  slice_get-own ks i k own text below read e here =
      (bytes_eq-Decides own text).1 (Some-same (sym (slice_get-read ks i k own below read e) ∙ here))

  -- the bytes of a key that was put last
  pub map-push : (ks : List K) (k : K) (text : List ℕ) → bytes k ≡ text → map bytes (ks ++ k ∷ []) ≡ map bytes ks ++ text ∷ []
  map-push [] k text e = ap (λ t. t ∷ []) e
  map-push (x ∷ ks) k text e = ap (λ r. bytes x ∷ r) (map-push ks k text e)

  -- there are as many texts as keys
  pub length-bytes : (ks : List K) → length (map bytes ks) ≡ length ks
  length-bytes [] = refl
  length-bytes (x ∷ ks) = ap suc (length-bytes ks)
