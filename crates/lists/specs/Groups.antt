-- Items by their keys.
use Rattle.std.specs.Prelude.{◌≡◌, ◌≢◌, ℕ, suc, Bool, List, [], ◌∷◌, ◌++◌, Some, cond, length, slice_get}
use Rattle.lists.specs.declared.filing.Pair.{Pair}
use Rattle.lists.specs.declared.groups.Keyed.{Keyed}
use Rattle.lists.specs.Filings.{AreBelow, items_under, kept_if, row}
use Rattle.lists.specs.Lists.{Has, IsApart}

-- the items with a key, in order
abbrev pub items_with : {K X : Type 0} → (K → K → Bool) → List (Keyed K X) → K → List X
items_with eq [] key = []
items_with eq (p ∷ ps) key = kept_if (eq p.key key) p.item (items_with eq ps key)

-- the list that has the number of the key, and none where the key has no number
abbrev pub found_in : {K X : Type 0} → (K → K → Bool) → List K → (ℕ → List X) → K → List X
found_in eq [] lists key = []
found_in eq (k ∷ ks) lists key = cond (eq k key) (lists 0) (found_in eq ks (λ i. lists (suc i)) key)

-- keys by number, and a list for each
pub record Grouped (K X : Type 0) : Type 0 where
  pub keys : List K
  pub lists : List (List X)

-- the items that are kept under a key
abbrev pub found_at : {K X : Type 0} → (K → K → Bool) → Grouped K X → K → List X
found_at eq g key = found_in eq g.keys (row g.lists) key

-- the items' keys have numbers, and the items stand under these
pub record IsNumberedAll {K X : Type 0} (eq : K → K → Bool) (items : List (Keyed K X)) (keys : List K) (pairs : List (Pair X)) : Type 0 where
  pub apart : IsApart keys
  pub below : AreBelow (length keys) pairs
  pub there : (i : ℕ) (key : K) → slice_get keys i ≡ Some key → items_under pairs i ≡ items_with eq items key
  pub none : (key : K) → (Has keys key → ⊥) → items_with eq items key ≡ []

-- each key has a group of its own
pub record IsGrouped {K X : Type 0} (g : Grouped K X) : Type 0 where
  pub as_many : length g.lists ≡ length g.keys
  pub apart : IsApart g.keys

-- the element came last under the key, and all other keys have what they had
pub record IsAdded {K X : Type 0} (eq : K → K → Bool) (old new : Grouped K X) (key : K) (x : X) : Type 0 where
  pub here : found_at eq new key ≡ found_at eq old key ++ x ∷ []
  pub others : (k : K) → k ≢ key → found_at eq new k ≡ found_at eq old k
