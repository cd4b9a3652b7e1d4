-- Rows of cells, and where each cell stands.
use Rattle.std.specs.Prelude.{◌≡◌, ℕ, List, [], length, slice_get, slice_index_or, Some}
use Rattle.lists.specs.Lists.{IsApart}

-- rows of cells by number; keys, and the index in its row of the cell of each; and for how many more rows there is room
pub record Cast (S X : Type 0) : Type 0 where
  pub rows : List (List X)
  pub keys : List S
  pub places : List ℕ
  pub room : ℕ

-- the row with a number
abbrev pub row_at : {X : Type 0} → List (List X) → ℕ → List X
row_at rows i = slice_index_or rows i []

-- the key has the place
abbrev pub HasPlace : {S : Type 0} → List S → List ℕ → S → ℕ → Type 0
HasPlace keys places key place = (n : ℕ) × (slice_get keys n ≡ Some key) × (slice_get places n ≡ Some place)

-- a cell at the place, in the row of the key, that is of what the key is of
pub record IsPlaced {S X K : Type 0} (row_of : S → ℕ) (of : S → K) (is_of : X → K) (rows : List (List X)) (key : S) (place : ℕ) : Type 0 where
  pub cell : X
  pub there : slice_get (row_at rows (row_of key)) place ≡ Some cell
  pub same : is_of cell ≡ of key

-- a key of the row that is of what the cell is of, and has the place
pub record IsFound {S X K : Type 0} (row_of : S → ℕ) (of : S → K) (is_of : X → K) (keys : List S) (places : List ℕ) (row place : ℕ) (cell : X) : Type 0 where
  pub key : S
  pub in_row : row_of key ≡ row
  pub same : of key ≡ is_of cell
  pub number : ℕ
  pub there : slice_get keys number ≡ Some key
  pub at : slice_get places number ≡ Some place

-- each key has the place of its cell, and each cell is found by its key
pub record IsFiled {S X K : Type 0} (row_of : S → ℕ) (of : S → K) (is_of : X → K) (rows : List (List X)) (keys : List S) (places : List ℕ) : Type 0 where
  pub as_many : length places ≡ length keys
  pub apart : IsApart keys
  pub placed : (n : ℕ) (s : S) (j : ℕ) → slice_get keys n ≡ Some s → slice_get places n ≡ Some j → IsPlaced row_of of is_of rows s j
  pub found : (i j : ℕ) (x : X) → slice_get (row_at rows i) j ≡ Some x → IsFound row_of of is_of keys places i j x
