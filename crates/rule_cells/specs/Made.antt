-- Lists of cells, and rules that are contracted by them.
use Rattle.std.specs.Prelude.{◌≡◌, ◌<◌, ℕ, List, Some, get_or, length, slice_get}
use Rattle.auto_table.specs.declared.rule.Rule.{Rule}
use Rattle.post_star.specs.Measures.{to_of}
use Rattle.weight_laws.specs.Law.{Domain}
use Rattle.rule_cells.specs.declared.cells.Cell.{Cell}
use Rattle.rule_cells.specs.Cells.{IsCarried, moved}

-- a node that is its own head
abbrev pub own_cell : {W : Type 0} → Domain W → ℕ → Cell W
own_cell d n = record { head = n; offset = d.one }

-- the head and the offset of a node; a node that the list doesn't have is its own head
abbrev pub cell_at : {W : Type 0} → Domain W → List (Cell W) → ℕ → Cell W
cell_at d cells n = get_or cells n (own_cell d n)

abbrev pub head_at : {W : Type 0} → Domain W → List (Cell W) → ℕ → ℕ
head_at d cells n = (cell_at d cells n).head

abbrev pub offset_at : {W : Type 0} → Domain W → List (Cell W) → ℕ → W
offset_at d cells n = (cell_at d cells n).offset

-- Each of so many nodes that is carried from another has the head of that. So all that hang together by such flows, circles too, have one head.
abbrev pub AreConverged : {W : Type 0} → Domain W → ℕ → List (Rule W) → List ℕ → List (Cell W) → Type 0
AreConverged {W} d count rules kept cells =
    (m n : ℕ) (w : W) → n < count → m < count → IsCarried rules kept m n w → head_at d cells n ≡ head_at d cells m

-- a contracted rule, and the one that it comes from
pub record IsMovedFrom {W : Type 0} (d : Domain W) (cells : List (Cell W)) (q r : Rule W) : Type 0 where
  pub leads : head_at d cells (to_of q) ≡ to_of q
  pub is : r ≡ moved d (head_at d cells) (offset_at d cells) q

-- of each contracted rule the number of that
pub record AreSources {W : Type 0} (d : Domain W) (cells : List (Cell W)) (rules few : List (Rule W)) (sources : List ℕ) : Type 0 where
  pub many : length sources ≡ length few
  pub each : (i source : ℕ) (r : Rule W) → slice_get sources i ≡ Some source → slice_get few i ≡ Some r
      → (q : Rule W) × (slice_get rules source ≡ Some q) × IsMovedFrom d cells q r
