-- Cells while they are made: they lead from node to node back to roots.
use Rattle.std.specs.Prelude.{◌≡◌, ◌<◌, ◌≤◌, ℕ, List, Some, length, slice_get}
use Rattle.auto_table.specs.declared.rule.Rule.{Rule}
use Rattle.weight_laws.specs.Law.{Domain}
use Rattle.rule_cells.specs.declared.cells.Cell.{Cell}
use Rattle.rule_cells.specs.declared.entered.Entered.{Entered}
use Rattle.rule_cells.specs.declared.entered.Entered.TheVariants.{Once}
use Rattle.rule_cells.specs.Cells.{AreCells, IsCarriedFrom}
use Rattle.rule_cells.specs.Made.{AreConverged, cell_at, head_at, offset_at, own_cell}

-- a cell whose head has the first cell, by that
abbrev pub joined_cell : {W : Type 0} → Domain W → Cell W → Cell W → Cell W
joined_cell d before cell = record { head = before.head; offset = d.extend before.offset cell.offset }

-- the cell of a node by that of its head
abbrev pub shorter : {W : Type 0} → Domain W → List (Cell W) → ℕ → Cell W
shorter d cells n = joined_cell d (cell_at d cells (head_at d cells n)) (cell_at d cells n)

-- From each node cells lead to its root, which is its own head. A head with a greater number is one.
pub record IsForest {W : Type 0} (d : Domain W) (rules : List (Rule W)) (kept : List ℕ) (root : ℕ → ℕ) (cells : List (Cell W)) : Type 0 where
  pub each : (n : ℕ) → IsCarriedFrom d rules kept (head_at d cells n) n (offset_at d cells n)
  pub own : (n : ℕ) → head_at d cells n ≡ n → offset_at d cells n ≡ d.one
  pub up : (n : ℕ) → n < head_at d cells n → head_at d cells (head_at d cells n) ≡ head_at d cells n
  pub within : (n : ℕ) → n < length cells → head_at d cells n < length cells
  pub same_root : (n : ℕ) → root (head_at d cells n) ≡ root n
  pub at_root : (n : ℕ) → head_at d cells n ≡ n → root n ≡ n

-- nodes that were their own heads have their cells still, and no node comes or goes
pub record KeepsRoots {W : Type 0} (d : Domain W) (old new : List (Cell W)) : Type 0 where
  pub many : length new ≡ length old
  pub own : (n : ℕ) → head_at d old n ≡ n → cell_at d new n ≡ cell_at d old n

-- the root of a node, and the product of the weights from there
pub record IsRootOf {W : Type 0} (d : Domain W) (rules : List (Rule W)) (kept : List ℕ) (root : ℕ → ℕ) (cells : List (Cell W)) (n : ℕ) (cell : Cell W) : Type 0 where
  pub is_carried : IsCarriedFrom d rules kept cell.head n cell.offset
  pub is_root : root n ≡ cell.head
  pub own : head_at d cells cell.head ≡ cell.head
  pub within : n < length cells → cell.head < length cells

-- The nodes from a number on have the roots of the nodes before them, and those below it are still their own.
pub record AreRooted {W : Type 0} (d : Domain W) (rules : List (Rule W)) (kept : List ℕ) (entries : List (Entered W)) (from : ℕ) (cells : List (Cell W)) : Type 0 where
  pub root : ℕ → ℕ
  pub forest : IsForest d rules kept root cells
  pub many : length cells ≡ length entries
  pub rooted : (n m : ℕ) (w : W) → from ≤ n → slice_get entries n ≡ Some (Once m w) → root n ≡ root m
  pub own : (n : ℕ) → n < from → cell_at d cells n ≡ own_cell d n

-- the heads of the nodes below a number are their roots
abbrev pub AreFlat : {W : Type 0} → Domain W → ℕ → List (Cell W) → Type 0
AreFlat d below cells = (n : ℕ) → n < below → head_at d cells (head_at d cells n) ≡ head_at d cells n

-- the cells are made
pub record IsConverged {W : Type 0} (d : Domain W) (count : ℕ) (rules : List (Rule W)) (kept : List ℕ) (cells : List (Cell W)) : Type 0 where
  pub many : length cells ≡ count
  pub cells_are : AreCells d rules kept (head_at d cells) (offset_at d cells)
  pub converged : AreConverged d count rules kept cells
  pub within : (n : ℕ) → n < count → head_at d cells n < count
