-- Systems whose call marks are split. A node stands in a room, and so does a base: that of the nodes whose own words the base has; to push a mark leads from
-- the home of the mark into another room, and to pop it leads back. Where many calls enter many nodes of a room, a common mark is put in front of the mark of
-- the call: an entry per call and one per node, in place of one for each of both. Which marks are split may differ from room to room. Where all nodes and
-- bases are said to stand in one room, it is the same everywhere.
use Rattle.std.specs.Prelude.{◌≡◌, ◌↔◌, ℕ, Bool, true, false, List, [], ◌∷◌}
use Rattle.auto_table.specs.declared.rule.Rule.{Rule}
use Rattle.auto_table.specs.declared.rule.Rule.TheVariants.{Flow, Push, Pop}
use Rattle.lists.specs.Lists.{Has}
use Rattle.post_star.specs.declared.bases.Start.{Start}
use Rattle.post_star.specs.declared.bases.BaseStep.{BaseStep}
use Rattle.post_star.specs.Derivations.{step_of}
use Rattle.post_star.specs.Works.{IsTold}
use Rattle.weight_laws.specs.Law.{Domain}

-- where a node or a base of the split system stands: at one of the system itself, at the entry of a node, or at its exit; a base has no entry
pub data Place : Type 0 where
  At : ℕ → Place
  Entry : ℕ → Place
  Exit : ℕ → Place

-- the rooms of nodes and of bases, the homes of marks, and which marks are split in a room; the common mark, the entries and exits of nodes, the base below
-- another once the common mark is off, and the places of the nodes and bases that there are then
pub record Splitting : Type 0 where
  pub room : ℕ → ℕ
  pub base_room : ℕ → ℕ
  pub home : ℕ → ℕ
  pub is_split : ℕ → ℕ → Bool
  pub common : ℕ
  pub entry : ℕ → ℕ
  pub exit : ℕ → ℕ
  pub below : ℕ → ℕ
  pub node_place : ℕ → Place
  pub base_place : ℕ → Place

-- where a mark of a room is split, so is the common mark: one in front of a word tells that the next mark is split
abbrev pub SplitsCommon : Splitting → Type 0
SplitsCommon s = (room mark : ℕ) → s.is_split room mark ≡ true → s.is_split room s.common ≡ true

-- flows stay in a room; a push leads from the home of its mark and a pop there, and so do steps between bases; starts are in the room of their base
pub record AreRoomed {W : Type 0} (room base_room home : ℕ → ℕ) (rules : List (Rule W)) (starts : List (Start W)) (steps : List BaseStep) : Type 0 where
  pub flow_room : (m n : ℕ) (w : W) → Has rules (Flow m n w) → room n ≡ room m
  pub push_home : (m n k : ℕ) (w : W) → Has rules (Push m n k w) → home k ≡ room m
  pub pop_home : (m k n : ℕ) (w : W) → Has rules (Pop m k n w) → home k ≡ room n
  pub start_room : (s : Start W) → Has starts s → room s.node ≡ base_room s.base
  pub step_home : (s : BaseStep) → Has steps s → home s.mark ≡ base_room s.below

-- The places tell nodes and bases of the system from each other, from entries and exits, and from the bases below.
pub record HavePlaces {W : Type 0} (s : Splitting) (rules : List (Rule W)) (starts : List (Start W)) (steps : List BaseStep) (last : ℕ) : Type 0 where
  pub flow_places : (m n : ℕ) (w : W) → Has rules (Flow m n w) → (s.node_place m ≡ At m) × (s.node_place n ≡ At n)
  pub push_places : (m n k : ℕ) (w : W) → Has rules (Push m n k w) → (s.node_place m ≡ At m) × (s.node_place n ≡ At n)
  pub pop_places : (m k n : ℕ) (w : W) → Has rules (Pop m k n w) → (s.node_place m ≡ At m) × (s.node_place n ≡ At n)
  pub start_places : (x : Start W) → Has starts x → (s.node_place x.node ≡ At x.node) × (s.base_place x.base ≡ At x.base)
  pub step_places : (x : BaseStep) → Has steps x → (s.base_place x.base ≡ At x.base) × (s.base_place x.below ≡ At x.below)
  pub last_place : s.base_place last ≡ At last
  pub entry_place : (m n k : ℕ) (w : W) → Has rules (Push m n k w) → s.is_split (s.room n) k ≡ true → s.node_place (s.entry n) ≡ Entry n
  pub exit_place : (m k n : ℕ) (w : W) → Has rules (Pop m k n w) → s.is_split (s.room m) k ≡ true → s.node_place (s.exit m) ≡ Exit m
  pub below_place : (x : BaseStep) → Has steps x → s.is_split (s.base_room x.base) x.mark ≡ true → s.base_place (s.below x.base) ≡ Exit x.base

-- A rule of the split system, by a rule of the system. A push of a mark that is split pushes it at the entry of its node, and there the common mark is
-- pushed; a pop of one pops the common mark, and its own at the exit of its node. All others are as they were.
pub data IsSplitRule {W : Type 0} (d : Domain W) (s : Splitting) (rules : List (Rule W)) (r : Rule W) : Type 0 where
  flow : (m n : ℕ) (w : W) → Has rules (Flow m n w) → r ≡ Flow m n w → IsSplitRule d s rules r
  push : (m n k : ℕ) (w : W) → Has rules (Push m n k w) → s.is_split (s.room n) k ≡ false → r ≡ Push m n k w → IsSplitRule d s rules r
  push_entry : (m n k : ℕ) (w : W) → Has rules (Push m n k w) → s.is_split (s.room n) k ≡ true → r ≡ Push m (s.entry n) k w → IsSplitRule d s rules r
  push_common : (m n k : ℕ) (w : W) → Has rules (Push m n k w) → s.is_split (s.room n) k ≡ true → r ≡ Push (s.entry n) n s.common d.one → IsSplitRule d s rules r
  pop : (m k n : ℕ) (w : W) → Has rules (Pop m k n w) → s.is_split (s.room m) k ≡ false → r ≡ Pop m k n w → IsSplitRule d s rules r
  pop_common : (m k n : ℕ) (w : W) → Has rules (Pop m k n w) → s.is_split (s.room m) k ≡ true → r ≡ Pop m s.common (s.exit m) d.one → IsSplitRule d s rules r
  pop_exit : (m k n : ℕ) (w : W) → Has rules (Pop m k n w) → s.is_split (s.room m) k ≡ true → r ≡ Pop (s.exit m) k n w → IsSplitRule d s rules r

-- a step between bases of the split system: before a mark that is split the common mark comes off
pub data IsSplitStep (s : Splitting) (steps : List BaseStep) (x : BaseStep) : Type 0 where
  step : (b k below : ℕ) → Has steps (step_of b k below) → s.is_split (s.base_room b) k ≡ false → x ≡ step_of b k below → IsSplitStep s steps x
  step_common : (b k below : ℕ) → Has steps (step_of b k below) → s.is_split (s.base_room b) k ≡ true → x ≡ step_of b s.common (s.below b) → IsSplitStep s steps x
  step_below : (b k below : ℕ) → Has steps (step_of b k below) → s.is_split (s.base_room b) k ≡ true → x ≡ step_of (s.below b) k below → IsSplitStep s steps x

-- a system, and the same with split marks
pub record SplitSystem (W : Type 0) : Type 0 where
  pub rules : List (Rule W)
  pub split : List (Rule W)
  pub starts : List (Start W)
  pub steps : List BaseStep
  pub split_steps : List BaseStep
  pub last : ℕ

pub record IsSplit {W : Type 0} (d : Domain W) (s : Splitting) (x : SplitSystem W) : Type 0 where
  pub told : IsTold d x.rules x.starts
  pub common_too : SplitsCommon s
  pub roomed : AreRoomed s.room s.base_room s.home x.rules x.starts x.steps
  pub placed : HavePlaces s x.rules x.starts x.steps x.last
  pub rules_are : (r : Rule W) → Has x.split r ↔ IsSplitRule d s x.rules r
  pub steps_are : (y : BaseStep) → Has x.split_steps y ↔ IsSplitStep s x.steps y

-- the word, with the mark in front where the test says so
abbrev pub with_mark : Bool → ℕ → List ℕ → List ℕ
with_mark true mark word = mark ∷ word
with_mark false mark word = word

-- the word with the common mark in front of each mark that is split in its room: the first in that of the word, and each other in the home of the mark
-- before it
abbrev pub coded : Splitting → ℕ → List ℕ → List ℕ
coded s room [] = []
coded s room (mark ∷ word) = with_mark (s.is_split room mark) s.common (mark ∷ coded s (s.home mark) word)
