-- Which lines a claim needs, and lines under new numbers.
use Rattle.std.specs.Prelude.{◌≡◌, ℕ, suc, ◌<◌, ◌≤◌, ◌++◌, List, [], ◌∷◌, Option, None, Some, length, map, slice_get}
use Rattle.lists.specs.Lists.{Has}
use Rattle.cert_rules.specs.declared.line.Line.{Line}
use Rattle.cert_rules.specs.declared.line.Line.TheVariants as line
use Rattle.spds_rules.specs.declared.node.Node.{Node}

-- the numbers, from 1, of the lines that a line cites
abbrev pub numbers_of : Line → List ℕ
numbers_of (line.Start side n) = []
numbers_of (line.Jump from n) = from ∷ []
numbers_of (line.Put from meet n) = from ∷ meet ∷ []
numbers_of (line.Flow side from n) = from ∷ []
numbers_of (line.PushField from meet n) = from ∷ meet ∷ []
numbers_of (line.PushCall from n) = from ∷ []
numbers_of (line.LinkField from meet n) = from ∷ meet ∷ []
numbers_of (line.LinkCall from n) = from ∷ []
numbers_of (line.Pop side from link n) = from ∷ link ∷ []
numbers_of (line.BasePop from n) = from ∷ []
numbers_of (line.Shared first second string) = first ++ second
numbers_of (line.Meet shared base) = shared ∷ base ∷ []
numbers_of (line.Claim field call) = field ∷ call ∷ []

-- the line cites the one with the number
abbrev pub CitesLine : Line → ℕ → Type 0
CitesLine l number = Has (numbers_of l) number

-- each of the lines cites only lines before it
abbrev pub CiteBack : List Line → Type 0
CiteBack lines = (i : ℕ) (l : Line) (number : ℕ) → slice_get lines i ≡ Some l → CitesLine l number → (0 < number) × (number ≤ i)

-- the least set of numbers of lines, from 1, that has those which the claim cites, and with the number of a line those which that line cites
pub data IsNeeded (lines : List Line) (claim : Line) : ℕ → Type 0 where
  by_claim : {number : ℕ} → CitesLine claim number → IsNeeded lines claim number
  by_line : {i number : ℕ} (l : Line) → IsNeeded lines claim (suc i) → slice_get lines i ≡ Some l → CitesLine l number → IsNeeded lines claim number

-- the last of the lines is a claim, and it needs each of the others
pub record IsLean (lines : List Line) : Type 0 where
  pub front : List Line
  pub field : ℕ
  pub call : ℕ
  pub whole : lines ≡ front ++ line.Claim field call ∷ []
  pub needed : (i : ℕ) → i < length front → IsNeeded front (line.Claim field call) (suc i)

-- the line, with other numbers for those that it cites
abbrev pub renumbered : (ℕ → ℕ) → Line → Line
renumbered new (line.Start side n) = line.Start side n
renumbered new (line.Jump from n) = line.Jump (new from) n
renumbered new (line.Put from meet n) = line.Put (new from) (new meet) n
renumbered new (line.Flow side from n) = line.Flow side (new from) n
renumbered new (line.PushField from meet n) = line.PushField (new from) (new meet) n
renumbered new (line.PushCall from n) = line.PushCall (new from) n
renumbered new (line.LinkField from meet n) = line.LinkField (new from) (new meet) n
renumbered new (line.LinkCall from n) = line.LinkCall (new from) n
renumbered new (line.Pop side from link n) = line.Pop side (new from) (new link) n
renumbered new (line.BasePop from n) = line.BasePop (new from) n
renumbered new (line.Shared first second string) = line.Shared (map new first) (map new second) string
renumbered new (line.Meet shared base) = line.Meet (new shared) (new base)
renumbered new (line.Claim field call) = line.Claim (new field) (new call)

-- the node at which the line's fact puts an object, where it has one
abbrev pub node_of : Line → Option Node
node_of (line.Start side n) = Some n
node_of (line.Jump from n) = Some n
node_of (line.Put from meet n) = Some n
node_of (line.Flow side from n) = Some n
node_of (line.PushField from meet n) = Some n
node_of (line.PushCall from n) = Some n
node_of (line.LinkField from meet n) = Some n
node_of (line.LinkCall from n) = Some n
node_of (line.Pop side from link n) = Some n
node_of (line.BasePop from n) = Some n
node_of (line.Shared first second string) = None
node_of (line.Meet shared base) = None
node_of (line.Claim field call) = None
