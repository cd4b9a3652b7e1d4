-- How much work is left to a saturation: what ends it.
use Rattle.std.specs.Prelude.{◌≢◌, ℕ, ◌+◌, ◌*◌, List, [], ◌∷◌, ◌++◌, map, length}
use Rattle.auto_table.specs.declared.entry.Entry.{Entry}
use Rattle.auto_table.specs.declared.entry.Entry.TheVariants.{Base, Pushed}
use Rattle.auto_table.specs.declared.rule.Rule.{Rule}
use Rattle.auto_table.specs.declared.rule.Rule.TheVariants.{Flow, Push, Pop}
use Rattle.lists.specs.Lists.{Has}
use Rattle.auto_table.specs.declared.row.Linked.{Linked}
use Rattle.auto_table.specs.Cells.{Cells, weight_at, link_at, parent_of}
use Rattle.post_star.specs.declared.bases.BaseStep.{BaseStep}
use Rattle.post_star.specs.declared.rise.Item.{Item}
use Rattle.post_star.specs.declared.rise.Item.TheVariants.{At, Between}
use Rattle.weight_laws.specs.Law.{Domain}

-- entries and nodes among which weights rise
pub record Scope : Type 0 where
  pub entries : List Entry
  pub nodes : List ℕ

-- no rule and no step leads out of the scope
pub record IsScope {W : Type 0} (rules : List (Rule W)) (steps : List BaseStep) (u : Scope) : Type 0 where
  pub flows : (from to : ℕ) (weight : W) → Has rules (Flow from to weight) → Has u.nodes to
  pub pushes : (from to mark : ℕ) (weight : W) → Has rules (Push from to mark weight) → Has u.entries (Pushed to mark) × Has u.nodes to
  pub pops : (from mark to : ℕ) (weight : W) → Has rules (Pop from mark to weight) → Has u.nodes to
  pub below : (s : BaseStep) → Has steps s → Has u.entries (Base s.below)

-- no link and no item leads out of the scope
pub record IsWithin {W : Type 0} (d : Domain W) (u : Scope) (t : Cells W) (items : List Item) : Type 0 where
  pub links : (child parent : Entry) → link_at d t child parent ≢ d.zero → Has u.entries parent
  pub at : (entry : Entry) (node : ℕ) → Has items (At entry node) → Has u.entries entry
  pub between : (child parent : Entry) → Has items (Between child parent) → Has u.entries parent

-- the sum of the numbers of the elements
abbrev pub total : {X : Type 0} → (X → ℕ) → List X → ℕ
total f [] = 0
total f (x ∷ xs) = f x + total f xs

-- how often the weights of the scope can rise, at most
abbrev pub room_left : {W : Type 0} → Domain W → Scope → Cells W → ℕ
room_left d u t =
    total (λ e. total (λ n. d.height (weight_at d t e n)) u.nodes) u.entries
    + total (λ c. total (λ p. d.height (link_at d t c p)) u.entries) u.entries

-- what falls with each item: one for each that waits, and two for each rise, which puts one item there
abbrev pub work_left : {W : Type 0} → Domain W → Scope → Cells W → List Item → ℕ
work_left d u t items = 2 * room_left d u t + length items

-- the entry that a rise on the item's behalf may go to
abbrev pub entry_of : Item → Entry
entry_of (At entry node) = entry
entry_of (Between child parent) = parent

abbrev pub pushed_by : {W : Type 0} → List (Rule W) → List Entry
pushed_by [] = []
pushed_by (Flow from to weight ∷ rules) = pushed_by rules
pushed_by (Push from to mark weight ∷ rules) = Pushed to mark ∷ pushed_by rules
pushed_by (Pop from mark to weight ∷ rules) = pushed_by rules

abbrev pub to_of : {W : Type 0} → Rule W → ℕ
to_of (Flow from to weight) = to
to_of (Push from to mark weight) = to
to_of (Pop from mark to weight) = to

-- the parents in the rows
abbrev pub parents_in : {W : Type 0} → List (List (Linked W)) → List Entry
parents_in [] = []
parents_in (row ∷ rows) = map parent_of row ++ parents_in rows

-- the entries that rules, steps, links and items name, and the nodes that rules lead to
abbrev pub scope_of : {W : Type 0} → List (Rule W) → List BaseStep → Cells W → List Item → Scope
scope_of rules steps t items = record {
  entries = pushed_by rules ++ (map (λ (s : BaseStep). Base s.below) steps ++ (parents_in t.parents ++ map entry_of items));
  nodes = map to_of rules;
}
