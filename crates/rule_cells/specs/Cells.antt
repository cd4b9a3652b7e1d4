-- Cells of the nodes of a pushdown system. Where one flow alone leads to a node, all that the node gives is given by the node before it, extended by the
-- weight of that flow; so a table need keep only the heads of such chains, and for each node on them its head and the product of the weights between.
use Rattle.std.specs.Prelude.{◌≡◌, ◌↔◌, ℕ, List}
use Rattle.auto_table.specs.declared.rule.Rule.{Rule}
use Rattle.auto_table.specs.declared.rule.Rule.TheVariants.{Flow, Push, Pop}
use Rattle.lists.specs.Lists.{Has}
use Rattle.post_star.specs.Measures.{to_of}
use Rattle.weight_laws.specs.Law.{Domain}

-- all that comes to the second node comes from the first, by a flow of the weight: no other rule leads there, and the node isn't kept for what else may come
pub record IsCarried {W : Type 0} (rules : List (Rule W)) (kept : List ℕ) (m n : ℕ) (w : W) : Type 0 where
  pub flow : Has rules (Flow m n w)
  pub only : (r : Rule W) → Has rules r → to_of r ≡ n → r ≡ Flow m n w
  pub free : Has kept n → ⊥

-- over any number of such flows, with the product of their weights in order
pub data IsCarriedFrom {W : Type 0} (d : Domain W) (rules : List (Rule W)) (kept : List ℕ) (h : ℕ) : ℕ → W → Type 0 where
  here : IsCarriedFrom d rules kept h h d.one
  further : {m n : ℕ} {x w : W} → IsCarriedFrom d rules kept h m x → IsCarried rules kept m n w → IsCarriedFrom d rules kept h n (d.extend x w)

-- each node has a head, from which all comes to it over its offset; a head is its own head, with no offset
pub record AreCells {W : Type 0} (d : Domain W) (rules : List (Rule W)) (kept : List ℕ) (head : ℕ → ℕ) (offset : ℕ → W) : Type 0 where
  pub each : (n : ℕ) → IsCarriedFrom d rules kept (head n) n (offset n)
  pub own : (n : ℕ) → head (head n) ≡ head n
  pub at_head : (n : ℕ) → offset (head n) ≡ d.one

-- the rule from the head of its source, with the offset of the source before its weight
abbrev pub moved : {W : Type 0} → Domain W → (ℕ → ℕ) → (ℕ → W) → Rule W → Rule W
moved d head offset (Flow from to weight) = Flow (head from) to (d.extend (offset from) weight)
moved d head offset (Push from to mark weight) = Push (head from) to mark (d.extend (offset from) weight)
moved d head offset (Pop from mark to weight) = Pop (head from) mark to (d.extend (offset from) weight)

-- the rules that lead to heads, moved, and no others
abbrev pub AreContracted : {W : Type 0} → Domain W → (ℕ → ℕ) → (ℕ → W) → List (Rule W) → List (Rule W) → Type 0
AreContracted {W} d head offset rules few =
    (r : Rule W) → Has few r ↔ ((q : Rule W) × Has rules q × (head (to_of q) ≡ to_of q) × (r ≡ moved d head offset q))
