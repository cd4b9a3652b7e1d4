-- How far a saturation has come: each weight comes from derivations, and each rule is done but where an item waits.
use Rattle.std.specs.Prelude.{◌≡◌, ◌≢◌, ◌⊎◌, ◌<◌, ◌≤◌, ℕ, List, [], ◌∷◌, ◌++◌, slice_get, Some}
use Rattle.auto_table.specs.declared.entry.Entry.{Entry}
use Rattle.auto_table.specs.declared.entry.Entry.TheVariants.{Base, Pushed}
use Rattle.auto_table.specs.declared.rule.Rule.{Rule}
use Rattle.auto_table.specs.declared.rule.Rule.TheVariants.{Flow, Push, Pop}
use Rattle.lists.specs.Lists.{Has}
use Rattle.auto_table.specs.Cells.{Cells, weight_at, link_at, IsRaised, IsRaisedLink}
use Rattle.post_star.specs.declared.bases.Start.{Start}
use Rattle.post_star.specs.declared.bases.BaseStep.{BaseStep}
use Rattle.post_star.specs.declared.rise.Item.{Item}
use Rattle.post_star.specs.declared.rise.Item.TheVariants.{At, Between}
use Rattle.post_star.specs.Derivations.{step_of, Derives, Combines}
use Rattle.post_star.specs.Index.{from_of}
use Rattle.post_star.specs.Measures.{Scope, IsScope, IsWithin, work_left}
use Rattle.weight_laws.specs.Law.{Domain, Leq}

abbrev pub weight_of : {W : Type 0} → Rule W → W
weight_of (Flow from to weight) = weight
weight_of (Push from to mark weight) = weight
weight_of (Pop from mark to weight) = weight

-- a list of rules leads from a node with a word to a node with a word; with the product of their weights
pub data Runs {W : Type 0} (d : Domain W) (rules : List (Rule W)) (m : ℕ) (v : List ℕ) : ℕ → List ℕ → W → Type 0 where
  no_rule : Runs d rules m v m v d.one
  then_flow : {from to : ℕ} {word : List ℕ} {x weight : W} → Has rules (Flow from to weight) → Runs d rules m v from word x → Runs d rules m v to word (d.extend x weight)
  then_push : {from to mark : ℕ} {word : List ℕ} {x weight : W} → Has rules (Push from to mark weight) → Runs d rules m v from word x → Runs d rules m v to (mark ∷ word) (d.extend x weight)
  then_pop : {from mark to : ℕ} {word : List ℕ} {x weight : W} → Has rules (Pop from mark to weight) → Runs d rules m v from (mark ∷ word) x → Runs d rules m v to word (d.extend x weight)

-- what a weight of an entry at a node stands for
abbrev pub EntryRuns : {W : Type 0} → Domain W → List (Rule W) → List (Start W) → List BaseStep → Entry → ℕ → W → Type 0
EntryRuns d rules starts steps (Base b) node x = Derives d rules starts steps b node [] x
EntryRuns d rules starts steps (Pushed from mark) node x = Runs d rules from (mark ∷ []) node (mark ∷ []) x

-- what a weight of a link stands for
abbrev pub LinkRuns : {W : Type 0} → Domain W → List (Rule W) → List (Start W) → List BaseStep → Entry → Entry → W → Type 0
LinkRuns d rules starts steps (Base b) parent x = ⊥
LinkRuns d rules starts steps (Pushed node mark) (Base b) x = Derives d rules starts steps b node (mark ∷ []) x
LinkRuns d rules starts steps (Pushed node mark) (Pushed from below) x = Runs d rules from (below ∷ []) node (mark ∷ below ∷ []) x

-- each weight is a combination of finitely many derivations
pub record IsSound {W : Type 0} (d : Domain W) (rules : List (Rule W)) (starts : List (Start W)) (steps : List BaseStep) (t : Cells W) : Type 0 where
  pub weights : (entry : Entry) (node : ℕ) → Combines d (EntryRuns d rules starts steps entry node) (weight_at d t entry node)
  pub links : (child parent : Entry) → Combines d (LinkRuns d rules starts steps child parent) (link_at d t child parent)

-- the rule adds nothing at the entry, where a pop goes on to the other entry
abbrev pub IsDone : {W : Type 0} → Domain W → List BaseStep → Cells W → Rule W → Entry → Entry → Type 0
IsDone d steps t (Flow from to weight) e e' = Leq d (d.extend (weight_at d t e from) weight) (weight_at d t e to)
IsDone d steps t (Push from to mark weight) e e' =
    ((weight_at d t e from ≡ d.zero) ⊎ Leq d d.one (weight_at d t (Pushed to mark) to)) × Leq d (d.extend (weight_at d t e from) weight) (link_at d t (Pushed to mark) e)
IsDone d steps t (Pop from mark to weight) (Pushed node top) e' =
    top ≡ mark → Leq d (d.extend (d.extend (link_at d t (Pushed node top) e') (weight_at d t (Pushed node top) from)) weight) (weight_at d t e' to)
IsDone d steps t (Pop from mark to weight) (Base b) e' =
    (below : ℕ) → e' ≡ Base below → Has steps (step_of b mark below) → Leq d (d.extend (weight_at d t (Base b) from) weight) (weight_at d t (Base below) to)

-- the rule goes over the links of the entry
abbrev pub GoesBetween : {W : Type 0} → Rule W → Entry → Type 0
GoesBetween (Flow from to weight) e = ⊥
GoesBetween (Push from to mark weight) e = ⊥
GoesBetween (Pop from mark to weight) (Base b) = ⊥
GoesBetween (Pop from mark to weight) (Pushed node top) = Unit {0}

-- an item that waits has the rule's work at the entry in it
abbrev pub Waits : {W : Type 0} → List Item → Rule W → Entry → Entry → Type 0
Waits work rule e e' = Has work (At e (from_of rule)) ⊎ (GoesBetween rule e × Has work (Between e e'))

-- the weight was combined in: the table moved and the item came last, or neither did
pub data IsPaid {W : Type 0} (d : Domain W) (old new : Cells W) (before after : List Item) (item : Item) (here weight : W) : Type 0 where
  rose : (d.combine weight here ≡ here → ⊥) → after ≡ before ++ item ∷ [] → IsPaid d old new before after item here weight
  stayed : new ≡ old → after ≡ before → IsPaid d old new before after item here weight

-- the weight was combined in at a node, and where the table moved, the item waits
pub record IsRisen {W : Type 0} (d : Domain W) (old new : Cells W) (before after : List Item) (entry : Entry) (node : ℕ) (weight : W) : Type 0 where
  pub raised : IsRaised d old new entry node weight
  pub paid : IsPaid d old new before after (At entry node) (weight_at d old entry node) weight

-- the weight was combined in at a link, and where the table moved, the item waits
pub record IsRisenLink {W : Type 0} (d : Domain W) (old new : Cells W) (before after : List Item) (child parent : Entry) (weight : W) : Type 0 where
  pub raised : IsRaisedLink d old new child parent weight
  pub paid : IsPaid d old new before after (Between child parent) (link_at d old child parent) weight

-- what was done stays done, or an item waits for it
pub record IsKept {W : Type 0} (d : Domain W) (steps : List BaseStep) (old new : Cells W) (before after : List Item) : Type 0 where
  pub stays : (i : Item) → Has before i → Has after i
  pub done : (rule : Rule W) → d.IsMeant (weight_of rule) → (e e' : Entry) → IsDone d steps old rule e e' → Waits after rule e e' ⊎ IsDone d steps new rule e e'
  pub grows : (e : Entry) (n : ℕ) → Leq d (weight_at d old e n) (weight_at d new e n)

-- within each scope that has the entry, nothing leads out, and no work comes in but for rises
abbrev pub IsSpent : {W : Type 0} → Domain W → List (Rule W) → List BaseStep → Cells W → Cells W → List Item → List Item → Entry → Type 0
IsSpent d rules steps old new before after entry =
    (u : Scope) → IsScope rules steps u → Has u.entries entry → IsWithin d u old before → IsWithin d u new after × (work_left d u new after ≤ work_left d u old before)

-- the table is still sound, what was done stays done, and no work comes in but for rises
pub record IsProgress {W : Type 0} (d : Domain W) (rules : List (Rule W)) (starts : List (Start W)) (steps : List BaseStep) (old new : Cells W) (before after : List Item) (entry : Entry) : Type 0 where
  pub sound : IsSound d rules starts steps new
  pub kept : IsKept d steps old new before after
  pub spent : IsSpent d rules steps old new before after entry

-- the rule is done at the entry, or an item waits for it
abbrev pub IsApplied : {W : Type 0} → Domain W → List BaseStep → Cells W → List Item → Rule W → Entry → Type 0
IsApplied d steps t work rule e = (e' : Entry) → Waits work rule e e' ⊎ IsDone d steps t rule e e'

-- where the rule goes over the links of the child, it is done at the link, or an item waits for it
abbrev pub IsAppliedBetween : {W : Type 0} → Domain W → List BaseStep → Cells W → List Item → Rule W → Entry → Entry → Type 0
IsAppliedBetween d steps t work rule child parent = GoesBetween rule child → Waits work rule child parent ⊎ IsDone d steps t rule child parent

-- each rule of the list is done everywhere, or an item waits for it
abbrev pub IsOpen : {W : Type 0} → Domain W → List (Rule W) → List BaseStep → Cells W → List Item → Type 0
IsOpen {W} d rules steps t work = (rule : Rule W) → Has rules rule → (e : Entry) → IsApplied d steps t work rule e

-- each rule of the list is done everywhere
abbrev pub IsClosed : {W : Type 0} → Domain W → List (Rule W) → List (Start W) → List BaseStep → Cells W → Type 0
IsClosed {W} d rules starts steps t =
    ((rule : Rule W) → Has rules rule → (e e' : Entry) → IsDone d steps t rule e e')
    × ((s : Start W) → Has starts s → Leq d s.weight (weight_at d t (Base s.base) s.node))

-- the weights of the rules are meant
abbrev pub AreTold : {W : Type 0} → Domain W → List (Rule W) → Type 0
AreTold {W} d rules = (r : Rule W) → Has rules r → d.IsMeant (weight_of r)

-- the weights of the rules and of the starts are meant
pub record IsTold {W : Type 0} (d : Domain W) (rules : List (Rule W)) (starts : List (Start W)) : Type 0 where
  pub rule : (r : Rule W) → Has rules r → d.IsMeant (weight_of r)
  pub start : (s : Start W) → Has starts s → d.IsMeant s.weight

-- the table is sound, has the starts, and each rule is done but where an item waits
pub record IsSettling {W : Type 0} (d : Domain W) (rules : List (Rule W)) (starts : List (Start W)) (steps : List BaseStep) (t : Cells W) (work : List Item) : Type 0 where
  pub sound : IsSound d rules starts steps t
  pub begun : (s : Start W) → Has starts s → Leq d s.weight (weight_at d t (Base s.base) s.node)
  pub open_to : IsOpen d rules steps t work

-- the rules before one number are done everywhere, and the starts before another are in
pub record IsClosedTo {W : Type 0} (d : Domain W) (rules : List (Rule W)) (taken : ℕ) (starts : List (Start W)) (begun : ℕ) (steps : List BaseStep) (t : Cells W) : Type 0 where
  pub rules_done : (i : ℕ) (rule : Rule W) → i < taken → slice_get rules i ≡ Some rule → (e e' : Entry) → IsDone d steps t rule e e'
  pub starts_in : (i : ℕ) (s : Start W) → i < begun → slice_get starts i ≡ Some s → Leq d s.weight (weight_at d t (Base s.base) s.node)

-- the table is sound, has the starts before a number, and each rule is done but where an item waits
pub record IsBegun {W : Type 0} (d : Domain W) (rules : List (Rule W)) (starts : List (Start W)) (steps : List BaseStep) (t : Cells W) (work : List Item) (k : ℕ) : Type 0 where
  pub sound : IsSound d rules starts steps t
  pub begun : (i : ℕ) (s : Start W) → i < k → slice_get starts i ≡ Some s → Leq d s.weight (weight_at d t (Base s.base) s.node)
  pub open_to : IsOpen d rules steps t work

-- the rules from a number on wait wherever the table has a weight at the node from which they lead
abbrev pub AreTaken : {W : Type 0} → Domain W → List (Rule W) → ℕ → Cells W → List Item → Type 0
AreTaken {W} d rules taken t items =
    (i : ℕ) (rule : Rule W) → taken ≤ i → slice_get rules i ≡ Some rule → (e : Entry) → weight_at d t e (from_of rule) ≢ d.zero → Has items (At e (from_of rule))
