-- What a system derives, the split one derives by coded words.
use Rattle.std.specs.Prelude.{◌≡◌, ◌↔◌, ℕ, List}
use Rattle.post_star.specs.Derivations.{Derives, DerivesAny, IsAnyValue, IsLed, IsValue, Leads}
use Rattle.weight_laws.specs.Law.{Domain}
use Rattle.rule_marks.specs.Split.{At, IsSplit, SplitSystem, Splitting, SplitsCommon, coded}

-- a node of the system has a word exactly with the weights with which it has the coded word in the split system
abbrev pub DerivationsAreSplit : {W : Type 0} → Domain W → Type 0
DerivationsAreSplit {W} d = (s : Splitting) (x : SplitSystem W) → IsSplit d s x → (n : ℕ) → s.node_place n ≡ At n → (word : List ℕ) (w : W)
    → Derives d x.rules x.starts x.steps x.last n word w ↔ Derives d x.split x.starts x.split_steps x.last n (coded s (s.room n) word) w

-- and it has no other words there
abbrev pub WordsAreCoded : {W : Type 0} → Domain W → Type 0
WordsAreCoded {W} d = (s : Splitting) (x : SplitSystem W) → IsSplit d s x → (n : ℕ) → s.node_place n ≡ At n → (word : List ℕ) (w : W)
    → Derives d x.split x.starts x.split_steps x.last n word w → (plain : List ℕ) × (word ≡ coded s (s.room n) plain)

-- a word codes one word of a room
abbrev pub CodesTellWords : Type 0
CodesTellWords = (s : Splitting) → SplitsCommon s → (room : ℕ) (word other : List ℕ) → coded s room word ≡ coded s room other → word ≡ other

-- with any word a node has the same weights in both
abbrev pub AnyDerivationsAreSplit : {W : Type 0} → Domain W → Type 0
AnyDerivationsAreSplit {W} d = (s : Splitting) (x : SplitSystem W) → IsSplit d s x → (n : ℕ) → s.node_place n ≡ At n → (w : W)
    → DerivesAny d x.rules x.starts x.steps x.last n w ↔ DerivesAny d x.split x.starts x.split_steps x.last n w

-- so values are the same
abbrev pub ValuesAreSplit : {W : Type 0} → Domain W → Type 0
ValuesAreSplit {W} d = (s : Splitting) (x : SplitSystem W) → IsSplit d s x → (n : ℕ) → s.node_place n ≡ At n → (word : List ℕ) (v : W)
    → IsValue d x.rules x.starts x.steps x.last n word v ↔ IsValue d x.split x.starts x.split_steps x.last n (coded s (s.room n) word) v

abbrev pub AnyValuesAreSplit : {W : Type 0} → Domain W → Type 0
AnyValuesAreSplit {W} d = (s : Splitting) (x : SplitSystem W) → IsSplit d s x → (n : ℕ) → s.node_place n ≡ At n → (v : W)
    → IsAnyValue d x.rules x.starts x.steps x.last n v ↔ IsAnyValue d x.split x.starts x.split_steps x.last n v

-- a base leads to the last one by a word exactly where the split steps lead there by the coded word, and by no other words
pub record LeadsBySplit (s : Splitting) {W : Type 0} (x : SplitSystem W) (base : ℕ) : Type 0 where
  pub coded_leads : (word : List ℕ) → Leads x.steps base word x.last ↔ Leads x.split_steps base (coded s (s.base_room base) word) x.last
  pub coded_alone : (word : List ℕ) → Leads x.split_steps base word x.last → (plain : List ℕ) × (word ≡ coded s (s.base_room base) plain)

abbrev pub BasesAreSplit : {W : Type 0} → Domain W → Type 0
BasesAreSplit {W} d = (s : Splitting) (x : SplitSystem W) → IsSplit d s x → (base : ℕ) → s.base_place base ≡ At base → LeadsBySplit s x base

-- where named bases lead to the last one, they do so still
abbrev pub BasesAreLedStill : {W : Type 0} → Domain W → Type 0
BasesAreLedStill {W} d = (s : Splitting) (x : SplitSystem W) → IsSplit d s x → IsLed x.starts x.steps x.last → IsLed x.starts x.split_steps x.last
