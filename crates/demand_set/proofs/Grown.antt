-- A list of nodes that grows.
use Rattle.std.proofs.Common.{◌≡◌, ℕ, zero, suc, ◌<◌, ◌≤◌, ◌+◌, ◌⊎◌, List, [], ◌∷◌, length, slice_get, Some, refl, ap, ◌∙◌, inl, inr, arith, take, get_or}
use Rattle.lists.specs.Lists.{Has, Adds}
use Rattle.lists.proofs.Places.{Has-adds_itself, slice_get-adds, slice_get-added, slice_get-below, slice_get-there}
use Rattle.spds_rules.specs.declared.node.Node.{Node}
use Rattle.spds_rules.specs.declared.store.StoreAt.{StoreAt}
use Rattle.demand_set.specs.Searches.{Grows, IsBelow, IsEndOf}
use Rattle.demand_set.proofs.Appended.{Has-take_more, Has-take_kept, Has-take_last}

-- it stayed
pub Grows-none : {Fact : Node → Type 0} (nodes : List Node) → Grows Fact nodes nodes
Grows-none nodes = record { kept = λ i n h. h; only = λ n h. inl h }

-- one node was added
pub Grows-adds : {Fact : Node → Type 0} (old new : List Node) (n : Node) → Adds old n new → Fact n → Grows Fact old new
Grows-adds {Fact} old new n adds fact = record {
  kept = slice_get-adds old new n adds;
  only = λ m h. elim (slice_get-added old new n adds h.0 m h.1) [ inl a ↦ inl (h.0, a) | inr b ↦ inr (rw b fact) ];
}

-- it grew twice
pub Grows-twice : {First Second Fact : Node → Type 0} (old mid new : List Node) → Grows First old mid → Grows Second mid new → ((n : Node) → First n → Fact n)
    → ((n : Node) → Second n → Fact n) → Grows Fact old new
Grows-twice old mid new first second f s = record {
  kept = λ i n h. second.kept i n (first.kept i n h);
  only = λ n h. elim (second.only n h) [
    | inl a ↦ elim (first.only n a) [ inl b ↦ inl b | inr b ↦ inr (f n b) ]
    | inr b ↦ inr (s n b)
  ];
}

-- the same by a weaker fact
pub Grows-weaker : {Strong Weak : Node → Type 0} (old new : List Node) → Grows Strong old new → ((n : Node) → Strong n → Weak n) → Grows Weak old new
Grows-weaker old new grows w = record { kept = grows.kept; only = λ n h. elim (grows.only n h) [ inl a ↦ inl a | inr b ↦ inr (w n b) ] }

-- no node is lost
pub Has-grows : {Fact : Node → Type 0} (old new : List Node) (n : Node) → Grows Fact old new → Has old n → Has new n
Has-grows old new n grows h = (h.0, grows.kept h.0 n h.1)

-- the list is no shorter
pub length-grows : {Fact : Node → Type 0} (old new : List Node) (k : ℕ) → Grows Fact old new → k < length old → k < length new
length-grows old new k grows h = let p = slice_get-there old k h in slice_get-below new k p.0 (grows.kept k p.0 p.1)

-- the first nodes stay
pub take-kept : (k : ℕ) (old new : List Node) → ((i : ℕ) (n : Node) → slice_get old i ≡ Some n → slice_get new i ≡ Some n) → k ≤ length old → take k new ≡ take k old
take-kept zero old new kept h = refl
take-kept (suc k) [] new kept h = absurd (omega arith)
take-kept (suc k) (x ∷ old) [] kept h = let p = kept 0 x refl in cc
take-kept (suc k) (x ∷ old) (y ∷ new) kept h =
    let first : y ≡ x = let p = kept 0 x refl in cc in
    let rest : take k new ≡ take k old = take-kept k old new (λ i n g. kept (suc i) n g) (omega arith) in
    cc

-- the first nodes stay, as a fact
pub IsBelow-kept : {Fact : Node → Type 0} (k : ℕ) (old new : List Node) (n : Node) → Grows Fact old new → k ≤ length old → IsBelow k new n → IsBelow k old n
IsBelow-kept k old new n grows h (i, lt, at) =
    let p = slice_get-there old i (omega arith) in
    let q = grows.kept i p.0 p.1 in
    let same : p.0 ≡ n = cc in
    (i, lt, rw (← same) p.1)

-- one more of the nodes was added
pub Grows-one : (old mid new : List Node) (targets : List Node) (i : ℕ) (d : Node) → i < length targets → Grows (Has (take i targets)) old mid
    → Adds mid (get_or targets i d) new → Grows (Has (take (i + 1) targets)) old new
Grows-one old mid new targets i d h grows adds = Grows-twice old mid new grows (Grows-adds {Fact = λ n. n ≡ get_or targets i d} mid new (get_or targets i d) adds refl)
    (λ n has. Has-take_kept targets i d n h has) (λ n e. rw e (Has-take_last targets i d h))

pub all-one : (mid new : List Node) (targets : List Node) (i : ℕ) (d : Node) → i < length targets → ((n : Node) → Has (take i targets) n → Has mid n)
    → Adds mid (get_or targets i d) new → (n : Node) → Has (take (i + 1) targets) n → Has new n
all-one mid new targets i d h all adds n has = elim (Has-take_more targets i d n h has) [
  | inl a ↦ let p = all n a in (p.0, slice_get-adds mid new _ adds p.0 n p.1)
  | inr b ↦ rw b (Has-adds_itself mid new _ adds)
]

-- the two nodes of one more store were added
pub Grows-ends : (old mid base new : List Node) (stores : List StoreAt) (i : ℕ) (d : StoreAt) → i < length stores → Grows (IsEndOf (Has (take i stores))) old mid
    → Adds mid (get_or stores i d).base base → Adds base (get_or stores i d).arg new → Grows (IsEndOf (Has (take (i + 1) stores))) old new
Grows-ends old mid base new stores i d h grows first second =
    let store = get_or stores i d in
    let one = Grows-adds {Fact = λ n. n ≡ store.base} mid base store.base first refl in
    let two = Grows-adds {Fact = λ n. n ≡ store.arg} base new store.arg second refl in
    let both = Grows-twice {Fact = λ n. (n ≡ store.base) ⊎ (n ≡ store.arg)} mid base new one two (λ n e. inl e) (λ n e. inr e) in
    Grows-twice old mid new grows both (λ n e. (e.0, Has-take_kept stores i d e.0 h e.1, e.2)) (λ n e. (store, Has-take_last stores i d h, e))

pub ends-more : (mid base new : List Node) (stores : List StoreAt) (i : ℕ) (d : StoreAt) → i < length stores → ((n : Node) → IsEndOf (Has (take i stores)) n → Has mid n)
    → Adds mid (get_or stores i d).base base → Adds base (get_or stores i d).arg new → (n : Node) → IsEndOf (Has (take (i + 1) stores)) n → Has new n
ends-more mid base new stores i d h ends first second n (s, has, is) = elim (Has-take_more stores i d s h has) [
  | inl a ↦ let p = ends n (s, a, is) in (p.0, slice_get-adds base new _ second p.0 n (slice_get-adds mid base _ first p.0 n p.1))
  | inr b ↦ elim is [
    | inl e ↦ let p = Has-adds_itself mid base _ first in rw (e ∙ ap (λ (x : StoreAt). x.base) b) (p.0, slice_get-adds base new _ second p.0 _ p.1)
    | inr e ↦ rw (e ∙ ap (λ (x : StoreAt). x.arg) b) (Has-adds_itself base new _ second)
  ]
]
