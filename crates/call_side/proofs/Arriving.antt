-- The nodes of a table that some word is at: those of the entries that lead to a base.
use Rattle.std.proofs.Common.{◌≡◌, ◌≢◌, ◌<◌, ◌≤◌, ◌↔◌, ◌⊎◌, ℕ, ◌+◌, List, [], ◌∷◌, ◌++◌, Bool, true, false, ◌&&◌, length, take, get_or, refl, sym, ap, ◌∙◌, inl, inr, subst, true≢false, append_assoc, length-append, IsTrue, eqb, eqb-true, eq-eqb, arith}
use Rattle.auto_table.specs.declared.entry.Entry.{Entry}
use Rattle.auto_table.specs.declared.entry.Entry.TheVariants.{Base, Pushed}
use Rattle.auto_table.specs.declared.row.Linked.{Linked}
use Rattle.auto_table.specs.declared.row.Reached.{Reached}
use Rattle.auto_table.specs.declared.rule.Rule.{Rule}
use Rattle.auto_table.specs.Cells.{AreParents, by_parent, by_weight, Cells, IsListed, IsRow, IsUsed, link_at, weight_at}
use Rattle.std.proofs.lemmas.List.{append-nil, take_all}
use Rattle.std.specs.List.{list_any}
use Rattle.std.proofs.lemmas.Option.{slice_get-get_or}
use Rattle.indexmap.specs.IndexSet.{insert_key}
use Rattle.lists.proofs.Keys.{Adds-insert_key, Has-list_any}
use Rattle.auto_table.proofs.Same.{same_entry, self_entry}
use Rattle.auto_table.specs.contracts.entry.EntryPartialEq.TheImpl as entry
use Rattle.lists.specs.Lists.{Adds, Has}
use Rattle.lists.proofs.Places.{Has-adds_itself, slice_get-added, slice_get-adds, slice_get-append_left, slice_get-below}
use Rattle.lists.proofs.Joined.{Has-adds}
use Rattle.post_star.specs.declared.bases.BaseStep.{BaseStep}
use Rattle.post_star.specs.declared.bases.Start.{Start}
use Rattle.post_star.specs.Derivations.{any_word, Derives, DerivesAny}
use Rattle.post_star.specs.Readings.{any_base, any_entry, any_link, IsSaturated, ReadsAny, ReadsAnyAt}
use Rattle.call_side.specs.Arrivals.{AreLive, GoesDown, HasOwn, IsLive, IsReadAt}
use Rattle.call_side.specs.Coded.{node_count}
use Rattle.call_side.specs.Gathered.{AreGathered}
use Rattle.post_star.proofs.Loops.{EachBefore, each_all, each_more}
use Rattle.call_side.proofs.Lists.{Has-take_more}
use Rattle.call_side.proofs.Truth.{any_derives, of_bool, some_true, sum_true, true_sum}
use Rattle.weight_laws.specs.declared.reach.Reach.{Reach}
use Rattle.weight_laws.specs.Reach.{reach_domain}

both_true : (x y : Bool) → (x && y) ≡ true → (x ≡ true) × (y ≡ true)
both_true true y h = (refl, h)
both_true false y h = absurd (true≢false (sym h))

-- a true weight isn't zero
true_some : (v : Reach) → v.0 ≡ true → v ≢ reach_domain.zero
true_some v h e = true≢false (sym h ∙ ap (λ (r : Reach). r.0) e)

-- a word is read at a node exactly where one is derived
pub read_derives : (rules : List (Rule Reach)) (starts : List (Start Reach)) (steps : List BaseStep) (last : ℕ) (t : Cells Reach)
    → IsSaturated reach_domain rules starts steps last t → (node : ℕ)
    → IsReadAt t node ↔ ((word : List ℕ) × Derives reach_domain rules starts steps last node word reach_domain.one)
read_derives rules starts steps last t saturated node = (
  (λ r. (any_derives rules starts steps last t saturated node reach_domain.one (true_sum (ReadsAnyAt reach_domain t node) r)).0 refl),
  (λ w.
      let any = true_sum (DerivesAny reach_domain rules starts steps last node) (any_word w.1) in
      (sum_true (ReadsAnyAt reach_domain t node) reach_domain.one ((saturated.any_value node reach_domain.one).1 any)).0 refl),
)

module _ (t : Cells Reach) where
  -- an entry that goes down to those that lead to a base leads to one
  pub down_live : (live : List Entry) (entry : Entry) → AreLive t live → GoesDown t live entry → IsLive t entry
  down_live live (Base b) are down = any_base
  down_live live (Pushed n m) are down =
      subst (λ (w : Reach). ReadsAny reach_domain t (Pushed n m) w) (ap of_bool (some_true (link_at reach_domain t (Pushed n m) down.0) down.1))
      (any_link (are down.0 down.2))

  -- also where more of them are known
  pub down_more : (live more : List Entry) (entry : Entry) → GoesDown t live entry → GoesDown t (live ++ more) entry
  down_more live more (Base b) down = down
  down_more live more (Pushed n m) down = (down.0, down.1, (down.2.0, slice_get-append_left live more down.2.0 down.0 down.2.1))

  -- where no entry that goes down is missing, none that leads to a base is
  pub live_all : (live : List Entry) → ((entry : Entry) → IsUsed reach_domain t entry → GoesDown t live entry → Has live entry)
      → {entry : Entry} {x : Reach} → ReadsAny reach_domain t entry x → x.0 ≡ true → IsUsed reach_domain t entry → Has live entry
  live_all live done (any_base {b}) h used = done (Base b) used tt
  live_all live done (any_link {node} {mark} {parent} {x} r) h used =
      let p = both_true x.0 (link_at reach_domain t (Pushed node mark) parent).0 h in
      let some = true_some (link_at reach_domain t (Pushed node mark) parent) p.1 in
      done (Pushed node mark) used (parent, some, live_all live done r p.0 (by_parent (Pushed node mark) some))

  -- the entry has the node
  abbrev pub IsNodeOf : Entry → ℕ → Type 0
  IsNodeOf entry n = weight_at reach_domain t entry n ≢ reach_domain.zero

  read_parts : (n : ℕ) {x : Reach} → ReadsAnyAt reach_domain t n x → x.0 ≡ true → (entry : Entry) × IsLive t entry × IsNodeOf entry n
  read_parts n (any_entry {entry} {x} r) h =
      let p = both_true x.0 (weight_at reach_domain t entry n).0 h in
      (entry, subst (λ (w : Reach). ReadsAny reach_domain t entry w) (ap of_bool p.0) r, true_some (weight_at reach_domain t entry n) p.1)

  -- the nodes of the entries that lead to a base are those that a word is at
  pub gathered_read : (live : List Entry) → AreLive t live → ((entry : Entry) → IsUsed reach_domain t entry → GoesDown t live entry → Has live entry)
      → (nodes : List ℕ) → AreGathered (HasOwn node_count t) live nodes → (n : ℕ) → Has nodes n ↔ (IsReadAt t n × (n < node_count))
  gathered_read live are done nodes gathered n = (
    (λ has.
        let g = (gathered n).0 has in (
          subst (λ (w : Reach). ReadsAnyAt reach_domain t n w) (ap of_bool (some_true (weight_at reach_domain t g.0 n) g.2.0)) (any_entry (are g.0 g.1)),
          g.2.1,
        )),
    (λ r.
        let p = read_parts n r.0 refl in
        (gathered n).1 (p.0, live_all live done p.1 refl (by_weight n p.2), (p.2, r.1))),
  )

  -- the entry of an element of its parents
  pub parent_down : (n m : ℕ) (parents : List (Linked Reach)) → AreParents reach_domain t (Pushed n m) parents → (live : List Entry) (x : Linked Reach)
      → Has parents x → Has live x.parent → GoesDown t live (Pushed n m)
  parent_down n m parents are live x has there =
      (x.parent, (λ e. are.some x has (are.weight x has ∙ e)), there)

  -- where no parent is there, the entry doesn't go down
  pub none_down : (n m : ℕ) (parents : List (Linked Reach)) → AreParents reach_domain t (Pushed n m) parents → (live : List Entry)
      → ((x : Linked Reach) → Has parents x → Has live x.parent → ⊥) → GoesDown t live (Pushed n m) → ⊥
  none_down n m parents are live none down = none (record { parent = down.0; weight = link_at reach_domain t (Pushed n m) down.0 }) (are.all down.0 down.1) down.2

  -- the nodes of a row are those of the entry
  pub row_nodes : (entry : Entry) (row : List (Reached Reach)) → IsRow reach_domain t entry row → (n : ℕ)
      → ((x : Reached Reach) × Has row x × ((n ≡ x.node) × (n < node_count))) ↔ HasOwn node_count t entry n
  row_nodes entry row is n = (
    (λ h. (subst (λ (m : ℕ). weight_at reach_domain t entry m ≢ reach_domain.zero) (sym h.2.0) (λ e. is.some h.0 h.1 (is.weight h.0 h.1 ∙ e)), h.2.1)),
    (λ own. (record { node = n; weight = weight_at reach_domain t entry n }, is.all n own.0, (refl, own.1))),
  )

-- and it goes on from the old one
pub behind_adds : {X : Type 0} (old new : List X) (x : X) → Adds old x new → (behind : List X) × (new ≡ old ++ behind)
behind_adds old new x (inl h) = ([], h.1 ∙ sym (append-nil old))
behind_adds old new x (inr h) = (x ∷ [], h.1)

-- lists that grow at their end
pub behind_more : {X : Type 0} (first mid last : List X) → (behind : List X) × (mid ≡ first ++ behind) → (behind : List X) × (last ≡ mid ++ behind) → (behind : List X) × (last ≡ first ++ behind)
behind_more {X} first mid last a b = (a.0 ++ b.0, b.1 ∙ ap (λ (xs : List X). xs ++ b.0) a.1 ∙ append_assoc first a.0 b.0)

-- a list that isn't longer is the old one
pub nothing_behind : {X : Type 0} (old new : List X) → (behind : List X) × (new ≡ old ++ behind) → length new ≤ length old → new ≡ old
nothing_behind {X} old new behind short = by behind.0 behind.1
  where
    by : (xs : List X) → new ≡ old ++ xs → new ≡ old
    by [] e = e ∙ append-nil old
    by (x ∷ xs) e = absurd (let l = ap length e in omega (arith, l, length-append old (x ∷ xs)))

still : {X : Type 0} (old new : List X) → (behind : List X) × (new ≡ old ++ behind) → (x : X) → Has old x → Has new x
still {X} old new behind x has = subst (λ (xs : List X). Has xs x) (sym behind.1) (has.0, slice_get-append_left old behind.0 has.0 x has.1)

-- a node is among those of a row, and split marks didn't bring it
abbrev pub AmongRow : List (Reached Reach) → ℕ → Type 0
AmongRow row n = (x : Reached Reach) × Has row x × ((n ≡ x.node) × (n < node_count))

pub nodes_none : (row : List (Reached Reach)) (first : List ℕ) (n : ℕ) → Has first n ↔ (Has first n ⊎ AmongRow (take 0 row) n)
nodes_none row first n = ((λ h. inl h), (λ h. elim h [ inl a ↦ a | inr b ↦ cc b.1.1 ]))

-- one more node of the row came in
pub nodes_more : (row : List (Reached Reach)) (i : ℕ) (d : Reached Reach) (first old new : List ℕ) → i < length row
    → ((n : ℕ) → Has old n ↔ (Has first n ⊎ AmongRow (take i row) n)) → ((n : ℕ) → Has new n ↔ (Has old n ⊎ ((n ≡ (get_or row i d).node) × (n < node_count))))
    → (n : ℕ) → Has new n ↔ (Has first n ⊎ AmongRow (take (i + 1) row) n)
nodes_more row i d first old new below was now n = (
  (λ h. elim ((now n).0 h) [
    | inl a ↦ elim ((was n).0 a) [
      | inl f ↦ inl f
      | inr b ↦ inr (b.0, (Has-take_more row i d b.0 below).1 (inl b.1), b.2)
    ]
    | inr e ↦ inr (get_or row i d, (Has-take_more row i d (get_or row i d) below).1 (inr refl), e)
  ]),
  (λ h. elim h [
    | inl f ↦ (now n).1 (inl ((was n).1 (inl f)))
    | inr b ↦ elim ((Has-take_more row i d b.0 below).0 b.1) [
      | inl a ↦ (now n).1 (inl ((was n).1 (inr (b.0, a, b.2))))
      | inr e ↦ (now n).1 (inr (b.2.0 ∙ ap (λ (x : Reached Reach). x.node) e, b.2.1))
    ]
  ]),
)

module _ (t : Cells Reach) where
  -- an entry that leads to a base came in
  pub live_adds : (old new : List Entry) (entry : Entry) → Adds old entry new → GoesDown t old entry → AreLive t old → AreLive t new
  live_adds old new entry adds down are e has = elim ((Has-adds old new entry adds e).0 has) [
    | inl a ↦ are e a
    | inr same ↦ subst (IsLive t) (sym same) (down_live t old entry are down)
  ]

  -- one more entry was looked at
  pub swept_more : (first old new entries : List Entry) (i : ℕ) (d : Entry) → i < length entries → (behind : List Entry) × (old ≡ first ++ behind)
      → (behind : List Entry) × (new ≡ old ++ behind) → (GoesDown t old (get_or entries i d) → Has new (get_or entries i d)) → EachBefore (λ (e : Entry). GoesDown t first e → Has old e) entries i
      → EachBefore (λ (e : Entry). GoesDown t first e → Has new e) entries (i + 1)
  swept_more first old new entries i d low before after here was =
      each_more (λ (e : Entry). GoesDown t first e → Has new e) entries i (get_or entries i d) (slice_get-get_or entries i d low)
      (λ down. here (subst (λ (xs : List Entry). GoesDown t xs (get_or entries i d)) (sym before.1) (down_more t first before.0 (get_or entries i d) down)))
      (λ j e low there down. still old new after e (was j e low there down))

  -- after a look that found nothing new, nothing is missing
  pub sweep_done : (first now entries : List Entry) (n : ℕ) → IsListed reach_domain t entries → length entries ≤ n → now ≡ first
      → EachBefore (λ (e : Entry). GoesDown t first e → Has now e) entries n → (entry : Entry) → IsUsed reach_domain t entry → GoesDown t now entry → Has now entry
  sweep_done first now entries n listed all same there entry used down =
      each_all (λ (e : Entry). GoesDown t first e → Has now e) entries n all there entry (listed.all entry used) (subst (λ (xs : List Entry). GoesDown t xs entry) same down)

  -- all nodes of a row came in
  pub nodes_all : (entry : Entry) (row : List (Reached Reach)) → IsRow reach_domain t entry row → (i : ℕ) → i ≡ length row → (first nodes : List ℕ)
      → ((n : ℕ) → Has nodes n ↔ (Has first n ⊎ AmongRow (take i row) n)) → (n : ℕ) → Has nodes n ↔ (Has first n ⊎ HasOwn node_count t entry n)
  nodes_all entry row is i e first nodes all n =
      let whole : take i row ≡ row = take_all i row (omega arith) in
      let same = row_nodes t entry row is n in
      let now = subst (λ (xs : List (Reached Reach)). Has nodes n ↔ (Has first n ⊎ AmongRow xs n)) whole (all n) in (
        (λ h. elim (now.0 h) [ inl a ↦ inl a | inr b ↦ inr (same.0 b) ]),
        (λ h. elim h [ inl a ↦ now.1 (inl a) | inr b ↦ now.1 (inr (same.1 b)) ]),
      )

-- whether a number is there
pub number_there : (keys : List ℕ) (k : ℕ) (b : Bool) → b ≡ list_any (eqb k) keys → IsTrue b ↔ Has keys k
number_there keys k b e = Has-list_any eqb eqb-true (λ y. eq-eqb y y refl) keys k b e

-- a list of no elements has none
pub none_there : {X : Type 0} (xs : List X) → length xs ≡ 0 → (x : X) → Has xs x → ⊥
none_there xs e x has = let low = slice_get-below xs has.0 x has.1 in absurd (omega arith)

-- a number came in
pub inserted : (old new : List ℕ) (x : ℕ) → new ≡ insert_key eqb old x → (y : ℕ) → Has new y ↔ (Has old y ⊎ (y ≡ x))
inserted old new x e = Has-adds old new x (subst (Adds old x) (sym e) (Adds-insert_key eqb eqb-true (λ y. eq-eqb y y refl) old x))

-- one more parent isn't there
pub parents_more : (keys : List Entry) (parents : List (Linked Reach)) (i : ℕ) (d : Linked Reach) (b : Bool) → i < length parents
    → b ≡ list_any (entry.eq-value.it (get_or parents i d).parent) keys → b ≡ false
    → EachBefore (λ (x : Linked Reach). Has keys x.parent → ⊥) parents i → EachBefore (λ (x : Linked Reach). Has keys x.parent → ⊥) parents (i + 1)
parents_more keys parents i d b low e false_is =
    each_more (λ (x : Linked Reach). Has keys x.parent → ⊥) parents i (get_or parents i d) (slice_get-get_or parents i d low)
    (λ has. true≢false (sym ((Has-list_any entry.eq-value.it same_entry self_entry keys (get_or parents i d).parent b e).1 has) ∙ false_is))

-- one is
pub parent_found : (t : Cells Reach) (n m : ℕ) (keys : List Entry) (parents : List (Linked Reach)) → AreParents reach_domain t (Pushed n m) parents → (i : ℕ) (d : Linked Reach) (b : Bool)
    → i < length parents → b ≡ list_any (entry.eq-value.it (get_or parents i d).parent) keys → b ≡ true → GoesDown t keys (Pushed n m)
parent_found t n m keys parents are i d b low e true_is =
    parent_down t n m parents are keys (get_or parents i d) (i, slice_get-get_or parents i d low)
    ((Has-list_any entry.eq-value.it same_entry self_entry keys (get_or parents i d).parent b e).0 true_is)

-- none was
pub parents_none : (t : Cells Reach) (n m : ℕ) (keys : List Entry) (parents : List (Linked Reach)) → AreParents reach_domain t (Pushed n m) parents → (i : ℕ) → length parents ≤ i
    → EachBefore (λ (x : Linked Reach). Has keys x.parent → ⊥) parents i → GoesDown t keys (Pushed n m) → ⊥
parents_none t n m keys parents are i all was = none_down t n m parents are keys (each_all (λ (x : Linked Reach). Has keys x.parent → ⊥) parents i all was)

-- a node came in, where split marks didn't bring it
pub own_inserted : (old new : List ℕ) (x : ℕ) → x < node_count → new ≡ insert_key eqb old x → (n : ℕ) → Has new n ↔ (Has old n ⊎ ((n ≡ x) × (n < node_count)))
own_inserted old new x low e n =
    let now = inserted old new x e n in (
      (λ has. elim (now.0 has) [ inl a ↦ inl a | inr same ↦ inr (same, subst (λ (m : ℕ). m < node_count) (sym same) low) ]),
      (λ h. elim h [ inl a ↦ now.1 (inl a) | inr b ↦ now.1 (inr b.0) ]),
    )

-- and none where they did
pub own_passed : (old : List ℕ) (x : ℕ) → node_count ≤ x → (n : ℕ) → Has old n ↔ (Has old n ⊎ ((n ≡ x) × (n < node_count)))
own_passed old x past n = (
  (λ has. inl has),
  (λ h. elim h [ inl a ↦ a | inr b ↦ absurd (let same : n ≡ x = b.0 in let low : n < node_count = b.1 in omega arith) ]),
)
