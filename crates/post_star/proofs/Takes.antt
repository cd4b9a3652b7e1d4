-- How far the loops that take rules in have come.
use Rattle.std.proofs.Common.{◌≡◌, ◌≢◌, inl, inr, ◌∙◌, ℕ, ◌+◌, ◌<◌, ◌≤◌, List, [], ◌∷◌, ◌++◌, length, slice_get, Some, Bool, true, false, nat_eq, refl, sym, ap, subst, arith, rules, eq-eqb}
use Rattle.indexmap.specs.IndexSet.{insert_key}
use Rattle.std.specs.List.{list_any}
use Rattle.auto_table.specs.declared.rule.Rule.{Rule}
use Rattle.auto_table.specs.declared.entry.Entry.{Entry}
use Rattle.auto_table.specs.declared.row.Reached.{Reached}
use Rattle.lists.specs.Lists.{Has, Adds}
use Rattle.auto_table.specs.Cells.{Cells, weight_at, IsRow, IsListed, by_weight}
use Rattle.lists.proofs.Keys.{Adds-insert_key, Has-list_any}
use Rattle.lists.proofs.Places.{slice_get-below, slice_get-adds, Has-adds_itself}
use Rattle.lists.proofs.Joined.{Has-left}
use Rattle.post_star.specs.declared.rise.Item.{Item}
use Rattle.post_star.specs.declared.rise.Item.TheVariants.{At}
use Rattle.post_star.specs.Index.{from_of}
use Rattle.post_star.specs.Works.{AreTaken}
use Rattle.post_star.proofs.Applies.{below_or_last}
use Rattle.post_star.proofs.Scopes.{has_last}
use Rattle.weight_laws.specs.Law.{Domain}

nat_same : (a b : ℕ) → nat_eq a b ≡ true → a ≡ b
nat_same a b h = grind (arith, rules)

nat_self : (a : ℕ) → nat_eq a a ≡ true
nat_self a = eq-eqb a a refl

-- the nodes have those of the rules from one number on, up to another
abbrev pub AreFresh : {W : Type 0} → List (Rule W) → ℕ → List ℕ → ℕ → Type 0
AreFresh {W} rules taken nodes i = (j : ℕ) (rule : Rule W) → taken ≤ j → j < i → slice_get rules j ≡ Some rule → Has nodes (from_of rule)

-- the entry waits at each of the nodes in the first cells of its row
pub record IsRowTaken {W : Type 0} (entry : Entry) (row : List (Reached W)) (nodes : List ℕ) (before now : List Item) (k : ℕ) : Type 0 where
  pub stays : (i : Item) → Has before i → Has now i
  pub taken : (j : ℕ) (x : Reached W) → j < k → slice_get row j ≡ Some x → Has nodes x.node → Has now (At entry x.node)

-- the first entries wait at the node of each rule from a number on, where they have a weight there
abbrev pub AreEntriesTaken : {W : Type 0} → Domain W → Cells W → List (Rule W) → ℕ → List Entry → List Item → ℕ → Type 0
AreEntriesTaken {W} d t rules taken entries items k =
    (j : ℕ) (e : Entry) → j < k → slice_get entries j ≡ Some e → (i : ℕ) (rule : Rule W) → taken ≤ i → slice_get rules i ≡ Some rule → weight_at d t e (from_of rule) ≢ d.zero → Has items (At e (from_of rule))

module _ {W : Type 0} where
  pub fresh_more : (rules : List (Rule W)) (taken : ℕ) (nodes new : List ℕ) (i key : ℕ) (item : Rule W) → slice_get rules i ≡ Some item → key ≡ from_of item → new ≡ insert_key nat_eq nodes key → AreFresh rules taken nodes i → AreFresh rules taken new (i + 1)
  fresh_more rules taken nodes new i key item at is e f j rule h k there = elim (below_or_last j i k) [
    | inl b ↦ let p = f j rule h b there in (p.0, slice_get-adds nodes new key adds p.0 (from_of rule) p.1)
    | inr n ↦ let same : item ≡ rule = cc (at, there, ap (slice_get rules) n) in subst (λ (x : ℕ). Has new x) (is ∙ ap from_of same) (Has-adds_itself nodes new key adds)
  ]
    where
      adds : Adds nodes key new
      adds = subst (λ (xs : List ℕ). Adds nodes key xs) (sym e) (Adds-insert_key nat_eq nat_same nat_self nodes key)

  pub fresh_all : (rules : List (Rule W)) (taken : ℕ) (nodes : List ℕ) (i : ℕ) → length rules ≤ i → AreFresh rules taken nodes i → (j : ℕ) (rule : Rule W) → taken ≤ j → slice_get rules j ≡ Some rule → Has nodes (from_of rule)
  fresh_all rules taken nodes i all f j rule h at = f j rule h (let low : j < length rules = slice_get-below rules j rule at in omega arith) at

  pub row_none : (entry : Entry) (row : List (Reached W)) (nodes : List ℕ) (before : List Item) → IsRowTaken entry row nodes before before 0
  row_none entry row nodes before = record { stays = λ i h. h; taken = λ j x h. absurd (omega arith) }

  pub row_pushes : (entry : Entry) (row : List (Reached W)) (nodes : List ℕ) (before now new : List Item) (k : ℕ) (x : Reached W) → slice_get row k ≡ Some x → new ≡ now ++ At entry x.node ∷ [] → IsRowTaken entry row nodes before now k → IsRowTaken entry row nodes before new (k + 1)
  row_pushes entry row nodes before now new k x at e g = subst (λ (xs : List Item). IsRowTaken entry row nodes before xs (k + 1)) (sym e) (record {
    stays = λ i h. Has-left now _ i (g.stays i h);
    taken = λ j y h there n. elim (below_or_last j k h) [
      | inl b ↦ Has-left now _ _ (g.taken j y b there n)
      | inr z ↦ let same : x ≡ y = cc (at, there, ap (slice_get row) z) in subst (λ (q : Reached W). Has (now ++ At entry x.node ∷ []) (At entry q.node)) same (has_last now (At entry x.node))
    ];
  })

  pub row_skips : (entry : Entry) (row : List (Reached W)) (nodes : List ℕ) (before now : List Item) (k : ℕ) (x : Reached W) → slice_get row k ≡ Some x → (b : Bool) → b ≡ list_any (nat_eq x.node) nodes → b ≡ false → IsRowTaken entry row nodes before now k → IsRowTaken entry row nodes before now (k + 1)
  row_skips entry row nodes before now k x at b is not g = record {
    stays = g.stays;
    taken = λ j y h there n. elim (below_or_last j k h) [
      | inl c ↦ g.taken j y c there n
      | inr z ↦
          let same : x ≡ y = cc (at, there, ap (slice_get row) z) in
          let found : b ≡ true = (Has-list_any nat_eq nat_same nat_self nodes x.node b is).1 (subst (λ (q : Reached W). Has nodes q.node) (sym same) n) in
          cc
    ];
  }

  module _ (d : Domain W) (t : Cells W) where
    pub row_all : (entry : Entry) (row : List (Reached W)) (nodes : List ℕ) (before now : List Item) (k : ℕ) → IsRow d t entry row → length row ≤ k → IsRowTaken entry row nodes before now k
        → (node : ℕ) → Has nodes node → weight_at d t entry node ≢ d.zero → Has now (At entry node)
    row_all entry row nodes before now k are all g node h n = let p = are.all node n in g.taken p.0 _ (omega (arith, slice_get-below row p.0 _ p.1)) p.1 h

    module _ (rules : List (Rule W)) (taken : ℕ) where
      pub entries_more : (entries : List Entry) (nodes : List ℕ) → ((i : ℕ) (rule : Rule W) → taken ≤ i → slice_get rules i ≡ Some rule → Has nodes (from_of rule)) → (now new : List Item) (k : ℕ) (e : Entry) → slice_get entries k ≡ Some e
          → ((i : Item) → Has now i → Has new i) → ((node : ℕ) → Has nodes node → weight_at d t e node ≢ d.zero → Has new (At e node)) → AreEntriesTaken d t rules taken entries now k → AreEntriesTaken d t rules taken entries new (k + 1)
      entries_more entries nodes fresh now new k e at stays here f j x h there i rule m is n = elim (below_or_last j k h) [
        | inl b ↦ stays (At x (from_of rule)) (f j x b there i rule m is n)
        | inr z ↦ let same : e ≡ x = cc (at, there, ap (slice_get entries) z) in
            subst (λ (y : Entry). Has new (At y (from_of rule))) same (here (from_of rule) (fresh i rule m is) (subst (λ (y : Entry). weight_at d t y (from_of rule) ≢ d.zero) (sym same) n))
      ]

      pub taken_all : (entries : List Entry) → IsListed d t entries → (items : List Item) (k : ℕ) → length entries ≤ k → AreEntriesTaken d t rules taken entries items k → AreTaken d rules taken t items
      taken_all entries listed items k all f i rule h at e n =
          let p = listed.all e (by_weight (from_of rule) n) in
          f p.0 e (omega (arith, slice_get-below entries p.0 e p.1)) p.1 i rule h at n

      -- no rule is new
      pub taken_none : (items : List Item) → length rules ≤ taken → AreTaken d rules taken t items
      taken_none items all i rule h at = let low : i < length rules = slice_get-below rules i rule at in absurd (omega arith)
