-- Stores in the order of their places.
use Rattle.std.proofs.Common.{◌≡◌, ℕ, ◌+◌, ◌<◌, ◌≤◌, List, [], ◌∷◌, ◌++◌, ◌↔◌, Bool, Option, Some, false, get_or, length, slice_get, take, refl, sym, ap, subst, ◌∙◌, ◌⊎◌, inl, inr, arith, append-nil, length-append}
use Rattle.std.specs.List.{AllPairs}
use Rattle.std.proofs.lemmas.List.Quantifiers.{all_pairs_push}
use Rattle.std.proofs.lemmas.Option.{get_or_from_slice_get, same_Some, slice_get-get_or}
use Rattle.lists.specs.Lists.{Has}
use Rattle.lists.proofs.Places.{slice_get-below}
use Rattle.lists.proofs.Joined.{slice_get-appended}
use Rattle.link_rules.specs.declared.code.Arg.{Arg}
use Rattle.link_rules.specs.declared.code.Code.{Code}
use Rattle.link_rules.specs.declared.code.Code.TheVariants as code
use Rattle.link_rules.specs.Linked.{LinkedProgram}
use Rattle.link_indexes.specs.declared.method.Place.{Place as Indexed}
use Rattle.link_indexes.specs.Facts.{Stores}
use Rattle.link_indexes.specs.Rows.{Precedes}
use Rattle.link_indexes.specs.Tables.{IsAt}
use Rattle.link_rules.specs.Accessed.{codes_in}
use Rattle.link_sites.specs.declared.place.Place.{Place}
use Rattle.link_sites.specs.Places.{CodeAt, ComesBefore, HasCode, before}
use Rattle.spds_rules.specs.declared.node.Var.{Var}
use Rattle.spds_rules.specs.declared.node.Var.TheVariants.{Local, Nested}
use Rattle.spds_rules.specs.declared.store.StoreAt.{StoreAt}
use Rattle.spds_rules.specs.Nodes.{arg_var, at}
use Rattle.spds_rules.specs.Stores.{StoresInto, level_var}
use Rattle.spds_nodes.specs.Added.{IsAdded, Over}
use Rattle.spds_nodes.specs.Stored.{IsFiled, IsInnerStore, IsLevelStore, IsLocalStore, IsStoreAt, IsStoreOf, IsStoredBy, StorePrecedes, store_at}
use Rattle.spds_nodes.proofs.Joined.{IsAdded-none, IsAdded-one, IsAdded-same, slice_get-taken}
use Rattle.spds_nodes.proofs.Numbered.{Below-next}
use Rattle.spds_nodes.proofs.Parts.{HasCode-some}
use Rattle.spds_nodes.proofs.Sources.{HasCode-weaker, code_in}

-- what stands in an ordered list is in order
in_order : (places : List Indexed) (i j : ℕ) (a b : Indexed) → AllPairs Precedes places → slice_get places i ≡ Some a → slice_get places j ≡ Some b → i < j → Precedes a b
in_order places i j a b ordered x y less =
    subst (λ c. Precedes c b) (get_or_from_slice_get places i a a x)
    (subst (λ c. Precedes (get_or places i a) c) (get_or_from_slice_get places j b a y) (ordered i j a less (slice_get-below places j b y)))

module _ (places : List Indexed) (i : ℕ) (here : Indexed) (Gives : Indexed → StoreAt → Type 0) (placed : (q : Indexed) (s : StoreAt) → Gives q s → s.place ≡ before q.method q.index)
    (ordered : AllPairs Precedes places) (there : slice_get places i ≡ Some here) where
  -- what earlier places give comes before this one
  earlier : (a : StoreAt) → Over (Has (take i places)) Gives a → ComesBefore a.place (before here.method here.index)
  earlier a over =
      let taken = slice_get-taken places i over.1.0 over.0 over.1.1 in
      let precedes = in_order places over.1.0 i over.0 here ordered taken.1 there taken.0 in
      subst (λ q. ComesBefore q (before here.method here.index)) (sym (placed over.0 a over.2)) precedes

  -- the stores of one more place
  pub ordered_more : (old new : List StoreAt) → IsAdded (Over (Has (take i places)) Gives) [] old → IsFiled (before here.method here.index) (Gives here) old new
      → AllPairs StorePrecedes old → AllPairs StorePrecedes new
  ordered_more old new before_here filed inside =
      filed.ordered inside (λ s has. earlier s (before_here.all.each s (subst (λ xs. Has xs s) before_here.is has)))

module _ (place : Place) where
  pub IsFiled-none : (P : StoreAt → Type 0) (xs : List StoreAt) → ((s : StoreAt) → P s → ⊥) → IsFiled place P xs xs
  IsFiled-none P xs none = record { added = IsAdded-none P xs none; ordered = λ inside earlier. inside }

  pub IsFiled-same : (P Q : StoreAt → Type 0) (old new : List StoreAt) → ((s : StoreAt) → P s ↔ Q s) → IsFiled place P old new → IsFiled place Q old new
  IsFiled-same P Q old new same filed = record { added = IsAdded-same P Q old new same filed.added; ordered = filed.ordered }

  -- one store
  pub IsFiled-one : (P : StoreAt → Type 0) (old new : List StoreAt) (s : StoreAt) → new ≡ old ++ s ∷ [] → s.place ≡ place → P s → ((t : StoreAt) → P t → t ≡ s)
      → IsFiled place P old new
  IsFiled-one P old new s pushed there fact only = record {
    added = IsAdded-one P old new s pushed fact only;
    ordered = λ inside earlier.
        subst (AllPairs StorePrecedes) (sym pushed)
        (all_pairs_push StorePrecedes old s inside (λ k d below.
        inl (subst (λ q. ComesBefore (get_or old k d).place q) (sym there) (earlier (get_or old k d) (k, slice_get-get_or old k d below)))));
  }

  -- the store into what a local holds
  pub IsFiled-local : (field base : ℕ) (a : Arg) (old new : List StoreAt) (v : Var) → arg_var a ≡ Some v → new ≡ old ++ store_at place field (Local base) v ∷ []
      → IsFiled place (IsLocalStore place field base a) old new
  IsFiled-local field base a old new v named pushed =
      IsFiled-one (IsLocalStore place field base a) old new (store_at place field (Local base) v) pushed refl (v, named, refl)
      (λ t is. is.2 ∙ ap (λ (w : Var). store_at place field (Local base) w) (same_Some is.0 v (sym is.1 ∙ named)))

  level_place : (inner : ℕ) (s : StoreAt) → IsLevelStore place inner s → s.place ≡ place
  level_place inner s is = ap (λ (t : StoreAt). t.place) is.2

  level_is : (inner : ℕ) (s : StoreAt) → IsLevelStore place inner s → s.arg.var ≡ Nested inner
  level_is inner s is = ap (λ (t : StoreAt). t.arg.var) is.2

  -- a store is of one level
  one_level : (a b : ℕ) (s : StoreAt) → IsLevelStore place a s → IsLevelStore place b s → a ≡ b
  one_level a b s x y = let same : Nested a ≡ Nested b = sym (level_is a s x) ∙ level_is b s y in cc

  -- one level more
  pub level_next : (old mid new : List StoreAt) (inner : ℕ) (s : StoreAt) → IsLevelStore place inner s → ((t : StoreAt) → IsLevelStore place inner t → t ≡ s)
      → IsFiled place (Over (λ i. i < inner) (IsLevelStore place)) old mid → new ≡ mid ++ s ∷ []
      → IsFiled place (Over (λ i. i < inner + 1) (IsLevelStore place)) old new
  level_next old mid new inner s is only filed pushed = record {
    added =
        Below-next (IsLevelStore place) old mid new inner one_level filed.added
        (IsAdded-one (IsLevelStore place inner) mid new s pushed is only);
    ordered = λ inside earlier.
        subst (AllPairs StorePrecedes) (sym pushed)
        (all_pairs_push StorePrecedes mid s (filed.ordered inside earlier) (λ k d below. follows earlier (get_or mid k d) (k, slice_get-get_or mid k d below)));
  }
    where
      follows : ((t : StoreAt) → Has old t → ComesBefore t.place place) → (t : StoreAt) → Has mid t → StorePrecedes t s
      follows earlier t has = elim (slice_get-appended old filed.added.added has.0 t (subst (λ xs. slice_get xs has.0 ≡ Some t) filed.added.is has.1)) [
        | inl first ↦ inl (subst (ComesBefore t.place) (sym (level_place inner s is)) (earlier t (has.0, first)))
        | inr second ↦
            let over = filed.added.all.each t (second.0, second.2) in
            inr (level_place over.0 t over.2 ∙ sym (level_place inner s is), (over.0, inner, level_is over.0 t over.2, level_is inner s is, over.1))
      ]

  -- by the outer level
  pub level_pushed : (old mid new : List StoreAt) (inner outer : ℕ) → inner ≡ outer + 1 → IsFiled place (Over (λ i. i < inner) (IsLevelStore place)) old mid
      → new ≡ mid ++ store_at place 0 (level_var outer) (Nested inner) ∷ [] → IsFiled place (Over (λ i. i < inner + 1) (IsLevelStore place)) old new
  level_pushed old mid new inner outer same filed pushed =
      level_next old mid new inner (store_at place 0 (level_var outer) (Nested inner)) (outer, same, refl)
      (λ t is. let outers : is.0 ≡ outer = omega (arith, is.1, same) in is.2 ∙ ap (λ (n : ℕ). store_at place 0 (level_var n) (Nested inner)) outers) filed pushed

  -- all levels
  pub levels_end : (old new : List StoreAt) (inner levels : ℕ) → levels ≤ inner → ((inner ≤ levels) ⊎ (inner ≡ 1))
      → IsFiled place (Over (λ i. i < inner) (IsLevelStore place)) old new → IsFiled place (IsInnerStore place levels) old new
  levels_end old new inner levels behind last filed =
      IsFiled-same (Over (λ i. i < inner) (IsLevelStore place)) (IsInnerStore place levels) old new
      (λ s. (
        (λ over. (over.0, elim last [ inl within ↦ omega (arith, over.1, within) | inr first ↦ absurd (let level = over.2 in omega (arith, over.1, first, level.1)) ], over.2)),
        (λ over. (over.0, omega (arith, over.1, behind), over.2)),
      )) filed

-- a store of the program by what its statement stores
store_is : (p : LinkedProgram) (field : ℕ) (place : Place) (s : StoreAt) → IsStoreAt p field place s → s ≡ store_at place field s.base.var s.arg.var
store_is p field place s is =
    let first : s ≡ record { place = place; field = s.field; base = s.base; arg = s.arg } = ap (λ (q : Place). record { place = q; field = s.field; base = s.base; arg = s.arg }) is.1 in
    let second : record { place = place; field = s.field; base = s.base; arg = s.arg } ≡ record { place = place; field = field; base = s.base; arg = s.arg } =
    ap (λ (f : ℕ). record { place = place; field = f; base = s.base; arg = s.arg }) is.0.1 in
    let third : record { place = place; field = field; base = s.base; arg = s.arg } ≡ record { place = place; field = field; base = at place s.base.var; arg = s.arg } =
    ap (λ (q : Place). record { place = place; field = field; base = at q s.base.var; arg = s.arg }) (is.0.0.base_there ∙ is.1) in
    let fourth : record { place = place; field = field; base = at place s.base.var; arg = s.arg } ≡ store_at place field s.base.var s.arg.var =
    ap (λ (q : Place). record { place = place; field = field; base = at place s.base.var; arg = at q s.arg.var }) (is.0.0.arg_there ∙ is.1) in
    first ∙ second ∙ third ∙ fourth

-- the stores of a place are what its statement stores
pub store_there : (p : LinkedProgram) (field : ℕ) (place : Place) (s : StoreAt) → place.raised ≡ false
    → HasCode p place.method place.index (λ c. IsStoredBy place field c s) ↔ IsStoreAt p field place s
store_there p field place s unraised = (
  (λ has.
      let is = has.is_so in
      subst (IsStoreAt p field place) (sym is.3)
      ((record { unraised = unraised; base_there = refl; arg_there = refl; stores = record { code = has.code; at = has.at; is_so = is.2 } }, refl), refl)),
  (λ is.
      let stores =
      subst (λ f. HasCode p place.method place.index (λ c. StoresInto c f s.base.var s.arg.var)) is.0.1
      (subst (λ (q : Place). HasCode p q.method q.index (λ c. StoresInto c s.field s.base.var s.arg.var)) is.1 is.0.0.stores) in
      HasCode-weaker p place.method place.index (λ c. StoresInto c field s.base.var s.arg.var) (λ c. IsStoredBy place field c s)
      (λ c stored. (s.base.var, s.arg.var, stored, store_is p field place s is)) stores),
)

-- the stores of the statement at the place
pub IsFiled-some : (p : LinkedProgram) (field : ℕ) (place : Place) (c : Code) (old new : List StoreAt) → place.raised ≡ false → CodeAt p place.method place.index c
    → IsFiled place (IsStoredBy place field c) old new → IsFiled place (IsStoreAt p field place) old new
IsFiled-some p field place c old new unraised there filed =
    IsFiled-same place (λ s. HasCode p place.method place.index (λ d. IsStoredBy place field d s)) (IsStoreAt p field place) old new
    (λ s. store_there p field place s unraised)
    (record { added = HasCode-some p place.method place.index (IsStoredBy place field) c old new there filed.added; ordered = filed.ordered })

pub IsFiled-empty : (p : LinkedProgram) (field : ℕ) (place : Place) (old : List StoreAt) → place.raised ≡ false → ((c : Code) → CodeAt p place.method place.index c → ⊥)
    → IsFiled place (IsStoreAt p field place) old old
IsFiled-empty p field place old unraised none =
    IsFiled-none place (IsStoreAt p field place) old (λ s is. let has = (store_there p field place s unraised).1 is in none has.code has.at)

-- what a statement stores, by its shape
pub stored_local : (place : Place) (field base : ℕ) (a : Arg) (c : Code) → ((w v : Var) → StoresInto c field w v ↔ ((w ≡ Local base) × (arg_var a ≡ Some v)))
    → (s : StoreAt) → IsLocalStore place field base a s ↔ IsStoredBy place field c s
stored_local place field base a c exact s = (
  (λ is. (Local base, is.0, (exact (Local base) is.0).1 (refl, is.1), is.2)),
  (λ is. let stores = (exact is.0 is.1).0 is.2 in (is.1, stores.1, is.3 ∙ ap (λ (w : Var). store_at place field w is.1) stores.0)),
)

stored_levels : (place : Place) (field to levels : ℕ) → field ≡ 0 → (s : StoreAt) → IsInnerStore place levels s ↔ IsStoredBy place field (code.NewMulti to levels) s
stored_levels place field to levels none s = (
  (λ is.
      let level = is.2 in
      let less : level.0 + 1 < levels = omega (arith, is.1, level.1) in (
        level_var level.0,
        Nested (level.0 + 1),
        (none, level.0, less, refl, refl),
        level.2 ∙ ap (λ (f : ℕ). store_at place f (level_var level.0) (Nested is.0)) (sym none) ∙ ap (λ (n : ℕ). store_at place field (level_var level.0) (Nested n)) level.1,
      )),
  (λ is.
      let stores = is.2 in (
        stores.1 + 1,
        stores.2,
        (
          stores.1,
          refl,
          is.3 ∙ ap (λ (f : ℕ). store_at place f is.0 is.1) none ∙ ap (λ (w : Var). store_at place 0 w is.1) stores.3
              ∙ ap (λ (v : Var). store_at place 0 (level_var stores.1) v) stores.4,
        ),
      )),
)

pub stored_levels_is : {to : ℕ} (place : Place) (field levels : ℕ) (c : Code) → c ≡ code.NewMulti to levels → field ≡ 0
    → (s : StoreAt) → IsInnerStore place levels s ↔ IsStoredBy place field c s
stored_levels_is {to} place field levels c is none s = rw is (stored_levels place field to levels none s)

-- what stores is one of three
pub stores_one : (c : Code) (field : ℕ) (w v : Var) → StoresInto c field w v → ((base number : ℕ) (a : Arg) → c ≡ code.Store base number a → ⊥)
    → ((base : ℕ) (a : Arg) → c ≡ code.StoreCell base a → ⊥) → ((to levels : ℕ) → c ≡ code.NewMulti to levels → ⊥) → ⊥
stores_one (code.Store base number a) field w v stores no_store no_cell no_arrays = no_store base number a refl
stores_one (code.StoreCell base a) field w v stores no_store no_cell no_arrays = no_cell base a refl
stores_one (code.NewMulti to levels) field w v stores no_store no_cell no_arrays = no_arrays to levels refl
stores_one _ field w v stores no_store no_cell no_arrays = stores

-- what stores into the field is listed
stores_listed : (c : Code) (field : ℕ) (w v : Var) → StoresInto c field w v → Stores field c
stores_listed (code.Store base number a) field w v h = h.0
stores_listed (code.StoreCell base a) field w v h = h.0
stores_listed (code.NewMulti to levels) field w v h = (h.0, omega (arith, h.2))
stores_listed _ field w v h = absurd h

-- the stores of the field stand at the places that are listed
pub stores_over : (p : LinkedProgram) (field : ℕ) (s : StoreAt)
    → Over (IsAt (Stores field) (codes_in p)) (λ (q : Indexed). IsStoreAt p field (before q.method q.index)) s ↔ IsStoreOf p field s
stores_over p field s = (
  (λ over. over.2.0),
  (λ is.
      let place : s.place ≡ before s.place.method s.place.index = ap (λ (b : Bool). record { method = s.place.method; index = s.place.index; raised = b }) is.0.unraised in
      let has = subst (λ f. HasCode p s.place.method s.place.index (λ c. StoresInto c f s.base.var s.arg.var)) is.1 is.0.stores in (
        record { method = s.place.method; index = s.place.index },
        code_in p (Stores field) s.place.method s.place.index
            (HasCode-weaker p s.place.method s.place.index (λ c. StoresInto c field s.base.var s.arg.var) (Stores field) (λ c. stores_listed c field s.base.var s.arg.var) has),
        (is, place),
      )),
)
