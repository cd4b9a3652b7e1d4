-- The entries that a mark leads to, as lists.
use Rattle.std.proofs.Common.{◌≡◌, ◌≢◌, ℕ, List, [], ◌∷◌, ◌↔◌, Option, Some, None, IsTrue, not, nat_eq, true, map, slice_get, refl, sym, ap, subst, ◌∙◌, eq-eqb}
use Rattle.std.specs.Option.{option_map}
use Rattle.std.proofs.lemmas.Option.{slice_get-map}
use Rattle.auto_table.specs.declared.entry.Entry.{Entry}
use Rattle.auto_table.specs.declared.entry.Entry.TheVariants.{Base, Pushed}
use Rattle.auto_table.specs.declared.row.Linked.{Linked}
use Rattle.auto_table.specs.Cells.{AreParents, Cells, link_at}
use Rattle.lists.specs.Lists.{Has}
use Rattle.post_star.specs.declared.bases.BaseStep.{BaseStep}
use Rattle.post_star.specs.Derivations.{step_of}
use Rattle.weight_laws.specs.declared.reach.Reach.{Reach}
use Rattle.weight_laws.specs.Reach.{reach_domain}
use Rattle.call_side.specs.declared.pairs.Pair.{Pair}
use Rattle.call_side.specs.Search.{Asked, SpellBoth}
use Rattle.call_side.specs.Words.{Moves, Spells}

module _ {X Y : Type 0} (f : X → Y) where
  -- the elements of a list that was mapped
  pub Has-map : (xs : List X) (x : X) → Has xs x → Has (map f xs) (f x)
  Has-map xs x h = (h.0, slice_get-map f xs h.0 ∙ ap (option_map f) h.1)

  pub map-Has : (xs : List X) (y : Y) → Has (map f xs) y → (x : X) × Has xs x × (f x ≡ y)
  map-Has xs y h = by (slice_get xs h.0) refl (sym (slice_get-map f xs h.0) ∙ h.1)
    where
      by : (r : Option X) → slice_get xs h.0 ≡ r → option_map f r ≡ Some y → (x : X) × Has xs x × (f x ≡ y)
      by None there is = cc
      by (Some x) there is = (x, (h.0, there), cc)

module _ (steps found : List BaseStep) (base mark : ℕ) where
  -- the bases below a base
  pub nexts_base : (t : Cells Reach) (entries : List Entry) → ((below : ℕ) → Has found (step_of base mark below) ↔ Has steps (step_of base mark below))
      → ((step : BaseStep) → Has found step → step ≡ step_of base mark step.below) → entries ≡ map (λ step. Base step.below) found
      → (next : Entry) → Has entries next ↔ Moves steps t (Base base) mark next
  nexts_base t entries each only are next = ((λ h. there (subst (λ (xs : List Entry). Has xs next) are h)), (λ h. subst (λ (xs : List Entry). Has xs next) (sym are) (here next h)))
    where
      there : Has (map (λ (step : BaseStep). Base step.below) found) next → Moves steps t (Base base) mark next
      there h =
          let from = map-Has (λ (step : BaseStep). Base step.below) found next h in
          let step = subst (λ (s : BaseStep). Has found s) (only from.0 from.1) from.1 in
          subst (λ (e : Entry). Moves steps t (Base base) mark e) from.2 ((each from.0.below).0 step)

      here : (next : Entry) → Moves steps t (Base base) mark next → Has (map (λ (step : BaseStep). Base step.below) found) next
      here (Base below) moves = Has-map (λ (step : BaseStep). Base step.below) found (step_of base mark below) ((each below).1 moves)
      here (Pushed node own) moves = absurd moves

-- the marks of the steps from a base
pub marks_base : (steps found : List BaseStep) (base : ℕ) (marks : List ℕ) → ((step : BaseStep) → Has found step ↔ (Has steps step × (step.base ≡ base))) → marks ≡ map (λ step. step.mark) found
    → (t : Cells Reach) (mark : ℕ) (next : Entry) → Moves steps t (Base base) mark next → Has marks mark
marks_base steps found base marks each are t mark (Base below) moves =
    subst (λ (xs : List ℕ). Has xs mark) (sym are) (Has-map (λ (step : BaseStep). step.mark) found (step_of base mark below) ((each (step_of base mark below)).1 (moves, refl)))
marks_base steps found base marks each are t mark (Pushed node own) moves = absurd moves

-- the parents of an entry
pub parents_all : (t : Cells Reach) (entry : Entry) (links : List (Linked Reach)) (entries : List Entry) → AreParents reach_domain t entry links → entries ≡ map (λ link. link.parent) links
    → (parent : Entry) → Has entries parent ↔ (link_at reach_domain t entry parent ≢ reach_domain.zero)
parents_all t entry links entries parents are parent = (
  (λ h zero.
      let from = map-Has (λ (link : Linked Reach). link.parent) links parent (subst (λ (xs : List Entry). Has xs parent) are h) in
      parents.some from.0 from.1 (parents.weight from.0 from.1 ∙ ap (link_at reach_domain t entry) from.2 ∙ zero)),
  (λ some. subst (λ (xs : List Entry). Has xs parent) (sym are) (Has-map (λ (link : Linked Reach). link.parent) links _ (parents.all parent some))),
)

-- two pushed entries of different marks read no word in common
pub clash : (q : Asked) (word : List ℕ) (pair : Pair) (n m k other : ℕ) → pair.first ≡ Pushed n m → pair.second ≡ Pushed k other → IsTrue (not (nat_eq m other)) → SpellBoth q pair word → ⊥
clash q word pair n m k other first second differ spells = by word (subst (λ (e : Entry). Spells q.steps q.last q.first e word) first spells.0) (subst (λ (e : Entry). Spells q.steps q.last q.second e word) second spells.1)
  where
    by : (word : List ℕ) → Spells q.steps q.last q.first (Pushed n m) word → Spells q.steps q.last q.second (Pushed k other) word → ⊥
    by [] a b = cc
    by (mark ∷ word) a b = let same : m ≡ other = sym a.1.0 ∙ b.1.0 in let e : nat_eq m other ≡ true = eq-eqb m other same in cc
