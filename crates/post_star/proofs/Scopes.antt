-- The scope of a saturation has all that its items and rules name.
use Rattle.std.proofs.Common.{◌≡◌, ◌≢◌, ◌∙◌, ℕ, zero, suc, ◌<◌, ◌≤◌, List, [], ◌∷◌, ◌++◌, map, length, slice_get, Some, inl, inr, refl, sym, ap, subst, arith}
use Rattle.std.specs.Option.{option_map}
use Rattle.std.proofs.lemmas.Option.{slice_get-map}
use Rattle.lists.proofs.Places.{slice_get-pushed}
use Rattle.auto_table.specs.declared.rule.Rule.{Rule}
use Rattle.auto_table.specs.declared.rule.Rule.TheVariants.{Flow, Push, Pop}
use Rattle.auto_table.specs.declared.entry.Entry.{Entry}
use Rattle.auto_table.specs.declared.entry.Entry.TheVariants.{Base, Pushed}
use Rattle.lists.specs.Lists.{Has}
use Rattle.lists.proofs.Joined.{Has-left, Has-right}
use Rattle.auto_table.specs.declared.row.Linked.{Linked}
use Rattle.auto_table.specs.Cells.{Cells, link_at, parent_of}
use Rattle.auto_table.specs.Grids.{row_at}
use Rattle.auto_table.proofs.Weighed.{link_cell}
use Rattle.post_star.specs.declared.bases.BaseStep.{BaseStep}
use Rattle.post_star.specs.declared.rise.Item.{Item}
use Rattle.post_star.specs.declared.rise.Item.TheVariants.{At, Between}
use Rattle.post_star.specs.Measures.{Scope, IsScope, IsWithin, entry_of, parents_in, pushed_by, to_of, scope_of, work_left}
use Rattle.weight_laws.specs.Law.{Domain}

-- one more element
pub length_pushed : {X : Type 0} (xs : List X) (x : X) → length (xs ++ x ∷ []) ≡ suc (length xs)
length_pushed [] x = refl
length_pushed (y ∷ xs) x = ap suc (length_pushed xs x)

module _ {X : Type 0} where
  pub has_map : {Y : Type 0} (f : X → Y) (xs : List X) (x : X) → Has xs x → Has (map f xs) (f x)
  has_map f xs x h = (h.0, slice_get-map f xs h.0 ∙ ap (option_map f) h.1)

-- the parent of a cell of a row
has_in : {W : Type 0} (rows : List (List (Linked W))) (i j : ℕ) (x : Linked W) → slice_get (row_at rows i) j ≡ Some x → Has (parents_in rows) x.parent
has_in [] i j x h = cc
has_in (row ∷ rows) zero j x h = Has-left (map parent_of row) (parents_in rows) x.parent (has_map parent_of row x (j, h))
has_in (row ∷ rows) (suc i) j x h = Has-right (map parent_of row) (parents_in rows) x.parent (has_in rows i j x h)

pushed_at : {W : Type 0} (rules : List (Rule W)) (i from to mark : ℕ) (weight : W) → slice_get rules i ≡ Some (Push from to mark weight) → Has (pushed_by rules) (Pushed to mark)
pushed_at [] i from to mark weight h = cc
pushed_at (Flow a b v ∷ rules) zero from to mark weight h = cc
pushed_at (Flow a b v ∷ rules) (suc i) from to mark weight h = pushed_at rules i from to mark weight h
pushed_at (Pop a m b v ∷ rules) zero from to mark weight h = cc
pushed_at (Pop a m b v ∷ rules) (suc i) from to mark weight h = pushed_at rules i from to mark weight h
pushed_at (Push a b m v ∷ rules) zero from to mark weight h = (0, (let first : b ≡ to = cc in let second : m ≡ mark = cc in cc))
pushed_at (Push a b m v ∷ rules) (suc i) from to mark weight h = let p = pushed_at rules i from to mark weight h in (suc p.0, p.1)

module _ {W : Type 0} (d : Domain W) where
  -- the parent of a link that isn't zero is among the parents of the table
  pub has_parent : (t : Cells W) (c p : Entry) → link_at d t c p ≢ d.zero → Has (parents_in t.parents) p
  has_parent t c p n = let q = link_cell d t c p n in subst (λ (e : Entry). Has (parents_in t.parents) e) q.5 (has_in t.parents q.0 q.2 q.3 q.4)

module _ {W : Type 0} (rules : List (Rule W)) (steps : List BaseStep) (t : Cells W) (items : List Item) where
  pub scope_is : IsScope rules steps (scope_of rules steps t items)
  scope_is = record {
    flows = λ from to weight h. has_map to_of rules (Flow from to weight) h;
    pushes = λ from to mark weight h. (Has-left (pushed_by rules) _ _ (pushed_at rules h.0 from to mark weight h.1), has_map to_of rules (Push from to mark weight) h);
    pops = λ from mark to weight h. has_map to_of rules (Pop from mark to weight) h;
    below = λ s h. Has-right (pushed_by rules) _ _ (Has-left (map (λ (s : BaseStep). Base s.below) steps) _ _ (has_map (λ (s : BaseStep). Base s.below) steps s h));
  }

  last_part : (e : Entry) → Has (parents_in t.parents ++ map entry_of items) e → Has (scope_of rules steps t items).entries e
  last_part e h = Has-right (pushed_by rules) _ e (Has-right (map (λ (s : BaseStep). Base s.below) steps) _ e h)

  pub scope_within : (d : Domain W) → IsWithin d (scope_of rules steps t items) t items
  scope_within d = record {
    links = λ c p n. last_part p (Has-left (parents_in t.parents) _ p (has_parent d t c p n));
    at = λ e n h. last_part e (Has-right (parents_in t.parents) _ e (has_map entry_of items (At e n) h));
    between = λ c p h. last_part p (Has-right (parents_in t.parents) _ p (has_map entry_of items (Between c p) h));
  }

pub no_items : {X : Type 0} (xs : List X) → length xs ≡ 0 → xs ≡ []
no_items [] h = refl
no_items (x ∷ xs) h = absurd (omega arith)

pub has_last : {X : Type 0} (xs : List X) (x : X) → Has (xs ++ x ∷ []) x
has_last xs x = Has-right xs (x ∷ []) x (0, refl)

-- the first element, put last, leaves the same elements
pub last_first : {X : Type 0} (xs : List X) (x y : X) → Has (x ∷ xs) y → Has (xs ++ x ∷ []) y
last_first xs x y (zero, h) = subst (λ z. Has (xs ++ x ∷ []) z) (let e : x ≡ y = cc in e) (has_last xs x)
last_first xs x y (suc i, h) = Has-left xs _ y (i, h)

pub first_last : {X : Type 0} (xs : List X) (x y : X) → Has (xs ++ x ∷ []) y → Has (x ∷ xs) y
first_last xs x y h = elim (slice_get-pushed xs x h.0 y h.1) [ inl q ↦ (suc h.0, q) | inr q ↦ (0, ap Some (sym q.1)) ]

module _ {W : Type 0} (d : Domain W) where
  pub within_first : (u : Scope) (t : Cells W) (items popped : List Item) (item : Item) → items ≡ item ∷ popped → IsWithin d u t items → IsWithin d u t (popped ++ item ∷ [])
  within_first u t items popped item e w = record {
    links = w.links;
    at = λ x n h. w.at x n (subst (λ (xs : List Item). Has xs (At x n)) (sym e) (first_last popped item _ h));
    between = λ c p h. w.between c p (subst (λ (xs : List Item). Has xs (Between c p)) (sym e) (first_last popped item _ h));
  }

module _ {W : Type 0} (d : Domain W) where
  -- a turn takes an item
  pub turn_less : (u : Scope) (old new : Cells W) (items popped after : List Item) (item : Item) → items ≡ item ∷ popped → work_left d u new after ≤ work_left d u old popped → work_left d u new after < work_left d u old items
  turn_less u old new items popped after item e h =
      let long : length items ≡ suc (length popped) = ap length e in
      omega arith

module _ {W : Type 0} {d : Domain W} where
  -- fewer items are within too
  pub within_popped : {u : Scope} {t : Cells W} (items : List Item) (item : Item) → IsWithin d u t (items ++ item ∷ []) → IsWithin d u t items
  within_popped items item w = record {
    links = w.links;
    at = λ e n h. w.at e n (Has-left items _ _ h);
    between = λ c p h. w.between c p (Has-left items _ _ h);
  }
