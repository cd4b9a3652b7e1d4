-- What a call system asks for, taken one by one.
use Rattle.std.proofs.Common.{◌≡◌, ℕ, zero, suc, ◌+◌, ◌<◌, ◌↔◌, ◌⊎◌, List, [], ◌∷◌, ◌++◌, length, get_or, take, Some, slice_get, refl, sym, ap, ◌∙◌, subst, inl, inr}
use Rattle.lists.specs.Lists.{Has}
use Rattle.lists.proofs.Places.{Has-push}
use Rattle.post_star.specs.Jobs.{Job}
use Rattle.rule_cells.specs.Renamed.{number_in}
use Rattle.spds_tables.specs.declared.numbered.Jump.{Jump}
use Rattle.spds_tables.specs.declared.numbered.StartAt.{StartAt}
use Rattle.spds_tables.specs.Tables.{ArrivesAt, IsJumpedTo}
use Rattle.call_side.proofs.Lists.{Has-take_more}
use Rattle.weight_laws.specs.declared.reach.Reach.{Reach}

-- one more was looked at
pub asked_more : {Now Was First Front Longer One New : Type 0} → (Now ↔ (Was ⊎ (One × New))) → (Was ↔ (First ⊎ (Front × New))) → (Longer ↔ (Front ⊎ One))
    → Now ↔ (First ⊎ (Longer × New))
asked_more now was more = (
  (λ h. elim (now.0 h) [
    | inl o ↦ elim (was.0 o) [ inl a ↦ inl a | inr b ↦ inr (more.1 (inl b.0), b.1) ]
    | inr e ↦ inr (more.1 (inr e.0), e.1)
  ]),
  (λ h. elim h [
    | inl a ↦ now.1 (inl (was.1 (inl a)))
    | inr l ↦ elim (more.0 l.0) [ inl b ↦ now.1 (inl (was.1 (inr (b, l.1)))) | inr e ↦ now.1 (inr (e, l.1)) ]
  ]),
)

-- a list of one element
pub has_one : {X : Type 0} (x y : X) → Has (x ∷ []) y → y ≡ x
has_one x y has = by has.0 has.1
  where
    by : (i : ℕ) → slice_get (x ∷ []) i ≡ Some y → y ≡ x
    by zero h = cc
    by (suc i) h = cc

pub one_has : {X : Type 0} (x : X) → Has (x ∷ []) x
one_has x = (0, refl)

-- the last of a list that was added to is the new one, or one of the old
pub asked_last : {Now Was One New : Type 0} → (Now ↔ (Was ⊎ One)) → (One ↔ New) → Now ↔ (Was ⊎ New)
asked_last now same = (
  (λ h. elim (now.0 h) [ inl a ↦ inl a | inr b ↦ inr (same.0 b) ]),
  (λ h. elim h [ inl a ↦ now.1 (inl a) | inr b ↦ now.1 (inr (same.1 b)) ]),
)

-- a list that was added to
pub asked_push : (xs : List StartAt) (x s : StartAt) (New : Type 0) → ((s ≡ x) ↔ New) → Has (xs ++ x ∷ []) s ↔ (Has xs s ⊎ New)
asked_push xs x s New same = asked_last (Has-push xs x s) same

module _ (cells : List ℕ) (job : Job Reach) (s : StartAt) where
  -- by the jumps of a front
  pub jumped_more : (jumps : List Jump) (i : ℕ) (d : Jump) → i < length jumps
      → IsJumpedTo cells (take (i + 1) jumps) job s ↔ (IsJumpedTo cells (take i jumps) job s ⊎ IsJumpedTo cells (get_or jumps i d ∷ []) job s)
  jumped_more jumps i d below = (
    (λ h. elim ((Has-take_more jumps i d h.jump below).0 h.has) [
      | inl a ↦ inl (record { jump = h.jump; has = a; to_is = h.to_is; arrives = h.arrives })
      | inr e ↦ inr (record {
        jump = get_or jumps i d;
        has = one_has (get_or jumps i d);
        to_is = h.to_is ∙ ap (λ (j : Jump). j.to) e;
        arrives = subst (λ (j : Jump). ArrivesAt job (number_in cells j.from)) e h.arrives;
      })
    ]),
    (λ h. elim h [
      | inl a ↦ record { jump = a.jump; has = (Has-take_more jumps i d a.jump below).1 (inl a.has); to_is = a.to_is; arrives = a.arrives }
      | inr b ↦ record {
        jump = b.jump;
        has = (Has-take_more jumps i d b.jump below).1 (inr (has_one _ b.jump b.has));
        to_is = b.to_is;
        arrives = b.arrives;
      }
    ]),
  )

  -- one jump
  pub jumped_one : (jump : Jump) → ArrivesAt job (number_in cells jump.from) → s ≡ jump.to → IsJumpedTo cells (jump ∷ []) job s
  jumped_one jump arrives e = record { jump = jump; has = one_has jump; to_is = e; arrives = arrives }

  pub one_jumped : (jump : Jump) → IsJumpedTo cells (jump ∷ []) job s → (s ≡ jump.to) × ArrivesAt job (number_in cells jump.from)
  one_jumped jump h =
      let e = has_one jump h.jump h.has in
      (h.to_is ∙ ap (λ (j : Jump). j.to) e, subst (λ (j : Jump). ArrivesAt job (number_in cells j.from)) e h.arrives)

-- where the call system begins at all nodes that static fields come to, no new one is asked for
pub jumped_begun : (cells : List ℕ) (jumps : List Jump) (job : Job Reach) (begun : List StartAt) → ((j : Jump) → Has jumps j → Has begun j.to) → (s : StartAt)
    → IsJumpedTo cells jumps job s → Has begun s
jumped_begun cells jumps job begun all s h = subst (Has begun) (sym h.to_is) (all h.jump h.has)
