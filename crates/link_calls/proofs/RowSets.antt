-- Rows that are added, each once.
use Rattle.std.proofs.Common.{◌≡◌, ℕ, Bool, true, false, List, ◌∷◌, [], ◌++◌, cond, refl, sym, subst, ◌∙◌, inl, inr, true≢false, eqb-true}
use Rattle.std.specs.Prelude.{not}
use Rattle.std.specs.BTreeMap.{is_at}
use Rattle.std.specs.BTreeSet.{BTreeSet, Updates, contains}
use Rattle.std.specs.Cmp.{unsigned_ties}
use Rattle.std.specs.Ordering.{nat_cmp}
use Rattle.lists.specs.Lists.{Adds, Has}
use Rattle.lists.proofs.Places.{Has-adds_itself, slice_get-added, slice_get-adds}
use Rattle.link_calls.specs.Seen.{AreSeen}

-- a row that isn't seen is added
pub adds_unseen : (seen : BTreeSet ℕ) (rows new : List ℕ) (row : ℕ) (unseen : Bool) → AreSeen seen rows → unseen ≡ not (contains nat_cmp seen row) → unseen ≡ true
    → new ≡ rows ++ row ∷ [] → Adds rows row new
adds_unseen seen rows new row unseen are is so e = inr ((λ h. let found = (are row).1 h in true≢false (sym so ∙ is ∙ rw found refl)), e)

either_true : (b x : Bool) → x ≡ true → cond b true x ≡ true
either_true true x e = refl
either_true false x e = e

-- the set has a row that was added, and those that it had
pub seen_adds : (seen more : BTreeSet ℕ) (rows new : List ℕ) (row : ℕ) → AreSeen seen rows → Adds rows row new → Updates nat_cmp seen more row true → AreSeen more new
seen_adds seen more rows new row are adds updates other = (there (is_at (nat_cmp row) other) refl, back)
  where
    there : (b : Bool) → is_at (nat_cmp row) other ≡ b → contains nat_cmp more other ≡ true → Has new other
    there true same found = subst (Has new) (eqb-true row other (unsigned_ties row other ∙ same)) (Has-adds_itself rows new row adds)
    there false apart found = let h = (are other).0 (sym (updates.2 other apart) ∙ found) in (h.0, slice_get-adds rows new row adds h.0 other h.1)

    back : Has new other → contains nat_cmp more other ≡ true
    back h = elim (slice_get-added rows new row adds h.0 other h.1) [
      | inl was ↦ updates.0 other ∙ either_true (is_at (nat_cmp row) other) (contains nat_cmp seen other) ((are other).1 (h.0, was))
      | inr same ↦ subst (λ z. contains nat_cmp more z ≡ true) (sym same) updates.1
    ]
