-- The entries that have a node, one after another, and what the words that they read are.
use Rattle.std.proofs.Common.{◌≡◌, ℕ, ◌+◌, List, [], ◌∷◌, ◌++◌, Option, Some, None, IfNone, IfSome, Bool, true, false, take, slice_get, inl, inr, sym, ap, subst, ◌∙◌}
use Rattle.auto_table.specs.declared.entry.Entry.{Entry}
use Rattle.auto_table.specs.Cells.{Cells, IsListed, IsUsed, weight_at}
use Rattle.lists.specs.Lists.{Has}
use Rattle.lists.proofs.Places.{Has-push, take-next}
use Rattle.weight_laws.specs.declared.reach.Reach.{Reach}
use Rattle.weight_laws.specs.Reach.{reach_domain}
use Rattle.call_side.specs.Words.{AreAt}
use Rattle.call_side.proofs.Truths.{IsSome}

module _ (t : Cells Reach) (node : ℕ) where
  -- of the front of the table's entries those that have the node
  pub record AreSoFar (front entries : List Entry) : Type 0 where
    pub some : (entry : Entry) → Has entries entry → IsSome (weight_at reach_domain t entry node)
    pub all : (entry : Entry) → Has front entry → IsSome (weight_at reach_domain t entry node) → Has entries entry

  pub so_far_none : (entries : List Entry) → entries ≡ [] → AreSoFar [] entries
  so_far_none entries none = rw none (record { some = λ entry has. let there = has.1 in cc; all = λ entry has some. has })

  module _ (xs : List Entry) (index : ℕ) (x : Entry) (entries : List Entry) (there : slice_get xs index ≡ Some x) (w : Reach) (weight : w ≡ weight_at reach_domain t x node)
      (so_far : AreSoFar (take index xs) entries) where
    pub so_far_more : w.0 ≡ true → AreSoFar (take (index + 1) xs) (entries ++ x ∷ [])
    so_far_more is = record {
      some = λ entry has. elim ((Has-push entries x entry).0 has) [
        | inl a ↦ so_far.some entry a
        | inr e ↦ (λ zero.
            let one : weight_at reach_domain t x node ≡ reach_domain.zero = subst (λ (y : Entry). weight_at reach_domain t y node ≡ reach_domain.zero) e zero in
            let no : true ≡ false = sym is ∙ ap (λ (r : Reach). r.0) (weight ∙ one) in
            cc)
      ];
      all = λ entry has some. (Has-push entries x entry).1 (elim ((Has-push (take index xs) x entry).0 (rw (take-next xs index x there) at has)) [
        | inl a ↦ inl (so_far.all entry a some)
        | inr e ↦ inr e
      ]);
    }

    pub so_far_skip : w.0 ≡ false → AreSoFar (take (index + 1) xs) entries
    so_far_skip is = record {
      some = so_far.some;
      all = λ entry has some. elim ((Has-push (take index xs) x entry).0 (rw (take-next xs index x there) at has)) [
        | inl a ↦ so_far.all entry a some
        | inr e ↦
            let zero : weight_at reach_domain t x node ≡ reach_domain.zero = sym weight ∙ ap (λ (b : Bool). record { 0 = b }) is in
            absurd (some (subst (λ (y : Entry). weight_at reach_domain t y node ≡ reach_domain.zero) (sym e) zero))
      ];
    }

  pub so_far_all : (xs entries : List Entry) → IsListed reach_domain t xs → AreSoFar xs entries → AreAt t node entries
  so_far_all xs entries listed so_far entry = (so_far.some entry, (λ some. so_far.all entry (listed.all entry (IsUsed.by_weight node some)) some))

-- what holds of a value, if there is one, by what is known of it
pub IfSome-weaker : {X : Type 0} (r : Option X) (P Q : X → Type 0) → ((x : X) → P x → Q x) → IfSome r P → IfSome r Q
IfSome-weaker None P Q to h = h
IfSome-weaker (Some x) P Q to h = to x h

pub if_none_weaker : {X P Q : Type 0} (r : Option X) → (P → Q) → IfNone r P → IfNone r Q
if_none_weaker None to h = to h
if_none_weaker (Some x) to h = h
