-- Rules that a system has in common with others, followed by rules of its own.
use Rattle.std.proofs.Common.{◌≡◌, ◌⊎◌, inl, inr, ℕ, zero, suc, ◌+◌, List, [], ◌∷◌, ◌++◌, length, slice_get, Some, arith}
use Rattle.auto_table.specs.declared.rule.Rule.{Rule}
use Rattle.auto_table.specs.declared.entry.Entry.{Entry}
use Rattle.lists.specs.Lists.{Has}
use Rattle.auto_table.specs.Cells.{Cells}
use Rattle.lists.proofs.Places.{slice_get-below}
use Rattle.lists.proofs.Joined.{Has-either, slice_get-appended}
use Rattle.post_star.specs.declared.bases.Start.{Start}
use Rattle.post_star.specs.declared.bases.BaseStep.{BaseStep}
use Rattle.post_star.specs.declared.rise.Item.{Item}
use Rattle.post_star.specs.Index.{from_of}
use Rattle.post_star.specs.Works.{AreTaken, IsApplied, IsAppliedBetween, IsKept, IsTold}
use Rattle.post_star.proofs.Loops.{applied_on}
use Rattle.post_star.proofs.Rises.{applied_kept}
use Rattle.weight_laws.specs.Law.{Domain, IsLawful}

-- rules of its own that wait are the rules behind those in common
pub taken_behind : {W : Type 0} (d : Domain W) (common own : List (Rule W)) (t : Cells W) (items : List Item) (taken : ℕ)
    → AreTaken d own taken t items → AreTaken d (common ++ own) (length common + taken) t items
taken_behind d common own t items taken a i rule k at e some = elim (slice_get-appended common own i rule at) [
  | inl q ↦ absurd (omega (arith, slice_get-below common i rule q))
  | inr q ↦ a q.0 rule (let is : i ≡ length common + q.0 = q.1 in omega arith) q.2 e some
]

-- the weights of some of the rules are meant
pub told_part : {W : Type 0} {d : Domain W} {rules : List (Rule W)} {starts : List (Start W)} (part : List (Rule W)) → IsTold d rules starts
    → ((rule : Rule W) → Has part rule → Has rules rule) → IsTold d part starts
told_part part told listed = record { rule = λ r h. told.rule r (listed r h); start = told.start }

module _ {W : Type 0} {d : Domain W} (common own : List (Rule W)) {starts : List (Start W)} (l : IsLawful W d) (steps : List BaseStep) (told : IsTold d (common ++ own) starts)
    {mid new : Cells W} {v w : List Item} (kept : IsKept d steps mid new v w) where
  -- first those in common were applied, and then its own
  pub parted_applied : (node : ℕ) (entry : Entry) → ((rule : Rule W) → Has common rule → from_of rule ≡ node → IsApplied d steps mid v rule entry)
      → ((rule : Rule W) → Has own rule → from_of rule ≡ node → IsApplied d steps new w rule entry)
      → (rule : Rule W) → Has (common ++ own) rule → from_of rule ≡ node → IsApplied d steps new w rule entry
  parted_applied node entry f g rule h e = elim (Has-either common own rule h) [
    | inl a ↦ applied_on l steps told rule entry h kept (f rule a e)
    | inr b ↦ g rule b e
  ]

  pub parted_between : (child parent : Entry) → ((rule : Rule W) → Has common rule → IsAppliedBetween d steps mid v rule child parent)
      → ((rule : Rule W) → Has own rule → IsAppliedBetween d steps new w rule child parent)
      → (rule : Rule W) → Has (common ++ own) rule → IsAppliedBetween d steps new w rule child parent
  parted_between child parent f g rule h goes = elim (Has-either common own rule h) [
    | inl a ↦ applied_kept l rule child parent (told.rule rule h) kept (f rule a goes)
    | inr b ↦ g rule b goes
  ]
