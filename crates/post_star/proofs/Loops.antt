-- How far the loops over rules and starts have come.
use Rattle.std.proofs.Common.{◌≡◌, ◌⊎◌, inl, inr, ℕ, ◌+◌, ◌<◌, ◌≤◌, List, [], ◌∷◌, ◌++◌, length, slice_get, Some, refl, sym, ap, ◌∙◌, subst, arith}
use Rattle.auto_table.specs.declared.rule.Rule.{Rule}
use Rattle.auto_table.specs.declared.rule.Rule.TheVariants.{Flow, Push, Pop}
use Rattle.auto_table.specs.declared.entry.Entry.{Entry}
use Rattle.auto_table.specs.declared.entry.Entry.TheVariants.{Base, Pushed}
use Rattle.auto_table.specs.declared.row.Reached.{Reached}
use Rattle.lists.specs.Lists.{Has}
use Rattle.auto_table.specs.Cells.{Cells, weight_at, link_at, IsRow}
use Rattle.lists.proofs.Places.{slice_get-below, slice_get-pushed}
use Rattle.post_star.specs.declared.bases.Start.{Start}
use Rattle.post_star.specs.declared.bases.BaseStep.{BaseStep}
use Rattle.post_star.specs.declared.rise.Item.{Item}
use Rattle.post_star.specs.declared.rise.Item.TheVariants.{At, Between}
use Rattle.post_star.specs.declared.index.Index.{Index}
use Rattle.post_star.specs.Index.{from_of, Stays, Pops, PopsMark, PopsAnywhere, AreUnder, IsIndex}
use Rattle.post_star.specs.Groups.{Groups, found_at}
use Rattle.post_star.specs.Works.{IsTold, IsSound, IsDone, Waits, IsRisen, IsKept, IsApplied, IsProgress, GoesBetween, IsOpen, IsClosed, IsSettling, IsClosedTo, IsBegun, AreTaken, IsAppliedBetween, EntryRuns}
use Rattle.post_star.specs.declared.key.Key.{Key}
use Rattle.post_star.specs.declared.key.Key.TheVariants.{Node, Mark, Marked}
use Rattle.post_star.proofs.Applies.{below_or_last, progress_none, progress_more, risen_reached}
use Rattle.post_star.specs.Derivations.{Combines}
use Rattle.post_star.proofs.Rises.{sound_risen, risen_kept, applied_kept}
use Rattle.post_star.proofs.Sounds.{weight_meant, link_meant_at, start_sound}
use Rattle.post_star.proofs.Scopes.{last_first}
use Rattle.weight_laws.specs.Law.{Domain, IsLawful, Leq}
use Rattle.weight_laws.proofs.Orders.{leq_trans, zero_leq}

-- the first rules of a group are applied at the entry
pub record IsWorkedAt {W : Type 0} (d : Domain W) (rules : List (Rule W)) (starts : List (Start W)) (steps : List BaseStep) (group : List (Rule W)) (start now : Cells W) (u w : List Item) (entry : Entry) (t : ℕ) : Type 0 where
  pub progress : IsProgress d rules starts steps start now u w entry
  pub applied : (i : ℕ) (rule : Rule W) → i < t → slice_get group i ≡ Some rule → IsApplied d steps now w rule entry

-- the first rules of a group are applied at the link
pub record IsWorkedBetween {W : Type 0} (d : Domain W) (rules : List (Rule W)) (starts : List (Start W)) (steps : List BaseStep) (group : List (Rule W)) (start now : Cells W) (u w : List Item) (child parent : Entry) (t : ℕ) : Type 0 where
  pub progress : IsProgress d rules starts steps start now u w parent
  pub applied : (i : ℕ) (rule : Rule W) → i < t → slice_get group i ≡ Some rule → IsAppliedBetween d steps now w rule child parent

-- those of a part of the rules that lead from the first nodes of a row are applied at the link
pub record IsWorkedRow {W : Type 0} (d : Domain W) (rules : List (Rule W)) (starts : List (Start W)) (steps : List BaseStep) (part : List (Rule W)) (row : List (Reached W)) (start now : Cells W) (u w : List Item) (child parent : Entry) (t : ℕ) : Type 0 where
  pub progress : IsProgress d rules starts steps start now u w parent
  pub applied : (i : ℕ) (x : Reached W) → i < t → slice_get row i ≡ Some x → (rule : Rule W) → Has part rule → from_of rule ≡ x.node → IsAppliedBetween d steps now w rule child parent

module _ {W : Type 0} {d : Domain W} {rules : List (Rule W)} {starts : List (Start W)} (l : IsLawful W d) (steps : List BaseStep) (told : IsTold d rules starts) {start : Cells W} (s : IsSound d rules starts steps start) where
  module _ (group : List (Rule W)) (listed : (rule : Rule W) → Has group rule → Has rules rule) where
    pub at_begins : (u : List Item) (entry : Entry) → IsWorkedAt d rules starts steps group start start u u entry 0
    at_begins u entry = record { progress = progress_none l steps told start u s; applied = λ i rule k. absurd (omega arith) }

    pub at_goes : {now new : Cells W} {u w z : List Item} {entry : Entry} (t : ℕ) (rule : Rule W) → slice_get group t ≡ Some rule → IsWorkedAt d rules starts steps group start now u w entry t
        → IsProgress d rules starts steps now new w z entry → IsApplied d steps new z rule entry → IsWorkedAt d rules starts steps group start new u z entry (t + 1)
    at_goes {now} {new} {u} {w} {z} {entry} t rule at g p a = record {
      progress = progress_more l steps told s g.progress p;
      applied = λ i r k q e'. elim (below_or_last i t k) [
        | inl b ↦ applied_kept l r entry e' (told.rule r (listed r (i, q))) p.kept (g.applied i r b q e')
        | inr n ↦ let same : rule ≡ r = cc (at, q, ap (slice_get group) n) in subst (λ (y : Rule W). Waits z y entry e' ⊎ IsDone d steps new y entry e') same (a e')
      ];
    }

    pub at_ends : {now : Cells W} {u w : List Item} {entry : Entry} (t : ℕ) → length group ≤ t → IsWorkedAt d rules starts steps group start now u w entry t → (rule : Rule W) → Has group rule → IsApplied d steps now w rule entry
    at_ends t all g rule h = g.applied h.0 rule (omega (arith, slice_get-below group h.0 rule h.1)) h.1

    pub between_begins : (u : List Item) (child parent : Entry) → IsWorkedBetween d rules starts steps group start start u u child parent 0
    between_begins u child parent = record { progress = progress_none l steps told start u s; applied = λ i rule k. absurd (omega arith) }

    pub between_goes : {now new : Cells W} {u w z : List Item} {child parent : Entry} (t : ℕ) (rule : Rule W) → slice_get group t ≡ Some rule → IsWorkedBetween d rules starts steps group start now u w child parent t
        → IsProgress d rules starts steps now new w z parent → IsAppliedBetween d steps new z rule child parent → IsWorkedBetween d rules starts steps group start new u z child parent (t + 1)
    between_goes {now} {new} {u} {w} {z} {child} {parent} t rule at g p a = record {
      progress = progress_more l steps told s g.progress p;
      applied = λ i r k q n. elim (below_or_last i t k) [
        | inl b ↦ applied_kept l r child parent (told.rule r (listed r (i, q))) p.kept (g.applied i r b q n)
        | inr y ↦ let same : rule ≡ r = cc (at, q, ap (slice_get group) y) in subst (λ (o : Rule W). IsAppliedBetween d steps new z o child parent) same a n
      ];
    }

    pub between_ends : {now : Cells W} {u w : List Item} {child parent : Entry} (t : ℕ) → length group ≤ t → IsWorkedBetween d rules starts steps group start now u w child parent t → (rule : Rule W) → Has group rule → IsAppliedBetween d steps now w rule child parent
    between_ends t all g rule h = g.applied h.0 rule (omega (arith, slice_get-below group h.0 rule h.1)) h.1

  -- a rule adds nothing where the entry has no weight at its node
  pub zero_done : (rule : Rule W) → Has rules rule → (e e' : Entry) → weight_at d start e (from_of rule) ≡ d.zero → IsDone d steps start rule e e'
  zero_done (Flow from to v) h e e' z = subst (λ (a : W). Leq d a (weight_at d start e to)) (sym (ap (λ (a : W). d.extend a v) z ∙ l.zero_extend v (told.rule _ h))) (zero_leq l _ (weight_meant l steps told s e to))
  zero_done (Push from to mark v) h e e' z = (
    inl z,
    subst (λ (a : W). Leq d a (link_at d start (Pushed to mark) e)) (sym (ap (λ (a : W). d.extend a v) z ∙ l.zero_extend v (told.rule _ h))) (zero_leq l _ (link_meant_at l steps told s (Pushed to mark) e)),
  )
  zero_done (Pop from mark to v) h (Base a) e' z = λ below q k.
      subst (λ (x : W). Leq d x (weight_at d start (Base below) to)) (sym (ap (λ (x : W). d.extend x v) z ∙ l.zero_extend v (told.rule _ h))) (zero_leq l _ (weight_meant l steps told s (Base below) to))
  zero_done (Pop from mark to v) h (Pushed node top) e' z = λ q.
      subst (λ (x : W). Leq d x (weight_at d start e' to))
      (sym (ap (λ (x : W). d.extend (d.extend (link_at d start (Pushed node top) e') x) v) z ∙ ap (λ (x : W). d.extend x v) (l.extend_zero _ (link_meant_at l steps told s (Pushed node top) e')) ∙ l.zero_extend v (told.rule _ h)))
      (zero_leq l _ (weight_meant l steps told s e' to))

  -- over a link a pop from a node at which the child has no weight adds nothing
  pub nothing_between : (rule : Rule W) → Has rules rule → (child parent : Entry) (from mark to : ℕ) (v first none : W) → rule ≡ Pop from mark to v → first ≡ weight_at d start child from → none ≡ d.zero → (d.IsMeant first → d.IsMeant none → first ≡ none)
      → IsDone d steps start rule child parent
  nothing_between rule h child parent from mark to v first none is at z same =
      let here : weight_at d start child (from_of rule) ≡ first = ap (λ (r : Rule W). weight_at d start child (from_of r)) is ∙ sym at in
      let meant : d.IsMeant first = subst (λ (x : W). d.IsMeant x) (sym at) (weight_meant l steps told s child from) in
      let meant_none : d.IsMeant none = subst (λ (x : W). d.IsMeant x) (sym z) l.zero_meant in
      zero_done rule h child parent (here ∙ same meant meant_none ∙ z)

  module _ (part : List (Rule W)) (listed : (rule : Rule W) → Has part rule → Has rules rule) where
    pub row_begins : (row : List (Reached W)) (u : List Item) (child parent : Entry) → IsWorkedRow d rules starts steps part row start start u u child parent 0
    row_begins row u child parent = record { progress = progress_none l steps told start u s; applied = λ i x k. absurd (omega arith) }

    pub row_goes : {row : List (Reached W)} {now new : Cells W} {u w z : List Item} {child parent : Entry} (t : ℕ) (x : Reached W) → slice_get row t ≡ Some x → IsWorkedRow d rules starts steps part row start now u w child parent t
        → IsProgress d rules starts steps now new w z parent → ((rule : Rule W) → Has part rule → from_of rule ≡ x.node → IsAppliedBetween d steps new z rule child parent) → IsWorkedRow d rules starts steps part row start new u z child parent (t + 1)
    row_goes {row} {now} {new} {u} {w} {z} {child} {parent} t x at g p a = record {
      progress = progress_more l steps told s g.progress p;
      applied = λ i y k q rule h n c. elim (below_or_last i t k) [
        | inl b ↦ applied_kept l rule child parent (told.rule rule (listed rule h)) p.kept (g.applied i y b q rule h n c)
        | inr e ↦ let same : y ≡ x = cc (at, q, ap (slice_get row) e) in a rule h (n ∙ ap (λ (o : Reached W). o.node) same) c
      ];
    }

    pub row_ends : {row : List (Reached W)} {now : Cells W} {u w : List Item} {child parent : Entry} (t : ℕ) → length row ≤ t → IsRow d start child row → ((a b : W) → d.IsMeant a → d.IsMeant b → (a ≡ b) ⊎ (a ≡ b → ⊥))
        → IsWorkedRow d rules starts steps part row start now u w child parent t → (rule : Rule W) → Has part rule → IsAppliedBetween d steps now w rule child parent
    row_ends {row} {now} {u} {w} {child} {parent} t all is decide g rule h c = by (decide (weight_at d start child (from_of rule)) d.zero (weight_meant l steps told s _ _) l.zero_meant)
      where
        by : (weight_at d start child (from_of rule) ≡ d.zero) ⊎ (weight_at d start child (from_of rule) ≡ d.zero → ⊥) → Waits w rule child parent ⊎ IsDone d steps now rule child parent
        by (inl z) = g.progress.kept.done rule (told.rule rule (listed rule h)) child parent (zero_done rule (listed rule h) child parent z)
        by (inr n) = let p = is.all (from_of rule) n in g.applied p.0 _ (omega (arith, slice_get-below row p.0 _ p.1)) p.1 rule h refl c

  -- the rules from a number on wait, and those before it are done
  pub begun_taken : (items : List Item) (taken begun : ℕ) → IsClosedTo d rules taken starts begun steps start → AreTaken d rules taken start items → ((a b : W) → d.IsMeant a → d.IsMeant b → (a ≡ b) ⊎ (a ≡ b → ⊥)) → IsBegun d rules starts steps start items begun
  begun_taken items taken begun c a decide = record { sound = s; begun = c.starts_in; open_to = λ rule h e e'. by rule h e e' (before_or_not h.0 taken) }
    where
      before_or_not : (i n : ℕ) → (i < n) ⊎ (n ≤ i)
      before_or_not i n = grind arith

      waits : (rule : Rule W) → (h : Has rules rule) → (e e' : Entry) → taken ≤ h.0 → (weight_at d start e (from_of rule) ≡ d.zero) ⊎ (weight_at d start e (from_of rule) ≡ d.zero → ⊥) → Waits items rule e e' ⊎ IsDone d steps start rule e e'
      waits rule h e e' k (inl z) = inr (zero_done rule h e e' z)
      waits rule h e e' k (inr n) = inl (inl (a h.0 rule k h.1 e n))

      by : (rule : Rule W) → (h : Has rules rule) → (e e' : Entry) → (h.0 < taken) ⊎ (taken ≤ h.0) → Waits items rule e e' ⊎ IsDone d steps start rule e e'
      by rule h e e' (inl k) = inr (c.rules_done h.0 rule k h.1 e e')
      by rule h e e' (inr k) = waits rule h e e' k (decide (weight_at d start e (from_of rule)) d.zero (weight_meant l steps told s _ _) l.zero_meant)

module _ {W : Type 0} {d : Domain W} {rules : List (Rule W)} {starts : List (Start W)} (l : IsLawful W d) (steps : List BaseStep) (told : IsTold d rules starts) where
  -- what is applied stays so
  pub applied_on : {now new : Cells W} {w x : List Item} (rule : Rule W) (e : Entry) → Has rules rule → IsKept d steps now new w x → IsApplied d steps now w rule e → IsApplied d steps new x rule e
  applied_on rule e h k a e' = applied_kept l rule e e' (told.rule rule h) k (a e')

  pub open_kept : {now new : Cells W} {w x : List Item} → IsOpen d rules steps now w → IsKept d steps now new w x → IsOpen d rules steps new x
  open_kept o k rule h e e' = applied_kept l rule e e' (told.rule rule h) k (o rule h e e')

  pub begun_more : {now new : Cells W} {w x : List Item} (k : ℕ) (s : Start W) → slice_get starts k ≡ Some s → IsBegun d rules starts steps now w k → IsRisen d now new w x (Base s.base) s.node s.weight → IsBegun d rules starts steps new x (k + 1)
  begun_more {now} {new} {w} {x} k s at g r = record {
    sound = sound;
    begun = λ i z lt q. elim (below_or_last i k lt) [
      | inl b ↦ leq_trans l z.weight (weight_at d now (Base z.base) z.node) (weight_at d new (Base z.base) z.node) (told.start z (i, q)) (weight_meant l steps told g.sound _ _) (weight_meant l steps told sound _ _)
          (g.begun i z b q) (kept.grows _ _)
      | inr e ↦ let same : s ≡ z = cc (at, q, ap (slice_get starts) e) in
          subst (λ (y : Start W). Leq d y.weight (weight_at d new (Base y.base) y.node)) same (risen_reached l steps told g.sound (Base s.base) s.node s.weight (start_sound l steps told s (k, at)) r)
    ];
    open_to = open_kept g.open_to kept;
  }
    where
      runs : Combines d (EntryRuns d rules starts steps (Base s.base) s.node) s.weight
      runs = start_sound l steps told s (k, at)

      sound : IsSound d rules starts steps new
      sound = sound_risen g.sound r.raised runs

      kept : IsKept d steps now new w x
      kept = risen_kept l steps now new w x (weight_meant l steps told g.sound) (link_meant_at l steps told g.sound) (Base s.base) s.node s.weight (told.start s (k, at)) r

  pub begun_all : {now : Cells W} {w : List Item} (k : ℕ) → length starts ≤ k → IsBegun d rules starts steps now w k → IsSettling d rules starts steps now w
  begun_all k all g = record { sound = g.sound; begun = λ s h. g.begun h.0 s (omega (arith, slice_get-below starts h.0 s h.1)) h.1; open_to = g.open_to }

  module _ {now new : Cells W} {w x : List Item} (item : Item) {e : Entry} (g : IsSettling d rules starts steps now (w ++ item ∷ [])) (p : IsProgress d rules starts steps now new w x e) where
    begun_still : (s : Start W) → Has starts s → Leq d s.weight (weight_at d new (Base s.base) s.node)
    begun_still s h = leq_trans l s.weight (weight_at d now (Base s.base) s.node) (weight_at d new (Base s.base) s.node) (told.start s h) (weight_meant l steps told g.sound _ _) (weight_meant l steps told p.sound _ _)
        (g.begun s h) (p.kept.grows _ _)

    here_or_item : (i : Item) → Has (w ++ item ∷ []) i → Has x i ⊎ (i ≡ item)
    here_or_item i h = elim (slice_get-pushed w item h.0 i h.1) [ inl q ↦ inl (p.kept.stays i (h.0, q)) | inr q ↦ inr q.1 ]

    pub turned : ((rule : Rule W) → Has rules rule → (e e' : Entry) → (At e (from_of rule) ≡ item) ⊎ (GoesBetween rule e × (Between e e' ≡ item)) → Waits x rule e e' ⊎ IsDone d steps new rule e e') → IsSettling d rules starts steps new x
    turned f = record { sound = p.sound; begun = begun_still; open_to = λ rule h e e'. by rule h e e' (g.open_to rule h e e') }
      where
        by : (rule : Rule W) → Has rules rule → (e e' : Entry) → Waits (w ++ item ∷ []) rule e e' ⊎ IsDone d steps now rule e e' → Waits x rule e e' ⊎ IsDone d steps new rule e e'
        by rule h e e' (inr q) = p.kept.done rule (told.rule rule h) e e' q
        by rule h e e' (inl (inl a)) = elim (here_or_item (At e (from_of rule)) a) [ inl q ↦ inl (inl q) | inr q ↦ f rule h e e' (inl q) ]
        by rule h e e' (inl (inr a)) = elim (here_or_item (Between e e') a.1) [ inl q ↦ inl (inr (a.0, q)) | inr q ↦ f rule h e e' (inr (a.0, q)) ]

  pub turned_at : {now new : Cells W} {w x : List Item} (entry : Entry) (node : ℕ) → IsSettling d rules starts steps now (w ++ At entry node ∷ []) → IsProgress d rules starts steps now new w x entry
      → ((rule : Rule W) → Has rules rule → from_of rule ≡ node → IsApplied d steps new x rule entry) → IsSettling d rules starts steps new x
  turned_at {now} {new} {w} {x} entry node g p a = turned (At entry node) g p by
    where
      by : (rule : Rule W) → Has rules rule → (e e' : Entry) → (At e (from_of rule) ≡ At entry node) ⊎ (GoesBetween rule e × (Between e e' ≡ At entry node)) → Waits x rule e e' ⊎ IsDone d steps new rule e e'
      by rule h e e' (inl q) = let same : e ≡ entry = cc in let there : from_of rule ≡ node = cc in
          subst (λ (y : Entry). Waits x rule y e' ⊎ IsDone d steps new rule y e') (sym same) (a rule h there e')
      by rule h e e' (inr q) = let no = q.1 in cc

  pub turned_between : {now new : Cells W} {w x : List Item} (child parent : Entry) → IsSettling d rules starts steps now (w ++ Between child parent ∷ []) → IsProgress d rules starts steps now new w x parent
      → ((rule : Rule W) → Has rules rule → GoesBetween rule child → Waits x rule child parent ⊎ IsDone d steps new rule child parent) → IsSettling d rules starts steps new x
  turned_between {now} {new} {w} {x} child parent g p a = turned (Between child parent) g p by
    where
      by : (rule : Rule W) → Has rules rule → (e e' : Entry) → (At e (from_of rule) ≡ Between child parent) ⊎ (GoesBetween rule e × (Between e e' ≡ Between child parent)) → Waits x rule e e' ⊎ IsDone d steps new rule e e'
      by rule h e e' (inl q) = cc
      by rule h e e' (inr q) = let is = q.1 in let same : e ≡ child = cc in let other : e' ≡ parent = cc in
          subst (λ (y : Entry). Waits x rule e y ⊎ IsDone d steps new rule e y) (sym other)
          (subst (λ (y : Entry). GoesBetween rule y → Waits x rule y parent ⊎ IsDone d steps new rule y parent) (sym same) (a rule h) q.0)

  -- the first item may stand last
  pub settling_first : {now : Cells W} {items popped : List Item} {item : Item} → items ≡ item ∷ popped → IsSettling d rules starts steps now items → IsSettling d rules starts steps now (popped ++ item ∷ [])
  settling_first {now} {items} {popped} {item} e g = record { sound = g.sound; begun = g.begun; open_to = λ rule h a b. by rule a b (g.open_to rule h a b) }
    where
      moved : (i : Item) → Has items i → Has (popped ++ item ∷ []) i
      moved i h = last_first popped item i (subst (λ (xs : List Item). Has xs i) e h)

      by : (rule : Rule W) (a b : Entry) → Waits items rule a b ⊎ IsDone d steps now rule a b → Waits (popped ++ item ∷ []) rule a b ⊎ IsDone d steps now rule a b
      by rule a b (inr q) = inr q
      by rule a b (inl (inl h)) = inl (inl (moved _ h))
      by rule a b (inl (inr h)) = inl (inr (h.0, moved _ h.1))

  pub settled : {now : Cells W} {w : List Item} → w ≡ [] → IsSettling d rules starts steps now w → IsClosed d rules starts steps now
  settled {now} {w} e g = ((λ rule h a b. by rule a b (g.open_to rule h a b)), g.begun)
    where
      none : (i : Item) → Has w i → ⊥
      none i h = let q : slice_get [] h.0 ≡ Some i = subst (λ (z : List Item). slice_get z h.0 ≡ Some i) e h.1 in cc

      by : (rule : Rule W) (a b : Entry) → Waits w rule a b ⊎ IsDone d steps now rule a b → IsDone d steps now rule a b
      by rule a b (inr q) = q
      by rule a b (inl (inl h)) = absurd (none _ h)
      by rule a b (inl (inr h)) = absurd (none _ h.1)

-- each element before t has the property
abbrev pub EachBefore : {X : Type 0} → (X → Type 0) → List X → ℕ → Type 0
EachBefore {X} P xs t = (i : ℕ) (x : X) → i < t → slice_get xs i ≡ Some x → P x

pub each_more : {X : Type 0} (P : X → Type 0) (xs : List X) (t : ℕ) (x : X) → slice_get xs t ≡ Some x → P x → EachBefore P xs t → EachBefore P xs (t + 1)
each_more {X} P xs t x at h f i y k q = elim (below_or_last i t k) [
  | inl b ↦ f i y b q
  | inr e ↦ let same : x ≡ y = cc (at, q, ap (slice_get xs) e) in subst P same h
]

pub each_all : {X : Type 0} (P : X → Type 0) (xs : List X) (t : ℕ) → length xs ≤ t → EachBefore P xs t → (x : X) → Has xs x → P x
each_all P xs t all f x h = f h.0 x (omega (arith, slice_get-below xs h.0 x h.1)) h.1

-- what an index finds is in the list
pub listed_in : {X : Type 0} {IsKey : X → Key → Type 0} {xs : List X} (g : Groups X) (key : Key) {group : List X} → AreUnder xs IsKey g → group ≡ found_at g key → (x : X) → Has group x → Has xs x
listed_in {X} g key u e x h = u.each key x (subst (λ (ys : List X). Has ys x) e h)

-- and what is found under a key is in the group
pub found_in : {X : Type 0} (g : Groups X) (key : Key) {group : List X} → group ≡ found_at g key → (x : X) → Has (found_at g key) x → Has group x
found_in {X} g key e x h = subst (λ (ys : List X). Has ys x) (sym e) h

one_number : (a b : ℕ) → (a ≡ b) ⊎ (a ≡ b → ⊥)
one_number a b = grind arith

module _ {W : Type 0} (d : Domain W) (rules : List (Rule W)) (steps : List BaseStep) (now : Cells W) (w : List Item) (node : ℕ) {stays : Groups (Rule W)} (in_stays : AreUnder rules Stays stays) where
  -- at a base each rule that leads from the node is in one of two groups
  pub applied_at_base : {pops : Groups (Rule W)} (in_pops : AreUnder rules Pops pops) (b : ℕ) → ((rule : Rule W) → Has (found_at stays (Node node)) rule → IsApplied d steps now w rule (Base b)) → ((rule : Rule W) → Has (found_at pops (Node node)) rule → IsApplied d steps now w rule (Base b))
      → (rule : Rule W) → Has rules rule → from_of rule ≡ node → IsApplied d steps now w rule (Base b)
  applied_at_base in_pops b f g (Flow from to v) h e = f _ (in_stays.all (Node node) _ h (ap Node e))
  applied_at_base in_pops b f g (Push from to mark v) h e = f _ (in_stays.all (Node node) _ h (ap Node e))
  applied_at_base in_pops b f g (Pop from mark to v) h e = g _ (in_pops.all (Node node) _ h (ap Node e))

  -- at a pushed entry a pop of another mark adds nothing
  pub applied_at_pushed : {marked : Groups (Rule W)} (in_marked : AreUnder rules PopsMark marked) (n top : ℕ) → ((rule : Rule W) → Has (found_at stays (Node node)) rule → IsApplied d steps now w rule (Pushed n top)) → ((rule : Rule W) → Has (found_at marked (Marked node top)) rule → IsApplied d steps now w rule (Pushed n top))
      → (rule : Rule W) → Has rules rule → from_of rule ≡ node → IsApplied d steps now w rule (Pushed n top)
  applied_at_pushed in_marked n top f g (Flow from to v) h e = f _ (in_stays.all (Node node) _ h (ap Node e))
  applied_at_pushed in_marked n top f g (Push from to mark v) h e = f _ (in_stays.all (Node node) _ h (ap Node e))
  applied_at_pushed in_marked n top f g (Pop from mark to v) h e = by (one_number top mark)
    where
      by : (top ≡ mark) ⊎ (top ≡ mark → ⊥) → IsApplied d steps now w (Pop from mark to v) (Pushed n top)
      by (inl q) = g _ (in_marked.all (Marked node top) _ h (ap (λ (m : ℕ). Marked m mark) e ∙ ap (Marked node) (sym q)))
      by (inr q) = λ e'. inr (λ k. absurd (q k))

-- over a link of a pushed entry only the pops of its mark have work
pub applied_over : {W : Type 0} (d : Domain W) (rules : List (Rule W)) (steps : List BaseStep) (now : Cells W) (w : List Item) (node : ℕ) {marked : Groups (Rule W)} (in_marked : AreUnder rules PopsMark marked) (n top : ℕ) (parent : Entry)
    → ((rule : Rule W) → Has (found_at marked (Marked node top)) rule → IsAppliedBetween d steps now w rule (Pushed n top) parent)
    → (rule : Rule W) → Has rules rule → from_of rule ≡ node → IsAppliedBetween d steps now w rule (Pushed n top) parent
applied_over d rules steps now w node in_marked n top parent g (Flow from to v) h e k = absurd k
applied_over d rules steps now w node in_marked n top parent g (Push from to mark v) h e k = absurd k
applied_over d rules steps now w node in_marked n top parent g (Pop from mark to v) h e k = by (one_number top mark)
  where
    by : (top ≡ mark) ⊎ (top ≡ mark → ⊥) → Waits w (Pop from mark to v) (Pushed n top) parent ⊎ IsDone d steps now (Pop from mark to v) (Pushed n top) parent
    by (inl q) = g _ (in_marked.all (Marked node top) _ h (ap (λ (m : ℕ). Marked m mark) e ∙ ap (Marked node) (sym q))) k
    by (inr q) = inr (λ o. absurd (q o))

-- and all pops of its mark are in one group
pub applied_anywhere : {W : Type 0} (d : Domain W) (rules : List (Rule W)) (steps : List BaseStep) (now : Cells W) (w : List Item) {by_mark : Groups (Rule W)} (in_by_mark : AreUnder rules PopsAnywhere by_mark) (n top : ℕ) (parent : Entry)
    → ((rule : Rule W) → Has (found_at by_mark (Mark top)) rule → IsAppliedBetween d steps now w rule (Pushed n top) parent)
    → (rule : Rule W) → Has rules rule → IsAppliedBetween d steps now w rule (Pushed n top) parent
applied_anywhere d rules steps now w in_by_mark n top parent g (Flow from to v) h k = absurd k
applied_anywhere d rules steps now w in_by_mark n top parent g (Push from to mark v) h k = absurd k
applied_anywhere d rules steps now w in_by_mark n top parent g (Pop from mark to v) h k = by (one_number top mark)
  where
    by : (top ≡ mark) ⊎ (top ≡ mark → ⊥) → Waits w (Pop from mark to v) (Pushed n top) parent ⊎ IsDone d steps now (Pop from mark to v) (Pushed n top) parent
    by (inl q) = g _ (in_by_mark.all (Mark top) _ h (ap Mark (sym q))) k
    by (inr q) = inr (λ o. absurd (q o))

module _ {W : Type 0} {d : Domain W} {rules : List (Rule W)} {starts : List (Start W)} (l : IsLawful W d) (steps : List BaseStep) (told : IsTold d rules starts) (x : Index W) {its : List BaseStep} (index : IsIndex rules its x) (node : ℕ) where
  -- the pops of an entry are rules
  pub pops_listed : (entry : Entry) (pops : List (Rule W)) → ((b : ℕ) → entry ≡ Base b → pops ≡ found_at x.pops (Node node)) → ((n mark : ℕ) → entry ≡ Pushed n mark → pops ≡ found_at x.marked (Marked node mark)) → (rule : Rule W) → Has pops rule → Has rules rule
  pops_listed (Base b) pops p q rule h = listed_in x.pops (Node node) index.pops (p b refl) rule h
  pops_listed (Pushed n mark) pops p q rule h = listed_in x.marked (Marked node mark) index.marked (q n mark refl) rule h

  -- after both groups all rules that lead from the node are applied
  pub both_applied : (entry : Entry) (stays pops : List (Rule W)) → stays ≡ found_at x.stays (Node node) → ((b : ℕ) → entry ≡ Base b → pops ≡ found_at x.pops (Node node)) → ((n mark : ℕ) → entry ≡ Pushed n mark → pops ≡ found_at x.marked (Marked node mark))
      → {mid new : Cells W} {v w : List Item} → IsKept d steps mid new v w → ((rule : Rule W) → Has stays rule → IsApplied d steps mid v rule entry) → ((rule : Rule W) → Has pops rule → IsApplied d steps new w rule entry)
      → (rule : Rule W) → Has rules rule → from_of rule ≡ node → IsApplied d steps new w rule entry
  both_applied (Base b) stays pops s p q {mid} {new} {v} {w} kept a c = applied_at_base d rules steps new w node index.stays index.pops b
      (λ rule h. applied_on l steps told rule (Base b) (index.stays.each (Node node) rule h) kept (a rule (found_in x.stays (Node node) s rule h)))
      (λ rule h. c rule (found_in x.pops (Node node) (p b refl) rule h))
  both_applied (Pushed n mark) stays pops s p q {mid} {new} {v} {w} kept a c = applied_at_pushed d rules steps new w node index.stays index.marked n mark
      (λ rule h. applied_on l steps told rule (Pushed n mark) (index.stays.each (Node node) rule h) kept (a rule (found_in x.stays (Node node) s rule h)))
      (λ rule h. c rule (found_in x.marked (Marked node mark) (q n mark refl) rule h))
