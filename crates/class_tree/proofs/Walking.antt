-- A way through the classes: what the last turns tell where classes are entered and left.
use Rattle.std.proofs.Common.{Bool, true, false, not, ◌≡◌, ℕ, zero, suc, ◌+◌, ◌<◌, ◌≤◌, ◌⊎◌, Option, Some, None, List, [], ◌∷◌, length, get_or, IfSome, OnOk, Result, Ok, Err, refl, sym, ap, subst, ◌∙◌, inl, inr, arith}
use Rattle.std.specs.List.{Contains}
use Rattle.std.specs.Option.{is_some}
use Rattle.std.proofs.lemmas.Bool.{cases_eq}
use Rattle.class_tree.specs.declared.own_rows.Own.{Own}
use Rattle.class_rules.specs.declared.rows.ClassRow.{ClassRow}
use Rattle.class_tree.specs.declared.turns.Turn.{Turn}
use Rattle.class_order.specs.Groups.{group}
use Rattle.class_rules.specs.Lookups.{Upwards, found, further, ended}
use Rattle.class_rules.specs.Rows.{HasNoParent, HasParent}
use Rattle.class_tree.specs.Turns.{AreHere, HaveTurned, IsBefore, IsForest, OwnAt, SlotPath, TellBefore, last_row, numbered, row_over, turned}
use Rattle.class_rules.proofs.LawFacts.{a_parent_or_none, one_parent}
use Rattle.class_order.proofs.Listed.{group-past}
use Rattle.lists.proofs.Elements.{Contains-nil}
use Rattle.class_rules.proofs.Parents.{no_parent_from, parent_from}
use Rattle.class_tree.proofs.Turning.{turned-last, up_to_more}

-- whether a slot stands in a list
pub slot_or_none : (owns : List Own) (s : ℕ) → ((o : Own) × Contains owns o × (o.slot ≡ s)) ⊎ ((o : Own) → Contains owns o → o.slot ≡ s → ⊥)
slot_or_none [] s = inr (λ o c. absurd (Contains-nil o c))
slot_or_none (x ∷ xs) s = elim (cases_eq x.slot s) [
  | inl e ↦ inl (x, (0, omega arith, refl), e)
  | inr apart ↦ elim (slot_or_none xs s) [
    | inl m ↦ inl (m.0, (suc m.1.0, omega (arith, m.1.1), m.1.2), m.2)
    | inr none ↦ inr (λ o c. by o c.0 c.1 c.2 apart none)
  ]
]
  where
    by : (o : Own) (k : ℕ) → k < length (x ∷ xs) → get_or (x ∷ xs) k o ≡ o → (x.slot ≡ s → ⊥) → ((o : Own) → Contains xs o → o.slot ≡ s → ⊥) → o.slot ≡ s → ⊥
    by o zero h e apart none is = apart (ap (λ (y : Own). y.slot) e ∙ is)
    by o (suc k) h e apart none is = none o (k, omega (arith, h), e) is

-- ---- look-ups along the parents

module _ (classes : List ClassRow) (At : ℕ → Option ℕ → Type 0) where
  -- what a class without a row of its own gives is what its parent gives
  pub upwards_parent : {c p : ℕ} {r : Option ℕ} → ((x : ℕ) → At c (Some x) → ⊥) → HasParent classes c p → Upwards classes At c r → Upwards classes At p r
  upwards_parent {c} {p} {r} none named u = by u none named
    where
      by : {c : ℕ} {r : Option ℕ} → Upwards classes At c r → ((x : ℕ) → At c (Some x) → ⊥) → HasParent classes c p → Upwards classes At p r
      by (found {c} {r} a) none named = absurd (none r a)
      by (further {c} {p = q} {r} n h u) none named = subst (λ k. Upwards classes At k r) (one_parent classes c q p h named) u
      by (ended {c} n h) none named = absurd (a_parent_or_none classes c p named h)

  -- and without a parent it gives none
  pub upwards_top : {c : ℕ} {r : Option ℕ} → ((x : ℕ) → At c (Some x) → ⊥) → HasNoParent classes c → Upwards classes At c r → r ≡ None
  upwards_top none top u = by u none top
    where
      by : {c : ℕ} {r : Option ℕ} → Upwards classes At c r → ((x : ℕ) → At c (Some x) → ⊥) → HasNoParent classes c → r ≡ None
      by (found {c} {r} a) none top = absurd (none r a)
      by (further {c} {p = q} {r} n h u) none top = absurd (a_parent_or_none classes c q h top)
      by (ended {c} n h) none top = refl

-- ---- where a class is left or entered

-- how many classes are left to leave
abbrev pub steps_left : List ℕ → Option ℕ → ℕ
steps_left numbers None = 0
steps_left numbers (Some c) = get_or numbers c 0 + 1

-- what a row says of the parent
abbrev pub NamesParent : List ClassRow → ℕ → Option ℕ → Type 0
NamesParent classes c None = HasNoParent classes c
NamesParent classes c (Some p) = HasParent classes c p

-- what was told stays so
pub tell_kept : (classes : List ClassRow) (owns : List (List Own)) (numbers : List ℕ) (n : ℕ) (old new : List (List Turn)) (os : List Own) (rows : Own → Option ℕ)
    → TellBefore classes owns numbers n old → HaveTurned n os rows old new → TellBefore classes owns numbers n new
tell_kept classes owns numbers n old new os rows t h = record {
  ordered = h.ordered t.ordered;
  told = λ c s b. subst (SlotPath classes owns s c) (sym (h.kept s (get_or numbers c 0) b.1)) (t.told c s b);
}

module _ (classes : List ClassRow) (owns : List (List Own)) (numbers : List ℕ) (slots : ℕ) (f : IsForest classes owns numbers slots)
    (n : ℕ) (old new : List (List Turn)) (t : TellBefore classes owns numbers n old) where
  own_none : (c s : ℕ) → ((o : Own) → Contains (group owns c) o → o.slot ≡ s → ⊥) → (x : ℕ) → OwnAt owns s c (Some x) → ⊥
  own_none c s none x own = none (record { slot = s; row = x }) own refl

  -- a parent comes before the number if the class does
  pub before_parent : (c p : ℕ) → IsBefore numbers n c → HasParent classes c p → IsBefore numbers n p
  before_parent c p b named = let known = f.known c p named in let falls = f.falls c p named in (omega (arith, known, f.len), omega (arith, falls, b.1))

  pub left_here : (c : ℕ) (parent : Option ℕ) → NamesParent classes c parent → IsBefore numbers n c → AreHere classes owns old (Some c)
      → HaveTurned n (group owns c) (λ o. row_over (numbered numbers parent) (group old o.slot)) old new → AreHere classes owns new parent
  left_here c None named b here h = λ s. elim (slot_or_none (group owns c) s) [
    | inl m ↦ ap (λ k. last_row None (group new k)) (sym m.2) ∙ h.changed m.0 m.1
    | inr none ↦ h.same s none ∙ upwards_top classes (OwnAt owns s) (own_none c s none) named (here s)
  ]
  left_here c (Some p) named b here h = λ s. elim (slot_or_none (group owns c) s) [
    | inl m ↦
        let read : last_row None (group new s) ≡ turned None (group old s) (get_or numbers p 0) =
        ap (λ k. last_row None (group new k)) (sym m.2) ∙ h.changed m.0 m.1 ∙ ap (λ k. turned None (group old k) (get_or numbers p 0)) m.2 in
        subst (SlotPath classes owns s p) (sym read) (t.told p s (before_parent c p b named))
    | inr none ↦ subst (SlotPath classes owns s p) (sym (h.same s none)) (upwards_parent classes (OwnAt owns s) (own_none c s none) named (here s))
  ]

  pub entered_here : (c : ℕ) (parent : Option ℕ) → NamesParent classes c parent → AreHere classes owns old parent
      → HaveTurned n (group owns c) (λ o. Some o.row) old new → AreHere classes owns new (Some c)
  entered_here c parent named here h = λ s. elim (slot_or_none (group owns c) s) [
    | inl m ↦
        let read : last_row None (group new s) ≡ Some m.0.row = ap (λ k. last_row None (group new k)) (sym m.2) ∙ h.changed m.0 m.1 in
        let same : m.0 ≡ record { slot = s; row = m.0.row } = λ j. record { slot = m.2 j; row = m.0.row } in
        subst (SlotPath classes owns s c) (sym read) (found (subst (Contains (group owns c)) same m.1))
    | inr none ↦ subst (SlotPath classes owns s c) (sym (h.same s none)) (from parent s none named here)
  ]
    where
      from : (parent : Option ℕ) (s : ℕ) → ((o : Own) → Contains (group owns c) o → o.slot ≡ s → ⊥) → NamesParent classes c parent → AreHere classes owns old parent
          → SlotPath classes owns s c (last_row None (group old s))
      from None s none named here = subst (SlotPath classes owns s c) (sym (here s)) (ended none named)
      from (Some p) s none named here = further none named (here s)

  -- the class is told too
  pub tell_more : (c : ℕ) → c < length classes → get_or numbers c 0 ≡ n → AreHere classes owns new (Some c) → TellBefore classes owns numbers n new → TellBefore classes owns numbers (n + 1) new
  tell_more c h is here now = record {
    ordered = λ s. up_to_more n (group new s) (now.ordered s);
    told = λ d s b. elim (cases_eq (get_or numbers d 0) n) [
      | inl e ↦
          let same : d ≡ c = f.apart d c (omega (arith, b.0, f.len)) h (e ∙ sym is) in
          let read : turned None (group new s) (get_or numbers d 0) ≡ last_row None (group new s) = ap (turned None (group new s)) e ∙ turned-last None (group new s) n ((now.ordered s).up_to) in
          subst (λ k. SlotPath classes owns s k (turned None (group new s) (get_or numbers d 0))) (sym same) (subst (SlotPath classes owns s c) (sym read) (here s))
      | inr apart ↦ now.told d s (b.0, omega (arith, b.1, apart))
    ];
  }

-- all slots are told anew
module _ (classes : List ClassRow) (owns : List (List Own)) (numbers : List ℕ) (n : ℕ) (old new : List (List Turn)) (t : TellBefore classes owns numbers n old) (all : List Own)
    (each : (s : ℕ) → s < length old → (o : Own) × Contains all o × (o.slot ≡ s)) where
  past : (s : ℕ) → length old ≤ s → length new ≡ length old → last_row None (group new s) ≡ None
  past s h len = ap (last_row None) (group-past new s (omega (arith, h, len)))

  below_or : (a b : ℕ) → (a < b) ⊎ (b ≤ a)
  below_or a b = grind arith

  pub taken_up : (to : Option ℕ) → ((p : ℕ) → to ≡ Some p → IsBefore numbers n p) → HaveTurned n all (λ o. row_over (numbered numbers to) (group old o.slot)) old new → AreHere classes owns new to
  taken_up None before h = λ s. elim (below_or s (length old)) [
    | inl less ↦ let m = each s less in ap (λ k. last_row None (group new k)) (sym m.2) ∙ h.changed m.0 m.1
    | inr more ↦ past s more h.len
  ]
  taken_up (Some p) before h = λ s. elim (below_or s (length old)) [
    | inl less ↦
        let m = each s less in
        let read : last_row None (group new s) ≡ turned None (group old s) (get_or numbers p 0) =
        ap (λ k. last_row None (group new k)) (sym m.2) ∙ h.changed m.0 m.1 ∙ ap (λ k. turned None (group old k) (get_or numbers p 0)) m.2 in
        subst (SlotPath classes owns s p) (sym read) (t.told p s (before p refl))
    | inr more ↦
        let read : turned None (group old s) (get_or numbers p 0) ≡ None = ap (λ ts. turned None ts (get_or numbers p 0)) (group-past old s more) in
        subst (SlotPath classes owns s p) (read ∙ sym (past s more h.len)) (t.told p s (before p refl))
  ]

pub named_by : (classes : List ClassRow) (c : ℕ) (d : ClassRow) → c < length classes → NamesParent classes c (get_or classes c d).parent
named_by classes c d h = by (get_or classes c d).parent refl
  where
    by : (o : Option ℕ) → (get_or classes c d).parent ≡ o → NamesParent classes c o
    by None e = no_parent_from classes c d h e
    by (Some p) e = parent_from classes c p d h e

pub falls_left : (classes : List ClassRow) (numbers : List ℕ) (c : ℕ) (o : Option ℕ) → ((a b : ℕ) → HasParent classes a b → get_or numbers b 0 < get_or numbers a 0) → NamesParent classes c o
    → steps_left numbers o < steps_left numbers (Some c)
falls_left classes numbers c None falls named = omega arith
falls_left classes numbers c (Some p) falls named = let lower = falls c p named in omega (arith, lower)

-- what follows of an option that is there
pub some_by : (P : ℕ → Type 0) (o : Option ℕ) → ((x : ℕ) → o ≡ Some x → P x) → IfSome o P
some_by P None f = tt
some_by P (Some x) f = f x refl

pub numbered_before : (numbers : List ℕ) (n : ℕ) (o : Option ℕ) → ((x : ℕ) → o ≡ Some x → get_or numbers x 0 < n) → IfSome (numbered numbers o) (λ k. k < n)
numbered_before numbers n None f = tt
numbered_before numbers n (Some x) f = f x refl

pub none_of : (o : Option ℕ) → is_some o ≡ false → o ≡ None
none_of None e = refl
none_of (Some x) e = cc e

pub not_true : (b : Bool) → b ≡ true → not b ≡ false
not_true true e = refl
not_true false e = cc e

pub parent_named : (classes : List ClassRow) (c p : ℕ) (o : Option ℕ) → NamesParent classes c o → o ≡ Some p → HasParent classes c p
parent_named classes c p None named e = cc e
parent_named classes c p (Some q) named e = let same : q ≡ p = cc e in subst (HasParent classes c) same named

-- what holds of an option that is there
pub if_some : {X : Type 0} (P : X → Type 0) (o : Option X) (x : X) → IfSome o P → o ≡ Some x → P x
if_some P o x h e = subst (λ k. IfSome k P) e h

-- a call that went well gives more
pub ok_map : {T E P Q : Type 0} (r : Result T E) → (P → Q) → OnOk r P → OnOk r Q
ok_map (Ok x) f p = f p
ok_map (Err e) f p = tt
