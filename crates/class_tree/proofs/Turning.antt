-- Turns: what is read of them, and what one more at the end of a list changes.
use Rattle.std.proofs.Common.{◌≡◌, ℕ, zero, suc, ◌+◌, ◌-◌, ◌<◌, ◌≤◌, Bool, true, false, cond, leb, leb-true, Option, Some, None, List, [], ◌∷◌, ◌++◌, length, get_or, set, take, IfSome, refl, sym, ap, subst, ◌∙◌, inl, inr, arith, get_or-set_same, get_or-set_other, length-set}
use Rattle.std.specs.List.{All, Contains}
use Rattle.std.proofs.lemmas.Bool.{cases_eq, le-leb}
use Rattle.std.proofs.lemmas.List.Elements.{All-push, Contains-append_left, Contains-get_or, Contains-push}
use Rattle.std.proofs.lemmas.List.Sorted.{IsNonDecreasingBy-push}
use Rattle.class_tree.specs.declared.own_rows.Own.{Own}
use Rattle.class_tree.specs.declared.turns.Turn.{Turn}
use Rattle.class_order.specs.Groups.{group}
use Rattle.class_tree.specs.Turns.{AreUpTo, HaveTurned, last_row, row_over, turned}
use Rattle.lists.proofs.Elements.{Contains-take_kept, Contains-take_last, Contains-take_more, Contains-nil}

-- ---- what is read of turns

-- by a test of the first turn
turned-by : (r : Option ℕ) (t : Turn) (ts : List Turn) (n : ℕ) (b : Bool) → leb t.at n ≡ b → turned r (t ∷ ts) n ≡ cond b (turned t.row ts n) r
turned-by r t ts n b e = ap (λ x. cond x (turned t.row ts n) r) e

rest_of : (P : Turn → Type 0) (t : Turn) (ts : List Turn) → All P (t ∷ ts) → All P ts
rest_of P t ts all k d h = all (suc k) d (omega (arith, h))

first_of_all : (P : Turn → Type 0) (t : Turn) (ts : List Turn) → All P (t ∷ ts) → P t
first_of_all P t ts all = all 0 t (omega arith)

-- the last turn of all tells, where no turn comes after the number
pub turned-last : (r : Option ℕ) (ts : List Turn) (n : ℕ) → All (λ (t : Turn). t.at ≤ n) ts → turned r ts n ≡ last_row r ts
turned-last r [] n up = refl
turned-last r (t ∷ ts) n up =
    turned-by r t ts n true (le-leb t.at n (first_of_all (λ (u : Turn). u.at ≤ n) t ts up)) ∙ turned-last t.row ts n (rest_of (λ (u : Turn). u.at ≤ n) t ts up)

pub last_row-push : (r : Option ℕ) (ts : List Turn) (t : Turn) → last_row r (ts ++ t ∷ []) ≡ t.row
last_row-push r [] t = refl
last_row-push r (u ∷ ts) t = last_row-push u.row ts t

-- a later turn changes nothing before it
pub turned-push_later : (r : Option ℕ) (ts : List Turn) (t : Turn) (n : ℕ) → n < t.at → turned r (ts ++ t ∷ []) n ≡ turned r ts n
turned-push_later r [] t n h = by (leb t.at n) refl
  where
    by : (b : Bool) → leb t.at n ≡ b → turned r (t ∷ []) n ≡ r
    by true e = absurd (omega (arith, leb-true t.at n e, h))
    by false e = turned-by r t [] n false e
turned-push_later r (u ∷ ts) t n h = ap (λ x. cond (leb u.at n) x r) (turned-push_later u.row ts t n h)

-- the row before an index
pub row_before : Option ℕ → List Turn → ℕ → Option ℕ
row_before r ts zero = r
row_before r [] (suc n) = r
row_before r (t ∷ ts) (suc n) = row_before t.row ts n

-- the turns before an index are at the number or before it, the others later
pub turned-parted : (r : Option ℕ) (ts : List Turn) (n after : ℕ) → after ≤ length ts → ((k : ℕ) (d : Turn) → k < after → (get_or ts k d).at ≤ n)
    → ((k : ℕ) (d : Turn) → after ≤ k → k < length ts → n < (get_or ts k d).at) → turned r ts n ≡ row_before r ts after
unfolding row_before
turned-parted r [] n zero h low high = refl
turned-parted r [] n (suc after) h low high = absurd (omega arith)
turned-parted r (t ∷ ts) n zero h low high = by (leb t.at n) refl
  where
    by : (b : Bool) → leb t.at n ≡ b → turned r (t ∷ ts) n ≡ r
    by true e = absurd (omega (arith, leb-true t.at n e, high 0 t (omega arith) (omega arith)))
    by false e = turned-by r t ts n false e
turned-parted r (t ∷ ts) n (suc after) h low high =
    turned-by r t ts n true (le-leb t.at n (low 0 t (omega arith)))
    ∙ turned-parted t.row ts n after (omega arith) (λ k d lt. low (suc k) d (omega arith)) (λ k d le lt. high (suc k) d (omega arith) (omega arith))

pub row_before-none : (ts : List Turn) → row_before None ts 0 ≡ None
unfolding row_before
row_before-none ts = refl

pub row_before-at : (r : Option ℕ) (ts : List Turn) (i : ℕ) (d : Turn) → i < length ts → row_before r ts (suc i) ≡ (get_or ts i d).row
unfolding row_before
row_before-at r [] i d h = absurd (omega arith)
row_before-at r (t ∷ ts) zero d h = refl
row_before-at r (t ∷ ts) (suc i) d h = row_before-at t.row ts i d (omega arith)

-- ---- one more turn

pub up_to_push : (n : ℕ) (ts : List Turn) (row : Option ℕ) → AreUpTo n ts → AreUpTo n (ts ++ record { at = n; row = row } ∷ [])
up_to_push n ts row a = record {
  rising = IsNonDecreasingBy-push (λ (t : Turn). t.at) ts (record { at = n; row = row }) a.rising (λ d h. a.up_to (length ts - 1) d (omega (arith, h)));
  up_to = All-push (λ (t : Turn). t.at ≤ n) ts (record { at = n; row = row }) a.up_to (omega arith);
}

pub up_to_more : (n : ℕ) (ts : List Turn) → AreUpTo n ts → AreUpTo (n + 1) ts
up_to_more n ts a = record { rising = a.rising; up_to = λ k d h. let le = a.up_to k d h in omega (arith, le) }

pub up_to_none : (n : ℕ) → AreUpTo n []
up_to_none n = record { rising = λ i j d le h. absurd (omega (arith, h)); up_to = λ k d h. absurd (omega (arith, h)) }

-- what the lists have after one more turn in a slot
module _ (n slot : ℕ) (row : Option ℕ) (turns : List (List Turn)) (h : slot < length turns) where
  abbrev pub turns_then : List (List Turn)
  turns_then = set turns slot (group turns slot ++ record { at = n; row = row } ∷ [])

  in_slot : group turns_then slot ≡ group turns slot ++ record { at = n; row = row } ∷ []
  in_slot = get_or-set_same turns slot (group turns slot ++ record { at = n; row = row } ∷ []) [] h

  in_other : (s : ℕ) → (s ≡ slot → ⊥) → group turns_then s ≡ group turns s
  in_other s apart = get_or-set_other turns slot s (group turns slot ++ record { at = n; row = row } ∷ []) [] apart

  then_ordered : ((s : ℕ) → AreUpTo n (group turns s)) → (s : ℕ) → AreUpTo n (group turns_then s)
  then_ordered up s = elim (cases_eq s slot) [
    | inl e ↦ subst (λ k. AreUpTo n (group turns_then k)) (sym e) (subst (AreUpTo n) (sym in_slot) (up_to_push n (group turns slot) row (up slot)))
    | inr apart ↦ subst (AreUpTo n) (sym (in_other s apart)) (up s)
  ]

  then_kept : (s m : ℕ) → m < n → turned None (group turns_then s) m ≡ turned None (group turns s) m
  then_kept s m less = elim (cases_eq s slot) [
    | inl e ↦ ap (λ k. turned None (group turns_then k) m) e ∙ ap (λ ts. turned None ts m) in_slot
        ∙ turned-push_later None (group turns slot) (record { at = n; row = row }) m less ∙ ap (λ k. turned None (group turns k) m) (sym e)
    | inr apart ↦ ap (λ ts. turned None ts m) (in_other s apart)
  ]

  then_last : last_row None (group turns_then slot) ≡ row
  then_last = ap (last_row None) in_slot ∙ last_row-push None (group turns slot) (record { at = n; row = row })

-- ---- a turn for each slot of a list

Contains-taken_from : (n : ℕ) (xs : List Own) (x : Own) → Contains (take n xs) x → Contains xs x
Contains-taken_from zero xs x c = absurd (Contains-nil x c)
Contains-taken_from (suc n) [] x c = absurd (Contains-nil x c)
Contains-taken_from (suc n) (y ∷ xs) x (zero, h, e) = (0, omega arith, e)
Contains-taken_from (suc n) (y ∷ xs) x (suc k, h, e) = let m = Contains-taken_from n xs x (k, omega (arith, h), e) in (suc m.0, omega (arith, m.1), m.2)

pub turned_none : (n : ℕ) (owns : List Own) (rows : Own → Option ℕ) (turns : List (List Turn)) → HaveTurned n (take 0 owns) rows turns turns
turned_none n owns rows turns = record {
  len = refl;
  ordered = λ up. up;
  kept = λ s m h. refl;
  changed = λ o c. absurd (Contains-nil o c);
  same = λ s none. refl;
}

module _ (n : ℕ) (owns : List Own) (rows : Own → Option ℕ) (old now : List (List Turn)) (i : ℕ) (d : Own) (h : i < length owns)
    (consistent : (a b : Own) → Contains owns a → Contains owns b → a.slot ≡ b.slot → rows a ≡ rows b)
    (slots : All (λ (o : Own). o.slot < length old) owns) (s : HaveTurned n (take i owns) rows old now) where
  abbrev pub own : Own
  own = get_or owns i d

  abbrev pub owns_then : List (List Turn)
  owns_then = set now own.slot (group now own.slot ++ record { at = n; row = rows own } ∷ [])

  own_within : own.slot < length now
  own_within = let lt = slots i d h in omega (arith, lt, s.len)

  pub turned_more : HaveTurned n (take (i + 1) owns) rows old owns_then
  turned_more = record {
    len = length-set now own.slot _ ∙ s.len;
    ordered = λ up. then_ordered n own.slot (rows own) now own_within (s.ordered up);
    kept = λ k m less. then_kept n own.slot (rows own) now own_within k m less ∙ s.kept k m less;
    changed = λ o c. elim (cases_eq o.slot own.slot) [
      | inl e ↦
          ap (λ k. last_row None (group owns_then k)) e ∙ then_last n own.slot (rows own) now own_within
          ∙ consistent own o (Contains-get_or owns i d h) (in_all o c) (sym e)
      | inr apart ↦ elim (Contains-take_more owns i d o h c) [
        | inl before ↦ ap (last_row None) (in_other n own.slot (rows own) now own_within o.slot apart) ∙ s.changed o before
        | inr is ↦ absurd (apart (ap (λ (x : Own). x.slot) (sym is)))
      ]
    ];
    same = λ k none.
        let apart : k ≡ own.slot → ⊥ = λ e. none own (Contains-take_last owns i d h) (sym e) in
        ap (last_row None) (in_other n own.slot (rows own) now own_within k apart) ∙ s.same k (λ o c. none o (Contains-take_kept owns i d o h c));
  }
    where
      in_all : (o : Own) → Contains (take (i + 1) owns) o → Contains owns o
      in_all o c = Contains-taken_from (i + 1) owns o c

  pub turned_more_by : (row : Option ℕ) → row ≡ rows own → HaveTurned n (take (i + 1) owns) rows old (set now own.slot (group now own.slot ++ record { at = n; row = row } ∷ []))
  turned_more_by row e = subst (λ r. HaveTurned n (take (i + 1) owns) rows old (set now own.slot (group now own.slot ++ record { at = n; row = r } ∷ []))) (sym e) turned_more

-- the row of a class before the number is still read
pub row_read : (n slot : ℕ) (old now : List (List Turn)) (above : Option ℕ) (over : ℕ) (row : Option ℕ) → above ≡ Some over → IfSome above (λ k. k < n)
    → ((s m : ℕ) → m < n → turned None (group now s) m ≡ turned None (group old s) m) → row ≡ turned None (group now slot) over → row ≡ row_over above (group old slot)
row_read n slot old now above over row is lower kept e =
    e ∙ kept slot over (subst (λ o. IfSome o (λ k. k < n)) is lower) ∙ sym (ap (λ o. row_over o (group old slot)) is)

-- one more slot
pub slots_more : (owns : List Own) (n : ℕ) → ((s : ℕ) → s < n → (o : Own) × Contains owns o × (o.slot ≡ s))
    → (s : ℕ) → s < n + 1 → (o : Own) × Contains (owns ++ record { slot = n; row = 0 } ∷ []) o × (o.slot ≡ s)
slots_more owns n before s h = elim (cases_eq s n) [
  | inl e ↦ (record { slot = n; row = 0 }, Contains-push owns (record { slot = n; row = 0 }), sym e)
  | inr apart ↦ let m = before s (omega (arith, h, apart)) in (m.0, Contains-append_left owns (record { slot = n; row = 0 } ∷ []) m.0 m.1, m.2)
]
