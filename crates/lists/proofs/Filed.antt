-- Keys on the chains of their slots.
use Rattle.std.proofs.Common.{◌≡◌, ◌≢◌, ℕ, suc, ◌<◌, ◌≤◌, List, [], ◌∷◌, ◌++◌, length, get_or, sym, ap, ◌∙◌, subst, inl, inr, arith, get_or-set_same, get_or-set_other, length-append}
use Rattle.std.specs.List.{slice_set}
use Rattle.std.proofs.lemmas.Bool.{cases_eq}
use Rattle.std.proofs.lemmas.List.{length-set}
use Rattle.lists.specs.Chains.{IsFiled, OnChain, slot_of}
use Rattle.lists.specs.Chains.OnChain.{here, behind}
use Rattle.lists.proofs.Places.{slice_get-pushed}

-- chains of numbers below one stay, whatever stands behind that one
OnChain-set : (next : List ℕ) (n v : ℕ) → ((j : ℕ) → get_or next j 0 ≤ j) → {at i : ℕ} → at ≤ n → OnChain next at i → OnChain (slice_set next n v) at i
OnChain-set next n v falls le (here i) = here i
OnChain-set next n v falls le (behind i j rest) =
    let other : j ≢ n = λ e. omega (arith, le, e) in
    behind i j (subst (λ at. OnChain (slice_set next n v) at i) (sym (get_or-set_other next n j v 0 other)) (OnChain-set next n v falls (omega (arith, falls j, le)) rest))

module _ {K : Type 0} (spread : K → ℕ) (keys : List K) (heads next : List ℕ) (key : K) (number : ℕ) (filed : IsFiled spread keys heads next) (last : number ≡ length keys) (room : number < length next)
    (slot : ℕ) (is_slot : slot ≡ slot_of (spread key) (length heads)) (within : slot < length heads) (first : ℕ) (reads : first ≡ get_or heads slot 0) (up : ℕ) (next_up : up ≡ suc number) where
  abbrev pub grown_heads : List ℕ
  grown_heads = slice_set heads slot up

  abbrev pub grown_next : List ℕ
  grown_next = slice_set next number first

  -- the slot begins with the new number
  begins : get_or grown_heads slot 0 ≡ suc number
  begins = get_or-set_same heads slot up 0 within ∙ next_up

  -- an old key stands on the chain of its slot, behind the new one or where it stood
  old_each : (i s : ℕ) → OnChain next (get_or heads s 0) i → OnChain grown_next (get_or grown_heads s 0) i
  old_each i s on =
      let kept : OnChain grown_next (get_or heads s 0) i = OnChain-set next number first filed.falls (omega (arith, filed.low s, last)) on in
      elim (cases_eq s slot) [
        | inl e ↦
            let rest : OnChain grown_next (get_or grown_next number 0) i
            = subst (λ a. OnChain grown_next a i) (ap (λ t. get_or heads t 0) e ∙ sym reads ∙ sym (get_or-set_same next number first 0 room)) kept in
            subst (λ a. OnChain grown_next a i) (sym (ap (λ t. get_or grown_heads t 0) e ∙ begins)) (behind i number rest)
        | inr ne ↦ subst (λ a. OnChain grown_next a i) (sym (get_or-set_other heads slot s up 0 ne)) kept
      ]

  -- the new key is the first of its chain
  new_each : OnChain grown_next (get_or grown_heads slot 0) number
  new_each = subst (λ a. OnChain grown_next a number) (sym begins) (here number)

  -- a further key is put first on its chain
  pub IsFiled-put : IsFiled spread (keys ++ key ∷ []) grown_heads grown_next
  IsFiled-put = record {
    as_many = length-set next number first ∙ filed.as_many ∙ sym (length-set heads slot up);
    within = omega (arith, length-set next number first, length-append keys (key ∷ []), last, room);
    low = λ s. elim (cases_eq s slot) [
      | inl e ↦ omega (arith, ap (λ t. get_or grown_heads t 0) e, begins, length-append keys (key ∷ []), last)
      | inr ne ↦ omega (arith, get_or-set_other heads slot s up 0 ne, filed.low s, length-append keys (key ∷ []))
    ];
    falls = λ i. elim (cases_eq i number) [
      | inl e ↦ omega (arith, ap (λ t. get_or grown_next t 0) e, get_or-set_same next number first 0 room, filed.low slot, reads, last, e)
      | inr ne ↦ omega (arith, get_or-set_other next number i first 0 ne, filed.falls i)
    ];
    each = λ i k at. rw (length-set heads slot up) (elim (slice_get-pushed keys key i k at) [
      | inl old ↦ old_each i (slot_of (spread k) (length heads)) (filed.each i k old)
      | inr new ↦
          let here_now : OnChain grown_next (get_or grown_heads (slot_of (spread key) (length heads)) 0) number = subst (λ s. OnChain grown_next (get_or grown_heads s 0) number) is_slot new_each in
          rw (new.1, new.0 ∙ sym last) here_now
    ]);
  }
