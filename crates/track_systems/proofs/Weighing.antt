-- Each relation over sixteen states is some weight: not that one is found, which a relation alone doesn't tell, but that there can't be none.
use Rattle.std.proofs.Common.{◌≡◌, ℕ, zero, suc, ◌-◌, ◌<◌, ◌≤◌, ◌^◌, List, [], ◌∷◌, ◌++◌, length, length-append, get_or, refl, sym, ap, ◌∙◌, subst, inl, inr, arith}
use Rattle.std.specs.Int.{bit_at}
use Rattle.std.specs.Int.RustNames.{bit_or}
use Rattle.std.proofs.lemmas.Nat.{or_lt, pow_below}
use Rattle.std.proofs.lemmas.Nat.Bits.{bit_at-pow_same}
use Rattle.std.proofs.lemmas.List.{get_or-append_right, get_or_append_left, get_or_past}
use Rattle.std.proofs.lemmas.Bool.{cases_order}
use Rattle.weight_laws.specs.declared.rel.Rel.{Rel}
use Rattle.weight_laws.specs.RelLaws.{no_bit, or_cases, or_left, or_right, pow_bit}
use Rattle.track_systems.specs.Values.{IsWeight}

-- there can't be none
abbrev pub CanBe : Type 0 → Type 0
CanBe P = (P → ⊥) → ⊥

-- a word with the bits of those of the first states that have the fact
record HasWord (Fact : ℕ → Type 0) (n : ℕ) : Type 0 where
  word : ℕ
  fits : word < 2 ^ 16
  there : (j : ℕ) → bit_at word j ≡ 1 → (j < n) × Fact j
  back : (j : ℕ) → j < n → Fact j → bit_at word j ≡ 1

word_can_be : (Fact : ℕ → Type 0) (n : ℕ) → n ≤ 16 → CanBe (HasWord Fact n)
word_can_be Fact zero few = λ fails. fails (record {
  word = 0;
  fits = omega arith;
  there = λ j h. absurd (no_bit j h);
  back = λ j below fact. absurd (omega (arith, below));
})
word_can_be Fact (suc n) few = λ fails. word_can_be Fact n (omega (arith, few)) (λ w.
    let without : Fact n → ⊥ = λ fact. fails (record {
      word = bit_or w.word (2 ^ n);
      fits = or_lt 16 w.word (2 ^ n) w.fits (pow_below n 16 (omega (arith, few)));
      there = λ j h. elim (or_cases w.word (2 ^ n) j h) [
        | inl old ↦ let t = w.there j old in (omega (arith, t.0), t.1)
        | inr last ↦ let is = pow_bit n j last in (omega (arith, is), subst Fact (sym is) fact)
      ];
      back = λ j below holds. elim (cases_order j n) [
        | inl same ↦ or_right w.word (2 ^ n) j (subst (λ (m : ℕ). bit_at (2 ^ m) j ≡ 1) same (bit_at-pow_same j))
        | inr apart ↦ elim apart [ inl less ↦ or_left w.word (2 ^ n) j (w.back j less holds) | inr more ↦ absurd (omega (arith, below, more)) ]
      ];
    }) in
    fails (record {
      word = w.word;
      fits = w.fits;
      there = λ j h. let t = w.there j h in (omega (arith, t.0), t.1);
      back = λ j below holds. elim (cases_order j n) [
        | inl same ↦ absurd (without (subst Fact same holds))
        | inr apart ↦ elim apart [ inl less ↦ w.back j less holds | inr more ↦ absurd (omega (arith, below, more)) ]
      ];
    }))

-- so many words of a relation
record HasWords (Leads : ℕ → ℕ → Type 0) (n : ℕ) : Type 0 where
  words : List ℕ
  many : length words ≡ n
  fits : (i : ℕ) → get_or words i 0 < 2 ^ 16
  there : (i j : ℕ) → i < n → bit_at (get_or words i 0) j ≡ 1 → Leads i j
  back : (i j : ℕ) → i < n → j < 16 → Leads i j → bit_at (get_or words i 0) j ≡ 1

words_can_be : (Leads : ℕ → ℕ → Type 0) (n : ℕ) → CanBe (HasWords Leads n)
words_can_be Leads zero = λ fails. fails (record {
  words = [];
  many = refl;
  fits = λ i. omega arith;
  there = λ i j below. absurd (omega (arith, below));
  back = λ i j below. absurd (omega (arith, below));
})
words_can_be Leads (suc n) = λ fails. words_can_be Leads n (λ ws. word_can_be (Leads n) 16 (omega arith) (λ w. fails (longer ws w)))
  where
    longer : HasWords Leads n → HasWord (Leads n) 16 → HasWords Leads (suc n)
    longer ws w = record {
      words = ws.words ++ w.word ∷ [];
      many = omega (arith, length-append ws.words (w.word ∷ []), ws.many);
      fits = λ i. elim (cases_order i n) [
        | inl same ↦ subst (λ (v : ℕ). v < 2 ^ 16) (sym (last i same)) w.fits
        | inr apart ↦ elim apart [
          | inl less ↦ subst (λ (v : ℕ). v < 2 ^ 16) (sym (first i less)) (ws.fits i)
          | inr more ↦ subst (λ (v : ℕ). v < 2 ^ 16) (sym (get_or_past (ws.words ++ w.word ∷ []) i 0 (omega (arith, length-append ws.words (w.word ∷ []), ws.many, more)))) (omega arith)
        ]
      ];
      there = λ i j below h. elim (cases_order i n) [
        | inl same ↦ subst (λ (m : ℕ). Leads m j) (sym same) (w.there j (subst (λ (v : ℕ). bit_at v j ≡ 1) (last i same) h)).1
        | inr apart ↦ elim apart [
          | inl less ↦ ws.there i j less (subst (λ (v : ℕ). bit_at v j ≡ 1) (first i less) h)
          | inr more ↦ absurd (omega (arith, below, more))
        ]
      ];
      back = λ i j below small leads. elim (cases_order i n) [
        | inl same ↦ subst (λ (v : ℕ). bit_at v j ≡ 1) (sym (last i same)) (w.back j small (subst (λ (m : ℕ). Leads m j) same leads))
        | inr apart ↦ elim apart [
          | inl less ↦ subst (λ (v : ℕ). bit_at v j ≡ 1) (sym (first i less)) (ws.back i j less small leads)
          | inr more ↦ absurd (omega (arith, below, more))
        ]
      ];
    }
      where
        first : (i : ℕ) → i < n → get_or (ws.words ++ w.word ∷ []) i 0 ≡ get_or ws.words i 0
        first i less = get_or_append_left ws.words (w.word ∷ []) 0 i (omega (arith, less, ws.many))

        last : (i : ℕ) → i ≡ n → get_or (ws.words ++ w.word ∷ []) i 0 ≡ w.word
        last i same =
            get_or-append_right ws.words (w.word ∷ []) n i 0 ws.many (omega (arith, same))
            ∙ ap (λ (m : ℕ). get_or (w.word ∷ []) m 0) (let e : i - n ≡ 0 = omega (arith, same) in e)

-- so each relation can be a weight
pub weight_can_be : (Leads : ℕ → ℕ → Type 0) → CanBe ((w : Rel) × IsWeight w Leads)
weight_can_be Leads fails = words_can_be Leads 16 (λ ws. fails (
  record { 0 = ws.words },
  record {
    meant = record { sixteen = ws.many; fits = ws.fits };
    each = λ i j low small. (λ h. ws.there i j low h, λ leads. ws.back i j low small leads);
  },
))
