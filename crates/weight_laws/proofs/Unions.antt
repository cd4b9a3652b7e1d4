-- Where sets of four states lead, and where a word leads by four of them.
use Rattle.std.proofs.Common.{◌≡◌, ◌∙◌, ℕ, zero, suc, ◌+◌, ◌/◌, ◌^◌, ◌<◌, min, List, [], ◌∷◌, get_or, drop, cond, eqb, ◌%◌, refl, sym, ap, arith}
use Rattle.std.specs.Int.{bit_at}
use Rattle.std.specs.Int.RustNames.{bit_and, bit_or}
use Rattle.std.proofs.lemmas.List.{get_or-drop}
use Rattle.std.proofs.lemmas.Nat.{shr-shr}
use Rattle.std.proofs.lemmas.Nat.Bits.{bit_at_and, bit_at_ones, bit_at-lt}
use Rattle.weight_laws.specs.Rel.{reached}
use Rattle.weight_laws.specs.RelLaws.{or_assoc, or_comm, or_none}

none_or : (a : ℕ) → bit_or 0 a ≡ a
none_or a = or_comm 0 a ∙ or_none a

-- what holds of each number below sixteen
each_16 : (P : ℕ → Type 0) → P 0 → P 1 → P 2 → P 3 → P 4 → P 5 → P 6 → P 7 → P 8 → P 9 → P 10 → P 11 → P 12 → P 13 → P 14 → P 15 → (k : ℕ) → k < 16 → P k
each_16 P p0 p1 p2 p3 p4 p5 p6 p7 p8 p9 p10 p11 p12 p13 p14 p15 zero low = p0
each_16 P p0 p1 p2 p3 p4 p5 p6 p7 p8 p9 p10 p11 p12 p13 p14 p15 (suc zero) low = p1
each_16 P p0 p1 p2 p3 p4 p5 p6 p7 p8 p9 p10 p11 p12 p13 p14 p15 (suc (suc zero)) low = p2
each_16 P p0 p1 p2 p3 p4 p5 p6 p7 p8 p9 p10 p11 p12 p13 p14 p15 (suc (suc (suc zero))) low = p3
each_16 P p0 p1 p2 p3 p4 p5 p6 p7 p8 p9 p10 p11 p12 p13 p14 p15 (suc (suc (suc (suc zero)))) low = p4
each_16 P p0 p1 p2 p3 p4 p5 p6 p7 p8 p9 p10 p11 p12 p13 p14 p15 (suc (suc (suc (suc (suc zero))))) low = p5
each_16 P p0 p1 p2 p3 p4 p5 p6 p7 p8 p9 p10 p11 p12 p13 p14 p15 (suc (suc (suc (suc (suc (suc zero)))))) low = p6
each_16 P p0 p1 p2 p3 p4 p5 p6 p7 p8 p9 p10 p11 p12 p13 p14 p15 (suc (suc (suc (suc (suc (suc (suc zero))))))) low = p7
each_16 P p0 p1 p2 p3 p4 p5 p6 p7 p8 p9 p10 p11 p12 p13 p14 p15 (suc (suc (suc (suc (suc (suc (suc (suc zero)))))))) low = p8
each_16 P p0 p1 p2 p3 p4 p5 p6 p7 p8 p9 p10 p11 p12 p13 p14 p15 (suc (suc (suc (suc (suc (suc (suc (suc (suc zero))))))))) low = p9
each_16 P p0 p1 p2 p3 p4 p5 p6 p7 p8 p9 p10 p11 p12 p13 p14 p15 (suc (suc (suc (suc (suc (suc (suc (suc (suc (suc zero)))))))))) low = p10
each_16 P p0 p1 p2 p3 p4 p5 p6 p7 p8 p9 p10 p11 p12 p13 p14 p15 (suc (suc (suc (suc (suc (suc (suc (suc (suc (suc (suc zero))))))))))) low = p11
each_16 P p0 p1 p2 p3 p4 p5 p6 p7 p8 p9 p10 p11 p12 p13 p14 p15 (suc (suc (suc (suc (suc (suc (suc (suc (suc (suc (suc (suc zero)))))))))))) low = p12
each_16 P p0 p1 p2 p3 p4 p5 p6 p7 p8 p9 p10 p11 p12 p13 p14 p15 (suc (suc (suc (suc (suc (suc (suc (suc (suc (suc (suc (suc (suc zero))))))))))))) low = p13
each_16 P p0 p1 p2 p3 p4 p5 p6 p7 p8 p9 p10 p11 p12 p13 p14 p15 (suc (suc (suc (suc (suc (suc (suc (suc (suc (suc (suc (suc (suc (suc zero)))))))))))))) low = p14
each_16 P p0 p1 p2 p3 p4 p5 p6 p7 p8 p9 p10 p11 p12 p13 p14 p15 (suc (suc (suc (suc (suc (suc (suc (suc (suc (suc (suc (suc (suc (suc (suc zero))))))))))))))) low = p15
each_16 P p0 p1 p2 p3 p4 p5 p6 p7 p8 p9 p10 p11 p12 p13 p14 p15 (suc (suc (suc (suc (suc (suc (suc (suc (suc (suc (suc (suc (suc (suc (suc (suc k)))))))))))))))) low = absurd (omega arith)

-- the words of the sets of four, by their bits
abbrev pub unions_of : ℕ → ℕ → ℕ → ℕ → List ℕ
unions_of a b c d =
    0 ∷ a ∷ b ∷ bit_or a b ∷ c ∷ bit_or a c ∷ bit_or b c ∷ bit_or (bit_or a b) c
    ∷ d ∷ bit_or a d ∷ bit_or b d ∷ bit_or (bit_or a b) d ∷ bit_or c d ∷ bit_or a (bit_or c d) ∷ bit_or b (bit_or c d) ∷ bit_or (bit_or a b) (bit_or c d) ∷ []

union-each : (a b c d set : ℕ) → set < 16 → get_or (unions_of a b c d) set 0 ≡ reached set (a ∷ b ∷ c ∷ d ∷ []) 4
union-each a b c d = each_16 (λ set. get_or (unions_of a b c d) set 0 ≡ reached set (a ∷ b ∷ c ∷ d ∷ []) 4)
    (simp or_none) (simp (or_none, none_or)) (simp (or_none, none_or)) (simp (or_none, none_or)) (simp (or_none, none_or)) (simp (or_none, none_or)) (simp (or_none, none_or)) (simp (or_none, none_or)) (simp (or_none, none_or)) (simp (or_none, none_or)) (simp (or_none, none_or)) (simp (none_or, or_assoc)) (simp (or_none, none_or, or_assoc)) (simp (none_or, or_assoc)) (simp (none_or, or_assoc)) (simp (or_none, none_or, or_assoc))

-- a word is read at its bits, and a relation at its states
reached_same : (v w : ℕ) (r s : List ℕ) (n : ℕ) → ((i : ℕ) → i < n → bit_at v i ≡ bit_at w i) → ((i : ℕ) → i < n → get_or r i 0 ≡ get_or s i 0) → reached v r n ≡ reached w s n
reached_same v w r s zero e f = refl
reached_same v w r s (suc n) e f =
    let before : reached v r n ≡ reached w s n = reached_same v w r s n (λ i h. e i (omega arith)) (λ i h. f i (omega arith)) in
    let bit : bit_at v n ≡ bit_at w n = e n (omega arith) in
    let word : get_or r n 0 ≡ get_or s n 0 = f n (omega arith) in
    cc

-- four words of the relation from one on
four_of : (r : List ℕ) (n i : ℕ) → i < 4 → get_or (get_or r n 0 ∷ get_or r (n + 1) 0 ∷ get_or r (n + 2) 0 ∷ get_or r (n + 3) 0 ∷ []) i 0 ≡ get_or (drop n r) i 0
four_of r n zero h = ap (λ (k : ℕ). get_or r k 0) (let e : n ≡ n + 0 = omega arith in e) ∙ sym (get_or-drop n r 0 0)
four_of r n (suc zero) h = sym (get_or-drop n r 1 0)
four_of r n (suc (suc zero)) h = sym (get_or-drop n r 2 0)
four_of r n (suc (suc (suc zero))) h = sym (get_or-drop n r 3 0)
four_of r n (suc (suc (suc (suc i)))) h = absurd (omega arith)

pub unions_at : (r : List ℕ) (n set : ℕ) → set < 16 → get_or (unions_of (get_or r n 0) (get_or r (n + 1) 0) (get_or r (n + 2) 0) (get_or r (n + 3) 0)) set 0 ≡ reached set (drop n r) 4
unions_at r n set h = union-each _ _ _ _ set h ∙ reached_same set set (get_or r n 0 ∷ get_or r (n + 1) 0 ∷ get_or r (n + 2) 0 ∷ get_or r (n + 3) 0 ∷ []) (drop n r) 4 (λ i k. refl) (four_of r n)

-- the states from n on are those of the word without its first n bits
reached_split : (w : ℕ) (r : List ℕ) (n m : ℕ) → reached w r (n + m) ≡ bit_or (reached w r n) (reached (w / 2 ^ n) (drop n r) m)
reached_split w r n zero = let e : n + 0 ≡ n = omega arith in ap (reached w r) e ∙ sym (or_none _)
reached_split w r n (suc m) =
    let e : n + suc m ≡ suc (n + m) = omega arith in
    let bit : bit_at w (n + m) ≡ bit_at (w / 2 ^ n) m = sym (ap (λ (x : ℕ). x % 2) (shr-shr w n m)) in
    let word : get_or r (n + m) 0 ≡ get_or (drop n r) m 0 = sym (get_or-drop n r m 0) in
    ap (reached w r) e
    ∙ ap (λ (x : ℕ). bit_or x (cond (eqb (bit_at w (n + m)) 1) (get_or r (n + m) 0) 0)) (reached_split w r n m)
    ∙ ap (λ (x : ℕ). bit_or (bit_or (reached w r n) (reached (w / 2 ^ n) (drop n r) m)) (cond (eqb x 1) (get_or r (n + m) 0) 0)) bit
    ∙ ap (λ (x : ℕ). bit_or (bit_or (reached w r n) (reached (w / 2 ^ n) (drop n r) m)) (cond (eqb (bit_at (w / 2 ^ n) m) 1) x 0)) word
    ∙ or_assoc (reached w r n) (reached (w / 2 ^ n) (drop n r) m) (cond (eqb (bit_at (w / 2 ^ n) m) 1) (get_or (drop n r) m 0) 0)

-- four bits are enough for four states
reached_low : (w : ℕ) (r : List ℕ) → reached w r 4 ≡ reached (bit_and w 15) r 4
reached_low w r = reached_same w (bit_and w 15) r r 4 (λ i h. sym (low i h)) (λ i h. refl)
  where
    low : (i : ℕ) → i < 4 → bit_at (bit_and w 15) i ≡ bit_at w i
    low i h =
        let one : bit_at 15 i ≡ 1 = bit_at_ones 4 i h in
        let both : bit_at (bit_and w 15) i ≡ min (bit_at w i) (bit_at 15 i) = bit_at_and w 15 i in
        let fits : bit_at w i < 2 = bit_at-lt w i in
        omega arith

-- a word leads where its four sets of four lead
pub reached_fours : (w : ℕ) (r : List ℕ)
    → bit_or (bit_or (bit_or (reached (bit_and w 15) (drop 0 r) 4) (reached (bit_and (w / 2 ^ 4) 15) (drop 4 r) 4)) (reached (bit_and (w / 2 ^ 8) 15) (drop 8 r) 4)) (reached (w / 2 ^ 12) (drop 12 r) 4) ≡ reached w r 16
reached_fours w r =
    sym (reached_split w r 12 4
    ∙ ap (λ (x : ℕ). bit_or x (reached (w / 2 ^ 12) (drop 12 r) 4)) (reached_split w r 8 4
    ∙ ap (λ (x : ℕ). bit_or x (reached (w / 2 ^ 8) (drop 8 r) 4)) (reached_split w r 4 4
    ∙ ap (λ (x : ℕ). bit_or x (reached (w / 2 ^ 4) (drop 4 r) 4)) (reached_low w r)
    ∙ ap (bit_or (reached (bit_and w 15) r 4)) (reached_low (w / 2 ^ 4) (drop 4 r)))
    ∙ ap (bit_or (bit_or (reached (bit_and w 15) r 4) (reached (bit_and (w / 2 ^ 4) 15) (drop 4 r) 4))) (reached_low (w / 2 ^ 8) (drop 8 r))))
