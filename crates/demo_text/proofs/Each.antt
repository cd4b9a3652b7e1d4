-- The parts of boxes, one after another.
use Rattle.std.proofs.Common.{◌≡◌, ℕ, ◌+◌, ◌++◌, List, [], ◌∷◌, map, sym, ap, ◌∙◌, append_assoc, append-nil, arith}
use Rattle.std.specs.List.{concat, range_with_len}
use Rattle.std.proofs.lemmas.List.Folds.{concat-append}
use Rattle.std.proofs.lemmas.List.FromFn.{map-range_with_len_more}
use Rattle.demo_text.specs.Demo.{each_of}

-- the part of the next box stands behind those of the boxes before it
each_of-more : (part : ℕ → List ℕ) (n : ℕ) → each_of part (n + 1) ≡ each_of part n ++ part n
each_of-more part n =
    ap concat (map-range_with_len_more part 0 n n (omega arith)) ∙ concat-append (map part (range_with_len 0 n)) (part n ∷ [])
    ∙ ap (λ t. each_of part n ++ t) (append-nil (part n))

-- a text that grew by the parts of some boxes, and by that of the next
pub each_next : (part : ℕ → List ℕ) (n : ℕ) (old mid new : List ℕ) → mid ≡ old ++ each_of part n → new ≡ mid ++ part n → new ≡ old ++ each_of part (n + 1)
each_next part n old mid new p q =
    q ∙ ap (λ t. t ++ part n) p ∙ append_assoc old (each_of part n) (part n) ∙ ap (λ t. old ++ t) (sym (each_of-more part n))
