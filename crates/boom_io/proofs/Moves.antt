-- What reads and writes in pieces do together.
use Rattle.std.proofs.Common.{◌≡◌, ℕ, ◌+◌, ◌<◌, min, List, [], ◌∷◌, ◌++◌, length, take, drop, refl, sym, arith, length-drop, take-append-drop}
use Rattle.std.proofs.lemmas.List.{drop-drop}
use Rattle.std.proofs.Math.Seq.{take-add}
use Rattle.std.proofs.KnownBytes.{Appends-trans, Consumes-trans}
use Rattle.std.specs.Io.KnownBytes.{Appends, Consumes}
use Rattle.std.specs.declared.option.Option.{Option}

-- one more write of the front of what is left to write
pub Appends-more : (a b c : Option (List ℕ)) (bytes : List ℕ) (done n : ℕ) → Appends a b (take done bytes) → Appends b c (take n (drop done bytes)) → Appends a c (take (done + n) bytes)
Appends-more a b c bytes done n p q = rw take-add (Appends-trans a b c _ _ p q)

-- one more read behind the bytes that are filled, which stay
pub Consumes-more : (a b c : Option (List ℕ)) (old new : List ℕ) (filled n : ℕ) → take filled new ≡ take filled old → Consumes a b (take filled old) → Consumes b c (take n (drop filled new)) → Consumes a c (take (filled + n) new)
Consumes-more a b c old new filled n same p q = rw (take-add, same) (Consumes-trans a b c _ _ p q)

-- a list with no element
pub nothing : (xs : List ℕ) → length xs ≡ 0 → xs ≡ []
nothing [] e = refl
nothing (x ∷ xs) e = absurd (omega (arith, e))

-- what is left, with the front that was read
pub front_read : (items to : List ℕ) (at n : ℕ) → take n to ≡ take n (drop at items) → drop at items ≡ take n to ++ drop (at + n) items
front_read items to at n e = rw (e, ← drop-drop n at items) (sym (take-append-drop n (drop at items)))

-- a read of nothing into a buffer that isn't empty
pub end_read : (items to : List ℕ) (at n most len : ℕ) → n ≡ min (min (length (drop at items)) most) len → 0 < most → 0 < len → n ≡ 0 → drop (at + n) items ≡ []
end_read items to at n most len e p q z =
    nothing _ (omega (arith, length-drop at items, length-drop (at + n) items))
