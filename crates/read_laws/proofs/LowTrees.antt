-- The numbers in a tree whose tokens have numbers below a bound.
use Rattle.std.proofs.Common.{ℕ, List, [], ◌∷◌, Some, None, IfSome}
use Rattle.std.specs.List.{AllByRecursion}
use Rattle.jim_signs.specs.declared.seen.Sign.{Sign}
use Rattle.jim_signs.specs.Signs.{IsBelow}
use Rattle.jim_grammar.specs.Expressions.{Re, Eps, Tok, One, ◌·◌, Any, Star, Opt, UpTo, Shared, Tree, spell, spell_each, sign}

-- each token of the tree that is a name or a text has a number below the bound
abbrev pub IsLow : ℕ → (e : Re) → Tree e → Type 0
IsLow n Eps t = Unit {0}
IsLow n (Tok l) x = IsBelow n (sign l x)
IsLow n (One set) t = IsBelow n (sign t.lead t.text)
IsLow n (a · b) t = IsLow n a t.0 × IsLow n b t.1
IsLow n (Any k f) t = IsLow n (f t.0) t.1
IsLow n (Star a) xs = AllByRecursion (IsLow n a) xs
IsLow n (Opt a) x = IfSome x (IsLow n a)
IsLow n (UpTo m a) t = AllByRecursion (IsLow n a) t.items
IsLow n (Shared m a b c) t = AllByRecursion (IsLow n a) t.before × IsLow n b t.middle × AllByRecursion (IsLow n c) t.after

-- signs with numbers below the bound
abbrev pub AreLow : ℕ → List Sign → Type 0
AreLow n signs = AllByRecursion (IsBelow n) signs

-- repeated trees are low, and so is what stands behind them
low_each : (n : ℕ) (a : Re) → ((x : Tree a) (r : List Sign) → AreLow n (spell a x r) → IsLow n a x × AreLow n r) → (xs : List (Tree a)) (r : List Sign)
    → AreLow n (spell_each (spell a) xs r) → AllByRecursion (IsLow n a) xs × AreLow n r
low_each n a one [] r h = (tt, h)
low_each n a one (x ∷ xs) r h =
    let first = one x (spell_each (spell a) xs r) h in
    let more = low_each n a one xs r first.1 in
    ((first.0, more.0), more.1)

-- a tree that spells low signs is low, and so are the signs behind it
pub low_spell : (n : ℕ) (e : Re) (t : Tree e) (r : List Sign) → AreLow n (spell e t r) → IsLow n e t × AreLow n r
low_spell n Eps t r h = (tt, h)
low_spell n (Tok l) x r h = h
low_spell n (One set) t r h = h
low_spell n (a · b) (x, y) r h =
    let first = low_spell n a x (spell b y r) h in
    let second = low_spell n b y r first.1 in
    ((first.0, second.0), second.1)
low_spell n (Any k f) (i, x) r h = low_spell n (f i) x r h
low_spell n (Star a) xs r h = low_each n a (λ x r h. low_spell n a x r h) xs r h
low_spell n (Opt a) None r h = (tt, h)
low_spell n (Opt a) (Some x) r h = low_spell n a x r h
low_spell n (UpTo m a) t r h = low_each n a (λ x r h. low_spell n a x r h) t.items r h
low_spell n (Shared m a b c) t r h =
    let first = low_each n a (λ x r h. low_spell n a x r h) t.before (spell b t.middle (spell_each (spell c) t.after r)) h in
    let second = low_spell n b t.middle (spell_each (spell c) t.after r) first.1 in
    let third = low_each n c (λ x r h. low_spell n c x r h) t.after r second.1 in
    ((first.0, second.0, third.0), third.1)
