-- Elements one behind the other.
use Rattle.std.proofs.Common.{◌≡◌, List, [], ◌∷◌}
use Rattle.jim_signs.specs.declared.seen.Sign.{Sign}
use Rattle.jim_grammar.specs.Expressions.{Re, Tree, spell, spell_each}

-- the elements that are left, of which a fact holds
pub record EachLeft (a : Re) (So : List (Tree a) → Type 0) (now r : List Sign) : Type 0 where
  pub left : List (Tree a)
  pub rest : now ≡ spell_each (spell a) left r
  pub so : So left

-- more than the rest is left: an element comes next
pub each_next : (a : Re) (So : List (Tree a) → Type 0) (now r : List Sign) → EachLeft a So now r → ¬ (now ≡ r) → (x : Tree a) × (xs : List (Tree a)) × (now ≡ spell a x (spell_each (spell a) xs r)) × So (x ∷ xs)
each_next a So now r k n = go k.left k.rest k.so
  where
    go : (left : List (Tree a)) → now ≡ spell_each (spell a) left r → So left → (x : Tree a) × (xs : List (Tree a)) × (now ≡ spell a x (spell_each (spell a) xs r)) × So (x ∷ xs)
    go [] h s = absurd (n h)
    go (x ∷ xs) h s = (x, xs, h, s)

-- no element comes next: the rest is left
pub each_done : (a : Re) (So : List (Tree a) → Type 0) (now r : List Sign) → EachLeft a So now r → ((x : Tree a) (s : List Sign) → ¬ (now ≡ spell a x s)) → (now ≡ r) × So []
each_done a So now r k n = go k.left k.rest k.so
  where
    go : (left : List (Tree a)) → now ≡ spell_each (spell a) left r → So left → (now ≡ r) × So []
    go [] h s = (h, s)
    go (x ∷ xs) h s = absurd (n x _ h)
