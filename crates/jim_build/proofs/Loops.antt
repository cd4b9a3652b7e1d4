-- Loops that read trees of one production, one after the other, until something else is next.
use Rattle.std.proofs.Common.{◌≡◌, List, [], ◌∷◌, ◌++◌, sym, append_assoc, append-nil}
use Rattle.jim_signs.specs.declared.seen.Sign.{Sign}
use Rattle.jim_grammar.specs.Expressions.{spell_each}

-- the trees that are left are next, and what was found is what the others mean
pub record Through {A V : Type 0} (f : A → List Sign → List Sign) (mean : List A → List V) (all : List A) (r now : List Sign) (found : List V) : Type 0 where
  pub left : List A
  pub is_next : now ≡ spell_each f left r
  pub is_found : mean all ≡ found ++ mean left

-- one more tree
pub through_more : {A V : Type 0} (f : A → List Sign → List Sign) (mean : List A → List V) (single : A → List V) (all : List A) (r now new : List Sign) (found after : List V)
    → ((y : A) (ys : List A) → mean (y ∷ ys) ≡ single y ++ mean ys)
    → Through f mean all r now found → (now ≡ r → ⊥)
    → ((y : A) (w : List Sign) → now ≡ f y w → after ≡ found ++ single y)
    → ((y : A) (w : List Sign) → now ≡ f y w → new ≡ w)
    → Through f mean all r new after
through_more {A} {V} f mean single all r now new found after split t differs means rest = go t.left t.is_next t.is_found
  where
    go : (left : List A) → now ≡ spell_each f left r → mean all ≡ found ++ mean left → Through f mean all r new after
    go [] h e = absurd (differs h)
    go (y ∷ ys) h e = record {
      left = ys;
      is_next = rest y _ h;
      is_found = rw (means y _ h, append_assoc, ← split y ys) e;
    }

-- no tree is next any more
pub through_end : {A V : Type 0} (f : A → List Sign → List Sign) (mean : List A → List V) (all : List A) (r now : List Sign) (found : List V)
    → mean [] ≡ []
    → Through f mean all r now found → ((y : A) (w : List Sign) → now ≡ f y w → ⊥)
    → (found ≡ mean all) × (now ≡ r)
through_end {A} {V} f mean all r now found none t ends = go t.left t.is_next t.is_found
  where
    go : (left : List A) → now ≡ spell_each f left r → mean all ≡ found ++ mean left → (found ≡ mean all) × (now ≡ r)
    go [] h e = (sym (rw (none, append-nil) at e), h)
    go (y ∷ ys) h e = absurd (ends y _ h)
