-- Elements with commas between them.
use Rattle.std.proofs.Common.{◌≡◌, ◌≢◌, ℕ, List, [], ◌∷◌, ◌++◌, sym, ap, ◌∙◌, append_assoc, append-nil}
use Rattle.jim_text.specs.declared.lead.Lead.TheVariants as lead
use Rattle.jim_signs.specs.declared.seen.Sign.{Sign}
use Rattle.jim_grammar.specs.Expressions.{Re, Tree, spell, spell_each, sign}
use Rattle.jim_grammar.specs.Grammar.{commas, comma_more}
use Rattle.jim_stmts.specs.Leads.{lead_at}
use Rattle.jim_stmts.specs.Meanings.{more_of, commas_of}

-- the elements that were read, and those that are left
pub record CommasLeft {V : Type 0} (a : Re) (f : Tree a → V) (all found : List V) (now r : List Sign) : Type 0 where
  pub left : List (Tree (comma_more a))
  pub rest : now ≡ spell_each (spell (comma_more a)) left r
  pub values : all ≡ found ++ more_of a f left

-- of what may follow the elements, it may also follow each of them
pub after_element : (a : Re) (P : List Sign → Type 0) (xs : List (Tree (comma_more a))) (r : List Sign) → P r → ((m : ℕ) (s : List Sign) → P (sign lead.Comma m ∷ s)) → P (spell_each (spell (comma_more a)) xs r)
after_element a P [] r p q = p
after_element a P ((m, (x, z)) ∷ xs) r p q = q m _

-- the first element was read
pub commas_begin : {V : Type 0} (a : Re) (f : Tree a → V) (P : List Sign → Type 0) (x : Tree (commas a)) (w now r : List Sign) (value : V) → w ≡ spell (commas a) x r → P r → ((m : ℕ) (s : List Sign) → P (sign lead.Comma m ∷ s))
    → ((y : Tree a) (s : List Sign) → w ≡ spell a y s → P s → value ≡ f y) → ((y : Tree a) (s : List Sign) → w ≡ spell a y s → P s → now ≡ s) → CommasLeft a f (commas_of a f x) (value ∷ []) now r
commas_begin a f P (y, (xs, z)) w now r value h p q v n =
    let follows = after_element a P xs r p q in
    record { left = xs; rest = n y _ h follows; values = ap (λ k. k ∷ more_of a f xs) (sym (v y _ h follows)) }

-- a comma and an element were read
pub commas_step : {V : Type 0} (a : Re) (f : Tree a → V) (P : List Sign → Type 0) (all found : List V) (w v now r : List Sign) (value : V) → CommasLeft a f all found w r → P r → ((m : ℕ) (s : List Sign) → P (sign lead.Comma m ∷ s))
    → lead_at r ≢ lead.Comma → lead_at w ≡ lead.Comma → ((t : Sign) (s : List Sign) → w ≡ t ∷ s → v ≡ s)
    → ((y : Tree a) (s : List Sign) → v ≡ spell a y s → P s → value ≡ f y) → ((y : Tree a) (s : List Sign) → v ≡ spell a y s → P s → now ≡ s) → CommasLeft a f all (found ++ value ∷ []) now r
commas_step {V} a f P all found w v now r value k p q n l skipped value_is now_is = go k.left k.rest k.values
  where
    go : (left : List (Tree (comma_more a))) → w ≡ spell_each (spell (comma_more a)) left r → all ≡ found ++ more_of a f left → CommasLeft a f all (found ++ value ∷ []) now r
    go [] h e = absurd (n (sym (ap lead_at h) ∙ l))
    go ((m, (y, z)) ∷ ys) h e =
        let at = skipped _ _ h in
        let follows = after_element a P ys r p q in
        record { left = ys; rest = now_is y _ at follows; values = rw (value_is y _ at follows, append_assoc) e }

-- no comma follows: all were read
pub commas_done : {V : Type 0} (a : Re) (f : Tree a → V) (all found : List V) (now r : List Sign) → CommasLeft a f all found now r → lead_at now ≢ lead.Comma → (found ≡ all) × (now ≡ r)
commas_done {V} a f all found now r k n = go k.left k.rest k.values
  where
    go : (left : List (Tree (comma_more a))) → now ≡ spell_each (spell (comma_more a)) left r → all ≡ found ++ more_of a f left → (found ≡ all) × (now ≡ r)
    go [] h e = (sym (rw append-nil at e), h)
    go ((m, (y, z)) ∷ ys) h e = absurd (n (ap lead_at h))

-- what may follow a name or an operand
abbrev pub Anything : List Sign → Type 0
Anything r = Unit {0}

-- what may follow a type
abbrev pub NoBracket : List Sign → Type 0
NoBracket r = lead_at r ≢ lead.OpenBracket
