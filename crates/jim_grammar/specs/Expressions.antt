-- Grammars without recursion as expressions, the trees of an expression, and the tokens that a tree spells.
use Rattle.std.specs.Prelude.{◌≡◌, ℕ, ◌+◌, ◌≤◌, true, List, [], ◌∷◌, length, Option, Some, None}
use Rattle.jim_text.specs.declared.lead.Lead.{Lead}
use Rattle.jim_signs.specs.declared.seen.Sign.{Sign}
use Rattle.jim_grammar.specs.declared.set.LeadSet.{LeadSet}
use Rattle.jim_grammar.specs.Forms.{Kind, Form}
use Rattle.jim_grammar.specs.Sets.{is_in}

infixr 6 ◌·◌
-- nothing; a token of one class; one of a set; one after the other; one of the alternatives of a kind; any number; at most one; at most n;
-- and first some, then one, then some, with at most n of the first and the last kind together
pub data Re : Type 0 where
  Eps : Re
  Tok : Lead → Re
  One : LeadSet → Re
  ◌·◌ : Re → Re → Re
  Any : (k : Kind) → (Form k → Re) → Re
  Star : Re → Re
  Opt : Re → Re
  UpTo : ℕ → Re → Re
  Shared : ℕ → Re → Re → Re → Re

-- a token of a set
pub record Chosen (set : LeadSet) : Type 0 where
  pub lead : Lead
  pub text : ℕ
  pub is_in_set : is_in set lead ≡ true

-- at most n of them
pub record AtMost (n : ℕ) (A : Type 0) : Type 0 where
  pub items : List A
  pub few : length items ≤ n

-- a first list, a middle, a last list: at most n in both lists together
pub record Between (n : ℕ) (A B C : Type 0) : Type 0 where
  pub before : List A
  pub middle : B
  pub after : List C
  pub few : length before + length after ≤ n

-- the trees of an expression: what was chosen, what was repeated, and what each token names
abbrev pub Tree : Re → Type 0
Tree Eps = Unit {0}
Tree (Tok l) = ℕ
Tree (One set) = Chosen set
Tree (a · b) = Tree a × Tree b
Tree (Any k f) = (i : Form k) × Tree (f i)
Tree (Star a) = List (Tree a)
Tree (Opt a) = Option (Tree a)
Tree (UpTo n a) = AtMost n (Tree a)
Tree (Shared n a b c) = Between n (Tree a) (Tree b) (Tree c)

-- a token of a class that names so much
abbrev pub sign : Lead → ℕ → Sign
sign l x = record { lead = l; text = x }

-- what parts spell, one after the other, before a rest
abbrev pub spell_each : {A : Type 0} → (A → List Sign → List Sign) → List A → List Sign → List Sign
spell_each f [] r = r
spell_each f (x ∷ xs) r = f x (spell_each f xs r)

-- what a part spells before a rest, where it is there
abbrev pub spell_some : {A : Type 0} → (A → List Sign → List Sign) → Option A → List Sign → List Sign
spell_some f None r = r
spell_some f (Some x) r = f x r

-- what a tree spells, before the rest
abbrev pub spell : (e : Re) → Tree e → List Sign → List Sign
spell Eps t r = r
spell (Tok l) x r = sign l x ∷ r
spell (One set) t r = sign t.lead t.text ∷ r
spell (a · b) t r = spell a t.0 (spell b t.1 r)
spell (Any k f) t r = spell (f t.0) t.1 r
spell (Star a) xs r = spell_each (spell a) xs r
spell (Opt a) x r = spell_some (spell a) x r
spell (UpTo n a) t r = spell_each (spell a) t.items r
spell (Shared n a b c) t r = spell_each (spell a) t.before (spell b t.middle (spell_each (spell c) t.after r))
