-- What is left of an expression behind a token of a class: stacks of expressions, the one that is next last.
use Rattle.std.specs.Prelude.{◌≡◌, ℕ, suc, List, [], ◌∷◌, true}
use Rattle.jim_text.specs.declared.lead.Lead.{Lead}
use Rattle.jim_signs.specs.declared.seen.Sign.{Sign}
use Rattle.jim_grammar.specs.declared.set.LeadSet.{LeadSet}
use Rattle.jim_grammar.specs.Forms.{Kind, Form}
use Rattle.jim_grammar.specs.Sets.{is_in}
use Rattle.jim_grammar.specs.Expressions.{Re, Eps, Tok, One, ◌·◌, Any, Star, Opt, UpTo, Shared, Tree, spell}

-- an expression that may be empty
pub data Null : Re → Type 0 where
  null_eps : Null Eps
  null_both : {a b : Re} → Null a → Null b → Null (a · b)
  null_any : {k : Kind} {f : Form k → Re} (i : Form k) → Null (f i) → Null (Any k f)
  null_star : {a : Re} → Null (Star a)
  null_opt : {a : Re} → Null (Opt a)
  null_upto : {n : ℕ} {a : Re} → Null (UpTo n a)
  null_shared : {n : ℕ} {a b c : Re} → Null b → Null (Shared n a b c)

-- behind a token of class l the expression goes on with the stack
pub data Step (l : Lead) : Re → List Re → Type 0 where
  tok : Step l (Tok l) []
  one : {set : LeadSet} → is_in set l ≡ true → Step l (One set) []
  first : {a b : Re} {s : List Re} → Step l a s → Step l (a · b) (b ∷ s)
  second : {a b : Re} {s : List Re} → Null a → Step l b s → Step l (a · b) s
  any : {k : Kind} {f : Form k → Re} {s : List Re} (i : Form k) → Step l (f i) s → Step l (Any k f) s
  again : {a : Re} {s : List Re} → Step l a s → Step l (Star a) (Star a ∷ s)
  some : {a : Re} {s : List Re} → Step l a s → Step l (Opt a) s
  fewer : {n : ℕ} {a : Re} {s : List Re} → Step l a s → Step l (UpTo (suc n) a) (UpTo n a ∷ s)
  before : {n : ℕ} {a b c : Re} {s : List Re} → Step l a s → Step l (Shared (suc n) a b c) (Shared n a b c ∷ s)
  middle : {n : ℕ} {a b c : Re} {s : List Re} → Step l b s → Step l (Shared n a b c) (UpTo n c ∷ s)
  after : {n : ℕ} {a b c : Re} {s : List Re} → Null b → Step l c s → Step l (Shared (suc n) a b c) (UpTo n c ∷ s)

-- the stack takes the tokens down to the rest
abbrev pub Reads : List Re → List Sign → List Sign → Type 0
Reads [] w m = w ≡ m
Reads (b ∷ s) w m = (v : List Sign) × Reads s w v × (x : Tree b) × (v ≡ spell b x m)
