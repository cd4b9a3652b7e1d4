-- The machine's entries and stacks, and what a step adds to a list of stacks. No clause of a public function speaks of these: they are how the recogniser reads.
use Rattle.std.specs.Prelude.{◌≡◌, ℕ, zero, suc, ◌+◌, ◌⊎◌, List, [], ◌∷◌, ◌++◌, map, Vec}
use Rattle.std.specs.declared.alloc.Global.{Global}
use Rattle.jim_text.specs.declared.lead.Lead.{Lead}
use Rattle.jim_signs.specs.declared.seen.Sign.{Sign}
use Rattle.jim_grammar.specs.declared.machine.Entry.{Entry}
use Rattle.jim_grammar.specs.Forms.{forms}
use Rattle.jim_grammar.specs.Expressions.{Re, Eps, Tok, One, ◌·◌, Any, Star, Opt, UpTo, Shared}
use Rattle.jim_grammar.specs.Residuals.{Null, Step, Reads}
use Rattle.jim_grammar.specs.Refusals.{Derives}
use Rattle.jim_grammar.specs.Items.{re}

-- an expression without the first parts of its sequence
abbrev pub rest_of : ℕ → Re → Re
rest_of zero r = r
rest_of (suc k) (a · b) = rest_of k b
rest_of (suc k) r = r

abbrev pub re_entry : Entry → Re
re_entry e = rest_of e.at (re e.item)

abbrev pub entries : List Entry → List Re
entries es = map re_entry es

abbrev pub stacks : List (Vec Entry Global) → List (List Re)
stacks vs = map (λ v. entries v.items) vs

-- x is in the list
pub data In {A : Type 0} (x : A) : List A → Type 0 where
  here : {xs : List A} → In x (x ∷ xs)
  there : {y : A} {xs : List A} → In x xs → In x (y ∷ xs)

-- new is old with the stacks that a token of class l leaves of e over the stack b
pub record Adds (l : Lead) (e : Re) (b : List Re) (old new : List (List Re)) : Type 0 where
  pub found : (s : List Re) → In s new → In s old ⊎ ((z : List Re) × Step l e z × (s ≡ b ++ z))
  pub all : (z : List Re) → Step l e z → In (b ++ z) new
  pub kept : (s : List Re) → In s old → In s new

-- a number that is less for each part of an expression
abbrev pub total : {A : Type 0} → (A → ℕ) → List A → ℕ
total f [] = 0
total f (x ∷ xs) = f x + total f xs

abbrev pub size : Re → ℕ
size Eps = 1
size (Tok l) = 1
size (One s) = 1
size (a · b) = 1 + size a + size b
size (Any k f) = 1 + total (λ i. 1 + size (f i)) (forms k)
size (Star a) = 1 + size a
size (Opt a) = 1 + size a
size (UpTo n a) = 1 + size a
size (Shared n a b c) = 1 + size a + size b + size c

-- one of the expressions may be empty
pub record NullAny (es : List Re) : Type 0 where
  pub which : Re
  pub is_one : In which es
  pub null : Null which

-- what a step adds of each of the expressions
pub record AddsAny (l : Lead) (es : List Re) (b : List Re) (old new : List (List Re)) : Type 0 where
  pub found : (s : List Re) → In s new → In s old ⊎ ((e : Re) × (z : List Re) × In e es × Step l e z × (s ≡ b ++ z))
  pub all : (e : Re) (z : List Re) → In e es → Step l e z → In (b ++ z) new
  pub kept : (s : List Re) → In s old → In s new

-- one of the stacks takes all the tokens
pub record Takes (ss : List (List Re)) (w : List Sign) : Type 0 where
  pub stack : List Re
  pub is_one : In stack ss
  pub reads : Reads stack w []

-- behind any token of class l the new stacks are what the old ones leave, together with kept ones
pub record Follows (l : Lead) (b : List Re) (old new : List (List Re)) : Type 0 where
  pub found : (t : Sign) (w : List Sign) → t.lead ≡ l → Takes new w → Takes old w ⊎ Reads b (t ∷ w) []
  pub all : (t : Sign) (w : List Sign) → t.lead ≡ l → Reads b (t ∷ w) [] → Takes new w
  pub kept : (w : List Sign) → Takes old w → Takes new w

-- behind any token of class l the new stacks take what the old ones take with that token in front
pub record Advances (l : Lead) (old new : List (List Re)) : Type 0 where
  pub found : (t : Sign) (w : List Sign) → t.lead ≡ l → Takes new w → Takes old (t ∷ w)
  pub all : (t : Sign) (w : List Sign) → t.lead ≡ l → Takes old (t ∷ w) → Takes new w

-- the stacks take exactly what goes on with the tokens so far to a text
pub record SoFar (done : List Sign) (ss : List (List Re)) : Type 0 where
  pub to : (w : List Sign) → Takes ss w → Derives (done ++ w)
  pub from : (w : List Sign) → Derives (done ++ w) → Takes ss w
