-- Residuals are exact, and each expression has a tree.
use Rattle.std.proofs.Common.{◌≡◌, ℕ, zero, suc, ◌≤◌, ◌⊎◌, inl, inr, List, [], ◌∷◌, length, Some, None, true, refl, sym, ap, ◌∙◌, subst, arith}
use Rattle.jim_text.specs.declared.lead.Lead.{Lead}
use Rattle.jim_signs.specs.declared.seen.Sign.{Sign}
use Rattle.jim_grammar.specs.declared.set.LeadSet.{LeadSet}
use Rattle.jim_grammar.specs.declared.set.LeadSet.TheVariants.{Modifiers, Bases, ClassWords, Relations, Operators, PlainInvokes, SwitchWords, MonitorWords, SkipWords, OddTypes, NotEnds}
use Rattle.jim_grammar.specs.Forms.{Kind, Form, Imms, Exprs, Invokes, Stmts, Lines, Results, Members, Ends, Decls, NullImm, UseExpr, OnClass, SkipStmt, StmtLine, VoidResult, FieldMember, NoBody, OddDecl}
use Rattle.jim_grammar.specs.Sets.{is_in, sample}
use Rattle.jim_grammar.specs.Expressions.{Re, Eps, Tok, One, ◌·◌, Any, Star, Opt, UpTo, Shared, Tree, Between, spell, spell_each, sign}
use Rattle.jim_grammar.specs.Residuals.{Null, null_eps, null_both, null_any, null_star, null_opt, null_upto, null_shared, Step, tok, one, first, second, any, again, some, fewer, before, middle, after, Reads}

-- A text that begins with a token, of an expression and what follows it: the expression goes on with a stack, or it is empty.
abbrev pub Goes : Re → Sign → List Sign → List Sign → Type 0
Goes e t w m = (Null e × (m ≡ t ∷ w)) ⊎ ((s : List Re) × Step t.lead e s × Reads s w m)

-- the same for one of a list: some of the others are left
abbrev pub EachGoes : Re → ℕ → Sign → List Sign → List Sign → Type 0
EachGoes a n t w m = (m ≡ t ∷ w) ⊎ ((s : List Re) × (ys : List (Tree a)) × (suc (length ys) ≤ n) × Step t.lead a s × Reads s w (spell_each (spell a) ys m))

here_then : (a : Re) (x : Tree a) (xs : List (Tree a)) (t : Sign) (w m : List Sign) → Goes a t w (spell_each (spell a) xs m) → (spell_each (spell a) xs m ≡ t ∷ w → EachGoes a (length xs) t w m) → EachGoes a (length (x ∷ xs)) t w m
here_then a x xs t w m (inl p) go = wider (go p.1)
  where
    wider : EachGoes a (length xs) t w m → EachGoes a (length (x ∷ xs)) t w m
    wider (inl q) = inl q
    wider (inr (s, ys, k, st, r)) = inr (s, ys, omega arith, st, r)
here_then a x xs t w m (inr (s, st, r)) go = inr (s, xs, omega arith, st, r)

each_goes : (a : Re) → ((x : Tree a) (t : Sign) (w m : List Sign) → spell a x m ≡ t ∷ w → Goes a t w m) → (xs : List (Tree a)) (t : Sign) (w m : List Sign) → spell_each (spell a) xs m ≡ t ∷ w → EachGoes a (length xs) t w m
each_goes a go [] t w m h = inl h
each_goes a go (x ∷ xs) t w m h = here_then a x xs t w m (go x t w (spell_each (spell a) xs m) h) (λ q. each_goes a go xs t w m q)

both_goes : (a b : Re) (y : Tree b) (t : Sign) (w m : List Sign) → Goes a t w (spell b y m) → (spell b y m ≡ t ∷ w → Goes b t w m) → Goes (a · b) t w m
both_goes a b y t w m (inl p) go = rest (go p.1)
  where
    rest : Goes b t w m → Goes (a · b) t w m
    rest (inl q) = inl (null_both p.0 q.0, q.1)
    rest (inr (s, st, r)) = inr (s, second p.0 st, r)
both_goes a b y t w m (inr (s, st, r)) go = inr (b ∷ s, first st, (spell b y m, r, y, refl))

any_goes : (k : Kind) (f : Form k → Re) (i : Form k) (t : Sign) (w m : List Sign) → Goes (f i) t w m → Goes (Any k f) t w m
any_goes k f i t w m (inl p) = inl (null_any i p.0, p.1)
any_goes k f i t w m (inr (s, st, r)) = inr (s, any i st, r)

star_goes : (a : Re) (n : ℕ) (t : Sign) (w m : List Sign) → EachGoes a n t w m → Goes (Star a) t w m
star_goes a n t w m (inl q) = inl (null_star, q)
star_goes a n t w m (inr (s, ys, k, st, r)) = inr (Star a ∷ s, again st, (spell_each (spell a) ys m, r, ys, refl))

opt_goes : (a : Re) (t : Sign) (w m : List Sign) → Goes a t w m → Goes (Opt a) t w m
opt_goes a t w m (inl p) = inl (null_opt, p.1)
opt_goes a t w m (inr (s, st, r)) = inr (s, some st, r)

upto_goes : (n : ℕ) (a : Re) (k : ℕ) (t : Sign) (w m : List Sign) → k ≤ n → EachGoes a k t w m → Goes (UpTo n a) t w m
upto_goes n a k t w m h (inl q) = inl (null_upto, q)
upto_goes zero a k t w m h (inr (s, ys, j, st, r)) = absurd (omega arith)
upto_goes (suc n) a k t w m h (inr (s, ys, j, st, r)) = inr (UpTo n a ∷ s, fewer st, (spell_each (spell a) ys m, r, record { items = ys; few = omega arith }, refl))

last_goes : (n : ℕ) (a b c : Re) (k : ℕ) (t : Sign) (w m : List Sign) → Null b → k ≤ n → EachGoes c k t w m → Goes (Shared n a b c) t w m
last_goes n a b c k t w m p h (inl q) = inl (null_shared p, q)
last_goes zero a b c k t w m p h (inr (s, ys, j, st, r)) = absurd (omega arith)
last_goes (suc n) a b c k t w m p h (inr (s, ys, j, st, r)) = inr (UpTo n c ∷ s, after p st, (spell_each (spell c) ys m, r, record { items = ys; few = omega arith }, refl))

middle_goes : (n : ℕ) (a b c : Re) (zs : List (Tree c)) (t : Sign) (w m : List Sign) → length zs ≤ n → Goes b t w (spell_each (spell c) zs m) → (spell_each (spell c) zs m ≡ t ∷ w → EachGoes c (length zs) t w m) → Goes (Shared n a b c) t w m
middle_goes n a b c zs t w m h (inl p) go = last_goes n a b c (length zs) t w m p.0 h (go p.1)
middle_goes n a b c zs t w m h (inr (s, st, r)) go = inr (UpTo n c ∷ s, middle st, (spell_each (spell c) zs m, r, record { items = zs; few = h }, refl))

shared_goes : (n : ℕ) (a b c : Re) (x : Between n (Tree a) (Tree b) (Tree c)) (t : Sign) (w m : List Sign)
    → EachGoes a (length x.before) t w (spell b x.middle (spell_each (spell c) x.after m))
    → (spell b x.middle (spell_each (spell c) x.after m) ≡ t ∷ w → Goes b t w (spell_each (spell c) x.after m))
    → (spell_each (spell c) x.after m ≡ t ∷ w → EachGoes c (length x.after) t w m) → Goes (Shared n a b c) t w m
shared_goes n a b c x t w m (inl q) mid end = middle_goes n a b c x.after t w m (omega (arith, x.few)) (mid q) end
shared_goes zero a b c x t w m (inr (s, ys, j, st, r)) mid end = absurd (omega (arith, x.few))
shared_goes (suc n) a b c x t w m (inr (s, ys, j, st, r)) mid end =
    inr (Shared n a b c ∷ s, before st, (spell_each (spell a) ys (spell b x.middle (spell_each (spell c) x.after m)), r, record { before = ys; middle = x.middle; after = x.after; few = omega (arith, x.few) }, refl))

lead_here : (l : Lead) (x : ℕ) (t : Sign) (w m : List Sign) → sign l x ∷ m ≡ t ∷ w → t.lead ≡ l
lead_here l x t w m h = let e : t ≡ sign l x = cc in ap (λ (s : Sign). s.lead) e

-- What a tree spells is gone on with behind its first token.
pub goes_on : (e : Re) (x : Tree e) (t : Sign) (w m : List Sign) → spell e x m ≡ t ∷ w → Goes e t w m
goes_on Eps x t w m h = inl (null_eps, h)
goes_on (Tok l) x t w m h = inr ([], subst (λ z. Step t.lead (Tok z) []) (lead_here l x t w m h) tok, cc)
goes_on (One set) x t w m h = inr ([], one (rw (lead_here x.lead x.text t w m h) x.is_in_set), cc)
goes_on (a · b) (x, y) t w m h = both_goes a b y t w m (goes_on a x t w (spell b y m) h) (λ q. goes_on b y t w m q)
goes_on (Any k f) (i, x) t w m h = any_goes k f i t w m (goes_on (f i) x t w m h)
goes_on (Star a) xs t w m h = star_goes a (length xs) t w m (each_goes a (λ x t w m q. goes_on a x t w m q) xs t w m h)
goes_on (Opt a) None t w m h = inl (null_opt, h)
goes_on (Opt a) (Some x) t w m h = opt_goes a t w m (goes_on a x t w m h)
goes_on (UpTo n a) x t w m h = upto_goes n a (length x.items) t w m x.few (each_goes a (λ x t w m q. goes_on a x t w m q) x.items t w m h)
goes_on (Shared n a b c) x t w m h = shared_goes n a b c x t w m
    (each_goes a (λ x t w m q. goes_on a x t w m q) x.before t w (spell b x.middle (spell_each (spell c) x.after m)) h)
    (λ q. goes_on b x.middle t w (spell_each (spell c) x.after m) q)
    (λ q. each_goes c (λ x t w m q. goes_on c x t w m q) x.after t w m q)

-- An expression that may be empty has a tree that spells nothing.
pub nothing : {e : Re} → Null e → (m : List Sign) → (x : Tree e) × (spell e x m ≡ m)
nothing null_eps m = (tt, refl)
nothing (null_both {a} {b} p q) m = let x = nothing p m in let y = nothing q m in ((x.0, y.0), ap (spell a x.0) y.1 ∙ x.1)
nothing (null_any i p) m = let x = nothing p m in ((i, x.0), x.1)
nothing null_star m = ([], refl)
nothing null_opt m = (None, refl)
nothing null_upto m = (record { items = []; few = omega arith }, refl)
nothing (null_shared p) m = let x = nothing p m in (record { before = []; middle = x.0; after = []; few = omega arith }, x.1)

-- A step can be taken back.
pub back : {l : Lead} {e : Re} {s : List Re} → Step l e s → (t : Sign) (w m : List Sign) → t.lead ≡ l → Reads s w m → (x : Tree e) × (spell e x m ≡ t ∷ w)
back tok t w m h r = (t.text, ap (λ z. sign z t.text ∷ m) (sym h) ∙ ap (λ z. t ∷ z) (sym r))
back (one p) t w m h r = (record { lead = t.lead; text = t.text; is_in_set = rw h p }, ap (λ z. t ∷ z) (sym r))
back (first {a} {b} st) t w m h (v, r, y, q) = let x = back st t w v h r in ((x.0, y), ap (spell a x.0) (sym q) ∙ x.1)
back (second {a} {b} p st) t w m h r = let y = back st t w m h r in let x = nothing p (spell b y.0 m) in ((x.0, y.0), x.1 ∙ y.1)
back (any i st) t w m h r = let x = back st t w m h r in ((i, x.0), x.1)
back (again {a} st) t w m h (v, r, y, q) = let x = back st t w v h r in (x.0 ∷ y, ap (spell a x.0) (sym q) ∙ x.1)
back (some st) t w m h r = let x = back st t w m h r in (Some x.0, x.1)
back (fewer {n} {a} st) t w m h (v, r, y, q) = let x = back st t w v h r in (record { items = x.0 ∷ y.items; few = omega (arith, y.few) }, ap (spell a x.0) (sym q) ∙ x.1)
back (before {n} {a} {b} {c} st) t w m h (v, r, y, q) = let x = back st t w v h r in (record { before = x.0 ∷ y.before; middle = y.middle; after = y.after; few = omega (arith, y.few) }, ap (spell a x.0) (sym q) ∙ x.1)
back (middle {n} {a} {b} {c} st) t w m h (v, r, y, q) = let x = back st t w v h r in (record { before = []; middle = x.0; after = y.items; few = omega (arith, y.few) }, ap (spell b x.0) (sym q) ∙ x.1)
back (after {n} {a} {b} {c} p st) t w m h (v, r, y, q) =
    let x = back st t w v h r in
    let z = nothing p (spell c x.0 (spell_each (spell c) y.items m)) in
    (record { before = []; middle = z.0; after = x.0 ∷ y.items; few = omega (arith, y.few) }, z.1 ∙ ap (spell c x.0) (sym q) ∙ x.1)

-- a production of each kind
some_form : (k : Kind) → Form k
some_form Imms = NullImm
some_form Exprs = UseExpr
some_form Invokes = OnClass
some_form Stmts = SkipStmt
some_form Lines = StmtLine
some_form Results = VoidResult
some_form Members = FieldMember
some_form Ends = NoBody
some_form Decls = OddDecl

sample_in : (set : LeadSet) → is_in set (sample set) ≡ true
sample_in Modifiers = refl
sample_in Bases = refl
sample_in ClassWords = refl
sample_in Relations = refl
sample_in Operators = refl
sample_in PlainInvokes = refl
sample_in SwitchWords = refl
sample_in MonitorWords = refl
sample_in SkipWords = refl
sample_in OddTypes = refl
sample_in NotEnds = refl

-- Each expression has a tree.
pub some_tree : (e : Re) → Tree e
some_tree Eps = tt
some_tree (Tok l) = 0
some_tree (One set) = record { lead = sample set; text = 0; is_in_set = sample_in set }
some_tree (a · b) = (some_tree a, some_tree b)
some_tree (Any k f) = (some_form k, some_tree (f (some_form k)))
some_tree (Star a) = []
some_tree (Opt a) = None
some_tree (UpTo n a) = record { items = []; few = omega arith }
some_tree (Shared n a b c) = record { before = []; middle = some_tree b; after = []; few = omega arith }
