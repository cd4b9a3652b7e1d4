-- What a step of the machine adds, rule by rule.
use Rattle.std.proofs.Common.{◌≡◌, ℕ, zero, suc, ◌+◌, ◌-◌, ◌<◌, ◌≤◌, ◌⊎◌, inl, inr, List, [], ◌∷◌, ◌++◌, map, length, get_or, take, drop, Vec, Global, Bool, IsTrue, true, false, refl, sym, ap, ◌∙◌, subst, arith, add-one, append_assoc, append-nil}
use Rattle.jim_text.specs.declared.lead.Lead.{Lead}
use Rattle.jim_grammar.specs.declared.set.LeadSet.{LeadSet}
use Rattle.jim_grammar.specs.Sets.{is_in}
use Rattle.jim_grammar.specs.Forms.{Kind, Form, forms, Imms, Exprs, Invokes, Stmts, Lines, Results, Members, Ends, Decls, LocalImm, NumberImm, TextImm, ClassImm, NullImm, UseExpr, NewExpr, ArrayExpr, MultiExpr, CastExpr, InstanceExpr, LengthExpr, NegExpr, BinaryExpr, FieldExpr, StaticExpr, CellExpr, InvokeExpr, OnReceiver, OnClass, Dynamic, ThisStmt, ParamStmt, CaughtStmt, AssignStmt, PutFieldStmt, PutStaticStmt, PutCellStmt, CallStmt, IfStmt, GotoStmt, SwitchStmt, ReturnStmt, RetStmt, ThrowStmt, MonitorStmt, SkipStmt, LabelLine, StmtLine, VoidResult, TypeResult, FieldMember, MethodMember, NoBody, WithBody, TypeDecl, OddDecl}
use Rattle.jim_grammar.specs.Expressions.{Re, Eps, Tok, One, ◌·◌, Any, Star, Opt, UpTo, Shared}
use Rattle.jim_grammar.specs.Residuals.{Null, null_both, null_any, null_shared, Step, tok, one, first, second, any, again, some, fewer, before, middle, after}
use Rattle.std.proofs.lemmas.List.{map-append, take_rest}
use Rattle.jim_grammar.specs.declared.item.Item.{Item}
use Rattle.jim_grammar.specs.declared.machine.Entry.{Entry}
use Rattle.jim_grammar.specs.Grammar.{seq}
use Rattle.jim_grammar.specs.Items.{re}
use Rattle.jim_grammar.specs.Stacks.{In, here, there, Adds, AddsAny, NullAny, total, size, rest_of, re_entry, entries, stacks}

pub in_left : {A : Type 0} {x : A} {xs : List A} → In x xs → (ys : List A) → In x (xs ++ ys)
in_left here ys = here
in_left (there i) ys = there (in_left i ys)

pub in_last : {A : Type 0} (xs : List A) (x : A) → In x (xs ++ x ∷ [])
in_last [] x = here
in_last (y ∷ xs) x = there (in_last xs x)

pub in_either : {A : Type 0} (xs : List A) (y x : A) → In x (xs ++ y ∷ []) → In x xs ⊎ (x ≡ y)
in_either [] y x here = inr refl
in_either [] y x (there i) = elim i [ ]
in_either (z ∷ xs) y x here = inl here
in_either (z ∷ xs) y x (there i) = deeper (in_either xs y x i)
  where
    deeper : In x xs ⊎ (x ≡ y) → In x (z ∷ xs) ⊎ (x ≡ y)
    deeper (inl j) = inl (there j)
    deeper (inr e) = inr e

-- no stack is added where nothing begins with the token
pub adds_none : (l : Lead) (e : Re) (b : List Re) (old : List (List Re)) → ((z : List Re) → Step l e z → ⊥) → Adds l e b old old
adds_none l e b old never = record { found = λ s i. inl i; all = λ z st. absurd (never z st); kept = λ s i. i }

-- one stack is added where the token is all of it
pub adds_here : (l : Lead) (e : Re) (b : List Re) (old : List (List Re)) → Step l e [] → ((z : List Re) → Step l e z → z ≡ []) → Adds l e b old (old ++ b ∷ [])
adds_here l e b old st only = record {
  found = λ s i. or (in_either old b s i);
  all = λ z t. rw (only z t, append-nil) (in_last old b);
  kept = λ s i. in_left i (b ∷ []);
}
  where
    or : {s : List Re} → In s old ⊎ (s ≡ b) → In s old ⊎ ((z : List Re) × Step l e z × (s ≡ b ++ z))
    or (inl i) = inl i
    or (inr e) = inr ([], st, e ∙ sym (append-nil b))

-- the steps of e are those of a, over p
pub record Over (l : Lead) (e a : Re) (p : List Re) : Type 0 where
  pub to : (y : List Re) → Step l a y → Step l e (p ++ y)
  pub from : (z : List Re) → Step l e z → (y : List Re) × Step l a y × (z ≡ p ++ y)

pub adds_over : (l : Lead) (e a : Re) (p b : List Re) (old new : List (List Re)) → Over l e a p → Adds l a (b ++ p) old new → Adds l e b old new
adds_over l e a p b old new o h = record {
  found = λ s i. or (h.found s i);
  all = λ z st. let y = o.from z st in rw (y.2, ← append_assoc) (h.all y.0 y.1);
  kept = h.kept;
}
  where
    or : {s : List Re} → In s old ⊎ ((y : List Re) × Step l a y × (s ≡ (b ++ p) ++ y)) → In s old ⊎ ((z : List Re) × Step l e z × (s ≡ b ++ z))
    or (inl i) = inl i
    or (inr (y, st, q)) = inr (p ++ y, o.to y st, rw append_assoc at q)

-- the steps of e are those of a, over p, and those of c, over q
pub record Both (l : Lead) (e a c : Re) (p q : List Re) : Type 0 where
  pub to : (y : List Re) → Step l a y → Step l e (p ++ y)
  pub too : (y : List Re) → Step l c y → Step l e (q ++ y)
  pub from : (z : List Re) → Step l e z → ((y : List Re) × Step l a y × (z ≡ p ++ y)) ⊎ ((y : List Re) × Step l c y × (z ≡ q ++ y))

pub adds_both : (l : Lead) (e a c : Re) (p q b : List Re) (old mid new : List (List Re)) → Both l e a c p q → Adds l a (b ++ p) old mid → Adds l c (b ++ q) mid new → Adds l e b old new
adds_both l e a c p q b old mid new o h k = record {
  found = λ s i. later (k.found s i);
  all = λ z st. either (o.from z st);
  kept = λ s i. k.kept s (h.kept s i);
}
  where
    or : {s : List Re} → In s old ⊎ ((y : List Re) × Step l a y × (s ≡ (b ++ p) ++ y)) → In s old ⊎ ((z : List Re) × Step l e z × (s ≡ b ++ z))
    or (inl i) = inl i
    or (inr (y, st, r)) = inr (p ++ y, o.to y st, rw append_assoc at r)

    later : {s : List Re} → In s mid ⊎ ((y : List Re) × Step l c y × (s ≡ (b ++ q) ++ y)) → In s old ⊎ ((z : List Re) × Step l e z × (s ≡ b ++ z))
    later {s} (inl i) = or (h.found s i)
    later (inr (y, st, r)) = inr (q ++ y, o.too y st, rw append_assoc at r)

    either : {z : List Re} → ((y : List Re) × Step l a y × (z ≡ p ++ y)) ⊎ ((y : List Re) × Step l c y × (z ≡ q ++ y)) → In (b ++ z) new
    either (inl (y, st, r)) = rw (r, ← append_assoc) (k.kept _ (h.all y st))
    either (inr (y, st, r)) = rw (r, ← append_assoc) (k.all y st)

-- the rules
pub seq_first : (l : Lead) (a b : Re) → (Null a → ⊥) → Over l (a · b) a (b ∷ [])
seq_first l a b full = record { to = λ y st. first st; from = λ z st. taken z st }
  where
    taken : (z : List Re) → Step l (a · b) z → (y : List Re) × Step l a y × (z ≡ b ∷ y)
    taken z (first {s} st) = (s, st, refl)
    taken z (second n st) = absurd (full n)

pub seq_both : (l : Lead) (a b : Re) → Null a → Both l (a · b) a b (b ∷ []) []
seq_both l a b n = record { to = λ y st. first st; too = λ y st. second n st; from = λ z st. taken z st }
  where
    taken : (z : List Re) → Step l (a · b) z → ((y : List Re) × Step l a y × (z ≡ b ∷ y)) ⊎ ((y : List Re) × Step l b y × (z ≡ y))
    taken z (first {s} st) = inl (s, st, refl)
    taken z (second m st) = inr (z, st, refl)

pub star_over : (l : Lead) (a : Re) → Over l (Star a) a (Star a ∷ [])
star_over l a = record { to = λ y st. again st; from = λ z st. taken z st }
  where
    taken : (z : List Re) → Step l (Star a) z → (y : List Re) × Step l a y × (z ≡ Star a ∷ y)
    taken z (again {s} st) = (s, st, refl)

pub opt_over : (l : Lead) (a : Re) → Over l (Opt a) a []
opt_over l a = record { to = λ y st. some st; from = λ z st. taken z st }
  where
    taken : (z : List Re) → Step l (Opt a) z → (y : List Re) × Step l a y × (z ≡ y)
    taken z (some {s} st) = (s, st, refl)

pub upto_over : (l : Lead) (n : ℕ) (a : Re) → Over l (UpTo (suc n) a) a (UpTo n a ∷ [])
upto_over l n a = record { to = λ y st. fewer st; from = λ z st. taken z st }
  where
    taken : (z : List Re) → Step l (UpTo (suc n) a) z → (y : List Re) × Step l a y × (z ≡ UpTo n a ∷ y)
    taken z (fewer {s} st) = (s, st, refl)

pub upto_none : (l : Lead) (a : Re) (z : List Re) → Step l (UpTo 0 a) z → ⊥
upto_none l a z st = elim st [ ]

pub seq_null : (a b : Re) → Null (a · b) → Null a × Null b
seq_null a b (null_both p q) = (p, q)

pub tok_only : (l m : Lead) (z : List Re) → Step l (Tok m) z → (m ≡ l) × (z ≡ [])
tok_only l m z tok = (refl, refl)

pub one_only : (l : Lead) (s : LeadSet) (z : List Re) → Step l (One s) z → (is_in s l ≡ true) × (z ≡ [])
one_only l s z (one p) = (p, refl)

pub any_only : (l : Lead) (k : Kind) (f : Form k → Re) (z : List Re) → Step l (Any k f) z → (i : Form k) × Step l (f i) z
any_only l k f z (any i st) = (i, st)

pub any_null : (k : Kind) (f : Form k → Re) → Null (Any k f) → (i : Form k) × Null (f i)
any_null k f (null_any i n) = (i, n)

pub eps_none : (l : Lead) (z : List Re) → Step l Eps z → ⊥
eps_none l z st = elim st [ ]

-- a rule that is no sequence is the same from any part on
pub plain_tok : (k : ℕ) (l : Lead) → rest_of k (Tok l) ≡ Tok l
plain_tok zero l = refl
plain_tok (suc k) l = refl

pub plain_one : (k : ℕ) (s : LeadSet) → rest_of k (One s) ≡ One s
plain_one zero s = refl
plain_one (suc k) s = refl

pub plain_any : (k : ℕ) (j : Kind) (f : Form j → Re) → rest_of k (Any j f) ≡ Any j f
plain_any zero j f = refl
plain_any (suc k) j f = refl

pub plain_star : (k : ℕ) (a : Re) → rest_of k (Star a) ≡ Star a
plain_star zero a = refl
plain_star (suc k) a = refl

pub plain_opt : (k : ℕ) (a : Re) → rest_of k (Opt a) ≡ Opt a
plain_opt zero a = refl
plain_opt (suc k) a = refl

pub plain_upto : (k n : ℕ) (a : Re) → rest_of k (UpTo n a) ≡ UpTo n a
plain_upto zero n a = refl
plain_upto (suc k) n a = refl

pub plain_shared : (k n : ℕ) (a b c : Re) → rest_of k (Shared n a b c) ≡ Shared n a b c
plain_shared zero n a b c = refl
plain_shared (suc k) n a b c = refl

pub plain_eps : (k : ℕ) → rest_of k Eps ≡ Eps
plain_eps zero = refl
plain_eps (suc k) = refl

-- a sequence from its end on, and from a part on
pub seq_end : (k : ℕ) (items : List Item) → length items ≤ k → rest_of k (seq (map re items)) ≡ Eps
seq_end k [] h = plain_eps k
seq_end zero (i ∷ items) h = absurd (omega arith)
seq_end (suc k) (i ∷ items) h = seq_end k items (omega arith)

pub seq_part : (k : ℕ) (items : List Item) (d : Item) → k < length items → rest_of k (seq (map re items)) ≡ re (get_or items k d) · rest_of (suc k) (seq (map re items))
seq_part k [] d h = absurd (omega arith)
seq_part zero (i ∷ items) d h = refl
seq_part (suc k) (i ∷ items) d h = seq_part k items d (omega arith)

pub adds_at : (l : Lead) (e r : Re) (b : List Re) (old new : List (List Re)) → e ≡ r → Adds l r b old new → Adds l e b old new
adds_at l e r b old new q h = subst (λ z. Adds l z b old new) (sym q) h

pub null_at : (P : Type 0) (e r : Re) → e ≡ r → (P → Null r) × (Null r → P) → (P → Null e) × (Null e → P)
null_at P e r q h = subst (λ z. (P → Null z) × (Null z → P)) (sym q) h

-- what the machine writes
pub pushed : (old new : List (Vec Entry Global)) (v : Vec Entry Global) (b : List Entry) → new ≡ old ++ v ∷ [] → v.items ≡ b → stacks new ≡ stacks old ++ entries b ∷ []
pushed old new v b p q = ap stacks p ∙ (map-append (λ (v : Vec Entry Global). entries v.items) old (v ∷ []) ∙ ap (λ z. stacks old ++ entries z ∷ []) q)

pub adds_pushed : (l : Lead) (e : Re) (b : List Entry) (old new : List (Vec Entry Global)) (v : Vec Entry Global) → new ≡ old ++ v ∷ [] → v.items ≡ b → Step l e [] → ((z : List Re) → Step l e z → z ≡ []) → Adds l e (entries b) (stacks old) (stacks new)
adds_pushed l e b old new v p q st only = subst (λ z. Adds l e (entries b) (stacks old) z) (sym (pushed old new v b p q)) (adds_here l e (entries b) (stacks old) st only)

-- any of several
pub any_none : (l : Lead) (b : List Re) (old : List (List Re)) → AddsAny l [] b old old
any_none l b old = record { found = λ s i. inl i; all = λ e z i st. elim i [ ]; kept = λ s i. i }

pub any_more : (l : Lead) (e : Re) (es : List Re) (b : List Re) (old mid new : List (List Re)) → Adds l e b old mid → AddsAny l es b mid new → AddsAny l (e ∷ es) b old new
any_more l e es b old mid new h k = record {
  found = λ s i. later (k.found s i);
  all = λ f z i st. either f z i st;
  kept = λ s i. k.kept s (h.kept s i);
}
  where
    or : {s : List Re} → In s old ⊎ ((z : List Re) × Step l e z × (s ≡ b ++ z)) → In s old ⊎ ((f : Re) × (z : List Re) × In f (e ∷ es) × Step l f z × (s ≡ b ++ z))
    or (inl i) = inl i
    or (inr (z, st, q)) = inr (e, z, here, st, q)

    later : {s : List Re} → In s mid ⊎ ((f : Re) × (z : List Re) × In f es × Step l f z × (s ≡ b ++ z)) → In s old ⊎ ((f : Re) × (z : List Re) × In f (e ∷ es) × Step l f z × (s ≡ b ++ z))
    later {s} (inl i) = or (h.found s i)
    later (inr (f, z, i, st, q)) = inr (f, z, there i, st, q)

    either : (f : Re) (z : List Re) → In f (e ∷ es) → Step l f z → In (b ++ z) new
    either f z here st = k.kept _ (h.all z st)
    either f z (there i) st = k.all f z i st

pub null_any_none : NullAny [] → ⊥
null_any_none n = none n.is_one
  where
    none : {e : Re} → In e [] → ⊥
    none i = elim i [ ]

pub null_any_first : (e : Re) (es : List Re) → Null e → NullAny (e ∷ es)
null_any_first e es n = record { which = e; is_one = here; null = n }

pub null_any_more : (e : Re) (es : List Re) → NullAny es → NullAny (e ∷ es)
null_any_more e es n = record { which = n.which; is_one = there n.is_one; null = n.null }

pub null_any_or : (e : Re) (es : List Re) → NullAny (e ∷ es) → Null e ⊎ NullAny es
null_any_or e es n = or n.which n.is_one n.null
  where
    or : (f : Re) → In f (e ∷ es) → Null f → Null e ⊎ NullAny es
    or f here m = inl m
    or f (there i) m = inr (record { which = f; is_one = i; null = m })

in_map : {A B : Type 0} (f : A → B) {x : A} {xs : List A} → In x xs → In (f x) (map f xs)
in_map f here = here
in_map f (there i) = there (in_map f i)

in_map_back : {A B : Type 0} (f : A → B) (xs : List A) (y : B) → In y (map f xs) → (x : A) × (y ≡ f x)
in_map_back f [] y i = elim i [ ]
in_map_back f (x ∷ xs) y here = (x, refl)
in_map_back f (x ∷ xs) y (there i) = in_map_back f xs y i

-- each production is among its kind's
pub listed : (k : Kind) (i : Form k) → In i (forms k)
listed Imms LocalImm = here
listed Imms NumberImm = there (here)
listed Imms TextImm = there (there (here))
listed Imms ClassImm = there (there (there (here)))
listed Imms NullImm = there (there (there (there (here))))
listed Exprs UseExpr = here
listed Exprs NewExpr = there (here)
listed Exprs ArrayExpr = there (there (here))
listed Exprs MultiExpr = there (there (there (here)))
listed Exprs CastExpr = there (there (there (there (here))))
listed Exprs InstanceExpr = there (there (there (there (there (here)))))
listed Exprs LengthExpr = there (there (there (there (there (there (here))))))
listed Exprs NegExpr = there (there (there (there (there (there (there (here)))))))
listed Exprs BinaryExpr = there (there (there (there (there (there (there (there (here))))))))
listed Exprs FieldExpr = there (there (there (there (there (there (there (there (there (here)))))))))
listed Exprs StaticExpr = there (there (there (there (there (there (there (there (there (there (here))))))))))
listed Exprs CellExpr = there (there (there (there (there (there (there (there (there (there (there (here)))))))))))
listed Exprs InvokeExpr = there (there (there (there (there (there (there (there (there (there (there (there (here))))))))))))
listed Invokes OnReceiver = here
listed Invokes OnClass = there (here)
listed Invokes Dynamic = there (there (here))
listed Stmts ThisStmt = here
listed Stmts ParamStmt = there (here)
listed Stmts CaughtStmt = there (there (here))
listed Stmts AssignStmt = there (there (there (here)))
listed Stmts PutFieldStmt = there (there (there (there (here))))
listed Stmts PutStaticStmt = there (there (there (there (there (here)))))
listed Stmts PutCellStmt = there (there (there (there (there (there (here))))))
listed Stmts CallStmt = there (there (there (there (there (there (there (here)))))))
listed Stmts IfStmt = there (there (there (there (there (there (there (there (here))))))))
listed Stmts GotoStmt = there (there (there (there (there (there (there (there (there (here)))))))))
listed Stmts SwitchStmt = there (there (there (there (there (there (there (there (there (there (here))))))))))
listed Stmts ReturnStmt = there (there (there (there (there (there (there (there (there (there (there (here)))))))))))
listed Stmts RetStmt = there (there (there (there (there (there (there (there (there (there (there (there (here))))))))))))
listed Stmts ThrowStmt = there (there (there (there (there (there (there (there (there (there (there (there (there (here)))))))))))))
listed Stmts MonitorStmt = there (there (there (there (there (there (there (there (there (there (there (there (there (there (here))))))))))))))
listed Stmts SkipStmt = there (there (there (there (there (there (there (there (there (there (there (there (there (there (there (here)))))))))))))))
listed Lines LabelLine = here
listed Lines StmtLine = there (here)
listed Results VoidResult = here
listed Results TypeResult = there (here)
listed Members FieldMember = here
listed Members MethodMember = there (here)
listed Ends NoBody = here
listed Ends WithBody = there (here)
listed Decls TypeDecl = here
listed Decls OddDecl = there (here)

pub any_all : (l : Lead) (k : Kind) (f : Form k → Re) (b : List Re) (old new : List (List Re)) → AddsAny l (map f (forms k)) b old new → Adds l (Any k f) b old new
any_all l k f b old new h = record {
  found = λ s i. or (h.found s i);
  all = λ z st. one_of z (any_only l k f z st);
  kept = h.kept;
}
  where
    step_of : (e : Re) (z : List Re) → (i : Form k) × (e ≡ f i) → Step l e z → Step l (Any k f) z
    step_of e z (i, q) st = any i (subst (λ r. Step l r z) q st)

    or : {s : List Re} → In s old ⊎ ((e : Re) × (z : List Re) × In e (map f (forms k)) × Step l e z × (s ≡ b ++ z)) → In s old ⊎ ((z : List Re) × Step l (Any k f) z × (s ≡ b ++ z))
    or (inl i) = inl i
    or (inr (e, z, i, st, q)) = inr (z, step_of e z (in_map_back f (forms k) e i) st, q)

    one_of : (z : List Re) → (i : Form k) × Step l (f i) z → In (b ++ z) new
    one_of z (i, st) = h.all (f i) z (in_map f (listed k i)) st

pub any_null_to : (k : Kind) (f : Form k → Re) → NullAny (map f (forms k)) → Null (Any k f)
any_null_to k f n = made (in_map_back f (forms k) n.which n.is_one)
  where
    made : (i : Form k) × (n.which ≡ f i) → Null (Any k f)
    made (i, q) = null_any i (subst Null q n.null)

pub any_null_from : (k : Kind) (f : Form k → Re) → Null (Any k f) → NullAny (map f (forms k))
any_null_from k f n = made (any_null k f n)
  where
    made : (i : Form k) × Null (f i) → NullAny (map f (forms k))
    made (i, m) = record { which = f i; is_one = in_map f (listed k i); null = m }

-- sizes
pub total_map : {A B : Type 0} (g : B → ℕ) (f : A → B) (xs : List A) → total g (map f xs) ≡ total (λ x. g (f x)) xs
total_map g f [] = refl
total_map g f (x ∷ xs) = ap (λ z. g (f x) + z) (total_map g f xs)

-- The same in the machine's words.
pub head_rest : (items : List Item) (d : Item) → 0 < length items → map re items ≡ re (get_or items 0 d) ∷ map re (take (length items - 1) (drop 1 items))
head_rest [] d h = absurd (omega arith)
head_rest (i ∷ items) d h = ap (λ z. re i ∷ map re z) (sym (take_rest (i ∷ items) 1))

pub any_step : (l : Lead) (items : List Item) (d : Item) (w : Entry) (b c : List Entry) (old mid new : List (List Re)) → 0 < length items → w ≡ record { item = get_or items 0 d; at = 0 }
    → Adds l (re_entry w) (entries b) old mid → c ≡ b → AddsAny l (map re (take (length items - 1) (drop 1 items))) (entries c) mid new → AddsAny l (map re items) (entries b) old new
any_step l items d w b c old mid new h q a r k = rw (head_rest items d h) (any_more l _ _ (entries b) old mid new (rw q at a) (rw r at k))

pub any_empty_first : (items : List Item) (d : Item) (w : Entry) (x : Bool) → 0 < length items → w ≡ record { item = get_or items 0 d; at = 0 } → (IsTrue x → Null (re_entry w)) × (Null (re_entry w) → IsTrue x) → x ≡ true
    → (IsTrue x → NullAny (map re items)) × (NullAny (map re items) → IsTrue x)
any_empty_first items d w x h q n t = rw (head_rest items d h) ((λ y. null_any_first _ _ (rw q at (n.0 y))), λ z. t)

pub any_empty_more : (items : List Item) (d : Item) (w : Entry) (x y : Bool) → 0 < length items → w ≡ record { item = get_or items 0 d; at = 0 } → (IsTrue x → Null (re_entry w)) × (Null (re_entry w) → IsTrue x) → x ≡ false
    → (IsTrue y → NullAny (map re (take (length items - 1) (drop 1 items)))) × (NullAny (map re (take (length items - 1) (drop 1 items))) → IsTrue y)
    → (IsTrue y → NullAny (map re items)) × (NullAny (map re items) → IsTrue y)
any_empty_more items d w x y h q n f m = rw (head_rest items d h) ((λ z. null_any_more _ _ (m.0 z)), λ z. or (null_any_or _ _ z))
  where
    or : Null (re (get_or items 0 d)) ⊎ NullAny (map re (take (length items - 1) (drop 1 items))) → IsTrue y
    or (inl z) = let g : IsTrue x = n.1 (rw q z) in absurd (cc (f, g))
    or (inr z) = m.1 z

pub entry_part : (i : Item) (k : ℕ) (items : List Item) (d : Item) → re i ≡ seq (map re items) → k < length items → rest_of k (re i) ≡ re (get_or items k d) · rest_of (k + 1) (re i)
entry_part i k items d q h = rw (q, add-one) (seq_part k items d h)

pub part_over : (l : Lead) (i : Item) (k : ℕ) (items : List Item) (d : Item) (b : List Re) (old new : List (List Re)) → re i ≡ seq (map re items) → k < length items
    → Adds l (re (get_or items k d)) (b ++ rest_of (k + 1) (re i) ∷ []) old new → (Null (re (get_or items k d)) → ⊥) → Adds l (rest_of k (re i)) b old new
part_over l i k items d b old new q h a full = adds_at l _ _ b old new (entry_part i k items d q h) (adds_over l _ _ _ b old new (seq_first l _ _ full) a)

pub part_and : (l : Lead) (i : Item) (k : ℕ) (items : List Item) (d : Item) (b c : List Entry) (old mid new : List (List Re)) → re i ≡ seq (map re items) → k < length items
    → Adds l (re (get_or items k d)) (entries b ++ rest_of (k + 1) (re i) ∷ []) old mid → Null (re (get_or items k d)) → c ≡ b → Adds l (rest_of (k + 1) (re i)) (entries c) mid new → Adds l (rest_of k (re i)) (entries b) old new
part_and l i k items d b c old mid new q h a n r m =
    adds_at l _ _ (entries b) old new (entry_part i k items d q h) (adds_both l _ _ _ _ [] (entries b) old mid new (seq_both l _ _ n) a (rw (append-nil, ← r) m))

pub part_full : (i : Item) (k : ℕ) (items : List Item) (d : Item) → re i ≡ seq (map re items) → k < length items → (Null (re (get_or items k d)) → ⊥) → Null (rest_of k (re i)) → ⊥
part_full i k items d q h full n = let m : Null (re (get_or items k d) · rest_of (k + 1) (re i)) = subst Null (entry_part i k items d q h) n in full (seq_null _ _ m).0

pub part_null : (i : Item) (k : ℕ) (items : List Item) (d : Item) (P : Type 0) → re i ≡ seq (map re items) → k < length items → Null (re (get_or items k d)) → (P → Null (rest_of (k + 1) (re i))) × (Null (rest_of (k + 1) (re i)) → P)
    → (P → Null (rest_of k (re i))) × (Null (rest_of k (re i)) → P)
part_null i k items d P q h n m = null_at P _ _ (entry_part i k items d q h) ((λ x. null_both n (m.0 x)), λ x. m.1 (seq_null _ _ x).1)

pub part_less : (i : Item) (k : ℕ) (items : List Item) (d : Item) → re i ≡ seq (map re items) → k < length items → size (rest_of k (re i)) ≡ 1 + size (re (get_or items k d)) + size (rest_of (k + 1) (re i))
part_less i k items d q h = ap size (entry_part i k items d q h)

pub rule_is : (k : ℕ) (i : Item) (r : Re) → re i ≡ r → rest_of k r ≡ r → rest_of k (re i) ≡ r
rule_is k i r q p = ap (rest_of k) q ∙ p

-- at most n before, a middle, and behind it the rest of n
pub shared_none : (l : Lead) (a b c : Re) → Over l (Shared 0 a b c) b (UpTo 0 c ∷ [])
shared_none l a b c = record { to = λ y st. middle st; from = λ z st. taken z st }
  where
    taken : (z : List Re) → Step l (Shared 0 a b c) z → (y : List Re) × Step l b y × (z ≡ UpTo 0 c ∷ y)
    taken z (middle {s} st) = (s, st, refl)

pub shared_null : (n : ℕ) (a b c : Re) → Null (Shared n a b c) → Null b
shared_null n a b c (null_shared p) = p

pub adds_shared : (l : Lead) (n : ℕ) (a b c : Re) (u : List Re) (old mid new : List (List Re)) → (Null b → ⊥)
    → Adds l a (u ++ Shared n a b c ∷ []) old mid → Adds l b (u ++ UpTo (suc n) c ∷ []) mid new → Adds l (Shared (suc n) a b c) u old new
adds_shared l n a b c u old mid new full h k = adds_both l _ a b _ _ u old mid new (record { to = λ y st. before st; too = λ y st. middle st; from = λ z st. taken z st }) h k
  where
    taken : (z : List Re) → Step l (Shared (suc n) a b c) z → ((y : List Re) × Step l a y × (z ≡ Shared n a b c ∷ y)) ⊎ ((y : List Re) × Step l b y × (z ≡ UpTo (suc n) c ∷ y))
    taken z (before {s} st) = inl (s, st, refl)
    taken z (middle {s} st) = inr (s, st, refl)
    taken z (after p st) = absurd (full p)

pub adds_shared_and : (l : Lead) (n : ℕ) (a b c : Re) (u : List Re) (old mid late new : List (List Re)) → Null b
    → Adds l a (u ++ Shared n a b c ∷ []) old mid → Adds l b (u ++ UpTo (suc n) c ∷ []) mid late → Adds l c (u ++ UpTo n c ∷ []) late new → Adds l (Shared (suc n) a b c) u old new
adds_shared_and l n a b c u old mid late new p h k j = record {
  found = λ s i. last (j.found s i);
  all = λ z st. taken z st;
  kept = λ s i. j.kept s (k.kept s (h.kept s i));
}
  where
    first_one : {s : List Re} → In s old ⊎ ((y : List Re) × Step l a y × (s ≡ (u ++ Shared n a b c ∷ []) ++ y)) → In s old ⊎ ((z : List Re) × Step l (Shared (suc n) a b c) z × (s ≡ u ++ z))
    first_one (inl i) = inl i
    first_one (inr (y, st, q)) = inr (Shared n a b c ∷ y, before st, rw append_assoc at q)

    then_one : {s : List Re} → In s mid ⊎ ((y : List Re) × Step l b y × (s ≡ (u ++ UpTo (suc n) c ∷ []) ++ y)) → In s old ⊎ ((z : List Re) × Step l (Shared (suc n) a b c) z × (s ≡ u ++ z))
    then_one {s} (inl i) = first_one (h.found s i)
    then_one (inr (y, st, q)) = inr (UpTo (suc n) c ∷ y, middle st, rw append_assoc at q)

    last : {s : List Re} → In s late ⊎ ((y : List Re) × Step l c y × (s ≡ (u ++ UpTo n c ∷ []) ++ y)) → In s old ⊎ ((z : List Re) × Step l (Shared (suc n) a b c) z × (s ≡ u ++ z))
    last {s} (inl i) = then_one (k.found s i)
    last (inr (y, st, q)) = inr (UpTo n c ∷ y, after p st, rw append_assoc at q)

    taken : (z : List Re) → Step l (Shared (suc n) a b c) z → In (u ++ z) new
    taken z (before {s} st) = j.kept _ (k.kept _ (rw append_assoc at (h.all s st)))
    taken z (middle {s} st) = j.kept _ (rw append_assoc at (k.all s st))
    taken z (after {s} q st) = rw append_assoc at (j.all s st)

pub tok_step : (l m : Lead) (k : ℕ) (i : Item) (b : List Entry) (old new : List (Vec Entry Global)) (v : Vec Entry Global) → re i ≡ Tok m → m ≡ l → new ≡ old ++ v ∷ [] → v.items ≡ b → Adds l (rest_of k (re i)) (entries b) (stacks old) (stacks new)
tok_step l m k i b old new v q e p r =
    adds_at l _ _ (entries b) (stacks old) (stacks new) (rule_is k i (Tok m) q (plain_tok k m)) (adds_pushed l (Tok m) b old new v p r (subst (λ z. Step l (Tok z) []) (sym e) tok) (λ z st. (tok_only l m z st).1))

pub tok_no_step : (l m : Lead) (k : ℕ) (i : Item) (b : List Re) (old : List (List Re)) → re i ≡ Tok m → (m ≡ l → ⊥) → Adds l (rest_of k (re i)) b old old
tok_no_step l m k i b old q other = adds_at l _ _ b old old (rule_is k i (Tok m) q (plain_tok k m)) (adds_none l (Tok m) b old (λ z st. other (tok_only l m z st).0))

pub one_step : (l : Lead) (set : LeadSet) (k : ℕ) (i : Item) (b : List Entry) (old new : List (Vec Entry Global)) (v : Vec Entry Global) → re i ≡ One set → is_in set l ≡ true → new ≡ old ++ v ∷ [] → v.items ≡ b → Adds l (rest_of k (re i)) (entries b) (stacks old) (stacks new)
one_step l set k i b old new v q e p r =
    adds_at l _ _ (entries b) (stacks old) (stacks new) (rule_is k i (One set) q (plain_one k set)) (adds_pushed l (One set) b old new v p r (one e) (λ z st. (one_only l set z st).1))

pub one_no_step : (l : Lead) (set : LeadSet) (k : ℕ) (i : Item) (b : List Re) (old : List (List Re)) → re i ≡ One set → is_in set l ≡ false → Adds l (rest_of k (re i)) b old old
one_no_step l set k i b old q other = adds_at l _ _ b old old (rule_is k i (One set) q (plain_one k set)) (adds_none l (One set) b old (λ z st. let t = (one_only l set z st).0 in cc (t, other)))

pub star_step : (l : Lead) (k : ℕ) (i : Item) (a : Re) (b : List Re) (old new : List (List Re)) → re i ≡ Star a → Adds l a (b ++ rest_of k (re i) ∷ []) old new → Adds l (rest_of k (re i)) b old new
star_step l k i a b old new q h = let e = rule_is k i (Star a) q (plain_star k a) in adds_at l _ _ b old new e (adds_over l (Star a) a (Star a ∷ []) b old new (star_over l a) (subst (λ z. Adds l a (b ++ z ∷ []) old new) e h))

pub opt_step : (l : Lead) (k : ℕ) (i j : Item) (w : Entry) (b : List Re) (old new : List (List Re)) → re i ≡ Opt (re j) → w ≡ record { item = j; at = 0 } → Adds l (re_entry w) b old new → Adds l (rest_of k (re i)) b old new
opt_step l k i j w b old new q v h = adds_at l _ _ b old new (rule_is k i (Opt (re j)) q (plain_opt k (re j))) (adds_over l (Opt (re j)) (re j) [] b old new (opt_over l (re j)) (rw append-nil (rw v at h)))

pub upto_step : (l : Lead) (n k : ℕ) (i j : Item) (a : Re) (w : Entry) (b : List Re) (old new : List (List Re)) → re i ≡ UpTo (suc n) a → re j ≡ UpTo n a → w ≡ record { item = j; at = 0 } → Adds l a (b ++ re_entry w ∷ []) old new → Adds l (rest_of k (re i)) b old new
upto_step l n k i j a w b old new q r v h =
    let e : re_entry w ≡ UpTo n a = ap re_entry v ∙ r in
    adds_at l _ _ b old new (rule_is k i (UpTo (suc n) a) q (plain_upto k (suc n) a)) (adds_over l (UpTo (suc n) a) a (UpTo n a ∷ []) b old new (upto_over l n a) (subst (λ z. Adds l a (b ++ z ∷ []) old new) e h))

-- these rules may be empty
pub null_rule : (k : ℕ) (i : Item) (r : Re) → re i ≡ r → rest_of k r ≡ r → Null r → (IsTrue true → Null (rest_of k (re i))) × (Null (rest_of k (re i)) → IsTrue true)
null_rule k i r q p n = ((λ x. subst Null (sym (rule_is k i r q p)) n), λ m. refl)

pub any_rule_adds : (l : Lead) (k : ℕ) (i : Item) (j : Kind) (f : Form j → Re) (items : List Item) (b : List Re) (old new : List (List Re)) → re i ≡ Any j f → map re items ≡ map f (forms j) → AddsAny l (map re items) b old new → Adds l (rest_of k (re i)) b old new
any_rule_adds l k i j f items b old new q p h = adds_at l _ _ b old new (rule_is k i (Any j f) q (plain_any k j f)) (any_all l j f b old new (rw p at h))

pub any_rule_null : (k : ℕ) (i : Item) (j : Kind) (f : Form j → Re) (items : List Item) (P : Type 0) → re i ≡ Any j f → map re items ≡ map f (forms j) → (P → NullAny (map re items)) × (NullAny (map re items) → P) → (P → Null (rest_of k (re i))) × (Null (rest_of k (re i)) → P)
any_rule_null k i j f items P q p h = null_at P _ _ (rule_is k i (Any j f) q (plain_any k j f)) ((λ x. any_null_to j f (subst NullAny p (h.0 x))), λ n. h.1 (subst NullAny (sym p) (any_null_from j f n)))

pub shared_none_step : (l : Lead) (k : ℕ) (i j : Item) (a b c : Re) (w : Entry) (u : List Re) (old new : List (List Re)) → re i ≡ Shared 0 a b c → re j ≡ UpTo 0 c → w ≡ record { item = j; at = 0 } → Adds l b (u ++ re_entry w ∷ []) old new → Adds l (rest_of k (re i)) u old new
shared_none_step l k i j a b c w u old new q r v h =
    let e : re_entry w ≡ UpTo 0 c = ap re_entry v ∙ r in
    adds_at l _ _ u old new (rule_is k i (Shared 0 a b c) q (plain_shared k 0 a b c)) (adds_over l (Shared 0 a b c) b (UpTo 0 c ∷ []) u old new (shared_none l a b c) (subst (λ z. Adds l b (u ++ z ∷ []) old new) e h))

pub shared_rule_null : (k n : ℕ) (i : Item) (a b c : Re) (P : Type 0) → re i ≡ Shared n a b c → (P → Null b) × (Null b → P) → (P → Null (rest_of k (re i))) × (Null (rest_of k (re i)) → P)
shared_rule_null k n i a b c P q h = null_at P _ _ (rule_is k i (Shared n a b c) q (plain_shared k n a b c)) ((λ x. null_shared (h.0 x)), λ m. h.1 (shared_null n a b c m))

pub shared_step : (l : Lead) (n k : ℕ) (i fi di : Item) (a b c : Re) (v w : Entry) (u x : List Entry) (old mid new : List (List Re)) → re i ≡ Shared (suc n) a b c → re di ≡ UpTo (suc n) c → re fi ≡ Shared n a b c → v ≡ record { item = fi; at = 0 } → w ≡ record { item = di; at = 0 }
    → (Null b → ⊥) → Adds l a (entries u ++ re_entry v ∷ []) old mid → x ≡ u → Adds l b (entries x ++ re_entry w ∷ []) mid new → Adds l (rest_of k (re i)) (entries u) old new
shared_step l n k i fi di a b c v w u x old mid new q r s ve we full h y g =
    let e : re_entry v ≡ Shared n a b c = ap re_entry ve ∙ s in
    let f : re_entry w ≡ UpTo (suc n) c = ap re_entry we ∙ r in
    adds_at l _ _ (entries u) old new (rule_is k i (Shared (suc n) a b c) q (plain_shared k (suc n) a b c))
    (adds_shared l n a b c (entries u) old mid new full (subst (λ z. Adds l a (entries u ++ z ∷ []) old mid) e h) (subst (λ z. Adds l b (entries u ++ z ∷ []) mid new) f (subst (λ z. Adds l b (entries z ++ re_entry w ∷ []) mid new) y g)))

pub shared_and_step : (l : Lead) (n k : ℕ) (i fi di li : Item) (a b c : Re) (v w o : Entry) (u x y : List Entry) (old mid late new : List (List Re)) → re i ≡ Shared (suc n) a b c → re di ≡ UpTo (suc n) c → re fi ≡ Shared n a b c → re li ≡ UpTo n c → v ≡ record { item = fi; at = 0 } → w ≡ record { item = di; at = 0 } → o ≡ record { item = li; at = 0 }
    → Null b → Adds l a (entries u ++ re_entry v ∷ []) old mid → x ≡ u → Adds l b (entries x ++ re_entry w ∷ []) mid late → y ≡ x → Adds l c (entries y ++ re_entry o ∷ []) late new → Adds l (rest_of k (re i)) (entries u) old new
shared_and_step l n k i fi di li a b c v w o u x y old mid late new q r s p ve we oe empty h xe g ye j =
    let e : re_entry v ≡ Shared n a b c = ap re_entry ve ∙ s in
    let f : re_entry w ≡ UpTo (suc n) c = ap re_entry we ∙ r in
    let m : re_entry o ≡ UpTo n c = ap re_entry oe ∙ p in
    adds_at l _ _ (entries u) old new (rule_is k i (Shared (suc n) a b c) q (plain_shared k (suc n) a b c))
    (adds_shared_and l n a b c (entries u) old mid late new empty (subst (λ z. Adds l a (entries u ++ z ∷ []) old mid) e h) (subst (λ z. Adds l b (entries u ++ z ∷ []) mid late) f (subst (λ z. Adds l b (entries z ++ re_entry w ∷ []) mid late) xe g))
    (subst (λ z. Adds l c (entries u ++ z ∷ []) late new) m (subst (λ z. Adds l c (entries z ++ re_entry o ∷ []) late new) (ye ∙ xe) j)))

pub shared_less : (k n : ℕ) (i : Item) (a b c : Re) → re i ≡ Shared n a b c → size (rest_of k (re i)) ≡ 1 + size a + size b + size c
shared_less k n i a b c q = ap size (rule_is k i (Shared n a b c) q (plain_shared k n a b c))
