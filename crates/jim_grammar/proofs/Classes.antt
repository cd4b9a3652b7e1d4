-- That texts go by the classes of their tokens, and have no token of an unknown class.
use Rattle.std.proofs.Common.{◌≡◌, ◌≢◌, ℕ, zero, suc, Bool, true, false, ◌&&◌, List, [], ◌∷◌, length, Some, None, refl, sym, ap, ◌∙◌, arith, true≢false}
use Rattle.std.specs.List.{All}
use Rattle.jim_text.specs.declared.lead.Lead.{Lead}
use Rattle.jim_text.specs.declared.lead.Lead.TheVariants as lead
use Rattle.jim_signs.specs.declared.seen.Sign.{Sign}
use Rattle.jim_grammar.specs.declared.set.LeadSet.{LeadSet}
use Rattle.jim_grammar.specs.declared.set.LeadSet.TheVariants.{Modifiers, Bases, ClassWords, Relations, Operators, PlainInvokes, SwitchWords, MonitorWords, SkipWords, OddTypes, NotEnds}
use Rattle.jim_grammar.specs.Sets.{is_in}
use Rattle.jim_grammar.specs.Forms.{forms}
use Rattle.jim_grammar.specs.Expressions.{Re, Eps, Tok, One, ◌·◌, Any, Star, Opt, UpTo, Shared, Tree, spell, spell_each, sign}
use Rattle.jim_grammar.specs.Grammar.{program}
use Rattle.jim_grammar.specs.Refusals.{Derives}
use Rattle.jim_grammar.specs.Laws.{leads}
use Rattle.jim_grammar.specs.Stacks.{In, here, there}
use Rattle.jim_grammar.proofs.Steps.{listed}

-- another tree that spells tokens of the same classes
record Respelled (e : Re) (m w : List Sign) : Type 0 where
  tree : Tree e
  rest : List Sign
  spells : spell e tree rest ≡ w
  same : leads m ≡ leads rest

record RespelledEach (a : Re) (count : ℕ) (m w : List Sign) : Type 0 where
  trees : List (Tree a)
  many : length trees ≡ count
  rest : List Sign
  spells : spell_each (spell a) trees rest ≡ w
  same : leads m ≡ leads rest

respell_each : (a : Re) → ((x : Tree a) (m w : List Sign) → leads (spell a x m) ≡ leads w → Respelled a m w) → (xs : List (Tree a)) (m w : List Sign) → leads (spell_each (spell a) xs m) ≡ leads w → RespelledEach a (length xs) m w
respell_each a go [] m w h = record { trees = []; many = refl; rest = w; spells = refl; same = h }
respell_each a go (x ∷ xs) m w h =
    let p = go x (spell_each (spell a) xs m) w h in
    let q = respell_each a go xs m p.rest p.same in
    record { trees = p.tree ∷ q.trees; many = ap suc q.many; rest = q.rest; spells = ap (spell a p.tree) q.spells ∙ p.spells; same = q.same }

respell : (e : Re) (x : Tree e) (m w : List Sign) → leads (spell e x m) ≡ leads w → Respelled e m w
respell Eps x m w h = record { tree = tt; rest = w; spells = refl; same = h }
respell (Tok l) x m [] h = absurd (cc h)
respell (Tok l) x m (t ∷ n) h = let p : l ≡ t.lead = cc in record { tree = t.text; rest = n; spells = ap (λ z. sign z t.text ∷ n) p; same = cc }
respell (One set) x m [] h = absurd (cc h)
respell (One set) x m (t ∷ n) h = let p : x.lead ≡ t.lead = cc in record { tree = record { lead = t.lead; text = t.text; is_in_set = rw p at x.is_in_set }; rest = n; spells = refl; same = cc }
respell (a · b) (x, y) m w h =
    let p = respell a x (spell b y m) w h in
    let q = respell b y m p.rest p.same in
    record { tree = (p.tree, q.tree); rest = q.rest; spells = ap (spell a p.tree) q.spells ∙ p.spells; same = q.same }
respell (Any k f) (i, x) m w h = let p = respell (f i) x m w h in record { tree = (i, p.tree); rest = p.rest; spells = p.spells; same = p.same }
respell (Star a) xs m w h = let p = respell_each a (λ x m w h. respell a x m w h) xs m w h in record { tree = p.trees; rest = p.rest; spells = p.spells; same = p.same }
respell (Opt a) None m w h = record { tree = None; rest = w; spells = refl; same = h }
respell (Opt a) (Some x) m w h = let p = respell a x m w h in record { tree = Some p.tree; rest = p.rest; spells = p.spells; same = p.same }
respell (UpTo n a) x m w h = let p = respell_each a (λ x m w h. respell a x m w h) x.items m w h in record { tree = record { items = p.trees; few = omega (arith, p.many, x.few) }; rest = p.rest; spells = p.spells; same = p.same }
respell (Shared n a b c) x m w h =
    let p = respell_each a (λ x m w h. respell a x m w h) x.before (spell b x.middle (spell_each (spell c) x.after m)) w h in
    let q = respell b x.middle (spell_each (spell c) x.after m) p.rest p.same in
    let r = respell_each c (λ x m w h. respell c x m w h) x.after m q.rest q.same in
    record {
      tree = record { before = p.trees; middle = q.tree; after = r.trees; few = omega (arith, p.many, r.many, x.few) };
      rest = r.rest;
      spells = ap (λ z. spell_each (spell a) p.trees (spell b q.tree z)) r.spells ∙ (ap (spell_each (spell a) p.trees) q.spells ∙ p.spells);
      same = r.same;
    }

pub go_by_classes : (a b : List Sign) → leads a ≡ leads b → Derives a → Derives b
go_by_classes a b h d = end (respell program d.tree [] b (ap leads d.spells ∙ h))
  where
    at : (tree : Tree program) (rest : List Sign) → spell program tree rest ≡ b → leads [] ≡ leads rest → Derives b
    at tree [] s e = record { tree = tree; spells = s }
    at tree (t ∷ rest) s e = absurd (cc e)

    end : Respelled program [] b → Derives b
    end r = at r.tree r.rest r.spells r.same

-- an expression that names no unknown class
is_known_lead : Lead → Bool
is_known_lead lead.Other = false
is_known_lead _ = true

all_of : {A : Type 0} → (A → Bool) → List A → Bool
all_of f [] = true
all_of f (x ∷ xs) = f x && all_of f xs

is_known : Re → Bool
unfolding is_known_lead all_of
is_known Eps = true
is_known (Tok l) = is_known_lead l
is_known (One set) = true
is_known (a · b) = is_known a && is_known b
is_known (Any k f) = all_of (λ i. is_known (f i)) (forms k)
is_known (Star a) = is_known a
is_known (Opt a) = is_known a
is_known (UpTo n a) = is_known a
is_known (Shared n a b c) = is_known a && (is_known b && is_known c)

known_program : is_known program ≡ true
unfolding is_known is_known_lead all_of
known_program = refl

-- each token is of a known class
Each : List Sign → Type 0
Each [] = Unit {0}
Each (s ∷ ss) = (s.lead ≢ lead.Other) × Each ss

all_each : (ss : List Sign) → Each ss → All (λ s. s.lead ≢ lead.Other) ss
unfolding Each
all_each [] e k d h = absurd (omega arith)
all_each (s ∷ ss) e zero d h = e.0
all_each (s ∷ ss) e (suc k) d h = all_each ss e.1 k d (omega arith)

lead_known : (l : Lead) → is_known_lead l ≡ true → l ≢ lead.Other
unfolding is_known_lead
lead_known l h e = let no : false ≡ true = rw e at h in true≢false (sym no)

no_set : (set : LeadSet) → is_in set lead.Other ≡ true → ⊥
no_set Modifiers h = true≢false (sym h)
no_set Bases h = true≢false (sym h)
no_set ClassWords h = true≢false (sym h)
no_set Relations h = true≢false (sym h)
no_set Operators h = true≢false (sym h)
no_set PlainInvokes h = true≢false (sym h)
no_set SwitchWords h = true≢false (sym h)
no_set MonitorWords h = true≢false (sym h)
no_set SkipWords h = true≢false (sym h)
no_set OddTypes h = true≢false (sym h)
no_set NotEnds h = true≢false (sym h)

set_known : (set : LeadSet) (l : Lead) → is_in set l ≡ true → l ≢ lead.Other
set_known set l h e = no_set set (rw e at h)

and_left : (s t : Bool) → (s && t) ≡ true → s ≡ true
and_left true t h = refl
and_left false t h = h

and_right : (s t : Bool) → (s && t) ≡ true → t ≡ true
and_right true t h = h
and_right false t h = absurd (true≢false (sym h))

one_of : {A : Type 0} (f : A → Bool) (xs : List A) (x : A) → all_of f xs ≡ true → In x xs → f x ≡ true
unfolding all_of
one_of f [] x h i = elim i [ ]
one_of f (y ∷ xs) x h here = and_left (f x) (all_of f xs) h
one_of f (y ∷ xs) x h (there i) = one_of f xs x (and_right (f y) (all_of f xs) h) i

known_each : (a : Re) → ((x : Tree a) (m : List Sign) → Each m → Each (spell a x m)) → (xs : List (Tree a)) (m : List Sign) → Each m → Each (spell_each (spell a) xs m)
known_each a go [] m e = e
known_each a go (x ∷ xs) m e = go x (spell_each (spell a) xs m) (known_each a go xs m e)

known_spell : (e : Re) → is_known e ≡ true → (x : Tree e) (m : List Sign) → Each m → Each (spell e x m)
unfolding is_known Each
known_spell Eps k x m h = h
known_spell (Tok l) k x m h = (lead_known l k, h)
known_spell (One set) k x m h = (set_known set x.lead x.is_in_set, h)
known_spell (a · b) k (x, y) m h = known_spell a (and_left (is_known a) (is_known b) k) x (spell b y m) (known_spell b (and_right (is_known a) (is_known b) k) y m h)
known_spell (Any j f) k (i, x) m h = known_spell (f i) (one_of (λ i. is_known (f i)) (forms j) i k (listed j i)) x m h
known_spell (Star a) k xs m h = known_each a (λ x m h. known_spell a k x m h) xs m h
known_spell (Opt a) k None m h = h
known_spell (Opt a) k (Some x) m h = known_spell a k x m h
known_spell (UpTo n a) k x m h = known_each a (λ x m h. known_spell a k x m h) x.items m h
known_spell (Shared n a b c) k x m h =
    let p = and_right (is_known a) (is_known b && is_known c) k in
    let q = known_each c (λ x m h. known_spell c (and_right (is_known b) (is_known c) p) x m h) x.after m h in
    known_each a (λ x m h. known_spell a (and_left (is_known a) (is_known b && is_known c) k) x m h) x.before (spell b x.middle (spell_each (spell c) x.after m)) (known_spell b (and_left (is_known b) (is_known c) p) x.middle (spell_each (spell c) x.after m) q)

pub have_known_classes : (signs : List Sign) → Derives signs → All (λ s. s.lead ≢ lead.Other) signs
unfolding Each
have_known_classes signs d = rw (← d.spells) (all_each (spell program d.tree []) (known_spell program known_program d.tree [] tt))
