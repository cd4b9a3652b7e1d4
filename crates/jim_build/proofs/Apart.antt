-- Spellings that are read in one way only: equal spellings are spellings of one tree, in front of one rest.
use Rattle.std.proofs.Common.{◌≡◌, ◌≢◌, ℕ, ◌+◌, ◌≤◌, true, List, [], ◌∷◌, length, Option, Some, None, refl, sym, ap, ◌∙◌, subst}
use Rattle.std.proofs.Math.Bool.{Bool-set}
use Rattle.std.proofs.Math.Bridge.{le_prop}
use Rattle.jim_text.specs.declared.lead.Lead.{Lead}
use Rattle.jim_signs.specs.declared.seen.Sign.{Sign}
use Rattle.jim_grammar.specs.declared.set.LeadSet.{LeadSet}
use Rattle.jim_grammar.specs.Sets.{is_in}
use Rattle.jim_grammar.specs.Forms.{Kind, Form}
use Rattle.jim_grammar.specs.Expressions.{Re, Eps, Tok, One, ◌·◌, Any, Star, Opt, UpTo, Shared, Tree, Chosen, AtMost, Between, spell, spell_each, spell_some}
use Rattle.jim_stmts.specs.Leads.{lead_at}

-- in front of such rests
pub record Apart (e : Re) (P : List Sign → Type 0) : Type 0 where
  pub same : (x y : Tree e) (r s : List Sign) → P r → P s → spell e x r ≡ spell e y s → (x ≡ y) × (r ≡ s)

-- any rest
abbrev pub Every : List Sign → Type 0
Every r = Unit {0}

-- the rest behind a token
abbrev tail_at : List Sign → List Sign
tail_at [] = []
tail_at (s ∷ r) = r

-- the number of a token
abbrev text_at : List Sign → ℕ
text_at [] = 0
text_at (s ∷ r) = s.text

-- pairs of equal parts
pub pair_same : {A B : Type 0} (a c : A) (b d : B) → a ≡ c → b ≡ d → ◌≡◌ {A = A × B} (a, b) (c, d)
pair_same {A} {B} a c b d e f = cc

-- nothing
pub apart_end : {P : List Sign → Type 0} → Apart Eps P
apart_end = record { same = λ x y r s p q h. (refl, h) }

-- a token
pub apart_tok : {l : Lead} {P : List Sign → Type 0} → Apart (Tok l) P
apart_tok = record { same = λ x y r s p q h. (ap text_at h, ap tail_at h) }

-- two choices of one token
abbrev chosen : (set : LeadSet) (l : Lead) (x : ℕ) → is_in set l ≡ true → Chosen set
chosen set l x p = record { lead = l; text = x; is_in_set = p }

-- choices of equal tokens
chosen_same : (set : LeadSet) (l m : Lead) (x y : ℕ) (p : is_in set l ≡ true) (q : is_in set m ≡ true) → l ≡ m → x ≡ y → chosen set l x p ≡ chosen set m y q
chosen_same set l m x y p q e f =
    subst (λ (m : Lead). (q : is_in set m ≡ true) → chosen set l x p ≡ chosen set m y q) e
    (λ q. subst (λ (y : ℕ). chosen set l x p ≡ chosen set l y q) f (ap (λ q. chosen set l x q) (Bool-set _ _ p q))) q

-- a token of a set
pub apart_one : {set : LeadSet} {P : List Sign → Type 0} → Apart (One set) P
apart_one {set} = record { same = λ x y r s p q h. (chosen_same set x.lead y.lead x.text y.text x.is_in_set y.is_in_set (ap lead_at h) (ap text_at h), ap tail_at h) }

-- one behind the other
pub apart_seq : {a b : Re} {P Q : List Sign → Type 0} → Apart a Q → Apart b P → ((y : Tree b) (r : List Sign) → P r → Q (spell b y r)) → Apart (a · b) P
apart_seq {a} {b} first second front = record {
  same = λ x y r s p q h.
      let f = first.same x.0 y.0 (spell b x.1 r) (spell b y.1 s) (front x.1 r p) (front y.1 s q) h in
      let g = second.same x.1 y.1 r s p q f.1 in
      (pair_same x.0 y.0 x.1 y.1 f.0 g.0, g.1);
}

-- one that ends in front of any rest, behind it another
pub free_then : {a b : Re} {P : List Sign → Type 0} → Apart a Every → Apart b P → Apart (a · b) P
free_then first second = apart_seq first second (λ y r p. tt)

-- a token, behind it another
pub tok_then : {l : Lead} {b : Re} {P : List Sign → Type 0} → Apart b P → Apart (Tok l · b) P
tok_then second = free_then apart_tok second

-- a production, which the next tokens tell
abbrev by_form : (k : Kind) (f : Form k → Re) (i : Form k) → Tree (f i) → Tree (Any k f)
by_form k f i x = (i, x)

pub apart_any : {k : Kind} {f : Form k → Re} {P : List Sign → Type 0} (pick : List Sign → Form k)
    → ((i : Form k) (x : Tree (f i)) (r : List Sign) → P r → pick (spell (f i) x r) ≡ i) → ((i : Form k) → Apart (f i) P) → Apart (Any k f) P
apart_any {k} {f} {P} pick picks each = record {
  same = λ x y r s p q h.
      let e : x.0 ≡ y.0 = sym (picks x.0 x.1 r p) ∙ (ap pick h ∙ picks y.0 y.1 s q) in
      subst (λ (j : Form k). (z : Tree (f j)) → spell (f x.0) x.1 r ≡ spell (f j) z s → (by_form k f x.0 x.1 ≡ by_form k f j z) × (r ≡ s)) e
      (λ z g. let t = (each x.0).same x.1 z r s p q g in (ap (λ z. by_form k f x.0 z) t.0, t.1)) y.1 h;
}

-- a list, whose end its elements tell
pub each_same : {a : Re} {P Q : List Sign → Type 0} → Apart a Q → ((y : Tree a) (w : List Sign) → Q (spell a y w)) → ((r : List Sign) → P r → Q r)
    → ((y : Tree a) (w r : List Sign) → P r → r ≢ spell a y w)
    → (xs ys : List (Tree a)) (r s : List Sign) → P r → P s → spell_each (spell a) xs r ≡ spell_each (spell a) ys s → (xs ≡ ys) × (r ≡ s)
each_same one next last differs [] [] r s p q h = (refl, h)
each_same one next last differs [] (y ∷ ys) r s p q h = absurd (differs y _ r p h)
each_same one next last differs (x ∷ xs) [] r s p q h = absurd (differs x _ s q (sym h))
each_same {a} {P} {Q} one next last differs (x ∷ xs) (y ∷ ys) r s p q h =
    let f = one.same x y _ _ (behind xs r p) (behind ys s q) h in
    let g = each_same one next last differs xs ys r s p q f.1 in
    (cc (f.0, g.0), g.1)
  where
    behind : (zs : List (Tree a)) (r : List Sign) → P r → Q (spell_each (spell a) zs r)
    behind [] r p = last r p
    behind (z ∷ zs) r p = next z _

-- a list, where an element may need what stands behind it
pub apart_star : {a : Re} {P Q : List Sign → Type 0} → Apart a Q → ((y : Tree a) (w : List Sign) → Q (spell a y w)) → ((r : List Sign) → P r → Q r)
    → ((y : Tree a) (w r : List Sign) → P r → r ≢ spell a y w) → Apart (Star a) P
apart_star one next last differs = record { same = each_same one next last differs }

-- a list, whose elements end in front of any rest
pub free_star : {a : Re} {P : List Sign → Type 0} → Apart a Every → ((y : Tree a) (w r : List Sign) → P r → r ≢ spell a y w) → Apart (Star a) P
free_star one differs = apart_star one (λ y w. tt) (λ r p. tt) differs

-- one or none
pub apart_opt : {a : Re} {P : List Sign → Type 0} → Apart a P → ((y : Tree a) (w r : List Sign) → P r → r ≢ spell a y w) → Apart (Opt a) P
apart_opt {a} {P} one differs = record { same = go }
  where
    go : (x y : Option (Tree a)) (r s : List Sign) → P r → P s → spell_some (spell a) x r ≡ spell_some (spell a) y s → (x ≡ y) × (r ≡ s)
    go None None r s p q h = (refl, h)
    go None (Some y) r s p q h = absurd (differs y s r p h)
    go (Some x) None r s p q h = absurd (differs x r s q (sym h))
    go (Some x) (Some y) r s p q h = let f = one.same x y r s p q h in (ap Some f.0, f.1)

-- lists of at most so many
abbrev at_most : {A : Type 0} (n : ℕ) (xs : List A) → length xs ≤ n → AtMost n A
at_most n xs p = record { items = xs; few = p }

-- equal lists of at most so many
at_most_same : {A : Type 0} (n : ℕ) (xs ys : List A) (p : length xs ≤ n) (q : length ys ≤ n) → xs ≡ ys → at_most n xs p ≡ at_most n ys q
at_most_same {A} n xs ys p q e =
    subst (λ (ys : List A). (q : length ys ≤ n) → at_most n xs p ≡ at_most n ys q) e (λ q. ap (λ q. at_most n xs q) (le_prop p q)) q

-- a list of at most so many
pub apart_up_to : {n : ℕ} {a : Re} {P : List Sign → Type 0} → Apart a Every → ((y : Tree a) (w r : List Sign) → P r → r ≢ spell a y w) → Apart (UpTo n a) P
apart_up_to {n} {a} {P} one differs = record {
  same = λ x y r s p q h.
      let f = each_same {P = P} one (λ y w. tt) (λ r p. tt) differs x.items y.items r s p q h in (at_most_same n x.items y.items x.few y.few f.0, f.1);
}

-- what begins with the middle of three
abbrev Middle : (b : Re) → List Sign → Type 0
Middle b w = (y : Tree b) × (v : List Sign) × (w ≡ spell b y v)

-- two lists with a middle
abbrev between : {A B C : Type 0} (n : ℕ) (xs : List A) (y : B) (zs : List C) → length xs + length zs ≤ n → Between n A B C
between n xs y zs p = record { before = xs; middle = y; after = zs; few = p }

-- equal lists and equal middles
between_same : {A B C : Type 0} (n : ℕ) (xs xs' : List A) (y y' : B) (zs zs' : List C) (p : length xs + length zs ≤ n) (q : length xs' + length zs' ≤ n)
    → xs ≡ xs' → y ≡ y' → zs ≡ zs' → between n xs y zs p ≡ between n xs' y' zs' q
between_same {A} {B} {C} n xs xs' y y' zs zs' p q e f g =
    subst (λ (xs' : List A). (q : length xs' + length zs' ≤ n) → between n xs y zs p ≡ between n xs' y' zs' q) e
    (subst (λ (zs' : List C). (q : length xs + length zs' ≤ n) → between n xs y zs p ≡ between n xs y' zs' q) g
    (λ q. subst (λ (y' : B). between n xs y zs p ≡ between n xs y' zs q) f (ap (λ q. between n xs y zs q) (le_prop p q)))) q

-- two lists with a middle that ends the first
pub apart_shared : {n : ℕ} {a b c : Re} {P : List Sign → Type 0} → Apart a Every → Apart b Every → Apart c Every
    → ((y : Tree a) (w : List Sign) (z : Tree b) (v : List Sign) → spell b z v ≢ spell a y w) → ((y : Tree c) (w r : List Sign) → P r → r ≢ spell c y w) → Apart (Shared n a b c) P
apart_shared {n} {a} {b} {c} {P} one middle other first last = record {
  same = λ x y r s p q h.
      let f = each_same {P = Middle b} one (λ y w. tt) (λ r p. tt) (λ y w r m e. first y w m.0 m.1 (sym m.2 ∙ e)) x.before y.before _ _ (x.middle, _, refl) (y.middle, _, refl) h in
      let g = middle.same x.middle y.middle _ _ tt tt f.1 in
      let k = each_same {P = P} other (λ y w. tt) (λ r p. tt) last x.after y.after r s p q g.1 in
      (between_same n x.before y.before x.middle y.middle x.after y.after x.few y.few f.0 g.0 k.0, k.1);
}
