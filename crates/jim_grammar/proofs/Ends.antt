-- The machine's loops over stacks and tokens.
use Rattle.std.proofs.Common.{◌≡◌, ◌≢◌, ℕ, zero, suc, ◌+◌, ◌<◌, ◌≤◌, ◌⊎◌, inl, inr, List, [], ◌∷◌, ◌++◌, length, take, drop, get_or, slice_get, Vec, Global, Some, None, refl, sym, ap, ◌∙◌, subst, arith, add-one, append-nil}
use Rattle.std.proofs.lemmas.List.{map-append, length-map}
use Rattle.jim_text.specs.declared.lead.Lead.{Lead}
use Rattle.jim_signs.specs.declared.seen.Sign.{Sign}
use Rattle.jim_grammar.specs.declared.machine.Entry.{Entry}
use Rattle.jim_grammar.specs.Expressions.{Re, Eps, Tok, One, ◌·◌, Any, Star, Opt, UpTo, Shared, Tree, spell, spell_each}
use Rattle.jim_grammar.specs.Residuals.{Null, null_eps, null_both, null_any, null_star, null_opt, null_upto, null_shared, Reads}
use Rattle.jim_grammar.specs.Stacks.{In, here, there, Adds, Takes, Follows, Advances, SoFar, re_entry, entries, stacks}
use Rattle.jim_grammar.specs.Refusals.{Derives, Refused, Least}
use Rattle.jim_grammar.specs.declared.automaton.Move.TheVariants as move
use Rattle.jim_grammar.specs.Automata.{IsMove}
use Rattle.jim_grammar.proofs.Theory.{nothing}
use Rattle.jim_grammar.proofs.Steps.{in_either}
use Rattle.jim_grammar.proofs.Runs.{reads_split, reads_top, follows_full, follows_on, so_far_more, so_far_none, so_far_viable}

entries_more : (b f : List Entry) (e : Entry) → b ≡ f ++ e ∷ [] → entries b ≡ entries f ++ re_entry e ∷ []
entries_more b f e q = ap entries q ∙ map-append re_entry f (e ∷ [])

pub follow_full : (l : Lead) (b f : List Entry) (e : Entry) (old new : List (List Re)) → b ≡ f ++ e ∷ [] → (Null (re_entry e) → ⊥) → Adds l (re_entry e) (entries f) old new → Follows l (entries b) old new
follow_full l b f e old new q full a = rw (entries_more b f e q) (follows_full l (re_entry e) (entries f) old new full a)

pub follow_on : (l : Lead) (b f g : List Entry) (e : Entry) (old mid new : List (List Re)) → b ≡ f ++ e ∷ [] → Null (re_entry e) → Adds l (re_entry e) (entries f) old mid → g ≡ f → Follows l (entries g) mid new → Follows l (entries b) old new
follow_on l b f g e old mid new q n a r h = rw (entries_more b f e q) (follows_on l (re_entry e) (entries f) old mid new n a (rw r at h))

each_empty : (a : Re) → ((x : Tree a) (m : List Sign) → spell a x m ≡ [] → Null a × (m ≡ [])) → (xs : List (Tree a)) (m : List Sign) → spell_each (spell a) xs m ≡ [] → m ≡ []
each_empty a go [] m h = h
each_empty a go (x ∷ xs) m h = each_empty a go xs m (go x (spell_each (spell a) xs m) h).1

empty_text : (e : Re) (x : Tree e) (m : List Sign) → spell e x m ≡ [] → Null e × (m ≡ [])
empty_text Eps x m h = (null_eps, h)
empty_text (Tok l) x m h = absurd (cc h)
empty_text (One s) x m h = absurd (cc h)
empty_text (a · b) (x, y) m h = let p = empty_text a x (spell b y m) h in let q = empty_text b y m p.1 in (null_both p.0 q.0, q.1)
empty_text (Any k f) (i, x) m h = let p = empty_text (f i) x m h in (null_any i p.0, p.1)
empty_text (Star a) xs m h = (null_star, each_empty a (λ x m q. empty_text a x m q) xs m h)
empty_text (Opt a) None m h = (null_opt, h)
empty_text (Opt a) (Some x) m h = (null_opt, (empty_text a x m h).1)
empty_text (UpTo n a) x m h = (null_upto, each_empty a (λ x m q. empty_text a x m q) x.items m h)
empty_text (Shared n a b c) x m h =
    let p = empty_text b x.middle (spell_each (spell c) x.after m) (each_empty a (λ x m q. empty_text a x m q) x.before (spell b x.middle (spell_each (spell c) x.after m)) h) in
    (null_shared p.0, each_empty c (λ x m q. empty_text c x m q) x.after m p.1)

top_empty : (f : List Re) (e : Re) → Reads (f ++ e ∷ []) [] [] → Null e × Reads f [] []
top_empty f e r = top (reads_split f (e ∷ []) [] [] r)
  where
    top : (v : List Sign) × Reads (e ∷ []) [] v × Reads f v [] → Null e × Reads f [] []
    top (v, (u, q, x, s), p) = let n = empty_text e x v (sym (q ∙ s)) in (n.0, rw n.1 at p)

pub none_empty : (b f : List Entry) (e : Entry) → b ≡ f ++ e ∷ [] → (Null (re_entry e) → ⊥) → Reads (entries b) [] [] → ⊥
none_empty b f e q full r = full (top_empty (entries f) (re_entry e) (rw (entries_more b f e q) at r)).0

pub one_empty : (b f g : List Entry) (e : Entry) (P : Type 0) → b ≡ f ++ e ∷ [] → Null (re_entry e) → g ≡ f → (P → Reads (entries g) [] []) × (Reads (entries g) [] [] → P) → (P → Reads (entries b) [] []) × (Reads (entries b) [] [] → P)
one_empty b f g e P q n r h = rw (entries_more b f e q) (
  (λ p. let x = nothing n [] in subst (λ z. Reads (entries f ++ re_entry e ∷ []) z []) x.1 (reads_top (entries f) (re_entry e) [] x.0 [] (rw r at (h.0 p)))),
  (λ s. h.1 (rw r (top_empty (entries f) (re_entry e) s).1)),
)

pub stacks_more : (xs : List (Vec Entry Global)) (i : ℕ) (d : Vec Entry Global) → i < length xs → stacks (take (i + 1) xs) ≡ stacks (take i xs) ++ entries (get_or xs i d).items ∷ []
stacks_more xs i d h = rw add-one (more xs i h)
  where
    more : (xs : List (Vec Entry Global)) (i : ℕ) → i < length xs → stacks (take (suc i) xs) ≡ stacks (take i xs) ++ entries (get_or xs i d).items ∷ []
    more [] i h = absurd (omega arith)
    more (x ∷ xs) zero h = refl
    more (x ∷ xs) (suc i) h = ap (λ z. entries x.items ∷ z) (more xs i (omega arith))

pub in_stacks : (xs : List (Vec Entry Global)) (i : ℕ) (d : Vec Entry Global) → i < length xs → In (entries (get_or xs i d).items) (stacks xs)
in_stacks [] i d h = absurd (omega arith)
in_stacks (x ∷ xs) zero d h = here
in_stacks (x ∷ xs) (suc i) d h = there (in_stacks xs i d (omega arith))

pub takes_at : (xs : List (Vec Entry Global)) (i : ℕ) (v : Vec Entry Global) (b : List Entry) → i < length xs → v ≡ get_or xs i v → b ≡ v.items → Reads (entries b) [] [] → Takes (stacks xs) []
takes_at xs i v b h q p r = record { stack = entries (get_or xs i v).items; is_one = in_stacks xs i v h; reads = subst (λ z. Reads (entries z) [] []) (p ∙ ap (λ (z : Vec Entry Global). z.items) q) r }

pub takes_none : (xs : List (Vec Entry Global)) (i : ℕ) (v : Vec Entry Global) (b : List Entry) → i < length xs → v ≡ get_or xs i v → b ≡ v.items → (Takes (stacks (take i xs)) [] → ⊥) → (Reads (entries b) [] [] → ⊥) → Takes (stacks (take (i + 1) xs)) [] → ⊥
takes_none xs i v b h q p no_old no_new k = or k.stack k.reads (in_either _ _ k.stack (rw (stacks_more xs i v h) at k.is_one))
  where
    or : (s : List Re) → Reads s [] [] → In s (stacks (take i xs)) ⊎ (s ≡ entries (get_or xs i v).items) → ⊥
    or s r (inl j) = no_old (record { stack = s; is_one = j; reads = r })
    or s r (inr e) = no_new (subst (λ z. Reads (entries z) [] []) (sym (p ∙ ap (λ (z : Vec Entry Global). z.items) q)) (rw e at r))

pub signs_more : (xs : List Sign) (i : ℕ) (d : Sign) → i < length xs → take (i + 1) xs ≡ take i xs ++ get_or xs i d ∷ []
signs_more xs i d h = rw add-one (more xs i h)
  where
    more : (xs : List Sign) (i : ℕ) → i < length xs → take (suc i) xs ≡ take i xs ++ get_or xs i d ∷ []
    more [] i h = absurd (omega arith)
    more (x ∷ xs) zero h = refl
    more (x ∷ xs) (suc i) h = ap (λ z. x ∷ z) (more xs i (omega arith))

-- a set of some stacks has one
pub some_in : (ss : List (List Re)) → length ss ≢ 0 → (s : List Re) × In s ss
some_in [] h = absurd (h refl)
some_in (s ∷ ss) h = (s, here)

pub length-stacks : (vs : List (Vec Entry Global)) → length (stacks vs) ≡ length vs
length-stacks vs = length-map vs (λ (v : Vec Entry Global). entries v.items)

pub no_stack : (vs : List (Vec Entry Global)) → length vs ≡ 0 → stacks vs ≡ []
no_stack [] h = refl
no_stack (v ∷ vs) h = absurd (omega arith)

pub far_more : (signs : List Sign) (k : ℕ) (d : Sign) (ss new : List (List Re)) → k < length signs → SoFar (take k signs) ss → Advances (get_or signs k d).lead ss new → SoFar (take (k + 1) signs) new
far_more signs k d ss new h s a = rw (signs_more signs k d h) (so_far_more (take k signs) (get_or signs k d) ss new s a)

whole_list : (xs : List Sign) (k : ℕ) → take k xs ++ drop k xs ≡ xs
whole_list [] zero = refl
whole_list [] (suc k) = refl
whole_list (x ∷ xs) zero = refl
whole_list (x ∷ xs) (suc k) = ap (λ z. x ∷ z) (whole_list xs k)

pub least_at : (signs : List Sign) (k : ℕ) (d : Sign) (ss : List (List Re)) → k < length signs → length ss ≢ 0 → SoFar (take k signs) ss → Advances (get_or signs k d).lead ss [] → Least signs k
least_at signs k d ss h some f a = record {
  within = omega arith;
  viable = let s = some_in ss some in so_far_viable (take k signs) s.0 ss s.1 f;
  refused = λ lt. gone;
  whole = λ w. gone (drop (k + 1) signs) (rw (whole_list signs (k + 1)) w);
}
  where
    gone : Refused (take (k + 1) signs)
    gone = so_far_none (take (k + 1) signs) (far_more signs k d ss [] h f a)

pub whole_take : (xs : List Sign) (k : ℕ) → length xs ≤ k → take k xs ≡ xs
whole_take [] zero h = refl
whole_take [] (suc k) h = refl
whole_take (x ∷ xs) zero h = absurd (omega arith)
whole_take (x ∷ xs) (suc k) h = ap (λ z. x ∷ z) (whole_take xs k (omega arith))

pub least_end : (signs : List Sign) (ss : List (List Re)) → length ss ≢ 0 → SoFar signs ss → (Takes ss [] → ⊥) → Least signs (length signs)
least_end signs ss some f none =
    record {
      within = omega arith;
      viable = let s = some_in ss some in rw (whole_take signs (length signs) (omega arith)) (so_far_viable signs s.0 ss s.1 f);
      refused = λ lt. absurd (omega arith);
      whole = λ w. none (f.from [] (rw append-nil w));
    }

pub accepted_end : (signs : List Sign) (ss : List (List Re)) → SoFar signs ss → Takes ss [] → Derives signs
accepted_end signs ss f k = rw append-nil at (f.to [] k)

-- where a place is refused, the tokens are no text
pub not_accepted : (signs : List Sign) (at k : ℕ) → Least signs at → (Some k ≡ None → Derives signs) × (Derives signs → Some k ≡ None)
not_accepted signs at k l = ((λ e. cc e), λ d. absurd (l.whole d))

-- a move to nowhere refuses, and another goes on
pub nowhere : (sets : List (List (List Re))) (signs : List Sign) (k s : ℕ) (d : Sign) (ss : List (List Re)) → k < length signs → length ss ≢ 0 → slice_get sets s ≡ Some ss → SoFar (take k signs) ss
    → IsMove sets s (get_or signs k d).lead move.Nowhere → Least signs k
nowhere sets signs k s d ss h some at f (new, none, leads) =
    let same : leads.old ≡ ss = cc (at, leads.is_old) in
    least_at signs k d ss h some f (rw (← same, ← none) leads.advances)

pub onward : (sets : List (List (List Re))) (signs : List Sign) (k s t : ℕ) (d : Sign) (ss : List (List Re)) → k < length signs → slice_get sets s ≡ Some ss → SoFar (take k signs) ss
    → IsMove sets s (get_or signs k d).lead (move.To t) → (new : List (List Re)) × (slice_get sets t ≡ Some new) × SoFar (take (k + 1) signs) new
onward sets signs k s t d ss h at f (new, to, leads) =
    let same : leads.old ≡ ss = cc (at, leads.is_old) in
    (new, to, far_more signs k d ss new h f (rw same at leads.advances))
