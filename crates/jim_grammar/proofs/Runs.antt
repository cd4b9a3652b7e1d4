-- What stacks read, step by step.
use Rattle.std.proofs.Common.{◌≡◌, ◌⊎◌, inl, inr, List, [], ◌∷◌, ◌++◌, refl, sym, ◌∙◌, subst, append_assoc}
use Rattle.jim_text.specs.declared.lead.Lead.{Lead}
use Rattle.jim_signs.specs.declared.seen.Sign.{Sign}
use Rattle.jim_grammar.specs.Expressions.{Re, Tree, spell}
use Rattle.jim_grammar.specs.Grammar.{program}
use Rattle.jim_grammar.specs.Residuals.{Null, Step, Reads}
use Rattle.jim_grammar.specs.Stacks.{In, here, there, Adds, Takes, Follows, Advances, SoFar}
use Rattle.jim_grammar.specs.Refusals.{Derives, Refused}
use Rattle.jim_grammar.proofs.Theory.{goes_on, Goes, back, nothing, some_tree}
use Rattle.jim_grammar.proofs.Steps.{in_left, in_last, in_either}

pub reads_app : (a b : List Re) (w v m : List Sign) → Reads b w v → Reads a v m → Reads (a ++ b) w m
reads_app [] b w v m p q = rw q at p
reads_app (c ∷ a) b w v m p (u, q, x, r) = (u, reads_app a b w v u p q, x, r)

pub reads_split : (a b : List Re) (w m : List Sign) → Reads (a ++ b) w m → (v : List Sign) × Reads b w v × Reads a v m
reads_split [] b w m p = (m, p, refl)
reads_split (c ∷ a) b w m (u, q, x, r) = let i = reads_split a b w u q in (i.0, i.1, (u, i.2, x, r))

-- one entry on top
pub reads_top : (a : List Re) (e : Re) (m : List Sign) (x : Tree e) → (v : List Sign) → Reads a v m → Reads (a ++ e ∷ []) (spell e x v) m
reads_top a e m x v p = reads_app a (e ∷ []) (spell e x v) v m (spell e x v, refl, x, refl) p

pub follows_end : (l : Lead) (old : List (List Re)) → Follows l [] old old
follows_end l old = record { found = λ t w h k. inl k; all = λ t w h r. absurd (cc r); kept = λ w k. k }

takes_step : (l : Lead) (e : Re) (f : List Re) (old mid : List (List Re)) → Adds l e f old mid → (t : Sign) (w : List Sign) → t.lead ≡ l → Takes mid w → Takes old w ⊎ Reads (f ++ e ∷ []) (t ∷ w) []
takes_step l e f old mid a t w h k = or k.stack k.reads (a.found k.stack k.is_one)
  where
    or : (s : List Re) → Reads s w [] → In s old ⊎ ((z : List Re) × Step l e z × (s ≡ f ++ z)) → Takes old w ⊎ Reads (f ++ e ∷ []) (t ∷ w) []
    or s r (inl i) = inl (record { stack = s; is_one = i; reads = r })
    or s r (inr (z, st, q)) =
        let p = reads_split f z w [] (rw q at r) in
        let y = back st t w p.0 h p.1 in
        inr (rw (← y.1) (reads_top f e [] y.0 p.0 p.2))

step_takes : (l : Lead) (e : Re) (f : List Re) (old mid : List (List Re)) → Adds l e f old mid → (t : Sign) (w : List Sign) → t.lead ≡ l → Reads (f ++ e ∷ []) (t ∷ w) [] → Takes mid w ⊎ (Null e × Reads f (t ∷ w) [])
step_takes l e f old mid a t w h r = top (reads_split f (e ∷ []) (t ∷ w) [] r)
  where
    or : (v : List Sign) → Reads f v [] → Goes e t w v → Takes mid w ⊎ (Null e × Reads f (t ∷ w) [])
    or v p (inl q) = inr (q.0, rw q.1 at p)
    or v p (inr (z, st, s)) = inl (record { stack = f ++ z; is_one = a.all z (rw h at st); reads = reads_app f z w v [] s p })

    top : (v : List Sign) × Reads (e ∷ []) (t ∷ w) v × Reads f v [] → Takes mid w ⊎ (Null e × Reads f (t ∷ w) [])
    top (v, (u, q, x, s), p) = or v p (goes_on e x t w v (sym (q ∙ s)))

adds_kept : (l : Lead) (e : Re) (f : List Re) (old mid : List (List Re)) → Adds l e f old mid → (w : List Sign) → Takes old w → Takes mid w
adds_kept l e f old mid a w k = record { stack = k.stack; is_one = a.kept k.stack k.is_one; reads = k.reads }

pub follows_full : (l : Lead) (e : Re) (f : List Re) (old new : List (List Re)) → (Null e → ⊥) → Adds l e f old new → Follows l (f ++ e ∷ []) old new
follows_full l e f old new full a = record { found = λ t w h k. takes_step l e f old new a t w h k; all = λ t w h r. or t w (step_takes l e f old new a t w h r); kept = adds_kept l e f old new a }
  where
    or : (t : Sign) (w : List Sign) → Takes new w ⊎ (Null e × Reads f (t ∷ w) []) → Takes new w
    or t w (inl k) = k
    or t w (inr p) = absurd (full p.0)

pub follows_on : (l : Lead) (e : Re) (f : List Re) (old mid new : List (List Re)) → Null e → Adds l e f old mid → Follows l f mid new → Follows l (f ++ e ∷ []) old new
follows_on l e f old mid new n a g = record { found = λ t w h k. or t w h (g.found t w h k); all = λ t w h r. either t w h (step_takes l e f old mid a t w h r); kept = λ w k. g.kept w (adds_kept l e f old mid a w k) }
  where
    or : (t : Sign) (w : List Sign) → t.lead ≡ l → Takes mid w ⊎ Reads f (t ∷ w) [] → Takes old w ⊎ Reads (f ++ e ∷ []) (t ∷ w) []
    or t w h (inl k) = takes_step l e f old mid a t w h k
    or t w h (inr r) = let x = nothing n (t ∷ w) in inr (subst (λ z. Reads (f ++ e ∷ []) z []) x.1 (reads_top f e [] x.0 (t ∷ w) r))

    either : (t : Sign) (w : List Sign) → t.lead ≡ l → Takes mid w ⊎ (Null e × Reads f (t ∷ w) []) → Takes new w
    either t w h (inl k) = g.kept w k
    either t w h (inr p) = g.all t w h p.1

pub advances_none : (l : Lead) → Advances l [] []
advances_none l = record { found = λ t w h k. absurd (none k.is_one); all = λ t w h k. absurd (none k.is_one) }
  where
    none : {s : List Re} → In s [] → ⊥
    none i = elim i [ ]

pub advances_more : (l : Lead) (xs : List (List Re)) (b : List Re) (mid new : List (List Re)) → Advances l xs mid → Follows l b mid new → Advances l (xs ++ b ∷ []) new
advances_more l xs b mid new a g = record { found = λ t w h k. or t w h (g.found t w h k); all = λ t w h k. either t w h k.stack k.reads (in_either xs b k.stack k.is_one) }
  where
    or : (t : Sign) (w : List Sign) → t.lead ≡ l → Takes mid w ⊎ Reads b (t ∷ w) [] → Takes (xs ++ b ∷ []) (t ∷ w)
    or t w h (inl k) = let m = a.found t w h k in record { stack = m.stack; is_one = in_left m.is_one (b ∷ []); reads = m.reads }
    or t w h (inr r) = record { stack = b; is_one = in_last xs b; reads = r }

    either : (t : Sign) (w : List Sign) → t.lead ≡ l → (s : List Re) → Reads s (t ∷ w) [] → In s xs ⊎ (s ≡ b) → Takes new w
    either t w h s r (inl i) = g.kept w (a.all t w h (record { stack = s; is_one = i; reads = r }))
    either t w h s r (inr q) = g.all t w h (rw q at r)

-- each stack takes some tokens
pub stack_takes : (s : List Re) (m : List Sign) → (w : List Sign) × Reads s w m
stack_takes [] m = (m, refl)
stack_takes (b ∷ s) m = let x = some_tree b in let i = stack_takes s (spell b x m) in (i.0, (spell b x m, i.1, x, refl))

pub so_far_start : SoFar [] ((program ∷ []) ∷ [])
so_far_start = record { to = λ w k. one_of w k.stack k.is_one k.reads; from = λ w d. record { stack = program ∷ []; is_one = here; reads = (w, refl, d.tree, sym d.spells) } }
  where
    one_of : (w : List Sign) (s : List Re) → In s ((program ∷ []) ∷ []) → Reads s w [] → Derives w
    one_of w s here (v, p, x, q) = record { tree = x; spells = sym (p ∙ q) }
    one_of w s (there i) r = elim i [ ]

pub so_far_more : (done : List Sign) (t : Sign) (ss new : List (List Re)) → SoFar done ss → Advances t.lead ss new → SoFar (done ++ t ∷ []) new
so_far_more done t ss new s a = record { to = λ w k. rw append_assoc (s.to (t ∷ w) (a.found t w refl k)); from = λ w d. a.all t w refl (s.from (t ∷ w) (rw append_assoc at d)) }

pub so_far_viable : (done : List Sign) (s : List Re) (ss : List (List Re)) → In s ss → SoFar done ss → (more : List Sign) × Derives (done ++ more)
so_far_viable done s ss i f = let k = stack_takes s [] in (k.0, f.to k.0 (record { stack = s; is_one = i; reads = k.1 }))

pub so_far_none : (done : List Sign) → SoFar done [] → Refused done
so_far_none done f = λ more d. none (f.from more d).is_one
  where
    none : {s : List Re} → In s [] → ⊥
    none i = elim i [ ]
