-- What the automaton keeps: that it tells sets of stacks apart, and that each of its moves is what the plain step gives.
use Rattle.std.proofs.Common.{◌≡◌, ◌≢◌, ℕ, zero, suc, ◌+◌, ◌-◌, ◌*◌, ◌<◌, ◌≤◌, ◌⊎◌, inl, inr, Bool, true, false, ◌&&◌, List, [], ◌∷◌, ◌++◌, map, length, replicate, slice_get, slice_set, Vec, Global, Option, Some, None, refl, sym, ap, ◌∙◌, arith, rules, lit<, true≢false, if◌then◌else◌, nat_eq, length-append, length-set}
use Rattle.std.specs.List.{list_any}
use Rattle.std.proofs.lemmas.Bool.{eqb-true, cases_eq}
use Rattle.std.proofs.lemmas.List.{map-append, length-replicate, length-map}
use Rattle.indexmap.specs.IndexSet.{insert_key}
use Rattle.lists.proofs.Places.{slice_get-append_left, slice_get-pushed, slice_get-below, slice_get-set_same, slice_get-set_other}
use lib.Pointwise.{pointwise}
use denote.Enum.Bare.{same_true, tag_one}
use Rattle.jim_text.specs.contracts.lead.Lead.{the_type}
use Rattle.jim_text.specs.declared.lead.Lead.{Lead}
use Rattle.jim_text.specs.declared.lead.Lead.TheVariants as lead
use Rattle.jim_grammar.specs.contracts.item.TypePiece as type_piece
use Rattle.jim_grammar.specs.contracts.item.ImmPiece as imm_piece
use Rattle.jim_grammar.specs.contracts.item.SigPiece as sig_piece
use Rattle.jim_grammar.specs.contracts.item.CallPiece as call_piece
use Rattle.jim_grammar.specs.contracts.item.ExprPiece as expr_piece
use Rattle.jim_grammar.specs.contracts.item.MovePiece as move_piece
use Rattle.jim_grammar.specs.contracts.item.JumpPiece as jump_piece
use Rattle.jim_grammar.specs.contracts.item.StmtPiece as stmt_piece
use Rattle.jim_grammar.specs.contracts.item.BodyPiece as body_piece
use Rattle.jim_grammar.specs.contracts.item.ClassPiece as class_piece
use Rattle.jim_grammar.specs.contracts.set.LeadSet as set_type
use Rattle.jim_grammar.specs.contracts.item.ItemPartialEq.TheImpl as item_eq
use Rattle.jim_grammar.specs.contracts.machine.EntryPartialEq.TheImpl as entry_eq
use Rattle.jim_grammar.specs.declared.item.Item.{Item}
use Rattle.jim_grammar.specs.declared.item.Item.TheVariants as item
use Rattle.jim_grammar.specs.declared.machine.Entry.{Entry}
use Rattle.jim_grammar.specs.declared.automaton.Automaton.{Automaton}
use Rattle.jim_grammar.specs.declared.automaton.Move.{Move}
use Rattle.jim_grammar.specs.declared.automaton.Move.TheVariants as move
use Rattle.jim_grammar.specs.Expressions.{Re}
use Rattle.jim_grammar.specs.Stacks.{re_entry, entries, stacks}
use Rattle.jim_grammar.specs.Automata.{code, classes, sets_of, Grows, IsTo, IsMove, IsAutomaton}

-- the number of a class is one of so many, and tells the class
pub code_below : (l : Lead) → code l < classes
code_below lead.Name = lit< tt
code_below _ = lit< tt

code_one : (a b : Lead) → code a ≡ code b → a ≡ b
code_one a b e = tag_one the_type (search rules) a b e

and_left : (s t : Bool) → (s && t) ≡ true → s ≡ true
and_left true t h = refl
and_left false t h = h

and_right : (s t : Bool) → (s && t) ≡ true → t ≡ true
and_right true t h = h
and_right false t h = absurd (true≢false (sym h))

-- parts that test as the same are the same
item_same : (i j : Item) → (item_eq.eq-value).it i j ≡ true → i ≡ j
item_same (item.Tok a) (item.Tok b) h = ap item.Tok (same_true the_type (search rules) a b h)
item_same (item.One a) (item.One b) h = ap item.One (same_true set_type.the_type (search rules) a b h)
item_same (item.Pairs m) (item.Pairs n) h = ap item.Pairs (eqb-true m n h)
item_same (item.Dimensions m) (item.Dimensions n) h = ap item.Dimensions (eqb-true m n h)
item_same (item.Owns m) (item.Owns n) h = ap item.Owns (eqb-true m n h)
item_same (item.OfType a) (item.OfType b) h = ap item.OfType (same_true type_piece.the_type (search rules) a b h)
item_same (item.OfImm a) (item.OfImm b) h = ap item.OfImm (same_true imm_piece.the_type (search rules) a b h)
item_same (item.OfSig a) (item.OfSig b) h = ap item.OfSig (same_true sig_piece.the_type (search rules) a b h)
item_same (item.OfCall a) (item.OfCall b) h = ap item.OfCall (same_true call_piece.the_type (search rules) a b h)
item_same (item.OfExpr a) (item.OfExpr b) h = ap item.OfExpr (same_true expr_piece.the_type (search rules) a b h)
item_same (item.OfMove a) (item.OfMove b) h = ap item.OfMove (same_true move_piece.the_type (search rules) a b h)
item_same (item.OfJump a) (item.OfJump b) h = ap item.OfJump (same_true jump_piece.the_type (search rules) a b h)
item_same (item.OfStmt a) (item.OfStmt b) h = ap item.OfStmt (same_true stmt_piece.the_type (search rules) a b h)
item_same (item.OfBody a) (item.OfBody b) h = ap item.OfBody (same_true body_piece.the_type (search rules) a b h)
item_same (item.OfClass a) (item.OfClass b) h = ap item.OfClass (same_true class_piece.the_type (search rules) a b h)
item_same i j h = cc

entry_same : (e f : Entry) → (entry_eq.ghosts).eq e f ≡ true → re_entry e ≡ re_entry f
entry_same e f h =
    let p : e.item ≡ f.item = item_same e.item f.item (and_left ((item_eq.eq-value).it e.item f.item) (nat_eq e.at f.at) h) in
    let q : e.at ≡ f.at = eqb-true e.at f.at (and_right ((item_eq.eq-value).it e.item f.item) (nat_eq e.at f.at) h) in
    cc (p, q)

pointwise_map : {A B : Type 0} (f : A → B) (E : A → A → Bool) → ((x y : A) → E x y ≡ true → f x ≡ f y) → (xs ys : List A) → pointwise E xs ys ≡ true → map f xs ≡ map f ys
pointwise_map f E same [] [] h = refl
pointwise_map f E same [] (y ∷ ys) h = absurd (true≢false (sym h))
pointwise_map f E same (x ∷ xs) [] h = absurd (true≢false (sym h))
pointwise_map f E same (x ∷ xs) (y ∷ ys) h =
    let p = same x y (and_left (E x y) (pointwise E xs ys) h) in
    let q = pointwise_map f E same xs ys (and_right (E x y) (pointwise E xs ys) h) in
    cc (p, q)

-- the test by which the automaton tells sets apart
abbrev pub same_set : Vec (Vec Entry Global) Global → Vec (Vec Entry Global) Global → Bool
same_set a b = pointwise (λ (x : Vec Entry Global) (y : Vec Entry Global). pointwise (entry_eq.ghosts).eq x.items y.items) a.items b.items

-- lists of stacks that test as the same stand for the same stacks
pub stacks_same : (a b : List (Vec Entry Global)) → pointwise (λ (x : Vec Entry Global) (y : Vec Entry Global). pointwise (entry_eq.ghosts).eq x.items y.items) a b ≡ true → stacks a ≡ stacks b
stacks_same a b h = pointwise_map (λ v. entries v.items) _ (λ x y t. pointwise_map re_entry _ entry_same x.items y.items t) a b h

module _ {K X : Type 0} (f : K → X) (eq : K → K → Bool) (ks : List K) (k : K) where
  -- what an insert keeps, and what it adds
  pub insert_kept : (i : ℕ) (x : X) → slice_get (map f ks) i ≡ Some x → slice_get (map f (insert_key eq ks k)) i ≡ Some x
  insert_kept i x h = by (list_any (eq k) ks)
    where
      by : (b : Bool) → slice_get (map f (if b then ks else ks ++ k ∷ [])) i ≡ Some x
      by true = h
      by false = rw map-append (slice_get-append_left (map f ks) (f k ∷ []) i x h)

  pub insert_found : (i : ℕ) (x : X) → slice_get (map f (insert_key eq ks k)) i ≡ Some x → (slice_get (map f ks) i ≡ Some x) ⊎ (x ≡ f k)
  insert_found i x h = by (list_any (eq k) ks) h
    where
      or : (slice_get (map f ks) i ≡ Some x) ⊎ ((i ≡ length (map f ks)) × (x ≡ f k)) → (slice_get (map f ks) i ≡ Some x) ⊎ (x ≡ f k)
      or (inl e) = inl e
      or (inr e) = inr e.1

      by : (b : Bool) → slice_get (map f (if b then ks else ks ++ k ∷ [])) i ≡ Some x → (slice_get (map f ks) i ≡ Some x) ⊎ (x ≡ f k)
      by true h = inl h
      by false h = or (slice_get-pushed (map f ks) (f k) i x (rw map-append at h))

-- no move stands in a new row
none_more : {A : Type 0} (xs : List (Option A)) (n i : ℕ) (m : A) → slice_get (xs ++ replicate n None) i ≡ Some (Some m) → slice_get xs i ≡ Some (Some m)
none_more [] zero i m h = h
none_more [] (suc n) zero m h = cc
none_more [] (suc n) (suc i) m h = none_more [] n i m h
none_more (x ∷ xs) n zero m h = h
none_more (x ∷ xs) n (suc i) m h = none_more xs n i m h

-- a move stays right where sets are added
move_grows : (old new : List (List (List Re))) (s : ℕ) (l : Lead) (m : Move) → Grows old new → IsMove old s l m → IsMove new s l m
move_grows old new s l m g (next, to, leads) = (next, at m to, record { old = leads.old; is_old = g s leads.old leads.is_old; advances = leads.advances })
  where
    at : (m : Move) → IsTo old m next → IsTo new m next
    at (move.To k) h = g k next h
    at move.Nowhere h = h

pub set_below : (a : Automaton) (s : ℕ) (ss : List (List Re)) → slice_get (sets_of a) s ≡ Some ss → s < length a.sets.keys
set_below a s ss h = omega (arith, slice_get-below (sets_of a) s ss h, length-map a.sets.keys (λ (v : Vec (Vec Entry Global) Global). stacks v.items))

pub made_number : (a b : Automaton) (eq : Vec (Vec Entry Global) Global → Vec (Vec Entry Global) Global → Bool) (k : Vec (Vec Entry Global) Global)
    → IsAutomaton a → b.sets.keys ≡ insert_key eq a.sets.keys k → length a.sets.keys ≤ length b.sets.keys → length k.items ≢ 0
    → b.moves.items ≡ a.moves.items ++ replicate (length b.sets.keys * classes - length a.moves.items) None
    → IsAutomaton b
made_number a b eq k h keys more some moves = record {
  rows = omega (arith, h.rows, ap length moves, length-append a.moves.items (replicate (length b.sets.keys * classes - length a.moves.items) None), length-replicate {A = Option Move} (length b.sets.keys * classes - length a.moves.items) None);
  some = λ i ss e. by i ss (insert_found (λ (v : Vec (Vec Entry Global) Global). stacks v.items) eq a.sets.keys k i ss (rw keys at e));
  kept = λ s l m e. move_grows (sets_of a) (sets_of b) s l m (λ i ss g. rw keys (insert_kept (λ (v : Vec (Vec Entry Global) Global). stacks v.items) eq a.sets.keys k i ss g)) (h.kept s l m (none_more a.moves.items _ _ m (rw moves at e)));
}
  where
    by : (i : ℕ) (ss : List (List Re)) → (slice_get (sets_of a) i ≡ Some ss) ⊎ (ss ≡ stacks k.items) → length ss ≢ 0
    by i ss (inl e) = h.some i ss e
    by i ss (inr e) = λ z. some (sym (length-map k.items (λ (v : Vec Entry Global). entries v.items)) ∙ (sym (ap length e) ∙ z))

-- a move that is written is the one of its set and class alone
pub made_move : (a b : Automaton) (s : ℕ) (l : Lead) (m : Move) → IsAutomaton a → b.sets.keys ≡ a.sets.keys → s < length a.sets.keys → b.moves.items ≡ slice_set a.moves.items (s * classes + code l) (Some m)
    → IsMove (sets_of a) s l m → IsAutomaton b
made_move a b s l m h keys in_sets moves new = record {
  rows = omega (arith, h.rows, ap length moves, length-set a.moves.items (s * classes + code l) (Some m), ap length keys);
  some = λ i ss e. h.some i ss (rw keys at e);
  kept = λ t k n e. by t k n (rw moves at e) (cases_eq (t * classes + code k) (s * classes + code l));
}
  where
    at_it : (k : Lead) (t : ℕ) (n : Move) → s ≡ t → l ≡ k → m ≡ n → IsMove (sets_of b) t k n
    at_it k t n p q r = rw (keys, ← p, ← q, ← r) new

    by : (t : ℕ) (k : Lead) (n : Move) → slice_get (slice_set a.moves.items (s * classes + code l) (Some m)) (t * classes + code k) ≡ Some (Some n)
        → (t * classes + code k ≡ s * classes + code l) ⊎ (t * classes + code k ≢ s * classes + code l) → IsMove (sets_of b) t k n
    by t k n e (inl q) =
        let there : s * classes + code l < length a.moves.items = omega (arith, h.rows, in_sets, code_below l) in
        let put = slice_get-set_same a.moves.items (s * classes + code l) (Some m) there in
        let got = rw q at e in
        let same : m ≡ n = cc (put, got) in
        at_it k t n (omega (arith, q, code_below k, code_below l)) (code_one l k (omega (arith, q, code_below k, code_below l))) same
    by t k n e (inr ne) = rw keys (h.kept t k n (sym (slice_get-set_other a.moves.items (s * classes + code l) (t * classes + code k) (Some m) ne) ∙ e))
