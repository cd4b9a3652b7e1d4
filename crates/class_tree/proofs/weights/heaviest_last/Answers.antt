use Rattle.std.proofs.Common.{ℕ, ◌+◌, ◌<◌, ◌⊎◌, List, [], ◌∷◌, ◌++◌, Contains, get_or, length, take, subst, sym, inl, inr}
use Rattle.std.proofs.lemmas.List.{take_all}
use Rattle.std.proofs.lemmas.List.Elements.{All-push, Contains-append_left, Contains-append_right, Contains-push}
use Rattle.lists.proofs.Elements.{Contains-take_more}
use Rattle.class_tree.proofs.weights.heaviest_last.Goals as goal
use Rattle.class_tree.proofs.weights.heaviest_last.Goals.{then-is_heaviest+in_ok-push, else-is_heaviest+in_ok-push-2}

-- what holds of the first classes of an order, and then of the next
one_more : (order : List ℕ) (i : ℕ) (Old New : ℕ → Type 0) → i < length order → ((k : ℕ) → Old k → New k) → New (get_or order i 0) → ((k : ℕ) → Contains (take i order) k → Old k)
    → (k : ℕ) → Contains (take (i + 1) order) k → New k
one_more order i Old New h keeps new all k m = elim (Contains-take_more order i 0 k h m) [ inl old ↦ keeps k (all k old) | inr is ↦ subst New is new ]

both : (found heavy : List ℕ) (k : ℕ) → Contains found k ⊎ Contains heavy k → Contains (found ++ heavy) k
both found heavy k m = elim m [ inl light ↦ Contains-append_left found heavy k light | inr last ↦ Contains-append_right found heavy k last ]

pub loop-class-preserved : goal.loop-class-preserved
loop-class-preserved c =
    let so_far = c.loop-class.invariant in
    let found = c.loop-class.found.items in
    let heavy = c.loop-class.heavy.items in
    let class = get_or c.args.order.now c.loop-class.class-index 0 in
    let h = c.loop-class-test.true in
    let known : class < length c.args.classes.now = c.requires.within c.loop-class.class-index 0 h in
    let within = λ (x : ℕ). x < length c.args.classes.now in
    elim c.if-is_heaviest.branch [
      | then-is_heaviest+in_ok-push w ↦ rw (w.found-is, w.heavy-is, w.in_ok-push.ensures.items) (record {
        light = so_far.light;
        heavy = All-push within heavy class so_far.heavy known;
        all = one_more c.args.order.now c.loop-class.class-index (λ k. Contains found k ⊎ Contains heavy k) (λ k. Contains found k ⊎ Contains (heavy ++ class ∷ []) k) h
            (λ k m. elim m [ inl a ↦ inl a | inr b ↦ inr (Contains-append_left heavy (class ∷ []) k b) ]) (inr (Contains-push heavy class)) so_far.all;
      })
      | else-is_heaviest+in_ok-push-2 w ↦ rw (w.found-is, w.heavy-is, w.in_ok-push-2.ensures.items) (record {
        light = All-push within found class so_far.light known;
        heavy = so_far.heavy;
        all = one_more c.args.order.now c.loop-class.class-index (λ k. Contains found k ⊎ Contains heavy k) (λ k. Contains (found ++ class ∷ []) k ⊎ Contains heavy k) h
            (λ k m. elim m [ inl a ↦ inl (Contains-append_left found (class ∷ []) k a) | inr b ↦ inr b ]) (inl (Contains-push found class)) so_far.all;
      })
    ]

pub returns-clause-all : goal.returns-clause-all
returns-clause-all c = rw (c.in_ok-extend_from_slice.ensures.items, c.as_slice.ensures.value) (λ k m.
    both c.loop-class.found.items c.loop-class.heavy.items k
    (c.loop-class.invariant.all k (subst (λ xs. Contains xs k) (sym (take_all c.loop-class.class-index c.args.order.now c.loop-class-test.false)) m)))
