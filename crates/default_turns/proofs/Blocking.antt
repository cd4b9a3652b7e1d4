-- What is known of blocks of holders.
use Rattle.std.proofs.Common.{◌≡◌, ◌↔◌, ℕ, ◌<◌, ◌≤◌, Bool, true, false, List, [], ◌++◌, length, Some, cond, refl, sym, ap, ◌∙◌, subst, IfSome, Vec, Global, eqb-true, arith}
use Rattle.std.specs.BTreeMap.{Updates, is_at}
use Rattle.std.specs.Cmp.{unsigned_ties}
use Rattle.std.specs.Ordering.{nat_cmp}
use Rattle.class_order.specs.declared.spans.Span.{Span}
use Rattle.class_order.specs.Spans.{AreApart, Holds}
use Rattle.default_turns.specs.declared.blocks.Blocks.{Blocks}
use Rattle.default_turns.specs.declared.hops.Line.{Line}
use Rattle.default_turns.specs.Blocks.{AddsBlock, AreKnown, IsBlock, known_at}
use Rattle.default_turns.specs.Hops.{IsLine, hop_at}
use Rattle.default_turns.specs.Stretches.{AddsReached, AreReached}
use Rattle.default_turns.proofs.Covered.{reached_added, reached_apart, reached_next}

-- the order tells all indexes apart
same_index : (x y : ℕ) → is_at (nat_cmp x) y ≡ true → x ≡ y
same_index x y e = eqb-true x y (unsigned_ties x y ∙ e)

module _ (line : Line) where
  -- what is put is known, and all that was known still is
  pub known_put : (old new : Blocks) (at : ℕ) (reached : Vec Span Global) → AreKnown line old → IsBlock line at reached.items → Updates nat_cmp old.known new.known at (Some reached)
      → AreKnown line new
  known_put old new at reached known is updates k = by (is_at (nat_cmp at) k) refl
    where
      by : (b : Bool) → is_at (nat_cmp at) k ≡ b → IfSome (known_at new k) (λ found. IsBlock line k found.items)
      by true e =
          let here : known_at new k ≡ Some reached = updates.0 k ∙ ap (λ b. cond b (Some reached) (known_at old k)) e in
          rw here (subst (λ x. IsBlock line x reached.items) (same_index at k e) is)
      by false e = subst (λ o. IfSome o (λ found. IsBlock line k found.items)) (sym (updates.2 k e)) (known k)

  -- what is read is known
  pub known_read : (blocks : Blocks) (at : ℕ) (reached : Vec Span Global) → AreKnown line blocks → known_at blocks at ≡ Some reached → IsBlock line at reached.items
  known_read blocks at reached known e = subst (λ o. IfSome o (λ found. IsBlock line at found.items)) e (known at)

  -- the first holder of a block, and the rest of them
  pub block_made : IsLine line → (at : ℕ) → at < length line.holders.now → (own spans united : List Span)
      → ((to : ℕ) → at < to → to ≤ (hop_at line.hops.now at).next → AreReached line.placed.tree.now line.placed.layout.places.now line.holders.now at to own)
      → AddsReached line.placed.tree.now line.placed.layout.places.now line.holders.now (hop_at line.hops.now at).next (hop_at line.hops.now at).jump own spans
      → AreApart united → ((p : ℕ) → Holds united p ↔ Holds spans p) → IsBlock line at united
  block_made is at lt own spans united first adds apart same =
      let hop = hop_at line.hops.now at in
      let leads = is.hops.each at lt in
      reached_apart line.placed.tree.now line.holders.now line.placed.layout.places.now at hop.jump spans united
      (reached_next line.placed.tree.now line.holders.now line.placed.layout.places.now at hop.next hop.jump [] own spans (omega (arith, leads.forth)) leads.on
      (reached_added line.placed.tree.now line.holders.now line.placed.layout.places.now at hop.next [] own (first hop.next leads.forth (omega arith))) adds) apart same

  pub block_added : (at : ℕ) (now spans : List Span) → IsBlock line at spans → AddsBlock line at now (now ++ spans)
  block_added at now spans is = reached_added line.placed.tree.now line.holders.now line.placed.layout.places.now at (hop_at line.hops.now at).jump now spans is
