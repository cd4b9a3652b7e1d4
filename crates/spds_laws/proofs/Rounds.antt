-- The rounds of meets: what is derived over all meets is derived over those of one round, so the meets are the least relation that is closed.
use Rattle.std.proofs.Common.{ℕ, zero, suc, ◌≤◌, zero-le, suc-le-suc, max, List, inl, inr}
use Rattle.std.proofs.Math.Nat.{le-max_left, le-max_right, le_trans}
use Rattle.link_rules.specs.Linked.{LinkedProgram}
use Rattle.link_sites.specs.declared.place.Place.{Place}
use Rattle.link_sites.specs.declared.site.Site.{Site}
use Rattle.spds_rules.specs.declared.node.Node.{Node}
use Rattle.spds_rules.specs.declared.store.StoreAt.{StoreAt}
use Rattle.spds_rules.specs.Demand.{Asked}
use Rattle.spds_rules.specs.Systems.{Calls, Fields, InCalls, InFields, MayStore, Meets, MetAfter}
use Rattle.spds_laws.proofs.More.{calls_more, fields_more, may_store_more}

module _ (p : LinkedProgram) (q : Asked) where
  -- later rounds keep the earlier ones
  pub after_le : {k n : ℕ} → k ≤ n → (o base : Site) (s : StoreAt) → MetAfter p q k o base s → MetAfter p q n o base s
  after_le zero-le o base s h = elim h [ ]
  after_le (suc-le-suc l) o base s (inl h) = inl (after_le l o base s h)
  after_le (suc-le-suc {n = k} {m = n} l) o base s (inr m) = inr (may_store_more p q (MetAfter p q k) (MetAfter p q n) (after_le l) o base s m)

  -- one round is enough for a word
  pub fields_round : (o : Site) {n : Node} {word : List ℕ} → Fields p q o n word → (k : ℕ) × InFields p q (MetAfter p q k) o n word
  fields_round o (InFields.start s) = (0, InFields.start s)
  fields_round o (InFields.keep e k c) = let r = fields_round o c in (r.0, InFields.keep e k r.1)
  fields_round o (InFields.load e c) = let r = fields_round o c in (r.0, InFields.load e r.1)
  fields_round o (InFields.store {base} {s} m st c) =
      let r = fields_round o c in
      let k = max m.0 r.0 in (
        k,
        InFields.store (after_le (le-max_left m.0 r.0) o base s m.1) st
            (fields_more p q (MetAfter p q r.0) (MetAfter p q k) (after_le (le-max_right m.0 r.0)) o r.1),
      )

  -- and for a call string
  pub calls_round : (o : Site) {n : Node} {string : List Place} → Calls p q o n string → (k : ℕ) × InCalls p q (MetAfter p q k) o n string
  calls_round o (InCalls.start s string) = (0, InCalls.start s string)
  calls_round o (InCalls.keep e k c) = let r = calls_round o c in (r.0, InCalls.keep e k r.1)
  calls_round o (InCalls.push e c) = let r = calls_round o c in (r.0, InCalls.push e r.1)
  calls_round o (InCalls.pop e c) = let r = calls_round o c in (r.0, InCalls.pop e r.1)
  calls_round o (InCalls.jump e c string) = let r = calls_round o c in (r.0, InCalls.jump e r.1 string)
  calls_round o (InCalls.store {base} {s} m st c string) =
      let r = calls_round o c in
      let k = max m.0 r.0 in (
        k,
        InCalls.store (after_le (le-max_left m.0 r.0) o base s m.1) st
            (calls_more p q (MetAfter p q r.0) (MetAfter p q k) (after_le (le-max_right m.0 r.0)) o r.1) string,
      )

  -- what each round has holds over all meets
  pub round_met : (k : ℕ) (o base : Site) (s : StoreAt) → MetAfter p q k o base s → Meets p q o base s
  round_met k o base s h = (k, h)

  -- what may be stored over the meets is met
  pub meets_closed : (o base : Site) (s : StoreAt) → MayStore p q (Meets p q) o base s → Meets p q o base s
  meets_closed o base s m =
      let stores = m.1 in
      let arg = calls_round o stores.at_arg in
      let there = calls_round base stores.at_base in
      let itself = fields_round base stores.is_base in
      let k = max arg.0 (max there.0 itself.0) in
      let later = le-max_right arg.0 (max there.0 itself.0) in (
        suc k,
        inr (
          m.0,
          record {
            store = stores.store;
            at_arg = calls_more p q (MetAfter p q arg.0) (MetAfter p q k) (after_le (le-max_left arg.0 (max there.0 itself.0))) o arg.1;
            at_base = calls_more p q (MetAfter p q there.0) (MetAfter p q k) (after_le (le_trans (le-max_left there.0 itself.0) later)) base there.1;
            is_base = fields_more p q (MetAfter p q itself.0) (MetAfter p q k) (after_le (le_trans (le-max_right there.0 itself.0) later)) base itself.1;
            has = stores.has;
          },
        ),
      )

  -- what is met may be stored over the meets
  met_stored : (k : ℕ) (o base : Site) (s : StoreAt) → MetAfter p q k o base s → MayStore p q (Meets p q) o base s
  met_stored zero o base s h = elim h [ ]
  met_stored (suc k) o base s (inl h) = met_stored k o base s h
  met_stored (suc k) o base s (inr m) = may_store_more p q (MetAfter p q k) (Meets p q) (round_met k) o base s m

  pub meets_stored : (o base : Site) (s : StoreAt) → Meets p q o base s → MayStore p q (Meets p q) o base s
  meets_stored o base s m = met_stored m.0 o base s m.1

  -- a relation that holds what may be stored over it holds the meets
  module _ (Meet : Site → Site → StoreAt → Type 0) (closed : (o base : Site) (s : StoreAt) → MayStore p q Meet o base s → Meet o base s) where
    round_within : (k : ℕ) (o base : Site) (s : StoreAt) → MetAfter p q k o base s → Meet o base s
    round_within zero o base s h = elim h [ ]
    round_within (suc k) o base s (inl h) = round_within k o base s h
    round_within (suc k) o base s (inr m) = closed o base s (may_store_more p q (MetAfter p q k) Meet (round_within k) o base s m)

    pub meets_least : (o base : Site) (s : StoreAt) → Meets p q o base s → Meet o base s
    meets_least o base s m = round_within m.0 o base s m.1
