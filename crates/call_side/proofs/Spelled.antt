-- What entries read, and the values of the table.
use Rattle.std.proofs.Common.{ℕ, List, [], ◌∷◌, refl, sym, ap, subst}
use Rattle.auto_table.specs.declared.entry.Entry.{Entry}
use Rattle.auto_table.specs.declared.entry.Entry.TheVariants.{Base, Pushed}
use Rattle.auto_table.specs.Cells.{Cells, link_at, weight_at}
use Rattle.post_star.specs.declared.bases.BaseStep.{BaseStep}
use Rattle.post_star.specs.Derivations.{Combines, Leads}
use Rattle.post_star.specs.Readings.{Reads, ReadsAt}
use Rattle.weight_laws.specs.declared.reach.Reach.{Reach}
use Rattle.weight_laws.specs.Reach.{reach_domain}
use Rattle.call_side.specs.Words.{AreAt, Holds, Moves, Spells, SpellsFrom}
use Rattle.call_side.proofs.Truths.{IsSome, below_one, extend_some, is_one, one_some, some_member}

module _ (steps : List BaseStep) (last : ℕ) (t : Cells Reach) where
  -- a base reads the words by which steps lead from it to the last one
  pub Spells-leads : (b : ℕ) (word : List ℕ) → Leads steps b word last → Spells steps last t (Base b) word
  Spells-leads b [] h = ap Base h
  Spells-leads b (mark ∷ word) h = (Base h.0, h.1, Spells-leads h.0 word h.2)

  pub Leads-spells : (b : ℕ) (word : List ℕ) → Spells steps last t (Base b) word → Leads steps b word last
  Leads-spells b [] h = cc
  Leads-spells b (mark ∷ word) h = by h.0 h.1 h.2 (λ below. Leads-spells below word)
    where
      by : (next : Entry) → Moves steps t (Base b) mark next → Spells steps last t next word → ((below : ℕ) → Spells steps last t (Base below) word → Leads steps below word last)
          → Leads steps b (mark ∷ word) last
      by (Base below) moves spells rest = (below, moves, rest below spells)
      by (Pushed node own) moves spells rest = absurd moves

  -- a reading whose weight isn't zero
  pub Spells-reads : {entry : Entry} {word : List ℕ} {x : Reach} → Reads reach_domain steps last t entry word x → IsSome x → Spells steps last t entry word
  Spells-reads (Reads.at_base {b} {word} leads) some = Spells-leads b word leads
  Spells-reads (Reads.at_link {node} {mark} {parent} {word} {x} reads) some =
      let both = extend_some x (link_at reach_domain t (Pushed node mark) parent) some in
      (parent, (refl, both.1), Spells-reads reads both.0)

  pub Reads-spells : (entry : Entry) (word : List ℕ) → Spells steps last t entry word → Reads reach_domain steps last t entry word reach_domain.one
  Reads-spells (Base b) word spells = Reads.at_base (Leads-spells b word spells)
  Reads-spells (Pushed node own) [] spells = cc
  Reads-spells (Pushed node own) (mark ∷ word) spells =
      let link = is_one (link_at reach_domain t (Pushed node own) spells.0) spells.1.1 in
      let reads = Reads.at_link {node = node} {mark = own} (Reads-spells spells.0 word spells.2) in
      subst (λ (m : ℕ). Reads reach_domain steps last t (Pushed node own) (m ∷ word) reach_domain.one) (sym spells.1.0)
      (subst (λ (w : Reach). Reads reach_domain steps last t (Pushed node own) (own ∷ word) w) link reads)

  -- a word whose value isn't zero is read by an entry that has the node
  pub Holds-entry : (node : ℕ) (word : List ℕ) → Holds steps last t node word → (entry : Entry) × IsSome (weight_at reach_domain t entry node) × Spells steps last t entry word
  Holds-entry node word holds = let member = some_member holds.is_value.finite holds.some in by member.1 member.2
    where
      by : {x : Reach} → ReadsAt reach_domain steps last t node word x → IsSome x → (entry : Entry) × IsSome (weight_at reach_domain t entry node) × Spells steps last t entry word
      by (ReadsAt.from_entry {entry} {x} reads) some =
          let both = extend_some x (weight_at reach_domain t entry node) some in
          (entry, both.1, Spells-reads reads both.0)

  pub entry-Holds : (node : ℕ) (word : List ℕ) (entry : Entry) → IsSome (weight_at reach_domain t entry node) → Spells steps last t entry word → Holds steps last t node word
  entry-Holds node word entry some spells = record {
    value = reach_domain.one;
    is_value = record {
      finite = Combines.one (subst (λ (w : Reach). ReadsAt reach_domain steps last t node word w) (is_one (weight_at reach_domain t entry node) some) (ReadsAt.from_entry {entry = entry} (Reads-spells entry word spells)));
      above = λ x is. below_one x;
    };
    some = one_some;
  }

  -- the same for a list of the entries that have the node
  pub SpellsFrom-holds : (node : ℕ) (entries : List Entry) (word : List ℕ) → AreAt t node entries → Holds steps last t node word → SpellsFrom steps last t entries word
  SpellsFrom-holds node entries word at holds =
      let found = Holds-entry node word holds in
      record { entry = found.0; among = (at found.0).1 found.1; spells = found.2 }

  pub Holds-spelled : (node : ℕ) (entries : List Entry) (word : List ℕ) → AreAt t node entries → SpellsFrom steps last t entries word → Holds steps last t node word
  Holds-spelled node entries word at from = entry-Holds node word from.entry ((at from.entry).0 from.among) from.spells
