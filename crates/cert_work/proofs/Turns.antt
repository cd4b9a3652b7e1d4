-- A line is gone through.
use Rattle.std.proofs.Common.{◌≡◌, ◌↔◌, ◌⊎◌, inl, inr, ◌∙◌, Bool, ℕ, zero, suc, ◌+◌, ◌≤◌, List, [], length, refl, sym, ap, subst, arith}
use Rattle.link_rules.specs.Linked.{LinkedProgram}
use Rattle.link_sites.specs.declared.site.Site.{Site}
use Rattle.lists.specs.Groups.{Grouped, found_at}
use Rattle.lists.specs.Lists.{Has}
use Rattle.spds_rules.specs.declared.edge.Edge.{Edge}
use Rattle.spds_rules.specs.declared.node.Node.{Node}
use Rattle.spds_rules.specs.declared.store.StoreAt.{StoreAt}
use Rattle.spds_rules.specs.Demand.{EdgeIn, StartIn, about}
use Rattle.cert_rules.specs.declared.fact.Entry.{Entry}
use Rattle.cert_rules.specs.declared.fact.Fact.{Fact}
use Rattle.cert_rules.specs.declared.fact.Fact.TheVariants.{At, Link, Met, Shared}
use Rattle.cert_rules.specs.declared.line.Side.{Side}
use Rattle.cert_rules.specs.Given.{Cites, Takes}
use Rattle.cert_laws.proofs.Givens.{cites_one}
use Rattle.cert_lines.specs.contracts.keys.SpotPartialEq.TheImpl as spot
use Rattle.cert_lines.specs.contracts.keys.WordPartialEq.TheImpl as word
use Rattle.cert_lines.specs.declared.keys.Spot.{Spot}
use Rattle.cert_lines.specs.declared.keys.Word.{Word}
use Rattle.cert_lines.specs.Noted.{Noted}
use Rattle.cert_work.specs.declared.held.Held.{Held}
use Rattle.cert_work.specs.declared.wants.Wants.{Wants}
use Rattle.cert_work.specs.declared.work.Work.{Work}
use Rattle.cert_work.specs.Added.{AreAdded}
use Rattle.cert_work.specs.Held.{IsHeld}
use Rattle.cert_work.specs.Roads.{IsEnd}
use Rattle.cert_work.specs.Rules.{AreWorked, AreWorkedIfBest, IsAlongIfBest, IsFollowed, IsPoppedIfBest, IsPutIfBest}
use Rattle.cert_work.specs.Wants.{IsFollowedAt}
use Rattle.cert_work.specs.Work.{AreStored, HasWord, IsAt, IsBelow, IsStored, IsTaker, IsWork, IsWorking, PutsAtEnd, spot_of, word_of}
use Rattle.cert_work.proofs.Filing.{filed_if, filed_next, filed_same, le_next, no_at, no_below, no_stored, no_taker, not_along, not_linked, not_met, not_popped, not_put, worked_kept, worked_more, worked_next}
use Rattle.cert_work.proofs.Growing.{many_more, second}
use Rattle.cert_work.proofs.Stored.{stored_end, stored_more, stored_none}
use Rattle.cert_work.proofs.Working.{at_end_kept, at_end_less, at_less, below_kept, below_less, stored_kept, stored_less, taker_kept, taker_less}

-- a file that one number was put into
abbrev pub WordAdded : Grouped Word ℕ → Word → ℕ → Grouped Word ℕ → Type 0
WordAdded old key num new =
    (k : Word) (i : ℕ) → Has (found_at word.eq-value.it new k) i ↔ (Has (found_at word.eq-value.it old k) i ⊎ ((k ≡ key) × (i ≡ num)))

abbrev pub SpotAdded : Grouped Spot ℕ → Spot → ℕ → Grouped Spot ℕ → Type 0
SpotAdded old key num new =
    (k : Spot) (i : ℕ) → Has (found_at spot.eq-value.it new k) i ↔ (Has (found_at spot.eq-value.it old k) i ⊎ ((k ≡ key) × (i ≡ num)))

-- that it was put into where a condition holds
abbrev pub SpotAddedIf : Type 0 → Grouped Spot ℕ → Spot → ℕ → Grouped Spot ℕ → Type 0
SpotAddedIf E old key num new =
    (k : Spot) (i : ℕ) → Has (found_at spot.eq-value.it new k) i ↔ (Has (found_at spot.eq-value.it old k) i ⊎ (E × (k ≡ key) × (i ≡ num)))

module _ (p : LinkedProgram) (t : Node) (wants : Wants) (old : Work) (is : IsWorking p t wants old) (new : Noted) (added : AreAdded p t old.written new) (num : ℕ) (e : num ≡ old.done + 1)
    (low : num ≤ length new.given) where
  was : AreWorkedIfBest p t wants new old.done
  was = worked_more p t wants added old.done is.within is.worked

  stored_now : AreStored p t new
  stored_now = stored_more p t added is.stored

  -- the lines up to the number from which a letter is taken off
  abbrev pub AreTakers : ℕ → Grouped Word ℕ → Type 0
  AreTakers done takers = (k : Word) (i : ℕ) → Has (found_at word.eq-value.it takers k) i ↔ ((i ≤ done) × IsTaker p t wants new k i)

  -- each file, where the line isn't one of it
  takers_same : ((k : Word) → IsTaker p t wants new k num → ⊥) → AreTakers num old.takers
  takers_same = filed_same (λ (k : Word) (i : ℕ). Has (found_at word.eq-value.it old.takers k) i) (IsTaker p t wants old.written) (IsTaker p t wants new) old.done num e is.takers
      (λ k i below. taker_kept p t added wants k i) (λ k i below. taker_less p t added wants k i (omega (arith, below, is.within)))

  links_same : ((k : Word) → IsBelow new k num → ⊥) → (k : Word) (i : ℕ) → Has (found_at word.eq-value.it old.links k) i ↔ ((i ≤ num) × IsBelow new k i)
  links_same = filed_same (λ (k : Word) (i : ℕ). Has (found_at word.eq-value.it old.links k) i) (IsBelow old.written) (IsBelow new) old.done num e is.filed.links
      (λ k i below. below_kept p t added k i) (λ k i below. below_less p t added k i (omega (arith, below, is.within)))

  ends_same : ((k : Spot) → IsAt new k num → ⊥) → (k : Spot) (i : ℕ) → Has (found_at spot.eq-value.it old.spots k) i ↔ ((i ≤ num) × PutsAtEnd p t new k i)
  ends_same none = filed_same (λ (k : Spot) (i : ℕ). Has (found_at spot.eq-value.it old.spots k) i) (PutsAtEnd p t old.written) (PutsAtEnd p t new) old.done num e is.ends
      (λ k i below. at_end_kept p t added k i) (λ k i below. at_end_less p t added k i (omega (arith, below, is.within))) (λ k at. none k at.at)

  mets_same : ((k : Spot) → IsStored new k num → ⊥) → (k : Spot) (i : ℕ) → Has (found_at spot.eq-value.it old.mets k) i ↔ ((i ≤ num) × IsStored new k i)
  mets_same = filed_same (λ (k : Spot) (i : ℕ). Has (found_at spot.eq-value.it old.mets k) i) (IsStored old.written) (IsStored new) old.done num e is.filed.mets
      (λ k i below. stored_kept p t added k i) (λ k i below. stored_less p t added k i (omega (arith, below, is.within)))

  module _ (h : Held) (number : h.number ≡ num) (held : IsHeld new h) (key : Word) (key_is : key ≡ word_of h) (place : Spot) (place_is : place ≡ spot_of h) where
    here : Cites new.given num (At h.side h.site h.entry h.node)
    here = subst (λ (n : ℕ). Cites new.given n (At h.side h.site h.entry h.node)) number held.gives

    word_one : (k : Word) → HasWord new k num → k ≡ key
    word_one k has =
        let same = cites_one new.given num (At k.side k.site k.entry has.0) (At h.side h.site h.entry h.node) has.1 here in
        let s : k.side ≡ h.side = cc in
        let o : k.site ≡ h.site = cc in
        let x : k.entry ≡ h.entry = cc in
        let one : k ≡ word_of h = λ j. record { side = s j; site = o j; entry = x j } in one ∙ sym key_is

    spot_one : (k : Spot) → IsAt new k num → k ≡ place
    spot_one k has =
        let same = cites_one new.given num (At has.0 k.site has.1 k.node) (At h.side h.site h.entry h.node) has.2 here in
        let o : k.site ≡ h.site = cc in
        let n : k.node ≡ h.node = cc in
        let one : k ≡ spot_of h = λ j. record { site = o j; node = n j } in one ∙ sym place_is

    taken_one : (k : Word) (is : IsTaker p t wants new k num) → (is.edge.from ≡ h.node) × Takes h.side h.entry is.edge.kind × IsFollowedAt wants h.site h.entry h.node
    taken_one k is =
        let same = cites_one new.given num (At k.side k.site k.entry is.edge.from) (At h.side h.site h.entry h.node) is.put here in
        let s : k.side ≡ h.side = cc in
        let o : k.site ≡ h.site = cc in
        let x : k.entry ≡ h.entry = cc in
        let n : is.edge.from ≡ h.node = cc in
        let takes : Takes h.side h.entry is.edge.kind
        = subst (λ (y : Entry). Takes h.side y is.edge.kind) x (subst (λ (y : Side). Takes y k.entry is.edge.kind) s is.takes) in
        let wanted : IsFollowedAt wants h.site h.entry h.node
        = subst (λ (y : Node). IsFollowedAt wants h.site h.entry y) n
        (subst (λ (y : Entry). IsFollowedAt wants h.site y is.edge.from) x (subst (λ (y : Site). IsFollowedAt wants y k.entry is.edge.from) o is.wanted)) in
        (n, takes, wanted)

    -- an edge takes the first letter off
    pub takers_next : (takers : Grouped Word ℕ) → WordAdded old.takers key num takers → IsFollowedAt wants h.site h.entry h.node → (f : Edge)
        → EdgeIn p (about t) f.from f.kind f.to → f.from ≡ h.node → Takes h.side h.entry f.kind → AreTakers num takers
    takers_next takers words wanted f edge from takes =
        let itself : IsTaker p t wants new (word_of h) num = record {
          edge = f;
          edge_in = edge;
          takes = takes;
          put = subst (λ (n : Node). Cites new.given num (At h.side h.site h.entry n)) (sym from) here;
          wanted = subst (λ (n : Node). IsFollowedAt wants h.site h.entry n) (sym from) wanted;
        } in
        filed_next (λ (k : Word) (i : ℕ). Has (found_at word.eq-value.it old.takers k) i) (IsTaker p t wants old.written) (IsTaker p t wants new) old.done num e is.takers
        (λ k i below. taker_kept p t added wants k i) (λ k i below. taker_less p t added wants k i (omega (arith, below, is.within)))
        (λ k i. Has (found_at word.eq-value.it takers k) i) key words (subst (λ (k : Word). IsTaker p t wants new k num) (sym key_is) itself)
        (λ k taker. word_one k (taker.edge.from, taker.put))

    -- none does
    pub takers_other : ((f : Edge) → EdgeIn p (about t) f.from f.kind f.to → f.from ≡ h.node → Takes h.side h.entry f.kind → ⊥) → AreTakers num old.takers
    takers_other none = takers_same (λ k taker. let one = taken_one k taker in none taker.edge taker.edge_in one.0 one.1)

    -- the object isn't followed
    pub takers_past : (IsFollowedAt wants h.site h.entry h.node → ⊥) → AreTakers num old.takers
    takers_past unwanted = takers_same (λ k taker. let one = taken_one k taker in unwanted one.2)

    -- so it goes on by no letter that is taken off
    pub popped_other : ((f : Edge) → EdgeIn p (about t) f.from f.kind f.to → f.from ≡ h.node → Takes h.side h.entry f.kind → ⊥) → (i : ℕ) (f : Edge)
        → EdgeIn p (about t) f.from f.kind f.to → IsPoppedIfBest new num i f
    popped_other none i f edge side o x below at links takes =
        let same = cites_one new.given num (At side o x f.from) (At h.side h.site h.entry h.node) at here in
        let s : side ≡ h.side = cc in
        let y : x ≡ h.entry = cc in
        let n : f.from ≡ h.node = cc in
        absurd (none f edge n (subst (λ (z : Entry). Takes h.side z f.kind) y (subst (λ (z : Side). Takes z x f.kind) s takes)))

    wanted_here : IsFollowed wants new num → IsFollowedAt wants h.site h.entry h.node
    wanted_here followed = followed h.side h.site h.entry h.node here

    -- at an end the line is filed
    ends_if : {E : Type 0} → (E ↔ IsEnd p t h.node) → (spots : Grouped Spot ℕ) → SpotAddedIf E old.spots place num spots → (k : Spot) (i : ℕ)
        → Has (found_at spot.eq-value.it spots k) i ↔ ((i ≤ num) × PutsAtEnd p t new k i)
    ends_if end spots places = filed_if (λ (k : Spot) (i : ℕ). Has (found_at spot.eq-value.it old.spots k) i) (PutsAtEnd p t old.written) (PutsAtEnd p t new) old.done num e is.ends
        (λ k i below. at_end_kept p t added k i) (λ k i below. at_end_less p t added k i (omega (arith, below, is.within)))
        (λ k i. Has (found_at spot.eq-value.it spots k) i) place places
        (λ yes. subst (λ (k : Spot). PutsAtEnd p t new k num) (sym place_is) (record { end = end.0 yes; at = (h.side, h.entry, here) }))
        (λ k at.
        let one = spot_one k at.at in
        let node : k.node ≡ h.node = ap (λ (y : Spot). y.node) (one ∙ place_is) in (end.1 (subst (λ (n : Node). IsEnd p t n) node at.end), one))

    pub turn_at : {E : Type 0} → (E ↔ IsEnd p t h.node) → (takers : Grouped Word ℕ) (spots : Grouped Spot ℕ) → AreTakers num takers
        → SpotAddedIf E old.spots place num spots
        → (IsFollowedAt wants h.site h.entry h.node → (f : Edge) → EdgeIn p (about t) f.from f.kind f.to → IsAlongIfBest new num f)
        → (IsFollowedAt wants h.site h.entry h.node → (i : ℕ) → Has (found_at word.eq-value.it old.links key) i → (f : Edge) → EdgeIn p (about t) f.from f.kind f.to → IsPoppedIfBest new num i f)
        → (IsFollowedAt wants h.site h.entry h.node → (i : ℕ) → Has (found_at spot.eq-value.it old.mets place) i → (base : Site) (n : Node) → StartIn p (about t) base n → IsPutIfBest new num i base n)
        → IsWorking p t wants (record { written = new; done = num; takers = takers; links = old.links; spots = spots; mets = old.mets })
    turn_at end takers spots words places along popped put = record {
      within = low;
      filed = record {
        links = links_same (no_below new num _ here (λ g. omega (arith, g)));
        mets = mets_same (no_stored new num _ here (λ g. omega (arith, g)));
      };
      ends = ends_if end spots places;
      stored = stored_now;
      takers = words;
      worked = worked_next p t wants new old.done num e was (record {
        along = λ followed. along (wanted_here followed);
        popped = λ followed link f under edge side o x below at links takes. elim (le_next link old.done num e under) [
          | inl before ↦
              let one = word_one (record { side = side; site = o; entry = x }) (f.from, at) in
              let behind = below_less p t added (record { side = side; site = o; entry = x }) link (omega (arith, before, is.within)) (below, links) in
              let has = (is.filed.links (record { side = side; site = o; entry = x }) link).1 (before, behind) in
              popped (wanted_here followed) link (subst (λ (k : Word). Has (found_at word.eq-value.it old.links k) link) one has) f edge side o x below at links takes
          | inr same ↦ absurd (no_below new num _ here (λ g. omega (arith, g)) (record { side = side; site = o; entry = x })
              (below, subst (λ (n : ℕ). Cites new.given n (Link side o x below)) same links))
        ];
        linked = λ i f before followed edge. not_linked new num _ here (λ g. omega (arith, g)) i f;
        put = λ followed met base n under start side o x s at meets. elim (le_next met old.done num e under) [
          | inl before ↦
              let one = spot_one (record { site = o; node = s.arg }) (side, x, at) in
              let behind = stored_less p t added (record { site = o; node = s.arg }) met (omega (arith, before, is.within)) (base, s, refl, meets) in
              let has = (is.filed.mets (record { site = o; node = s.arg }) met).1 (before, behind) in
              put (wanted_here followed) met (subst (λ (k : Spot). Has (found_at spot.eq-value.it old.mets k) met) one has) base n start side o x s at meets
          | inr same ↦ absurd (no_stored new num _ here (λ g. omega (arith, g)) (record { site = o; node = s.arg })
              (base, s, refl, subst (λ (n : ℕ). Cites new.given n (Met o base s)) same meets))
        ];
        met = λ i base n before followed start. not_met new num _ here (λ g. omega (arith, g)) i base n;
      });
    }

  pub turn_link : (key : Word) (below : Entry) → Cites new.given num (Link key.side key.site key.entry below) → (links : Grouped Word ℕ) → WordAdded old.links key num links
      → ((i : ℕ) → Has (found_at word.eq-value.it old.takers key) i → (f : Edge) → EdgeIn p (about t) f.from f.kind f.to → IsPoppedIfBest new i num f)
      → IsWorking p t wants (record { written = new; done = num; takers = old.takers; links = links; spots = old.spots; mets = old.mets })
  turn_link key below here links words popped = record {
    within = low;
    takers = takers_same (no_taker new num _ here p t wants (λ g. omega (arith, g)));
    filed = record {
      links = filed_next (λ (k : Word) (i : ℕ). Has (found_at word.eq-value.it old.links k) i) (IsBelow old.written) (IsBelow new) old.done num e is.filed.links
          (λ k i before. below_kept p t added k i) (λ k i before. below_less p t added k i (omega (arith, before, is.within)))
          (λ k i. Has (found_at word.eq-value.it links k) i) key words (below, here) word_one;
      mets = mets_same (no_stored new num _ here (λ g. omega (arith, g)));
    };
    ends = ends_same (no_at new num _ here (λ g. omega (arith, g)));
    stored = stored_now;
    worked = worked_next p t wants new old.done num e was (record {
      along = λ followed f edge. not_along new num _ here (λ g. omega (arith, g)) f;
      popped = λ followed link f under edge. not_popped new num _ here (λ g. omega (arith, g)) link f;
      linked = λ i f before followed edge side o x behind at given takes.
          let one = word_one (record { side = side; site = o; entry = x }) (behind, given) in
          let itself : IsTaker p t wants new (record { side = side; site = o; entry = x }) i
          = record { edge = f; edge_in = edge; takes = takes; put = at; wanted = followed side o x f.from at } in
          let taker = taker_less p t added wants (record { side = side; site = o; entry = x }) i (omega (arith, before, is.within)) itself in
          let has = (is.takers (record { side = side; site = o; entry = x }) i).1 (before, taker) in
          popped i (subst (λ (k : Word). Has (found_at word.eq-value.it old.takers k) i) one has) f edge side o x behind at given takes;
      put = λ followed met base n under start. not_put new num _ here (λ g. omega (arith, g)) met base n;
      met = λ i base n before followed start. not_met new num _ here (λ g. omega (arith, g)) i base n;
    });
  }
    where
      word_one : (k : Word) → IsBelow new k num → k ≡ key
      word_one k has =
          let same = cites_one new.given num (Link k.side k.site k.entry has.0) (Link key.side key.site key.entry below) has.1 here in
          let s : k.side ≡ key.side = cc in
          let o : k.site ≡ key.site = cc in
          let x : k.entry ≡ key.entry = cc in λ j. record { side = s j; site = o j; entry = x j }

  pub turn_met : (key : Spot) (base : Site) (store : StoreAt) → store.arg ≡ key.node → Cites new.given num (Met key.site base store) → (mets : Grouped Spot ℕ)
      → SpotAdded old.mets key num mets
      → ((i : ℕ) → Has (found_at spot.eq-value.it old.spots key) i → (b : Site) (n : Node) → StartIn p (about t) b n → IsPutIfBest new i num b n)
      → IsWorking p t wants (record { written = new; done = num; takers = old.takers; links = old.links; spots = old.spots; mets = mets })
  turn_met key base store arg here mets places put = record {
    within = low;
    takers = takers_same (no_taker new num _ here p t wants (λ g. omega (arith, g)));
    filed = record {
      links = links_same (no_below new num _ here (λ g. omega (arith, g)));
      mets = filed_next (λ (k : Spot) (i : ℕ). Has (found_at spot.eq-value.it old.mets k) i) (IsStored old.written) (IsStored new) old.done num e is.filed.mets
          (λ k i before. stored_kept p t added k i) (λ k i before. stored_less p t added k i (omega (arith, before, is.within)))
          (λ k i. Has (found_at spot.eq-value.it mets k) i) key places (base, store, arg, here) spot_one;
    };
    ends = ends_same (no_at new num _ here (λ g. omega (arith, g)));
    stored = stored_now;
    worked = worked_next p t wants new old.done num e was (record {
      along = λ followed f edge. not_along new num _ here (λ g. omega (arith, g)) f;
      popped = λ followed link f under edge. not_popped new num _ here (λ g. omega (arith, g)) link f;
      linked = λ i f before followed edge. not_linked new num _ here (λ g. omega (arith, g)) i f;
      put = λ followed met b n under start. not_put new num _ here (λ g. omega (arith, g)) met b n;
      met = λ i b n before followed start side o x s at given.
          let one = spot_one (record { site = o; node = s.arg }) (b, s, refl, given) in
          let there = at_less p t added (record { site = o; node = s.arg }) i (omega (arith, before, is.within)) (side, x, at) in
          let end = stored_end p t new stored_now (record { site = o; node = s.arg }) num (b, s, refl, given) in
          let has = (is.ends (record { site = o; node = s.arg }) i).1 (before, record { end = end; at = there }) in
          put i (subst (λ (k : Spot). Has (found_at spot.eq-value.it old.spots k) i) one has) b n start side o x s at given;
    });
  }
    where
      spot_one : (k : Spot) → IsStored new k num → k ≡ key
      spot_one k has =
          let same = cites_one new.given num (Met k.site has.0 has.1) (Met key.site base store) has.3 here in
          let o : k.site ≡ key.site = cc in
          let s : has.1 ≡ store = cc in
          let n : k.node ≡ key.node = sym has.2 ∙ ap (λ (y : StoreAt). y.arg) s ∙ arg in λ j. record { site = o j; node = n j }

  pub turn_shared : (o base : Site) (arg at : Node) → Cites new.given num (Shared o arg base at)
      → IsWorking p t wants (record { written = new; done = num; takers = old.takers; links = old.links; spots = old.spots; mets = old.mets })
  turn_shared o base arg at here = record {
    within = low;
    takers = takers_same (no_taker new num _ here p t wants (λ g. omega (arith, g)));
    filed = record {
      links = links_same (no_below new num _ here (λ g. omega (arith, g)));
      mets = mets_same (no_stored new num _ here (λ g. omega (arith, g)));
    };
    ends = ends_same (no_at new num _ here (λ g. omega (arith, g)));
    stored = stored_now;
    worked = worked_next p t wants new old.done num e was (record {
      along = λ followed f edge. not_along new num _ here (λ g. omega (arith, g)) f;
      popped = λ followed link f under edge. not_popped new num _ here (λ g. omega (arith, g)) link f;
      linked = λ i f before followed edge. not_linked new num _ here (λ g. omega (arith, g)) i f;
      put = λ followed met b n under start. not_put new num _ here (λ g. omega (arith, g)) met b n;
      met = λ i b n before followed start. not_met new num _ here (λ g. omega (arith, g)) i b n;
    });
  }

-- no line was gone through
module _ {K : Type 0} (eq : K → K → Bool) (P : K → ℕ → Type 0) (none : (k : K) → P k 0 → ⊥) (g : Grouped K ℕ) (empty : (k : K) → found_at eq g k ≡ []) where
  filed_none : (k : K) (i : ℕ) → Has (found_at eq g k) i ↔ ((i ≤ 0) × P k i)
  filed_none k i = (
    (λ has. let h : Has [] i = subst (λ (xs : List ℕ). Has xs i) (empty k) has in let at = h.1 in cc),
    (λ is. let zero_is : i ≡ 0 = (let low = is.0 in omega arith) in absurd (none k (subst (P k) zero_is is.1))),
  )

none_worked : (p : LinkedProgram) (t : Node) (wants : Wants) (w : Noted) → AreWorked p t wants w 0
none_worked p t wants w = record {
  along = λ i e low followed edge side o x at. absurd (nought i _ low at);
  popped = λ i link e low under followed edge side o x below at links takes. absurd (nought i _ low at);
  put = λ i met base n low under followed start side o x s at meets. absurd (nought i _ low at);
}
  where
    nought : (i : ℕ) (f : Fact) → i ≤ 0 → Cites w.given i f → ⊥
    nought zero f low cites = cites
    nought (suc i) f low cites = absurd (omega arith)

pub work_none : (p : LinkedProgram) (t : Node) (wants : Wants) (w : Noted) (takers links : Grouped Word ℕ) (spots mets : Grouped Spot ℕ) → w.given ≡ []
    → ((k : Word) → found_at word.eq-value.it takers k ≡ []) → ((k : Word) → found_at word.eq-value.it links k ≡ [])
    → ((k : Spot) → found_at spot.eq-value.it spots k ≡ []) → ((k : Spot) → found_at spot.eq-value.it mets k ≡ [])
    → IsWork p t wants (record { written = w; done = 0; takers = takers; links = links; spots = spots; mets = mets })
work_none p t wants w takers links spots mets none a b c d = record {
  within = omega arith;
  filed = record {
    links = filed_none word.eq-value.it (IsBelow w) (λ k is. is.1) links b;
    mets = filed_none spot.eq-value.it (IsStored w) (λ k is. is.3) mets d;
  };
  ends = filed_none spot.eq-value.it (PutsAtEnd p t w) (λ k is. is.at.2) spots c;
  stored = stored_none p t w none;
  takers = filed_none word.eq-value.it (IsTaker p t wants w) (λ k is. is.put) takers a;
  worked = none_worked p t wants w;
}

-- other lines are put behind
pub work_more : (p : LinkedProgram) (t : Node) (wants : Wants) (k : Work) → IsWork p t wants k → (new : Noted) → AreAdded p t k.written new
    → IsWork p t wants (record { written = new; done = k.done; takers = k.takers; links = k.links; spots = k.spots; mets = k.mets })
work_more p t wants k is new added = record {
  within = omega (arith, is.within, many_more p t added);
  filed = record {
    links = λ x i. (
      (λ has. let at = (is.filed.links x i).0 has in (at.0, below_kept p t added x i (second at))),
      (λ at. (is.filed.links x i).1 (at.0, below_less p t added x i (omega (arith, at.0, is.within)) (second at))),
    );
    mets = λ x i. (
      (λ has. let at = (is.filed.mets x i).0 has in (at.0, stored_kept p t added x i (second at))),
      (λ at. (is.filed.mets x i).1 (at.0, stored_less p t added x i (omega (arith, at.0, is.within)) (second at))),
    );
  };
  ends = λ x i. (
    (λ has. let at = (is.ends x i).0 has in (at.0, at_end_kept p t added x i at.1)),
    (λ at. (is.ends x i).1 (at.0, at_end_less p t added x i (omega (arith, at.0, is.within)) at.1)),
  );
  stored = stored_more p t added is.stored;
  takers = λ x i. (
    (λ has. let at = (is.takers x i).0 has in (at.0, taker_kept p t added wants x i (second at))),
    (λ at. (is.takers x i).1 (at.0, taker_less p t added wants x i (omega (arith, at.0, is.within)) (second at))),
  );
  worked = worked_kept p t wants added k.done is.within is.worked;
}
