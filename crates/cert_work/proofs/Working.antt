-- What the rules give of two lines, said of their numbers.
use Rattle.std.proofs.Common.{◌≡◌, ℕ, zero, suc, ◌+◌, ◌-◌, ◌≤◌, Some, length, slice_get, sym, ap, subst, arith, ◌<◌}
use Rattle.lists.proofs.Places.{slice_get-below}
use Rattle.link_rules.specs.Linked.{LinkedProgram}
use Rattle.link_sites.specs.declared.site.Site.{Site}
use Rattle.spds_rules.specs.declared.edge.Edge.{Edge}
use Rattle.spds_rules.specs.declared.node.Node.{Node}
use Rattle.spds_rules.specs.declared.store.StoreAt.{StoreAt}
use Rattle.cert_rules.specs.declared.fact.Entry.{Entry}
use Rattle.cert_rules.specs.declared.fact.Fact.{Fact}
use Rattle.cert_rules.specs.declared.fact.Fact.TheVariants.{At, Link, Met}
use Rattle.cert_rules.specs.declared.line.Side.{Side}
use Rattle.cert_rules.specs.Given.{Cites, Facts, Takes}
use Rattle.cert_rules.specs.Lengths.{cited_length}
use Rattle.cert_laws.proofs.Givens.{cites_one}
use Rattle.cert_lines.specs.Noted.{IsThere, Noted}
use Rattle.cert_work.specs.declared.held.Below.{Below}
use Rattle.cert_work.specs.declared.held.Held.{Held}
use Rattle.cert_work.specs.declared.held.Meeting.{Meeting}
use Rattle.cert_lines.specs.declared.keys.Spot.{Spot}
use Rattle.cert_lines.specs.declared.keys.Word.{Word}
use Rattle.cert_work.specs.Added.{AreAdded}
use Rattle.cert_work.specs.declared.wants.Wants.{Wants}
use Rattle.cert_work.specs.Work.{HasWord, IsAt, IsBelow, IsStored, IsTaker, PutsAtEnd}
use Rattle.cert_work.proofs.Growing.{cites_kept, cites_less}
use Rattle.cert_work.specs.Held.{IsBelowHeld, IsHeld, IsMeeting}
use Rattle.cert_work.specs.Rules.{GoesInto, GoesOn, IsAlong, IsPopped, IsPut, one_more}

pub cites_low : (given : Facts) (n : ℕ) (f : Fact) → Cites given n f → n ≤ length given
cites_low given zero f cites = absurd cites
cites_low given (suc n) f cites = omega (arith, slice_get-below given n (Some f) cites)

pub cites_above : (given : Facts) (n : ℕ) (f : Fact) → Cites given n f → 0 < n
cites_above given zero f cites = absurd cites
cites_above given (suc n) f cites = omega arith

-- the line before the number gives what is cited
pub cites_from : (given : Facts) (n : ℕ) (f : Fact) → Cites given n f → slice_get given (n - 1) ≡ Some (Some f)
cites_from given zero f cites = absurd cites
cites_from given (suc n) f cites = let e : n ≡ suc n - 1 = omega arith in subst (λ (k : ℕ). slice_get given k ≡ Some (Some f)) e cites

pub cites_next : (given : Facts) (i : ℕ) (f : Fact) → slice_get given i ≡ Some (Some f) → Cites given (i + 1) f
cites_next given i f there = let e : i + 1 ≡ suc i = omega arith in subst (λ (n : ℕ). Cites given n f) (sym e) there

module _ (w : Noted) (h : Held) (held : IsHeld w h) where
  pub along_of : (e : Edge) → (e.from ≡ h.node → GoesOn w h.length h.side h.site h.entry e.kind e.to) → IsAlong w h.number e
  along_of e goes side o x at =
      let same = cites_one w.given h.number (At h.side h.site h.entry h.node) (At side o x e.from) held.gives at in
      let s : h.side ≡ side = cc in
      let site : h.site ≡ o = cc in
      let words : h.entry ≡ x = cc in
      let node : h.node ≡ e.from = cc in
      subst (λ (n : ℕ). GoesOn w n side o x e.kind e.to) (sym held.long)
      (subst (λ (y : Side). GoesOn w h.length y o x e.kind e.to) s
      (subst (λ (y : Site). GoesOn w h.length h.side y x e.kind e.to) site
      (subst (λ (y : Entry). GoesOn w h.length h.side h.site y e.kind e.to) words (goes (sym node)))))

  pub popped_of : (b : Below) → IsBelowHeld w h b → (e : Edge)
      → (e.from ≡ h.node → Takes h.side h.entry e.kind → IsThere w (At h.side h.site b.entry e.to) (one_more h.side (h.length + b.length)))
      → IsPopped w h.number b.number e
  popped_of b under e goes side o x below at links takes =
      let same = cites_one w.given h.number (At h.side h.site h.entry h.node) (At side o x e.from) held.gives at in
      let linked = cites_one w.given b.number (Link h.side h.site h.entry b.entry) (Link side o x below) under.gives links in
      let s : h.side ≡ side = cc in
      let site : h.site ≡ o = cc in
      let words : h.entry ≡ x = cc in
      let node : h.node ≡ e.from = cc in
      let behind : b.entry ≡ below = cc in
      let takes_it : Takes h.side h.entry e.kind =
      subst (λ (y : Entry). Takes h.side y e.kind) (sym words) (subst (λ (y : Side). Takes y x e.kind) (sym s) takes) in
      let fact : At h.side h.site b.entry e.to ≡ At side o below e.to = λ j. At (s j) (site j) (behind j) e.to in
      let first : h.length ≡ cited_length w.lengths h.number = sym held.long in
      let second : b.length ≡ cited_length w.lengths b.number = sym under.long in
      let long : one_more h.side (h.length + b.length) ≡ one_more side (cited_length w.lengths h.number + cited_length w.lengths b.number)
      = λ j. one_more (s j) (first j + second j) in
      subst (λ (n : ℕ). IsThere w (At side o below e.to) n) long
      (subst (λ (f : Fact). IsThere w f (one_more h.side (h.length + b.length))) fact (goes (sym node) takes_it))

  pub put_of : (m : Meeting) → IsMeeting w h m → (base : Site) (n : Node) → (m.base ≡ base → GoesInto w h.length h.side h.site h.entry m.store.field n)
      → IsPut w h.number m.number base n
  put_of m meeting base n goes side o x st at meets =
      let same = cites_one w.given h.number (At h.side h.site h.entry h.node) (At side o x st.arg) held.gives at in
      let met = cites_one w.given m.number (Met h.site m.base m.store) (Met o base st) meeting.meets meets in
      let s : h.side ≡ side = cc in
      let site : h.site ≡ o = cc in
      let words : h.entry ≡ x = cc in
      let into : m.base ≡ base = cc in
      let store : m.store ≡ st = cc in
      let field : m.store.field ≡ st.field = ap (λ (y : StoreAt). y.field) store in
      subst (λ (k : ℕ). GoesInto w k side o x st.field n) (sym held.long)
      (subst (λ (y : Side). GoesInto w h.length y o x st.field n) s
      (subst (λ (y : Site). GoesInto w h.length h.side y x st.field n) site
      (subst (λ (y : Entry). GoesInto w h.length h.side h.site y st.field n) words
      (subst (λ (f : ℕ). GoesInto w h.length h.side h.site h.entry f n) field (goes into)))))

-- what lines are looked for by stays so where others are put behind them
module _ (p : LinkedProgram) (t : Node) {old new : Noted} (added : AreAdded p t old new) where
  pub word_kept : (k : Word) (i : ℕ) → HasWord old k i → HasWord new k i
  word_kept k i is = (is.0, cites_kept p t added i _ is.1)

  pub taker_kept : (wants : Wants) (k : Word) (i : ℕ) → IsTaker p t wants old k i → IsTaker p t wants new k i
  taker_kept wants k i is = record { edge = is.edge; edge_in = is.edge_in; takes = is.takes; put = cites_kept p t added i _ is.put; wanted = is.wanted }

  pub below_kept : (k : Word) (i : ℕ) → IsBelow old k i → IsBelow new k i
  below_kept k i is = (is.0, cites_kept p t added i _ is.1)

  pub at_kept : (k : Spot) (i : ℕ) → IsAt old k i → IsAt new k i
  at_kept k i is = (is.0, is.1, cites_kept p t added i _ is.2)

  pub at_end_kept : (k : Spot) (i : ℕ) → PutsAtEnd p t old k i → PutsAtEnd p t new k i
  at_end_kept k i is = record { end = is.end; at = at_kept k i is.at }

  pub stored_kept : (k : Spot) (i : ℕ) → IsStored old k i → IsStored new k i
  stored_kept k i is = (is.0, is.1, is.2, cites_kept p t added i _ is.3)

  pub taker_less : (wants : Wants) (k : Word) (i : ℕ) → i ≤ length old.given → IsTaker p t wants new k i → IsTaker p t wants old k i
  taker_less wants k i low is =
      record { edge = is.edge; edge_in = is.edge_in; takes = is.takes; put = cites_less p t added i _ low is.put; wanted = is.wanted }

  pub below_less : (k : Word) (i : ℕ) → i ≤ length old.given → IsBelow new k i → IsBelow old k i
  below_less k i low is = (is.0, cites_less p t added i _ low is.1)

  pub at_less : (k : Spot) (i : ℕ) → i ≤ length old.given → IsAt new k i → IsAt old k i
  at_less k i low is = (is.0, is.1, cites_less p t added i _ low is.2)

  pub at_end_less : (k : Spot) (i : ℕ) → i ≤ length old.given → PutsAtEnd p t new k i → PutsAtEnd p t old k i
  at_end_less k i low is = record { end = is.end; at = at_less k i low is.at }

  pub stored_less : (k : Spot) (i : ℕ) → i ≤ length old.given → IsStored new k i → IsStored old k i
  stored_less k i low is = (is.0, is.1, is.2, cites_less p t added i _ low is.3)
