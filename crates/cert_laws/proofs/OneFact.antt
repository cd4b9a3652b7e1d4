-- A line gives one fact.
use Rattle.std.proofs.Common.{◌≡◌, ℕ, zero, suc, ◌+◌, ◌≤◌, List, [], ◌∷◌, ◌++◌, Option, Some, length, take, refl, sym, ap, subst, ◌∙◌, arith}
use Rattle.std.proofs.lemmas.List.{take_all}
use Rattle.lists.proofs.Places.{slice_get-there, take-next}
use Rattle.link_rules.specs.Linked.{LinkedProgram}
use Rattle.link_sites.specs.declared.place.Place.{Place}
use Rattle.link_sites.specs.declared.site.Site.{Site}
use Rattle.spds_rules.specs.declared.node.Node.{Node}
use Rattle.spds_laws.proofs.Crossings.{call_leads}
use Rattle.cert_rules.specs.declared.fact.Entry.TheVariants as entry
use Rattle.cert_rules.specs.declared.fact.Entry.TheVariants.{Base}
use Rattle.cert_rules.specs.declared.fact.Fact.{Fact}
use Rattle.cert_rules.specs.declared.fact.Fact.TheVariants.{At, Link, Shared, Met}
use Rattle.cert_rules.specs.declared.line.Line.{Line}
use Rattle.cert_rules.specs.declared.line.Line.TheVariants as line
use Rattle.cert_rules.specs.declared.line.Side.TheVariants.{Field, Call}
use Rattle.cert_rules.specs.Certified.{AreGiven}
use Rattle.cert_rules.specs.Given.{Facts, Gives, Reads}
use Rattle.cert_laws.proofs.Givens.{cites_one}
use Rattle.cert_laws.proofs.Sound.{some_same}
use Rattle.cert_laws.proofs.Stores.{store_one}

-- the first line that is cited for a string tells whose it is, and where
reads_one : (p : LinkedProgram) (given : Facts) (links : List ℕ) (o x : Site) (n m : Node) (v w : List Place) → Reads p given o links n v → Reads p given x links m w
    → (o ≡ x) × (n ≡ m)
reads_one p given [] o x n m v w a b = absurd a
reads_one p given (first ∷ links) o x n m v w a b =
    let same = cites_one given first (At Call o a.0 n) (At Call x b.0 m) a.1 b.1 in
    let site : o ≡ x = cc in
    let node : n ≡ m = cc in
    (site, node)

module _ (p : LinkedProgram) (t : Node) (given : Facts) where
  pub gives_one : (l : Line) (g h : Option Fact) → Gives p t given l g → Gives p t given l h → g ≡ h
  gives_one (line.Start side n) g h a b =
      let site : a.0 ≡ b.0 = some_same (sym a.1.0.1 ∙ b.1.0.1) in
      a.2 ∙ ap (λ (o : Site). Some (At side o Base n)) site ∙ sym b.2
  gives_one (line.Jump from n) g h a b =
      let same = cites_one given from _ _ a.0.cited b.0.cited in
      let site : a.0.site ≡ b.0.site = cc in
      a.1 ∙ ap (λ (o : Site). Some (At Call o Base n)) site ∙ sym b.1
  gives_one (line.Put from meet n) g h a b =
      let same = cites_one given from _ _ a.0.cited b.0.cited in
      let site : a.0.site ≡ b.0.site = cc in
      a.1 ∙ ap (λ (o : Site). Some (At Call o Base n)) site ∙ sym b.1
  gives_one (line.Flow side from n) g h a b =
      let same = cites_one given from _ _ a.1.cited b.1.cited in
      let site : a.1.site ≡ b.1.site = cc in
      let words : a.1.entry ≡ b.1.entry = cc in
      a.3 ∙ (λ j. Some (At side (site j) (words j) n)) ∙ sym b.3
  gives_one (line.PushField from meet n) g h a b =
      let same = cites_one given from _ _ a.0.cited b.0.cited in
      let met = cites_one given meet _ _ a.0.met b.0.met in
      let site : a.0.site ≡ b.0.site = cc in
      let store : a.0.store ≡ b.0.store = cc in
      a.1 ∙ (λ j. Some (At Field (site j) (entry.Field n (store j).field) n)) ∙ sym b.1
  gives_one (line.PushCall from n) g h a b =
      let same = cites_one given from _ _ a.1.cited b.1.cited in
      let site : a.1.site ≡ b.1.site = cc in
      let source : a.1.source ≡ b.1.source = cc in
      let call = sym (call_leads p a.1.source n a.0 a.1.edge.0).from ∙ ap (λ (m : Node). m.place) source ∙ (call_leads p b.1.source n b.0 b.1.edge.0).from in
      a.2 ∙ (λ j. Some (At Call (site j) (entry.Call n (call j)) n)) ∙ sym b.2
  gives_one (line.LinkField from meet n) g h a b =
      let same = cites_one given from _ _ a.0.cited b.0.cited in
      let met = cites_one given meet _ _ a.0.met b.0.met in
      let site : a.0.site ≡ b.0.site = cc in
      let words : a.0.entry ≡ b.0.entry = cc in
      let store : a.0.store ≡ b.0.store = cc in
      a.1 ∙ (λ j. Some (Link Field (site j) (entry.Field n (store j).field) (words j))) ∙ sym b.1
  gives_one (line.LinkCall from n) g h a b =
      let same = cites_one given from _ _ a.1.cited b.1.cited in
      let site : a.1.site ≡ b.1.site = cc in
      let words : a.1.entry ≡ b.1.entry = cc in
      let source : a.1.source ≡ b.1.source = cc in
      let call = sym (call_leads p a.1.source n a.0 a.1.edge.0).from ∙ ap (λ (m : Node). m.place) source ∙ (call_leads p b.1.source n b.0 b.1.edge.0).from in
      a.2 ∙ (λ j. Some (Link Call (site j) (entry.Call n (call j)) (words j))) ∙ sym b.2
  gives_one (line.Pop side from link n) g h a b =
      let same = cites_one given from _ _ a.2.cited b.2.cited in
      let below = cites_one given link _ _ a.4 b.4 in
      let site : a.2.site ≡ b.2.site = cc in
      let words : a.1 ≡ b.1 = cc in
      a.5 ∙ (λ j. Some (At side (site j) (words j) n)) ∙ sym b.5
  gives_one (line.BasePop from n) g h a b =
      let same = cites_one given from _ _ a.1.cited b.1.cited in
      let site : a.1.site ≡ b.1.site = cc in
      a.3 ∙ ap (λ (o : Site). Some (At Call o Base n)) site ∙ sym b.3
  gives_one (line.Shared first second string) g h a b =
      let object = reads_one p given first a.0.object b.0.object a.0.arg b.0.arg string string a.0.reads_object b.0.reads_object in
      let base = reads_one p given second a.0.base b.0.base a.0.at b.0.at string string a.0.reads_base b.0.reads_base in
      a.1 ∙ (λ j. Some (Shared (object.0 j) (object.1 j) (base.0 j) (base.1 j))) ∙ sym b.1
  gives_one (line.Meet shared base) g h a b =
      let same = cites_one given shared _ _ a.0.under_one b.0.under_one in
      let object : a.0.object ≡ b.0.object = cc in
      let other : a.0.base ≡ b.0.base = cc in
      let arg : a.0.store.arg ≡ b.0.store.arg = cc in
      let at : a.0.store.base ≡ b.0.store.base = cc in
      let store = store_one p a.0.store b.0.store a.0.store_in.0 b.0.store_in.0 arg at in
      a.1 ∙ (λ j. Some (Met (object j) (other j) (store j))) ∙ sym b.1
  gives_one (line.Claim field call) g h a b = a.1 ∙ sym b.1

module _ (p : LinkedProgram) (t : Node) (lines : List Line) (a b : Facts) (first : AreGiven p t lines a) (second : AreGiven p t lines b) where
  -- so the first lines give one list
  take_same : (k : ℕ) → k ≤ length lines → take k a ≡ take k b
  take_same zero within = refl
  take_same (suc k) within =
      let before = take_same k (omega arith) in
      let there = slice_get-there lines k (omega arith) in
      let x = first.each k there.0 there.1 in
      let y = second.each k there.0 there.1 in
      let fact = gives_one p t (take k b) there.0 x.fact y.fact (subst (λ (f : Facts). Gives p t f there.0 x.fact) before x.gives) y.gives in
      let next : suc k ≡ k + 1 = omega arith in
      ap (λ i. take i a) next ∙ take-next a k x.fact x.there ∙ (λ j. before j ++ fact j ∷ []) ∙ sym (take-next b k y.fact y.there) ∙ sym (ap (λ i. take i b) next)

  -- and all of them do
  pub given_one : a ≡ b
  given_one =
      sym (take_all (length lines) a (omega (arith, first.as_many))) ∙ take_same (length lines) (omega arith) ∙ take_all (length lines) b (omega (arith, second.as_many))
