-- Objects are stored by demanded stores alone, and so at ends alone.
use Rattle.std.proofs.Common.{◌≡◌, inl, inr, ℕ, zero, suc, List, [], Option, Some, slice_get, sym, subst}
use Rattle.lists.proofs.Places.{slice_get-pushed}
use Rattle.link_rules.specs.Linked.{LinkedProgram}
use Rattle.link_sites.specs.declared.site.Site.{Site}
use Rattle.spds_rules.specs.declared.node.Node.{Node}
use Rattle.spds_rules.specs.declared.store.StoreAt.{StoreAt}
use Rattle.spds_rules.specs.Demand.{StoreIn, about}
use Rattle.cert_rules.specs.declared.fact.Fact.{Fact}
use Rattle.cert_rules.specs.declared.fact.Fact.TheVariants.{Met}
use Rattle.cert_rules.specs.declared.line.Line.{Line}
use Rattle.cert_rules.specs.declared.line.Line.TheVariants as line
use Rattle.cert_rules.specs.Given.{Facts, Gives}
use Rattle.cert_lines.specs.declared.keys.Spot.{Spot}
use Rattle.cert_lines.specs.Noted.{Noted}
use Rattle.cert_work.specs.Added.{AreAdded}
use Rattle.cert_work.specs.Roads.{IsEnd}
use Rattle.cert_work.specs.Work.{AreStored, IsStored}

module _ (p : LinkedProgram) (t : Node) where
  -- the line of a meet alone gives that an object may be stored
  gives_store : (given : Facts) (l : Line) (o base : Site) (s : StoreAt) → Gives p t given l (Some (Met o base s)) → StoreIn p (about t) s
  gives_store given (line.Start side n) o base s g = let h = g.2 in cc
  gives_store given (line.Jump from n) o base s g = let h = g.1 in cc
  gives_store given (line.Put from meet n) o base s g = let h = g.1 in cc
  gives_store given (line.Flow side from n) o base s g = let h = g.3 in cc
  gives_store given (line.PushField from meet n) o base s g = let h = g.1 in cc
  gives_store given (line.PushCall from n) o base s g = let h = g.2 in cc
  gives_store given (line.LinkField from meet n) o base s g = let h = g.1 in cc
  gives_store given (line.LinkCall from n) o base s g = let h = g.2 in cc
  gives_store given (line.Pop side from link n) o base s g = let h = g.5 in cc
  gives_store given (line.BasePop from n) o base s g = let h = g.3 in cc
  gives_store given (line.Shared first second string) o base s g = let h = g.1 in cc
  gives_store given (line.Meet shared of) o base s g =
      let h = g.1 in
      let same : g.0.store ≡ s = cc in subst (λ (x : StoreAt). StoreIn p (about t) x) same g.0.store_in
  gives_store given (line.Claim field call) o base s g = let h = g.1 in cc

  pub stored_more : {old new : Noted} → AreAdded p t old new → AreStored p t old → AreStored p t new
  stored_more AreAdded.none stored i o base s cites = stored i o base s cites
  stored_more (AreAdded.more {mid} line fact rest even gives not) stored zero o base s cites = absurd cites
  stored_more (AreAdded.more {mid} line fact rest even gives not) stored (suc i) o base s cites =
      elim (slice_get-pushed mid.given (Some fact) i (Some (Met o base s)) cites) [
        | inl before ↦ stored_more rest stored (suc i) o base s before
        | inr e ↦ gives_store mid.given line o base s (subst (λ (f : Option Fact). Gives p t mid.given line f) (sym e.1) gives)
      ]

  pub stored_none : (w : Noted) → w.given ≡ [] → AreStored p t w
  stored_none w none zero o base s cites = absurd cites
  stored_none w none (suc i) o base s cites =
      let h : slice_get [] i ≡ Some (Some (Met o base s)) = subst (λ (g : Facts). slice_get g i ≡ Some (Some (Met o base s))) none cites in cc

  pub stored_end : (w : Noted) → AreStored p t w → (k : Spot) (i : ℕ) → IsStored w k i → IsEnd p t k.node
  stored_end w stored k i is = inr (is.1, stored i k.site is.0 is.1 is.3, inl (sym is.2))
