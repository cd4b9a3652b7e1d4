-- What `demo` is answered.
use Rattle.std.proofs.Common.{◌≡◌, ℕ, List, ◌∙◌, subst, sym}
use Rattle.link_rules.specs.Linked.{LinkedProgram}
use Rattle.link_sites.specs.declared.site.Site.{Site}
use Rattle.spds_rules.specs.declared.node.Node.{Node}
use Rattle.query_core.proofs.Determined.{answer_one}
use Rattle.report_text.specs.Lines.{text_of}
use Rattle.boom_top.specs.Demo.{IsDemoText, demo_asked}
use Rattle.boom_top.specs.Places.{IsAnswered, IsPlaceReply}
use Rattle.boom_top.proofs.PlaceReply.{place_ones}
use Rattle.boom_top.proofs.Splits.{AreOne}

module _ (p : LinkedProgram) where
  -- what is told of the demo
  demo_one : (boxes : ℕ) (n : Node) (xs ys : List (List ℕ)) → IsAnswered p (λ n. IsDemoText p boxes) 4294967295 n xs
      → IsAnswered p (λ n. IsDemoText p boxes) 4294967295 n ys → text_of xs ≡ text_of ys
  demo_one boxes n xs ys a b =
      let same = answer_one p n a.sites b.sites a.demanded b.demanded a.answer b.answer in
      let moved = subst (λ (d : ℕ). IsDemoText p boxes b.sites d (text_of xs)) same.1 (subst (λ (s : List Site). IsDemoText p boxes s a.demanded (text_of xs)) same.0 a.told) in
      moved ∙ sym b.told

  -- the replies are one
  pub demo_ones : (boxes : ℕ) (Plain : Type 0) → AreOne p (IsPlaceReply p (demo_asked boxes) (λ n. IsDemoText p boxes)) Plain
  demo_ones boxes Plain = place_ones p (demo_asked boxes) (λ n. IsDemoText p boxes) Plain (λ form plain. demo_one boxes)
