-- What `points-to` is answered.
use Rattle.std.proofs.Common.{◌≡◌, ℕ, ◌++◌, List, ◌∷◌, ◌∙◌, Option, ap, codes, inl, inr, length, subst, sym}
use Rattle.std.specs.Io.KnownBytes.{Appends}
use Rattle.link_rules.specs.Linked.{LinkedProgram}
use Rattle.link_rules.specs.WellLinked.{IsInForm, IsWellLinked}
use Rattle.link_laws.proofs.Lists.{each_left}
use Rattle.link_sites.specs.declared.site.Site.{Site}
use Rattle.spds_rules.specs.Answers as answers
use Rattle.spds_rules.specs.Demand.{about}
use Rattle.spds_rules.specs.declared.node.Node.{Node}
use Rattle.run_covers.specs.Covers.{IsCovered}
use Rattle.cert_laws.proofs.Complete.{answered_certified}
use Rattle.query_core.proofs.Determined.{answer_one}
use Rattle.query_core.proofs.NamedPlaces.{place_one, place_there}
use Rattle.query_core.proofs.Sound.{answer_sound}
use Rattle.boom_words.specs.Requests.{PointsTo}
use Rattle.report_text.specs.Answers.{IsAnswerText, IsSiteLine, count_lines}
use Rattle.report_text.specs.Lines.{text_of}
use Rattle.boom_top.specs.Places.{CoversPlace, IsAnswered, IsPlaceReply}
use Rattle.boom_top.specs.PointsTo.{IsEvident, PrintsShown}
use Rattle.boom_top.specs.Printed.{PrintsAllRuns, TellsAllRuns}
use Rattle.boom_top.specs.declared.status.Status.{Status}
use Rattle.boom_top.specs.declared.status.Status.TheVariants.{Done, NoSuchPlace, OverBudget}
use Rattle.boom_top.proofs.Lines.{has_middle}
use Rattle.boom_top.proofs.OneText.{lines_one, query_line_one}
use Rattle.boom_top.proofs.PlaceReply.{place_ones}
use Rattle.boom_top.proofs.Splits.{AreOne}

module _ (p : LinkedProgram) (form : IsInForm p) where
  answer_text_one : (n : Node) (sites : List Site) (demanded : ℕ) (a b : List ℕ) → IsAnswerText p n sites demanded a → IsAnswerText p n sites demanded b → a ≡ b
  answer_text_one n sites demanded a b x y =
      let query_same = query_line_one p form (codes "points-to") n x.query y.query x.query_is y.query_is in
      let lines_same = lines_one p form (codes "site ") sites x.lines y.lines x.lines_are y.lines_are in
      x.text_is ∙ ap (λ l. text_of (l ∷ (x.lines ++ count_lines (length sites) demanded))) query_same
      ∙ ap (λ ls. text_of (y.query ∷ (ls ++ count_lines (length sites) demanded))) lines_same ∙ sym y.text_is

  module _ (budget : ℕ) (n : Node) where
    answered_one : (xs ys : List (List ℕ)) → IsAnswered p (IsAnswerText p) budget n xs → IsAnswered p (IsAnswerText p) budget n ys → text_of xs ≡ text_of ys
    answered_one xs ys a b =
        let same = answer_one p n a.sites b.sites a.demanded b.demanded a.answer b.answer in
        let moved = subst (λ (d : ℕ). IsAnswerText p n b.sites d (text_of xs)) same.1 (subst (λ (s : List Site). IsAnswerText p n s a.demanded (text_of xs)) same.0 a.told) in
        answer_text_one n b.sites b.demanded (text_of xs) (text_of ys) moved b.told

-- the replies are one
pub points_to_ones : (p : LinkedProgram) (asked : PointsTo) (Plain : Type 0) → AreOne p (IsPlaceReply p asked (IsAnswerText p)) Plain
points_to_ones p asked Plain = place_ones p asked (IsAnswerText p) Plain (λ form plain. answered_one p form asked.budget)

-- they have one text
pub place_text : (p : LinkedProgram) → IsInForm p → (asked : PointsTo) (s t : Status) (xs ys : List (List ℕ)) → IsPlaceReply p asked (IsAnswerText p) s xs
    → IsPlaceReply p asked (IsAnswerText p) t ys → text_of xs ≡ text_of ys
place_text p form asked s t xs ys a b = let one = points_to_ones p asked (Unit {0}) in one.text form tt s t xs ys (one.status s t xs ys a b) a b

-- the answer about a node has the line of the site of each object that a run brings
pub tells_covered : (p : LinkedProgram) → IsWellLinked p → IsCovered p → (lines : List (List ℕ)) (budget : ℕ) (n : Node) → IsAnswered p (IsAnswerText p) budget n lines
    → TellsAllRuns p n (text_of lines)
tells_covered p well covered lines budget n a = λ count state number frame x o run holds is.
    let found = answer_sound p well covered n a.sites a.demanded a.answer count state number frame x o run holds is in
    let line = each_left (IsSiteLine p) a.sites a.told.lines found.2.0 found.0.site a.told.lines_are found.2.1 in (
      found.0,
      found.1,
      line.0,
      line.2,
      record {
        lines = a.told.query ∷ (a.told.lines ++ count_lines (length a.sites) a.demanded);
        text_is = a.told.text_is;
        has = has_middle a.told.query a.told.lines (count_lines (length a.sites) a.demanded) line.0 (found.2.0, line.1);
      },
    )

-- what is done covers each run
module _ (p : LinkedProgram) (well : IsWellLinked p) (covered : IsCovered p) (old new : Option (List ℕ)) (lines : List (List ℕ)) (wrote : Appends old new (text_of lines)) where
  node_covered : (budget : ℕ) (n : Node) → IsAnswered p (IsAnswerText p) budget n lines → PrintsAllRuns p n old new
  node_covered budget n a = λ count state number frame x o run holds is.
      let told = tells_covered p well covered lines budget n a count state number frame x o run holds is in
      (told.0, told.1, told.2, told.3, (text_of lines, wrote, told.4))

  pub place_covered : (asked : PointsTo) → IsPlaceReply p asked (IsAnswerText p) Done lines → CoversPlace p asked old new
  place_covered asked (inl a) n place = absurd (place_there p asked.method asked.index asked.local n place a.0 a.1)
  place_covered asked (inr (m, here, inl over)) n place = absurd (let no : Done ≡ OverBudget asked.budget = over.1.0 in cc)
  place_covered asked (inr (m, here, inr a)) n place =
      node_covered asked.budget n (subst (λ (n : Node). IsAnswered p (IsAnswerText p) asked.budget n lines)
      (place_one p asked.method asked.index asked.local m n here place) a.0)

-- a site that both systems have at the node is evident
pub evident : (p : LinkedProgram) (n : Node) (o : Site) → answers.IsAnswered p (about n) n o → IsEvident p n o
evident p n o is = record { answered = is; shown = answered_certified p n o is }

-- there is evidence for what is done
module _ (p : LinkedProgram) (old new : Option (List ℕ)) (lines : List (List ℕ)) (wrote : Appends old new (text_of lines)) where
  -- each site of an answer is shown by some list of lines
  pub place_evident : (asked : PointsTo) → IsPlaceReply p asked (IsAnswerText p) Done lines → PrintsShown p asked old new
  place_evident asked (inl a) = absurd (let no : Done ≡ NoSuchPlace a.0 = a.2.0 in cc)
  place_evident asked (inr (m, here, inl over)) = absurd (let no : Done ≡ OverBudget asked.budget = over.1.0 in cc)
  place_evident asked (inr (m, here, inr a)) = record {
    node = m;
    place = here;
    sites = a.0.sites;
    demanded = a.0.demanded;
    text = text_of lines;
    told = a.0.told;
    wrote = wrote;
    shown = λ o has. evident p m o ((a.0.answer.answer.each o).0 has);
  }
