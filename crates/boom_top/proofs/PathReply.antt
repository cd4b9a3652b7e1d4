-- What `paths` is answered.
use Rattle.std.proofs.Common.{◌≡◌, ℕ, ◌++◌, ◌⊎◌, List, ◌∷◌, ◌∙◌, Option, ap, arith, codes, inl, inr, length, subst, sym}
use Rattle.std.specs.Io.KnownBytes.{Appends}
use Rattle.link_rules.specs.Linked.{LinkedProgram}
use Rattle.link_rules.specs.WellLinked.{IsInForm, IsWellLinked}
use Rattle.link_laws.proofs.Lists.{each_left}
use Rattle.link_sites.specs.declared.site.Site.{Site}
use Rattle.spds_rules.specs.declared.node.Node.{Node}
use Rattle.run_covers.specs.Covers.{IsCovered}
use Rattle.query_core.proofs.NamedPlaces.{missing_one, place_one, place_there}
use Rattle.query_core.specs.Places.{IsPlaceOf}
use Rattle.query_core.specs.declared.places.Which.TheVariants as which
use Rattle.boom_words.specs.Requests.{Paths}
use Rattle.path_query.proofs.Determined.{fields_there, path_fields_one, path_over, path_within}
use Rattle.path_query.proofs.OneAnswer.{path_answer_one}
use Rattle.path_query.proofs.Sound.{path_sound}
use Rattle.path_query.specs.Fields.{ArePathFields}
use Rattle.path_query.specs.Paths.{IsPathAffordable, IsPathOver}
use Rattle.report_text.specs.Answers.{IsSiteLine, count_lines}
use Rattle.report_text.specs.Lines.{text_of}
use Rattle.report_text.specs.Paths.{IsPathText}
use Rattle.boom_top.specs.Paths.{CoversPath, IsFieldsReply, IsPathFrom, IsPathReply, IsPathTold, IsPathWithin, PrintsAllPaths}
use Rattle.boom_top.specs.declared.status.Status.{Status}
use Rattle.boom_top.specs.declared.status.Status.TheVariants.{Done, NoSuchPlace, OverBudget}
use Rattle.boom_top.proofs.Lines.{has_middle}
use Rattle.boom_top.proofs.OneText.{lines_one, target_one}
use Rattle.boom_top.proofs.Splits.{AreOne, Refuses, ones, refused_by}

module _ (p : LinkedProgram) (form : IsInForm p) where
  -- the text about a node is one, by its query line, its sites and the counts
  module _ (n : Node) (sites : List Site) (demanded : ℕ) (a b : List ℕ) where
    path_text_one : (fields : List ℕ) → IsPathText p n fields sites demanded a → IsPathText p n fields sites demanded b → a ≡ b
    path_text_one fields x y =
        let target = target_one p form n x.query_is.target y.query_is.target x.query_is.target_is y.query_is.target_is in
        let query : x.query ≡ y.query = x.query_is.line_is ∙ ap (λ t. codes "paths " ++ t ++ codes " " ++ fields) target ∙ sym y.query_is.line_is in
        let lines = lines_one p form (codes "site ") sites x.lines y.lines x.lines_are y.lines_are in
        x.text_is ∙ (λ i. text_of (query i ∷ (lines i ++ count_lines (length sites) demanded))) ∙ sym y.text_is

  -- what is told of a path
  path_told_one : (asked : Paths) (n : Node) (fields : List ℕ) (xs ys : List (List ℕ)) → IsPathTold p asked n fields xs → IsPathTold p asked n fields ys
      → text_of xs ≡ text_of ys
  path_told_one asked n fields xs ys a b =
      let same = path_answer_one p n fields a.sites b.sites a.demanded b.demanded a.answer b.answer in
      let moved = subst (λ (d : ℕ). IsPathText p n asked.fields b.sites d (text_of xs)) same.1
      (subst (λ (s : List Site). IsPathText p n asked.fields s a.demanded (text_of xs)) same.0 a.told) in
      path_text_one n b.sites b.demanded (text_of xs) (text_of ys) asked.fields moved b.told

module _ (p : LinkedProgram) (asked : Paths) where
  -- what is told of a path isn't over the budget
  told_within : (n : Node) (fields : List ℕ) (lines : List (List ℕ)) → IsPathTold p asked n fields lines → IsPathOver p n fields asked.budget → ⊥
  told_within n fields lines a over =
      let most = a.affordable in
      omega (arith, most, path_over p n fields a.sites a.demanded asked.budget a.answer over)

  module _ (s t : Status) (xs ys : List (List ℕ)) where
    fields_status : (n : Node) (fields : List ℕ) → IsFieldsReply p asked n fields s xs → IsFieldsReply p asked n fields t ys → s ≡ t
    fields_status n fields (inl a) (inl b) = a.1.0 ∙ sym b.1.0
    fields_status n fields (inl a) (inr b) = absurd (told_within n fields ys b.0 a.0)
    fields_status n fields (inr a) (inl b) = absurd (told_within n fields xs a.0 b.0)
    fields_status n fields (inr a) (inr b) = a.1 ∙ sym b.1

    from_status : (n : Node) → IsPathFrom p asked n s xs → IsPathFrom p asked n t ys → s ≡ t
    from_status n (inl a) (inl b) = a.1.0 ∙ sym b.1.0
    from_status n (inl a) (inr b) = absurd (fields_there p asked.fields b.0 b.1 a.0)
    from_status n (inr a) (inl b) = absurd (fields_there p asked.fields a.0 a.1 b.0)
    from_status n (inr a) (inr b) =
        fields_status n b.0 (subst (λ (fields : List ℕ). IsFieldsReply p asked n fields s xs) (path_fields_one p asked.fields a.0 b.0 a.1 b.1) a.2) b.2

    -- a path has one status
    path_status : IsPathReply p asked s xs → IsPathReply p asked t ys → s ≡ t
    path_status (inl a) (inl b) = a.2.0 ∙ ap NoSuchPlace (missing_one p asked.method asked.index asked.local a.0 b.0 a.1 b.1) ∙ sym b.2.0
    path_status (inl a) (inr b) = absurd (place_there p asked.method asked.index asked.local b.0 b.1 a.0 a.1)
    path_status (inr a) (inl b) = absurd (place_there p asked.method asked.index asked.local a.0 a.1 b.0 b.1)
    path_status (inr a) (inr b) =
        from_status b.0 (subst (λ (n : Node). IsPathFrom p asked n s xs) (place_one p asked.method asked.index asked.local a.0 b.0 a.1 b.1) a.2) b.2

  -- what is said of a path that is there
  abbrev SaysPath : List (List ℕ) → Type 0
  SaysPath lines = (n : Node) × (fields : List ℕ) × IsPlaceOf p asked.method asked.index asked.local n × ArePathFields p asked.fields fields
      × IsPathTold p asked n fields lines

  path_split : (s : Status) (lines : List (List ℕ)) → IsPathReply p asked s lines → (SaysPath lines × (s ≡ Done)) ⊎ Refuses s lines
  path_split s lines (inl a) = inr (refused_by (NoSuchPlace a.0) s lines (λ no. cc) tt a.2)
  path_split s lines (inr (n, here, inl lacks)) = inr (refused_by (NoSuchPlace which.Field) s lines (λ no. cc) tt lacks.1)
  path_split s lines (inr (n, here, inr (fields, are, inl over))) = inr (refused_by (OverBudget asked.budget) s lines (λ no. cc) tt over.1)
  path_split s lines (inr (n, here, inr (fields, are, inr a))) = inl ((n, fields, here, are, a.0), a.1)

  paths_one : IsInForm p → (xs ys : List (List ℕ)) → SaysPath xs → SaysPath ys → text_of xs ≡ text_of ys
  paths_one form xs ys (n, fields, here, are, a) (m, others, there, too, b) =
      let node = place_one p asked.method asked.index asked.local n m here there in
      let same = path_fields_one p asked.fields fields others are too in
      path_told_one p form asked m others xs ys
      (subst (λ (fs : List ℕ). IsPathTold p asked m fs xs) same (subst (λ (n : Node). IsPathTold p asked n fields xs) node a)) b

  -- the replies are one
  pub path_ones : (Plain : Type 0) → AreOne p (IsPathReply p asked) Plain
  path_ones Plain = ones p (IsPathReply p asked) Plain SaysPath path_split path_status (λ form plain. paths_one form)

  module _ (s : Status) (lines : List (List ℕ)) where
    fields_enough : (n : Node) (fields : List ℕ) → IsPathAffordable p n fields asked.budget → IsFieldsReply p asked n fields s lines → s ≡ Done
    fields_enough n fields affordable (inl a) = absurd (path_within p n fields asked.budget affordable a.0)
    fields_enough n fields affordable (inr a) = a.1

    -- a budget of at least the demand's size is enough
    pub path_enough : IsPathWithin p asked → IsPathReply p asked s lines → s ≡ Done
    path_enough (n, fields, place, are, affordable) (inl a) = absurd (place_there p asked.method asked.index asked.local n place a.0 a.1)
    path_enough (n, fields, place, are, affordable) (inr (m, here, inl a)) = absurd (fields_there p asked.fields fields are a.0)
    path_enough (n, fields, place, are, affordable) (inr (m, here, inr (others, these, a))) =
        let at = subst (λ (k : Node). IsPathAffordable p k fields asked.budget) (place_one p asked.method asked.index asked.local n m place here) affordable in
        let along = subst (λ (fs : List ℕ). IsPathAffordable p m fs asked.budget) (path_fields_one p asked.fields fields others are these) at in
        fields_enough m others along a

-- the answer about a path has the line of the site of each object to which it leads in a run
module _ (p : LinkedProgram) (well : IsWellLinked p) (covered : IsCovered p) (asked : Paths) (old new : Option (List ℕ)) (lines : List (List ℕ)) (wrote : Appends old new (text_of lines)) where
  told_covered : (n : Node) (fields : List ℕ) → IsPathTold p asked n fields lines → PrintsAllPaths p n fields old new
  told_covered n fields a = λ count state number x o run path is.
      let found = path_sound p well covered n fields a.sites a.demanded a.answer count state number x o run path is in
      let line = each_left (IsSiteLine p) a.sites a.told.lines found.2.0 found.0.site a.told.lines_are found.2.1 in (
        found.0,
        found.1,
        line.0,
        line.2,
        (
          text_of lines,
          wrote,
          record {
            lines = a.told.query ∷ (a.told.lines ++ count_lines (length a.sites) a.demanded);
            text_is = a.told.text_is;
            has = has_middle a.told.query a.told.lines (count_lines (length a.sites) a.demanded) line.0 (found.2.0, line.1);
          },
        ),
      )

  fields_covered : (n : Node) (fields : List ℕ) → IsFieldsReply p asked n fields Done lines → PrintsAllPaths p n fields old new
  fields_covered n fields (inl a) = absurd (let no : Done ≡ OverBudget asked.budget = a.1.0 in cc)
  fields_covered n fields (inr a) = told_covered n fields a.0

  pub path_covered : IsPathReply p asked Done lines → CoversPath p asked old new
  path_covered (inl a) n fields place are = absurd (place_there p asked.method asked.index asked.local n place a.0 a.1)
  path_covered (inr (m, here, inl a)) n fields place are = absurd (fields_there p asked.fields fields are a.0)
  path_covered (inr (m, here, inr (others, these, a))) n fields place are =
      let at = subst (λ (k : Node). IsFieldsReply p asked k others Done lines) (place_one p asked.method asked.index asked.local m n here place) a in
      fields_covered n fields (subst (λ (fs : List ℕ). IsFieldsReply p asked n fs Done lines) (path_fields_one p asked.fields others fields these are) at)
