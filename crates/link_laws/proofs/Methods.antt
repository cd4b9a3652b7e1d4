-- Each method of a linked program fits it.
use Rattle.std.proofs.Common.{◌≡◌, ℕ, ◌<◌, ◌≤◌, Some, length, map, slice_get, All, refl, sym, ap, ◌∙◌, subst, inl, inr, arith}
use Rattle.std.proofs.lemmas.Bool.{cases_eq}
use Rattle.lists.specs.Lists.{Has, AreIncreasing}
use Rattle.lists.proofs.Places.{slice_get-below}
use Rattle.jim_ast.specs.declared.names.NameId.{NameId}
use Rattle.jim_ast.specs.declared.syntax.Label.{Label}
use Rattle.jim_ast.specs.declared.syntax.Stmt.{Stmt}
use Rattle.link_rules.specs.declared.code.Catch.{Catch}
use Rattle.link_rules.specs.declared.code.Code.{Code}
use Rattle.link_rules.specs.declared.refusal.LinkKind.TheVariants as rule
use Rattle.link_rules.specs.Bodies.{IsLabel, MayFollow}
use Rattle.link_rules.specs.Classes.{DeclaredMethod}
use Rattle.link_rules.specs.Codes.{IsCatch, IsCode}
use Rattle.link_rules.specs.Conditions.{IsReadStmt}
use Rattle.link_rules.specs.Flow.{Next}
use Rattle.link_rules.specs.Linked.{Element, LinkedMethod, LinkedProgram, scope_of}
use Rattle.link_rules.specs.Names.{text_of}
use Rattle.link_rules.specs.Statements.{StmtAt}
use Rattle.link_rules.specs.WellLinked.{FitsCatch, FitsCode, FitsMethod, IsWellLinkedCode, MakesArrays}
use Rattle.link_rules.specs.World.{World}
use Rattle.link_laws.proofs.Elements.{elements_increase, has_element_at, makes_one}
use Rattle.link_laws.proofs.Fitting.{IsFit, fit}
use Rattle.link_laws.proofs.Lists.{all_at, at_all, each_right}
use Rattle.link_laws.proofs.Parts.{class_fits}
use Rattle.link_laws.proofs.Stands.{IsMade, Stands}

module _ (w : World) (p : LinkedProgram) (made : IsMade w p) (m : DeclaredMethod) (l : LinkedMethod) (st : Stands w p m l) where
  -- the statement whose code it is
  pub stmt_at : (t : ℕ) (c : Code) → slice_get l.code t ≡ Some c
      → (s : Stmt) × StmtAt m t s × (slice_get st.linked.body.stmts t ≡ Some s) × IsCode (scope_of w p m st.linked.body) s c
  stmt_at t c e =
      let s = each_right (IsCode (scope_of w p m st.linked.body)) st.linked.body.stmts l.code t c st.linked.code e in
      (s.0, record { body = st.linked.body; in_body = st.linked.in_body; there = s.1 }, s.1, s.2)

  -- the statement at an index, with what holds of its code
  fit_at : (t : ℕ) (c : Code) → slice_get l.code t ≡ Some c → (s : Stmt) × (slice_get st.linked.body.stmts t ≡ Some s) × IsFit p l st.linked.body t s c
  fit_at t c e =
      let s = stmt_at t c e in
      (s.0, s.2, fit w p made m l st t s.0 c s.1 (at_all IsReadStmt st.linked.body.stmts t s.0 st.read.stmts s.2) s.3)

  -- a label stands before a statement or the end
  label_within : (name : NameId) (n : ℕ) → IsLabel st.linked.body.labels name n → n ≤ length st.linked.body.stmts
  label_within name n is = at_all (λ (label : Label). label.index ≤ length st.linked.body.stmts) st.linked.body.labels is.place _ st.read.labels is.there

  -- an index that isn't the end is that of a statement
  within_code : (n : ℕ) → n ≤ length st.linked.body.stmts → (n ≡ length st.linked.body.stmts → ⊥) → n < length l.code
  within_code n most other =
      let many = st.linked.code.as_many in
      elim (cases_eq n (length st.linked.body.stmts)) [ inl same ↦ absurd (other same) | inr apart ↦ omega (arith, many, most, apart) ]

  -- what may follow a statement isn't the end
  stays : (t next : ℕ) (c : Code) → slice_get l.code t ≡ Some c → Next c t next → next < length l.code
  stays t next c e goes =
      let s = fit_at t c e in
      let follows = s.2.follows next goes in
      let below = slice_get-below st.linked.body.stmts t s.0 s.1 in
      let most : next ≤ length st.linked.body.stmts = elim follows [ inl a ↦ let is = a.1 in omega (arith, is, below) | inr a ↦ label_within a.0 next a.2 ] in
      within_code next most (λ is. st.allowed t rule.FallsOff (inl (record {
        stmt = s.0;
        here = record { body = st.linked.body; in_body = st.linked.in_body; there = s.1 };
        followed = subst (MayFollow st.linked.body s.0 t) is follows;
      })))

  -- a handler fits
  catch_fits : (i : ℕ) (c : Catch) → slice_get l.catches i ≡ Some c → FitsCatch p l c
  catch_fits i c e =
      let trap = each_right (IsCatch (scope_of w p m st.linked.body)) st.linked.body.traps l.catches i c st.linked.catches e in (
        class_fits w p made (text_of m.names trap.0.class) c.class trap.2.class,
        within_code c.handler (label_within trap.0.with c.handler trap.2.handler) (λ is. st.allowed (length st.linked.body.stmts) rule.FallsOff (inr (inl (record {
          body = st.linked.body;
          in_body = st.linked.in_body;
          trap = trap.0;
          there = (i, trap.1);
          handler = subst (IsLabel st.linked.body.labels trap.0.with) is trap.2.handler;
          at_end = refl;
        })))),
      )

  -- each array has its element type
  array_has : (t : ℕ) (c : Code) → slice_get l.code t ≡ Some c → MakesArrays c → (e : Element) × Has l.elements e × (e.index ≡ t)
  array_has t c e makes =
      let s = stmt_at t c e in
      let a = has_element_at m.names st.linked.body.stmts t s.0 s.2 (λ n. makes_one m.names n (scope_of w p m st.linked.body) s.0 c s.3 makes) in
      (a.0, subst (λ es. Has es a.0) (sym st.linked.elements) a.1, a.2)

  -- the method fits
  pub method_fits : FitsMethod p l
  method_fits =
      record {
        codes = all_at (FitsCode p l) l.code (λ t c e. (fit_at t c e).2.fits);
        catches = all_at (FitsCatch p l) l.catches catch_fits;
        stays = stays;
        elements = array_has;
        one_each = subst (λ es. AreIncreasing (map (λ (a : Element). a.index) es)) (sym st.linked.elements) (elements_increase m.names st.linked.body.stmts);
      }

  -- its code is well linked
  pub codes_well : All (IsWellLinkedCode p) l.code
  codes_well = all_at (IsWellLinkedCode p) l.code (λ t c e. (fit_at t c e).2.well)
