-- What is left of a well-linked program is well linked.
use Rattle.std.proofs.Common.{◌≡◌, ℕ, ◌+◌, ◌<◌, List, [], Option, Some, All, length, slice_get, sym, ap, ◌∙◌, subst, inl, inr, arith}
use Rattle.lists.proofs.Places.{slice_get-below, slice_get-there}
use Rattle.link_rules.specs.declared.code.Catch.{Catch}
use Rattle.link_rules.specs.declared.code.Code.{Code}
use Rattle.link_rules.specs.declared.code.Code.TheVariants as code
use Rattle.link_rules.specs.Linked.{LinkedMethod, LinkedProgram}
use Rattle.link_rules.specs.WellLinked.{FitsCatch, FitsCode, FitsMethod, HasTarget, IsInForm, IsReachedByCalls, IsRoot, IsWellLinked, IsWellLinkedCode, SuitsCall, root as root_itself, called as by_call}
use Rattle.link_laws.proofs.Lists.{all_at, at_all}
use Rattle.narrow_rules.specs.declared.kept.Kept.{Kept}
use Rattle.narrow_rules.specs.Laws.{NarrowedIsWell, NarrowedKeepsForm}
use Rattle.narrow_rules.specs.Narrowed.{GoesOn, IsKept, IsNarrowed, IsNarrowedBody, IsNarrowedCode, IsNarrowedMethod, IsReachedBy, KeepsTarget, StaysIn, root, called}
use Rattle.narrow_rules.proofs.Bodies.{arrays_before, code_after, code_before, next_before, one_target, those_are, those_have, those_keep}

-- the program with these methods in place of its own
abbrev pub over : LinkedProgram → List LinkedMethod → LinkedProgram
over p ms = record p { methods = ms }

module _ (p : LinkedProgram) (ms : List LinkedMethod) (kept : List Kept) (n : IsNarrowed p kept (over p ms)) where
  -- what is left of a method
  pub method_after : (number : ℕ) (old : LinkedMethod) → slice_get p.methods number ≡ Some old
      → (new : LinkedMethod) × (slice_get ms number ≡ Some new) × IsNarrowedMethod p kept n.root number old new
  method_after number old e =
      let new = slice_get-there ms number (subst (λ k. number < k) n.as_many (slice_get-below p.methods number old e)) in
      (new.0, new.1, n.each number old new.0 e new.1)

  -- the method of which one is left
  pub method_before : (number : ℕ) (new : LinkedMethod) → slice_get ms number ≡ Some new
      → (old : LinkedMethod) × (slice_get p.methods number ≡ Some old) × IsNarrowedMethod p kept n.root number old new
  method_before number new e =
      let old = slice_get-there p.methods number (subst (λ k. number < k) (sym n.as_many) (slice_get-below ms number new e)) in
      (old.0, old.1, n.each number old.0 new old.1 e)

  -- a method that is reached goes on
  pub goes_on : (number : ℕ) → IsReachedBy p kept n.root number → (old : LinkedMethod) → slice_get p.methods number ≡ Some old
      → (new : LinkedMethod) × (slice_get ms number ≡ Some new) × IsNarrowedMethod p kept n.root number old new × GoesOn p kept n.root number old new
  goes_on number reached old e =
      let m = method_after number old e in
      elim m.2.becomes [ inl goes ↦ (m.0, m.1, m.2, goes) | inr lost ↦ absurd (lost.unreached reached) ]

  -- a method that has statements is reached
  pub with_statements : (number : ℕ) (new : LinkedMethod) → slice_get ms number ≡ Some new → 0 < length new.code → IsReachedBy p kept n.root number
  with_statements number new e has = elim ((method_before number new e).2.becomes) [
    | inl goes ↦ goes.reached
    | inr lost ↦ let none : length new.code ≡ 0 = ap length lost.code in absurd (omega (arith, has, none))
  ]

  -- a target that stays of a reached method is one of the program that is left
  pub target_after : (number index target : ℕ) → IsReachedBy p kept n.root number → KeepsTarget p kept number index target
      → HasTarget (over p ms) number index target
  target_after number index target reached k =
      let m = goes_on number reached k.has.method k.has.there in
      let d = code_after kept number k.has.method.code m.0.code m.3.code index (code.Call k.has.to k.has.mode k.has.class k.has.key k.has.receiver k.has.args k.has.targets) k.has.call in
      record {
        method = m.0;
        there = m.1;
        to = k.has.to;
        mode = k.has.mode;
        class = k.has.class;
        key = k.has.key;
        receiver = k.has.receiver;
        args = k.has.args;
        targets = d.2.0;
        call = d.1 ∙ ap Some d.2.2;
        has = those_have (λ target. StaysIn k.has.mode (IsKept kept number index target)) d.2.1 k.has.has.0 target k.has.has.1 k.stays;
      }

  -- what is reached by targets that stay is reached in the program that is left
  pub reached_after : {number : ℕ} → IsReachedBy p kept n.root number → IsReachedByCalls (over p ms) n.root number
  reached_after root = root_itself
  reached_after (called {number} {index} {target} r k) = by_call (reached_after r) (target_after number index target r k)

  module _ (form : IsInForm p) where
    -- numbers in range are so still
    code_fits : (number index : ℕ) (m : LinkedMethod) (cs : List Code) (hs : List Catch) (c d : Code) → IsNarrowedCode kept number index c d
        → FitsCode p m c → FitsCode (over p ms) (record m { code = cs; catches = hs }) d
    code_fits number index m cs hs (code.Call to mode class key receiver args targets) d d_is f =
        subst (λ e. FitsCode (over p ms) (record m { code = cs; catches = hs }) e) (sym d_is.2) (
          f.0,
          f.1,
          f.2,
          f.3,
          f.4,
          those_keep (λ target. StaysIn mode (IsKept kept number index target)) (λ target. target < length ms) d_is.1
              (subst (λ k. All (λ target. target < k) targets) n.as_many f.5),
        )
    code_fits number index m cs hs c d d_is f = subst (λ e. FitsCode (over p ms) (record m { code = cs; catches = hs }) e) (sym d_is) f

    -- a method that goes on fits
    going_fits : (number : ℕ) (m : LinkedMethod) (cs : List Code) (hs : List Catch) → IsNarrowedBody kept number m.code cs → hs ≡ m.catches
        → FitsMethod p m → FitsMethod (over p ms) (record m { code = cs; catches = hs })
    going_fits number m cs hs body handlers fits = record {
      codes = all_at (FitsCode (over p ms) (record m { code = cs; catches = hs })) cs (λ i d e.
          let c = code_before kept number m.code cs body i d e in
          code_fits number i m cs hs c.0 d c.2 (at_all (FitsCode p m) m.code i c.0 fits.codes c.1));
      catches = all_at (FitsCatch (over p ms) (record m { code = cs; catches = hs })) hs (λ i h e.
          let f = at_all (FitsCatch p m) m.catches i h fits.catches (sym (ap (λ xs. slice_get xs i) handlers) ∙ e) in
          (f.0, subst (λ k. h.handler < k) body.as_many f.1));
      stays = λ t next d e follows.
          let c = code_before kept number m.code cs body t d e in
          subst (λ k. next < k) body.as_many (fits.stays t next c.0 c.1 (next_before kept number t c.0 d t next c.2 follows));
      elements = λ t d e makes.
          let c = code_before kept number m.code cs body t d e in
          fits.elements t c.0 c.1 (arrays_before kept number t c.0 d c.2 makes);
      one_each = fits.one_each;
    }

    -- a method without statements fits
    lost_fits : (m : LinkedMethod) (cs : List Code) (hs : List Catch) → cs ≡ [] → hs ≡ [] → FitsMethod p m
        → FitsMethod (over p ms) (record m { code = cs; catches = hs })
    lost_fits m cs hs no_code no_handlers fits = record {
      codes = all_at (FitsCode (over p ms) (record m { code = cs; catches = hs })) cs (λ i d e. cc (e, no_code));
      catches = all_at (FitsCatch (over p ms) (record m { code = cs; catches = hs })) hs (λ i h e. cc (e, no_handlers));
      stays = λ t next d e follows. cc (e, no_code);
      elements = λ t d e makes. cc (e, no_code);
      one_each = fits.one_each;
    }

    method_fits : (number : ℕ) (new : LinkedMethod) → slice_get ms number ≡ Some new → FitsMethod (over p ms) new
    method_fits number new e =
        let m = method_before number new e in
        let fits = at_all (FitsMethod p) p.methods number m.0 form.methods m.1 in
        subst (FitsMethod (over p ms)) (sym m.2.same) (elim m.2.becomes [
          | inl goes ↦ going_fits number m.0 new.code new.catches goes.code goes.catches fits
          | inr lost ↦ lost_fits m.0 new.code new.catches lost.code lost.catches fits
        ])

    -- the root is
    same_root : form.number ≡ n.root
    same_root = let a = form.is_root.last in let b = n.last in omega (arith, a, b)

    is_root : (new : LinkedMethod) × IsRoot (over p ms) n.root new
    is_root =
        let old = form.is_root in
        let m = goes_on n.root root form.root (subst (λ k. slice_get p.methods k ≡ Some form.root) same_root old.there) in (
          m.0,
          record {
            last = n.last ∙ n.as_many;
            there = m.1;
            has_statements = subst (λ k. 0 < k) m.3.code.as_many old.has_statements;
            no_params = ap (λ (x : LinkedMethod). x.params) m.2.same ∙ old.no_params;
            no_receiver = ap (λ (x : LinkedMethod). x.has_this) m.2.same ∙ old.no_receiver;
          },
        )

    pub form_after : IsInForm (over p ms)
    form_after = record {
      methods = all_at (FitsMethod (over p ms)) ms method_fits;
      rows = form.rows ∙ n.as_many;
      ordered = form.ordered;
      tree = form.tree;
      fields = form.fields;
      texts = form.texts;
      class_texts = form.class_texts;
      number = n.root;
      root = is_root.0;
      is_root = is_root.1;
      nine = form.nine;
    }

  module _ (well : IsWellLinked p) where
    -- a target that stays of a reached method suits the call
    target_suits : (number index : ℕ) (receiver : Option ℕ) (count target : ℕ) → IsReachedBy p kept n.root number → KeepsTarget p kept number index target
        → SuitsCall p receiver count target → SuitsCall (over p ms) receiver count target
    target_suits number index receiver count target reached k suits =
        let m = goes_on target (called reached k) suits.method suits.there in
        record {
          method = m.0;
          there = m.1;
          not_root = subst (λ k. target + 1 < k) n.as_many suits.not_root;
          has_statements = subst (λ k. 0 < k) m.3.code.as_many suits.has_statements;
          has_this = ap (λ (x : LinkedMethod). x.has_this) m.2.same ∙ suits.has_this;
          params = ap (λ (x : LinkedMethod). x.params) m.2.same ∙ suits.params;
        }

    -- a statement of a reached method is well linked
    code_well : (number index : ℕ) (m : LinkedMethod) → slice_get p.methods number ≡ Some m → (c d : Code) → slice_get m.code index ≡ Some c
        → IsReachedBy p kept n.root number → IsNarrowedCode kept number index c d → IsWellLinkedCode p c → IsWellLinkedCode (over p ms) d
    code_well number index m there (code.Call to mode class key receiver args targets) d e reached d_is w =
        subst (IsWellLinkedCode (over p ms)) (sym d_is.2) (
          all_at (SuitsCall (over p ms) receiver (length args)) d_is.0 (λ i target has.
              let t = those_are (λ target. StaysIn mode (IsKept kept number index target)) d_is.1 i target has in
              let is_target : HasTarget p number index target = record {
                method = m;
                there = there;
                to = to;
                mode = mode;
                class = class;
                key = key;
                receiver = receiver;
                args = args;
                targets = targets;
                call = e;
                has = t.0;
              } in
              target_suits number index receiver (length args) target reached (record { has = is_target; stays = t.1 })
              (at_all (SuitsCall p receiver (length args)) targets t.0.0 target w.0 t.0.1)),
          one_target mode (IsKept kept number index) targets d_is.0 d_is.1 w.1,
        )
    code_well number index m there c d e reached d_is w = subst (IsWellLinkedCode (over p ms)) (sym d_is) w

    codes_well : (number : ℕ) (new : LinkedMethod) → slice_get ms number ≡ Some new → All (IsWellLinkedCode (over p ms)) new.code
    codes_well number new e =
        let m = method_before number new e in
        all_at (IsWellLinkedCode (over p ms)) new.code (λ i d there. elim m.2.becomes [
          | inl goes ↦
              let c = code_before kept number m.0.code new.code goes.code i d there in
              code_well number i m.0 m.1 c.0 d c.1 goes.reached c.2
              (at_all (IsWellLinkedCode p) m.0.code i c.0 (at_all (λ (x : LinkedMethod). All (IsWellLinkedCode p) x.code) p.methods number m.0 well.codes m.1) c.1)
          | inr lost ↦ let none = lost.code in cc (there, none)
        ])

    pub over_well : IsWellLinked (over p ms)
    unfolding form_after
    over_well = record {
      form = form_after well.form;
      codes = all_at (λ (x : LinkedMethod). All (IsWellLinkedCode (over p ms)) x.code) ms codes_well;
      reached = λ number new e has. reached_after (with_statements number new e has);
      nine = well.nine;
    }

-- the laws
pub narrowed_form : NarrowedKeepsForm
narrowed_form p q kept form n = subst IsInForm (sym n.same) (form_after p q.methods kept (subst (IsNarrowed p kept) n.same n) form)

pub narrowed_well : NarrowedIsWell
narrowed_well p q kept well n = subst IsWellLinked (sym n.same) (over_well p q.methods kept (subst (IsNarrowed p kept) n.same n) well)
