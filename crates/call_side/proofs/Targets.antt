-- The targets of calls, as the code and as the index of callers has them.
use Rattle.std.proofs.Common.{◌≡◌, ℕ, ◌<◌, List, Option, Some, None, length, slice_get, refl, sym, ap, subst, ◌∙◌, arith}
use Rattle.std.specs.List.{All}
use Rattle.std.specs.Option.{option_map}
use Rattle.std.proofs.lemmas.Option.{get_or_from_slice_get, slice_get-map}
use Rattle.lists.proofs.Places.{slice_get-below}
use Rattle.link_rules.specs.declared.code.Code.{Code}
use Rattle.link_rules.specs.declared.code.Code.TheVariants.{Call}
use Rattle.link_rules.specs.Linked.{LinkedMethod, LinkedProgram}
use Rattle.link_rules.specs.WellLinked.{FitsCode, FitsMethod, HasTarget, IsInForm, IsWellLinked, IsWellLinkedCode, SuitsCall}
use Rattle.link_indexes.specs.Facts.{Calls}
use Rattle.link_indexes.specs.Tables.{IsInMethod}
use Rattle.link_rules.specs.Accessed.{codes_in}
use Rattle.call_side.specs.Bases.{HasStatements}

module _ {X : Type 0} (P : X → Type 0) where
  -- a fact of each element at a place
  pub All-at : (xs : List X) (i : ℕ) (x : X) → All P xs → slice_get xs i ≡ Some x → P x
  All-at xs i x all there = subst P (get_or_from_slice_get xs i x x there) (all i x (slice_get-below xs i x there))

module _ (p : LinkedProgram) (number index target : ℕ) where
  at_code : (code : List Code) (m : LinkedMethod) (c : Code) → slice_get p.methods number ≡ Some m → m.code ≡ code → slice_get code index ≡ Some c → Calls target c → HasTarget p number index target
  at_code code m (Call to mode class key receiver args targets) there same here has = record {
    method = m;
    there = there;
    to = to;
    mode = mode;
    class = class;
    key = key;
    receiver = receiver;
    args = args;
    targets = targets;
    call = subst (λ (xs : List Code). slice_get xs index ≡ Some (Call to mode class key receiver args targets)) (sym same) here;
    has = has;
  }
  at_code code m _ there same here has = absurd has

  pub HasTarget-listed : IsInMethod (Calls target) (codes_in p) number index → HasTarget p number index target
  HasTarget-listed at = by (slice_get p.methods number) refl (sym (slice_get-map (λ (m : LinkedMethod). m.code) p.methods number) ∙ at.1)
    where
      by : (r : Option LinkedMethod) → slice_get p.methods number ≡ r → option_map (λ (m : LinkedMethod). m.code) r ≡ Some at.0 → HasTarget p number index target
      by None there is = cc
      by (Some m) there is = let same : m.code ≡ at.0 = cc in at_code at.0 m at.2.0 there same at.2.1 at.2.2

  pub listed-HasTarget : HasTarget p number index target → IsInMethod (Calls target) (codes_in p) number index
  listed-HasTarget t = (
    t.method.code,
    slice_get-map (λ (m : LinkedMethod). m.code) p.methods number ∙ ap (option_map (λ (m : LinkedMethod). m.code)) t.there,
    (Call t.to t.mode t.class t.key t.receiver t.args t.targets, t.call, t.has),
  )

  -- a target is one of the methods
  pub target_below : IsInForm p → HasTarget p number index target → target < length p.methods
  target_below form t =
      let fits = All-at (FitsMethod p) p.methods number t.method form.methods t.there in
      let code = All-at (FitsCode p t.method) t.method.code index _ fits.codes t.call in
      All-at (λ n. n < length p.methods) t.targets t.has.0 target code.5 t.has.1

  -- the method of a call has statements, and so has a target in a well linked program
  pub caller_statements : HasTarget p number index target → HasStatements p number
  caller_statements t = (t.method, t.there, let below = slice_get-below t.method.code index _ t.call in omega arith)

  pub target_statements : IsWellLinked p → HasTarget p number index target → HasStatements p target
  target_statements well t =
      let codes = All-at (λ m. All (IsWellLinkedCode p) m.code) p.methods number t.method well.codes t.there in
      let code = All-at (IsWellLinkedCode p) t.method.code index _ codes t.call in
      let suits = All-at (SuitsCall p t.receiver (length t.args)) t.targets t.has.0 target code.0 t.has.1 in
      (suits.method, suits.there, suits.has_statements)
