-- Runs are simulated.
use Rattle.std.proofs.Common.{◌≡◌, ℕ, ◌++◌, Some, List, [], ◌∷◌, slice_get, sym, ap, ◌∙◌, subst, inl, inr, arith}
use Rattle.lists.proofs.Places.{slice_get-below, slice_get-pushed}
use Rattle.link_rules.specs.Linked.{LinkedProgram}
use Rattle.link_rules.specs.WellLinked.{IsWellLinked}
use Rattle.link_sites.specs.declared.place.Place.{Place}
use Rattle.link_sites.specs.declared.site.Site.{Site}
use Rattle.link_sites.specs.declared.site.Site.TheVariants as site
use Rattle.link_laws.proofs.Whole.{links_well}
use Rattle.run_covers.proofs.Whole.{links_covered, run_real}
use Rattle.run_covers.specs.Covers.{IsCovered}
use Rattle.spds_rules.specs.declared.node.Node.{Node}
use Rattle.spds_rules.specs.declared.reach.Reach.TheVariants.{Plain}
use Rattle.spds_rules.specs.Demand.{Asked, Demand}
use Rattle.spds_rules.specs.Systems.{Calls, Fields}
use Rattle.step_rules.specs.declared.parts.Slot.TheVariants.{Local}
use Rattle.step_rules.specs.declared.parts.Value.{Value}
use Rattle.step_rules.specs.Runs.{Run, begins, steps}
use Rattle.step_rules.specs.Slots.{Follows, here}
use Rattle.step_rules.specs.States.{Frame, HeapObject, State}
use Rattle.run_sound.specs.Agrees.{RunsAgree}
use Rattle.run_sound.specs.Frames.{node_of, places_of, string_of}
use Rattle.run_sound.specs.Links.{LinksAreSound}
use Rattle.run_sound.specs.Simulated.{AreDemanded, Holds, IsAnswering, IsConstant, IsFound, IsSharing, IsSimulated, IsSimulatedInConstants, IsSimulatedInStatics}
use Rattle.run_sound.proofs.Agreeing.{agrees}
use Rattle.run_sound.proofs.Beginning.{kept_first}
use Rattle.run_sound.proofs.Edges.{at_start}
use Rattle.run_sound.proofs.Invariant.{HasConstants, IsKept, IsMemory, IsReached, IsTracked, Waits, more, none, sites_of}
use Rattle.run_sound.proofs.Machine.{kept_step}
use Rattle.run_sound.proofs.Waiting.{is_places, string_below, string_top}
use Rattle.run_sound.proofs.Words.{object_there, words_go_on}

module _ (p : LinkedProgram) (q : Asked) where
  -- each state of a run is kept
  pub kept_run : IsWellLinked p → IsCovered p → {count : ℕ} {s : State} → Run p count s → IsKept p q s
  kept_run well covered (begins {s} first) = kept_first p q s first
  kept_run well covered (steps {count} {choice} {s} {next} run step) = kept_step p q well covered count choice s next run (kept_run well covered run) step

  -- frames below one
  with_top : (sites : List Site) (below : List Frame) (top : Frame) (string : List Place) → string ≡ places_of below → IsTracked p q sites top string
      → ((number : ℕ) (frame : Frame) → slice_get below number ≡ Some frame → IsTracked p q sites frame (string_of below number))
      → (number : ℕ) (frame : Frame) → slice_get (below ++ top ∷ []) number ≡ Some frame
      → IsTracked p q sites frame (string_of (below ++ top ∷ []) number)
  with_top sites below top string is tracked others number frame e = elim (slice_get-pushed below top number frame e) [
    | inl there ↦
        let few = slice_get-below below number frame there in
        subst (IsTracked p q sites frame) (sym (string_below below top number (omega arith))) (others number frame there)
    | inr last ↦
        let at_top : string ≡ string_of (below ++ top ∷ []) number = is ∙ sym (string_top below top) ∙ ap (string_of (below ++ top ∷ [])) (sym last.0) in
        subst (λ (f : Frame). IsTracked p q sites f (string_of (below ++ top ∷ []) number)) (sym last.1) (subst (IsTracked p q sites top) at_top tracked)
  ]

  -- each frame that waits is tracked by its string
  waiting_at : (sites : List Site) {below : List Frame} {callee : ℕ} {string : List Place} → Waits p q sites below callee string
      → (number : ℕ) (frame : Frame) → slice_get below number ≡ Some frame
      → IsTracked p q sites frame (string_of below number)
  waiting_at sites (none is_root) = λ number frame e. cc
  waiting_at sites (more {below} {caller} {string} waits unraised target tracked) =
      with_top sites below caller string (is_places p q sites waits) tracked (waiting_at sites waits)

  -- each frame of a state is tracked by its string
  pub tracked_at : (s : State) → IsKept p q s → (number : ℕ) (frame : Frame) → slice_get s.frames number ≡ Some frame
      → IsTracked p q (sites_of s.heap) frame (string_of s.frames number)
  tracked_at s kept number frame e = elim kept.frames [
    | inl gone ↦ let nowhere : slice_get [] number ≡ Some frame = subst (λ (fs : List Frame). slice_get fs number ≡ Some frame) gone e in cc
    | inr some ↦
        let frames = some.3 in
        let there = subst (λ (fs : List Frame). slice_get fs number ≡ Some frame) some.2 e in
        subst (λ (fs : List Frame). IsTracked p q (sites_of s.heap) frame (string_of fs number)) (sym some.2)
        (with_top (sites_of s.heap) some.0 some.1 frames.string (is_places p q (sites_of s.heap) frames.waits) frames.tracked
        (waiting_at (sites_of s.heap) frames.waits) number frame there)
  ]

  -- a word from an object that is reached
  pub found_from : (heap : List HeapObject) (statics : List Value) → IsMemory p q heap statics → (n : Node) (string : List Place) (x o : ℕ) (word : List ℕ)
      → IsReached p q (sites_of heap) n string x → Follows heap x word o → AreDemanded p q word
      → IsFound p q heap n word string o
  found_from heap statics memory n string x o word reached follows demanded =
      let object = object_there heap x reached.site reached.of_site in
      let fields = subst (λ s. Fields p q s n []) object.2 reached.by_fields in
      let calls = subst (λ s. Calls p q s n string) object.2 reached.by_calls in
      words_go_on p q heap memory.objects follows n [] string object.0 object.1 fields calls demanded

-- each state of a run agrees with the program
pub runs_agree : (p : LinkedProgram) → IsWellLinked p → IsCovered p → RunsAgree p
runs_agree p well covered count s run =
    let nothing : Asked = record { targets = []; reach = Plain } in
    let kept = kept_run p nothing well covered run in
    agrees p nothing well.form s kept (λ number frame e. (tracked_at p nothing s kept number frame e).shaped.flies) (run_real p well count s run)

-- the simulation
pub runs_simulated : (p : LinkedProgram) → IsWellLinked p → IsCovered p → IsSimulated p
runs_simulated p well covered q count s number from word o run path demanded all =
    let kept = kept_run p q well covered run in
    let tracked = tracked_at p q s kept number path.frame path.there in
    found_from p q s.heap s.statics kept.memory (node_of path.frame from) (string_of s.frames number) path.object o word
    (tracked.slots from path.object path.holds demanded) path.follows all

-- the same of static fields
pub statics_simulated : (p : LinkedProgram) → IsWellLinked p → IsCovered p → IsSimulatedInStatics p
statics_simulated p well covered q count s field n word o string run path load demanded all is =
    let kept = kept_run p q well covered run in
    found_from p q s.heap s.statics kept.memory n string path.object o word
    (kept.memory.static_fields field path.object n string path.holds demanded load is) path.follows all

-- the object of a constant has its site
constant_site : (p : LinkedProgram) (sites : List Site) → HasConstants p sites → (constant : Site) (x : ℕ) → IsConstant p constant x
    → slice_get sites x ≡ Some constant
constant_site p sites has (site.Text i) x is = subst (λ x. slice_get sites x ≡ Some (site.Text i)) (sym is.0) (has.texts i is.1)
constant_site p sites has (site.Class i) x is = subst (λ x. slice_get sites x ≡ Some (site.Class i)) (sym is.0) (has.classes i is.1)
constant_site p sites has (site.New place) x is = elim is [ ]
constant_site p sites has (site.Nested place level) x is = elim is [ ]
constant_site p sites has (site.Raised place kind) x is = elim is [ ]

-- the same of constants
pub constants_simulated : (p : LinkedProgram) → IsWellLinked p → IsCovered p → IsSimulatedInConstants p
constants_simulated p well covered q count s constant x n word o string run is start follows all strings =
    let kept = kept_run p q well covered run in
    let of_site = constant_site p (sites_of s.heap) kept.memory.constants constant x is in
    found_from p q s.heap s.statics kept.memory n string x o word
    (at_start p q (sites_of s.heap) n constant string x of_site start.0 strings start.1) follows all

-- what a local holds
held : (p : LinkedProgram) → IsWellLinked p → IsCovered p → (q : Asked) (count : ℕ) (s : State) (number : ℕ) (frame : Frame) (x o : ℕ) → Run p count s
    → Holds s number frame x o → Demand p q (node_of frame (Local x))
    → IsFound p q s.heap (node_of frame (Local x)) [] (string_of s.frames number) o
held p well covered q count s number frame x o run holds demanded =
    runs_simulated p well covered q count s number (Local x) [] o run
    (record { frame = frame; there = holds.there; object = o; holds = holds.holds; follows = here }) demanded (λ f h. cc (h.1))

-- so it is of a site that is answered
pub runs_answered : (p : LinkedProgram) → IsWellLinked p → IsCovered p → IsAnswering p
runs_answered p well covered q count s number frame x o run holds demanded =
    let f = held p well covered q count s number frame x o run holds demanded in
    (f.object, f.there, (f.by_fields, (string_of s.frames number, f.by_calls)))

-- and what two locals hold is of one that both answer under one string
pub runs_shared : (p : LinkedProgram) → IsWellLinked p → IsCovered p → IsSharing p
runs_shared p well covered q count s number frame x y o run holds holds_too demanded demanded_too =
    let f = held p well covered q count s number frame x o run holds demanded in
    let g = held p well covered q count s number frame y o run holds_too demanded_too in
    let one = f.there in
    let two = g.there in
    let same : g.object ≡ f.object = cc in
    let fields = subst (λ (h : HeapObject). Fields p q h.site (node_of frame (Local y)) []) same g.by_fields in
    let calls = subst (λ (h : HeapObject). Calls p q h.site (node_of frame (Local y)) (string_of s.frames number)) same g.by_calls in (
      f.object,
      f.there,
      (
        (f.by_fields, (string_of s.frames number, f.by_calls)),
        (fields, (string_of s.frames number, calls)),
        (string_of s.frames number, f.by_calls, calls),
      ),
    )

-- so it is for what linking gives
pub links_sound : LinksAreSound
links_sound input prelude entry p read read_prelude nine links =
    let well = links_well input prelude entry p read read_prelude nine links in
    let covered = links_covered input prelude entry p read read_prelude nine links in
    record {
      agrees = runs_agree p well covered;
      simulated = runs_simulated p well covered;
      statics = statics_simulated p well covered;
      constants = constants_simulated p well covered;
      answered = runs_answered p well covered;
      shared = runs_shared p well covered;
    }
