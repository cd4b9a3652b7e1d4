-- What a path leads to in a run is at its end: each write of a run came by a store whose ends are demanded.
use Rattle.std.proofs.Common.{◌≡◌, ℕ, suc, List, [], Some, length, slice_get, refl, sym, ap, ◌∙◌, subst, inl, inr}
use Rattle.lists.specs.Lists.{Has}
use Rattle.link_rules.specs.Linked.{LinkedProgram}
use Rattle.link_rules.specs.WellLinked.{IsWellLinked}
use Rattle.link_sites.specs.declared.site.Site.{Site}
use Rattle.link_sites.specs.Sites.{HasField}
use Rattle.spds_rules.specs.declared.node.Node.{Node}
use Rattle.spds_rules.specs.Answers.{AreSites, IsAnswered}
use Rattle.spds_rules.specs.Demand.{Asked, Demand}
use Rattle.spds_rules.specs.Systems.{Calls, Fields}
use Rattle.demand_set.specs.Demands.{DemandParts, IsDemandOf}
use Rattle.step_rules.specs.declared.parts.Slot.TheVariants as slot
use Rattle.step_rules.specs.Runs.{Run}
use Rattle.step_rules.specs.Slots.{Follows, Path, here, through}
use Rattle.step_rules.specs.States.{HeapObject, State}
use Rattle.run_covers.specs.Covers.{IsCovered}
use Rattle.run_sound.specs.Frames.{node_of, string_of}
use Rattle.run_sound.proofs.Invariant.{IsObject, IsStored, sites_of}
use Rattle.run_sound.proofs.Simulating.{kept_run, tracked_at}
use Rattle.run_sound.proofs.Words.{led_written, object_there}
use Rattle.path_query.specs.Paths.{AsksPath, IsAtPath, IsBehind, IsBehindAll, IsPathAnswer, LeadsAllRuns}
use Rattle.path_query.proofs.Asking.{end_demanded, node_demanded}

module _ (p : LinkedProgram) (n : Node) (fields : List ℕ) (q : Asked) (asks : AsksPath p n fields q) where
  -- what was stored into a field of the path is behind it
  one_behind : (P : Site → Type 0) (heap : List HeapObject) (owner : Site) (field next : ℕ) → Has fields field → HasField p owner field
      → IsStored p q (sites_of heap) owner field next → P owner
      → (object : HeapObject) × (slice_get heap next ≡ Some object) × IsBehind p q P field object.site
  one_behind P heap owner field next among has stored holds =
      let s = stored.store in
      let b = stored.at_base (end_demanded p n fields q asks field s.base among (record { store = s; is_store = stored.is_store; of_field = stored.is_field; is_end = inl refl })) in
      let r = stored.at_arg (end_demanded p n fields q asks field s.arg among (record { store = s; is_store = stored.is_store; of_field = stored.is_field; is_end = inr refl })) in
      let there = object_there heap next r.site r.of_site in
      let by_fields = subst (λ (o : Site). Fields p q o s.arg []) there.2 r.by_fields in
      let by_calls = subst (λ (o : Site). Calls p q o s.arg stored.string) there.2 r.by_calls in (
        there.0,
        there.1,
        record {
          base = owner;
          from = holds;
          store = s;
          of_field = stored.is_field;
          hops = record {
            store = stored.is_store;
            arg = (by_fields, (stored.string, by_calls));
            owner = (b.0, (stored.string, b.1));
            string = stored.string;
            at_arg = by_calls;
            at_base = b.1;
            has = subst (HasField p owner) (sym stored.is_field) has;
          };
        },
      )

  -- a word of fields of the path leads to what is at its end
  led : (heap : List HeapObject) (objects : (x : ℕ) (object : HeapObject) → slice_get heap x ≡ Some object → IsObject p q (sites_of heap) object)
      → {x o : ℕ} {word : List ℕ} → Follows heap x word o
      → (P : Site → Type 0) (object : HeapObject) → slice_get heap x ≡ Some object → P object.site → ((field : ℕ) → Has word field → Has fields field)
      → (end : HeapObject) × (slice_get heap o ≡ Some end) × IsBehindAll p q P word end.site
  led heap objects here = λ P object there holds among. (object, there, holds)
  led heap objects (through {o} {field} {next} {last} {word} {object = owner} at leads rest) = λ P object there holds among.
      let same : object ≡ owner = cc in
      let w = led_written owner field next leads in
      let is = objects o owner at in
      let stored = subst (λ f. IsStored p q (sites_of heap) owner.site f next) w.2 (is.stored w.0 next w.1 w.3) in
      let has = subst (HasField p owner.site) w.2 (is.fields w.0 w.1) in
      let behind = one_behind P heap owner.site field next (among field (0, refl)) has stored (subst (λ (h : HeapObject). P h.site) same holds) in
      led heap objects rest (IsBehind p q P field) behind.0 behind.1 behind.2 (λ f h. among f (suc h.0, h.1))

  -- what the path leads to in a run is at its end
  pub runs_at_path : IsWellLinked p → IsCovered p → (count : ℕ) (s : State) (number x o : ℕ) → Run p count s → (path : Path s number (slot.Local x) fields o)
      → n ≡ node_of path.frame (slot.Local x) → (object : HeapObject) × (slice_get s.heap o ≡ Some object) × IsAtPath p q n fields object.site
  runs_at_path well covered count s number x o run path is =
      let kept = kept_run p q well covered run in
      let tracked = tracked_at p q s kept number path.frame path.there in
      let demanded = subst (Demand p q) is (node_demanded p n fields q asks) in
      let r = tracked.slots (slot.Local x) path.object path.holds demanded in
      let there = object_there s.heap path.object r.site r.of_site in
      let fields_there = subst (λ (o : Site). Fields p q o (node_of path.frame (slot.Local x)) []) there.2 r.by_fields in
      let calls_there = subst (λ (o : Site). Calls p q o (node_of path.frame (slot.Local x)) (string_of s.frames number)) there.2 r.by_calls in
      let answered = subst (λ (m : Node). IsAnswered p q m there.0.site) (sym is) (fields_there, (string_of s.frames number, calls_there)) in
      led s.heap kept.memory.objects path.follows (IsAnswered p q n) there.0 there.1 answered (λ f h. h)

-- what was found over the demand of a path is its answer
pub path_answer : (p : LinkedProgram) (n : Node) (fields : List ℕ) (q : Asked) → AsksPath p n fields q → (d : DemandParts) → IsDemandOf p q d
    → (sites found : List Site) (nodes : List Node) (demanded : ℕ) → sites ≡ found → AreSites p (IsAtPath p q n fields) found → nodes ≡ d.nodes → demanded ≡ length nodes
    → IsPathAnswer p n fields sites demanded
path_answer p n fields q asks d demand sites found nodes demanded same are all size = record {
  query = q;
  asks = asks;
  answer = subst (AreSites p (IsAtPath p q n fields)) (sym same) are;
  size = (d.nodes, demand.nodes, ap length (sym all) ∙ sym size);
}

-- so its site is in the answer
pub path_sound : (p : LinkedProgram) → IsWellLinked p → IsCovered p → (n : Node) (fields : List ℕ) (sites : List Site) (demanded : ℕ)
    → IsPathAnswer p n fields sites demanded → LeadsAllRuns p n fields sites
path_sound p well covered n fields sites demanded answer count s number x o run path is =
    let found = runs_at_path p n fields answer.query answer.asks well covered count s number x o run path is in
    (found.0, found.1, (answer.answer.each found.0.site).1 found.2)
