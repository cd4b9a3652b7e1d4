-- The first state has the shape, and so has each state of a run.
use Rattle.std.proofs.Common.{◌≡◌, ℕ, zero, suc, ◌+◌, ◌<◌, List, [], ◌∷◌, ◌++◌, None, length, replicate, refl, sym, ap, ◌∙◌, subst, arith, length-append}
use Rattle.std.specs.List.{range_with_len}
use Rattle.std.proofs.lemmas.List.{length-map, length-replicate}
use Rattle.link_rules.specs.Linked.{LinkedProgram}
use Rattle.link_rules.specs.WellLinked.{IsInForm}
use Rattle.link_sites.specs.declared.site.Site.{Site}
use Rattle.link_sites.specs.declared.site.Site.TheVariants as site
use Rattle.step_rules.specs.declared.parts.Value.TheVariants.{Null}
use Rattle.step_rules.specs.Runs.{IsFirstState, Run, begins, constants, steps}
use Rattle.step_rules.specs.Shapes.{EachOf, FitsFrame, FitsObject, FitsValue, HasShape, Waits}
use Rattle.step_rules.specs.States.{HeapObject, Point, State, new_frame, new_object}
use Rattle.step_rules.proofs.Fitting.{new_fits, new_frame_fits}
use Rattle.step_rules.proofs.Listing.{each_append, each_cons, each_map, each_none}
use Rattle.step_rules.proofs.Offering.{class_within}
use Rattle.step_rules.proofs.Shaping.{step_fits}

pub length-range : (a n : ℕ) → length (range_with_len a n) ≡ n
length-range a zero = refl
length-range a (suc n) = ap suc (length-range (a + 1) n)

-- as many objects as constants
pub length-constants : (site_of : ℕ → Site) (class n : ℕ) → length (constants site_of class n) ≡ n
length-constants site_of class n = length-map (range_with_len 0 n) (λ i. new_object (site_of i) class) ∙ length-range 0 n

constants_fit : (p : LinkedProgram) (k : ℕ) (site_of : ℕ → Site) (class n : ℕ) → class < length p.classes → EachOf (FitsObject p k) (constants site_of class n)
constants_fit p k site_of class n below =
    each_map (FitsObject p k) (λ i. new_object (site_of i) class) (range_with_len 0 n) (λ i x e. new_fits p k class (new_object (site_of x) class) refl refl below)

nulls_fit : (k n : ℕ) → EachOf (FitsValue k) (replicate n Null)
nulls_fit k zero = each_none (FitsValue k)
nulls_fit k (suc n) = each_cons (FitsValue k) Null (replicate n Null) tt (nulls_fit k n)

-- the first state has the shape
pub first_fits : (p : LinkedProgram) (s : State) → IsFirstState p s → HasShape p s
first_fits p s first = subst (HasShape p) (sym first.is_state) (
  at,
  refl,
  record {
    constants = omega (
      arith,
      length-append texts classes,
      length-constants (λ i. site.Text i) first.string (length p.texts),
      length-constants (λ i. site.Class i) first.class (length p.class_texts),
    );
    objects = each_append (FitsObject p (length at.heap)) texts classes
        (constants_fit p (length at.heap) (λ i. site.Text i) first.string (length p.texts) (class_within p _ first.string first.is_string))
        (constants_fit p (length at.heap) (λ i. site.Class i) first.class (length p.class_texts) (class_within p _ first.class first.is_class));
    as_many = length-replicate p.static_count Null;
    statics = nulls_fit (length at.heap) p.static_count;
    below = each_none (FitsFrame p (length at.heap));
    waits = each_none (Waits p);
    top = new_frame_fits p (length at.heap) first.number first.root None [] first.is_root.there first.is_root.has_statements tt (each_none (FitsValue (length at.heap)));
  },
) where
  texts : List HeapObject
  texts = constants (λ i. site.Text i) first.string (length p.texts)

  classes : List HeapObject
  classes = constants (λ i. site.Class i) first.class (length p.class_texts)

  at : Point
  at = record { below = []; top = new_frame first.number first.root None []; heap = texts ++ classes; statics = replicate p.static_count Null }

-- each state of a run has it
pub run_fits : (p : LinkedProgram) (n : ℕ) (s : State) → IsInForm p → Run p n s → HasShape p s
run_fits p n s form run = on run where
  on : {n : ℕ} {s : State} → Run p n s → HasShape p s
  on (begins {s} first) = first_fits p s first
  on (steps {count} {choice} {s} {next} run step) = step_fits p form s choice next (on run) step
