-- Derivations and runs of rules are joined and carried over longer words.
use Rattle.std.proofs.Common.{ℕ, List, [], ◌∷◌, ◌++◌, sym, subst}
use Rattle.auto_table.specs.declared.rule.Rule.{Rule}
use Rattle.auto_table.specs.declared.entry.Entry.{Entry}
use Rattle.auto_table.specs.declared.entry.Entry.TheVariants.{Base, Pushed}
use Rattle.post_star.specs.declared.bases.Start.{Start}
use Rattle.post_star.specs.declared.bases.BaseStep.{BaseStep}
use Rattle.post_star.specs.Derivations.{Leads, Derives, starts_at, flows, pushes, pops}
use Rattle.post_star.specs.Works.{Runs, no_rule, then_flow, then_push, then_pop, EntryRuns, LinkRuns, IsTold}
use Rattle.weight_laws.specs.Law.{Domain, IsLawful}

pub leads_join : (steps : List BaseStep) (b : ℕ) (v : List ℕ) (c : ℕ) (u : List ℕ) (e : ℕ) → Leads steps b v c → Leads steps c u e → Leads steps b (v ++ u) e
leads_join steps b [] c u e h k = subst (λ (x : ℕ). Leads steps x u e) (sym h) k
leads_join steps b (mark ∷ v) c u e h k = (h.0, h.1, leads_join steps h.0 v c u e h.2 k)

module _ {W : Type 0} {d : Domain W} {rules : List (Rule W)} where
  pub runs_longer : {m : ℕ} {v : List ℕ} {n : ℕ} {w : List ℕ} {x : W} → Runs d rules m v n w x → (u : List ℕ) → Runs d rules m (v ++ u) n (w ++ u) x
  runs_longer no_rule u = no_rule
  runs_longer (then_flow h r) u = then_flow h (runs_longer r u)
  runs_longer (then_push h r) u = then_push h (runs_longer r u)
  runs_longer (then_pop h r) u = then_pop h (runs_longer r u)

  module _ {starts : List (Start W)} {steps : List BaseStep} where
    pub derives_longer : {b n : ℕ} {w : List ℕ} {x : W} → Derives d rules starts steps b n w x → (u : List ℕ) (c : ℕ) → Leads steps b u c → Derives d rules starts steps c n (w ++ u) x
    derives_longer {b} (starts_at {s} {word} h p) u c k = starts_at h (leads_join steps s.base word b u c p k)
    derives_longer (flows h p) u c k = flows h (derives_longer p u c k)
    derives_longer (pushes h p) u c k = pushes h (derives_longer p u c k)
    derives_longer (pops h p) u c k = pops h (derives_longer p u c k)

  module _ {starts : List (Start W)} (l : IsLawful W d) (steps : List BaseStep) (told : IsTold d rules starts) where
    pub runs_meant : {m : ℕ} {v : List ℕ} {n : ℕ} {w : List ℕ} {x : W} → Runs d rules m v n w x → d.IsMeant x
    runs_meant no_rule = l.one_meant
    runs_meant (then_flow h r) = l.extend_meant _ _ (runs_meant r) (told.rule _ h)
    runs_meant (then_push h r) = l.extend_meant _ _ (runs_meant r) (told.rule _ h)
    runs_meant (then_pop h r) = l.extend_meant _ _ (runs_meant r) (told.rule _ h)

    pub derives_meant : {b n : ℕ} {w : List ℕ} {x : W} → Derives d rules starts steps b n w x → d.IsMeant x
    derives_meant (starts_at h p) = told.start _ h
    derives_meant (flows h p) = l.extend_meant _ _ (derives_meant p) (told.rule _ h)
    derives_meant (pushes h p) = l.extend_meant _ _ (derives_meant p) (told.rule _ h)
    derives_meant (pops h p) = l.extend_meant _ _ (derives_meant p) (told.rule _ h)

    pub runs_join : {m : ℕ} {v : List ℕ} {n : ℕ} {w : List ℕ} {a : W} {o : ℕ} {u : List ℕ} {x : W} → Runs d rules m v n w a → Runs d rules n w o u x → Runs d rules m v o u (d.extend a x)
    runs_join {m} {v} {n} {w} {a} r no_rule = subst (λ (t : W). Runs d rules m v n w t) (sym (l.extend_one a (runs_meant r))) r
    runs_join {m} {v} {n} {w} {a} {o} {u} r (then_flow {from} {to} {word} {x} {weight} h s) =
        subst (λ (t : W). Runs d rules m v o u t) (l.extend_assoc a x weight (runs_meant r) (runs_meant s) (told.rule _ h)) (then_flow h (runs_join r s))
    runs_join {m} {v} {n} {w} {a} {o} {u} r (then_push {from} {to} {mark} {word} {x} {weight} h s) =
        subst (λ (t : W). Runs d rules m v o u t) (l.extend_assoc a x weight (runs_meant r) (runs_meant s) (told.rule _ h)) (then_push h (runs_join r s))
    runs_join {m} {v} {n} {w} {a} {o} {u} r (then_pop {from} {mark} {to} {word} {x} {weight} h s) =
        subst (λ (t : W). Runs d rules m v o u t) (l.extend_assoc a x weight (runs_meant r) (runs_meant s) (told.rule _ h)) (then_pop h (runs_join r s))

    pub derives_run : {b n : ℕ} {w : List ℕ} {a : W} {o : ℕ} {u : List ℕ} {x : W} → Derives d rules starts steps b n w a → Runs d rules n w o u x → Derives d rules starts steps b o u (d.extend a x)
    derives_run {b} {n} {w} {a} r no_rule = subst (λ (t : W). Derives d rules starts steps b n w t) (sym (l.extend_one a (derives_meant r))) r
    derives_run {b} {n} {w} {a} {o} {u} r (then_flow {from} {to} {word} {x} {weight} h s) =
        subst (λ (t : W). Derives d rules starts steps b o u t) (l.extend_assoc a x weight (derives_meant r) (runs_meant s) (told.rule _ h)) (flows h (derives_run r s))
    derives_run {b} {n} {w} {a} {o} {u} r (then_push {from} {to} {mark} {word} {x} {weight} h s) =
        subst (λ (t : W). Derives d rules starts steps b o u t) (l.extend_assoc a x weight (derives_meant r) (runs_meant s) (told.rule _ h)) (pushes h (derives_run r s))
    derives_run {b} {n} {w} {a} {o} {u} r (then_pop {from} {mark} {to} {word} {x} {weight} h s) =
        subst (λ (t : W). Derives d rules starts steps b o u t) (l.extend_assoc a x weight (derives_meant r) (runs_meant s) (told.rule _ h)) (pops h (derives_run r s))

    pub entry_meant : (e : Entry) (n : ℕ) (x : W) → EntryRuns d rules starts steps e n x → d.IsMeant x
    entry_meant (Base b) n x p = derives_meant p
    entry_meant (Pushed m k) n x p = runs_meant p

    pub link_meant : (c p : Entry) (x : W) → LinkRuns d rules starts steps c p x → d.IsMeant x
    link_meant (Base b) p x r = absurd r
    link_meant (Pushed n k) (Base b) x r = derives_meant r
    link_meant (Pushed n k) (Pushed m j) x r = runs_meant r
