-- Objects are followed at more and more places, until they are wherever answers need it.
use Rattle.std.proofs.Common.{◌≡◌, ◌⊎◌, inl, inr, ◌∙◌, ℕ, zero, suc, ◌+◌, ◌<◌, List, [], ◌++◌, Some, slice_get, sym, ap, refl, subst, arith}
use Rattle.std.proofs.lemmas.List.{append-nil, append_assoc}
use Rattle.lists.proofs.Places.{slice_get-append_left}
use Rattle.lists.specs.Groups.{Grouped}
use Rattle.lists.specs.Lists.{Has}
use Rattle.link_rules.specs.Linked.{LinkedProgram}
use Rattle.link_sites.specs.declared.site.Site.{Site}
use Rattle.spds_rules.specs.declared.edge.Edge.{Edge}
use Rattle.spds_rules.specs.declared.node.Node.{Node}
use Rattle.spds_rules.specs.declared.store.StoreAt.{StoreAt}
use Rattle.spds_rules.specs.Answers.{IsAnswered}
use Rattle.spds_rules.specs.Systems.{Meets}
use Rattle.spds_laws.proofs.Within.{fields_site}
use Rattle.demand_set.specs.Demands.{DemandParts, IsDemandOf}
use Rattle.spds_rules.specs.Demand.{about}
use Rattle.cert_lines.specs.declared.keys.Origin.{Origin}
use Rattle.cert_lines.specs.declared.keys.Spot.{Spot}
use Rattle.cert_work.specs.declared.wants.Wants.{Wants}
use Rattle.cert_work.specs.Wants.{AreWants, IsEverywhere, IsWanted, IsWider}
use Rattle.cert_trace.specs.declared.filing.Grounds.{Grounds}
use Rattle.cert_trace.specs.declared.pairing.Pairing.{Pairing}
use Rattle.cert_trace.specs.Ahead.{IsAheadIn}
use Rattle.cert_trace.proofs.FoundAhead.{ahead_of_all}
use Rattle.cert_trace.specs.Settled.{IsBackFiled, IsFollowedBack, IsSettled, IsStoreFiled}

pub less_next : (i n : ℕ) → i < n + 1 → (i < n) ⊎ (i ≡ n)
less_next zero zero low = inr refl
less_next zero (suc n) low = inl (omega arith)
less_next (suc i) zero low = absurd (omega (arith, low))
less_next (suc i) (suc n) low = elim (less_next i n (omega (arith, low))) [ inl a ↦ inl (omega (arith, a)) | inr b ↦ inr (omega (arith, b)) ]

pub wider_none : (w : Wants) → IsWider w w
wider_none w = record { sites = refl; more = []; spots = sym (append-nil w.spots.keys); ahead = refl }

pub wider_more : (a b c : Wants) → IsWider a b → IsWider b c → IsWider a c
wider_more a b c first second = record {
  sites = second.sites ∙ first.sites;
  more = first.more ++ second.more;
  spots = second.spots ∙ ap (λ (ks : List Spot). ks ++ second.more) first.spots ∙ append_assoc a.spots.keys first.more second.more;
  ahead = second.ahead ∙ first.ahead;
}

module _ (old new : Wants) (wider : IsWider old new) where
  pub everywhere_more : (o : Site) → IsEverywhere old o → IsEverywhere new o
  everywhere_more o has = subst (λ (ks : List Origin). Has ks (record { site = o })) (sym wider.sites) has

  everywhere_less : (o : Site) → IsEverywhere new o → IsEverywhere old o
  everywhere_less o has = subst (λ (ks : List Origin). Has ks (record { site = o })) wider.sites has

  pub wanted_more : (o : Site) (n : Node) → IsWanted old o n → IsWanted new o n
  wanted_more o n (inl has) = inl (everywhere_more o has)
  wanted_more o n (inr has) =
      inr (subst (λ (ks : List Spot). Has ks (record { site = o; node = n })) (sym wider.spots)
      (has.0, slice_get-append_left old.spots.keys wider.more has.0 _ has.1))

  pub followed_more : (g : Grounds) (spot : Spot) → IsFollowedBack old g spot → IsFollowedBack new g spot
  followed_more g spot is = record {
    back = λ e has. wanted_more spot.site e.from (is.back e has);
    stored = λ base s starts filed.
        let both = is.stored base s starts filed in (wanted_more spot.site s.arg both.0, wanted_more base s.base both.1);
  }

  pub settled_more : (a b : Grouped Pairing StoreAt) → ((o base : Site) (s : StoreAt) → IsStoreFiled a o base s → IsStoreFiled b o base s) → (o base : Site) (s : StoreAt)
      → IsSettled old a o base s → IsSettled new b o base s
  settled_more a b kept o base s (inl is) = inl (everywhere_more o is.0, wanted_more base s.base is.1)
  settled_more a b kept o base s (inr is) = inr ((λ everywhere. is.0 (everywhere_less o everywhere)), kept o base s is.1)

pub settled_at : (w : Wants) (files : Grouped Pairing StoreAt) (x y : Site) (z : StoreAt) (o base : Site) (s : StoreAt) → IsSettled w files x y z → x ≡ o → y ≡ base → z ≡ s
    → IsSettled w files o base s
settled_at w files x y z o base s is a b c =
    subst (λ (u : Site). IsSettled w files u base s) a (subst (λ (u : Site). IsSettled w files x u s) b (subst (λ (u : StoreAt). IsSettled w files x y u) c is))

module _ (p : LinkedProgram) (t : Node) (d : DemandParts) (demand : IsDemandOf p (about t) d) (w : Wants) (g : Grounds)
    (answers : (i : ℕ) (o : Site) → slice_get d.sites i ≡ Some o → IsAnswered p (about t) t o → IsEverywhere w o) (back : (e : Edge) → Has d.edges e → IsBackFiled g.back e)
    (settled : (o base : Site) (s : StoreAt) → Meets p (about t) o base s → IsSettled w g.stores o base s)
    (followed : (spot : Spot) → Has w.spots.keys spot → IsFollowedBack w g spot) (ahead : IsAheadIn d w.ahead) where
  pub are_wants : AreWants p t w (Meets p (about t))
  are_wants = record {
    answered = λ o is. (
        let has = (demand.sites.each o).1 (fields_site p (about t) (Meets p (about t)) o is.0) in inl (answers has.0 o has.1 is));
    back = λ o e along wanted. elim wanted [
      | inl has ↦ inl has
      | inr has ↦ (followed (record { site = o; node = e.to }) has).back e (back e (demand.edges.all e along))
    ];
    stored = λ o base s n m st wanted. elim wanted [
      | inl has ↦ inl has
      | inr has ↦ elim (settled o base s m) [
        | inl is ↦ inl is.0
        | inr is ↦ ((followed (record { site = o; node = n }) has).stored base s st.0.1 is.1).0
      ]
    ];
    into = λ o base s n m st wanted. elim (settled o base s m) [
      | inl is ↦ is.1
      | inr is ↦ elim wanted [
        | inl has ↦ absurd (is.0 has)
        | inr has ↦ ((followed (record { site = o; node = n }) has).stored base s st.0.1 is.1).1
      ]
    ];
    ahead = ahead_of_all p t d demand w.ahead ahead;
  }
