-- The law of split marks.
use Rattle.std.proofs.Common.{◌≡◌, ℕ, Bool, true, false, List, [], ◌∷◌, refl, sym, ap, ◌∙◌, subst}
use Rattle.auto_table.specs.declared.rule.Rule.{Rule}
use Rattle.auto_table.specs.declared.rule.Rule.TheVariants.{Flow, Push, Pop}
use Rattle.lists.specs.Lists.{Has}
use Rattle.post_star.specs.declared.bases.Start.{Start}
use Rattle.post_star.specs.declared.bases.BaseStep.{BaseStep}
use Rattle.post_star.specs.Derivations.{Derives, starts_at, flows, pushes, pops, DerivesAny, any_word, IsLed, IsNamed, by_start, by_base, by_below, Leads, step_of}
use Rattle.post_star.proofs.Joins.{derives_meant}
use Rattle.post_star.proofs.Sums.{sum_same}
use Rattle.weight_laws.specs.Law.{Domain, IsLawful}
use Rattle.rule_marks.specs.Split.{At, Entry, Exit, IsSplit, IsSplitRule, IsSplitStep, SplitSystem, Splitting, SplitsCommon, coded, flow, pop, pop_common, pop_exit, push, push_common, push_entry, step, step_below, step_common, with_mark}
use Rattle.rule_marks.specs.SplitLaws.{AnyDerivationsAreSplit, AnyValuesAreSplit, BasesAreLedStill, BasesAreSplit, CodesTellWords, DerivationsAreSplit, LeadsBySplit, ValuesAreSplit, WordsAreCoded}

module _ (s : Splitting) (common_too : SplitsCommon s) where
  both_split : {P : Type 0} (b : Bool) → b ≡ true → b ≡ false → P
  both_split b e f = cc

  -- a coded word that begins with a mark that isn't split in the room
  uncoded : (room mark : ℕ) (word plain : List ℕ) → s.is_split room mark ≡ false → mark ∷ word ≡ coded s room plain
      → (rest : List ℕ) × (plain ≡ mark ∷ rest) × (word ≡ coded s (s.home mark) rest)
  uncoded room mark word [] whole e = cc
  uncoded room mark word (k ∷ rest) whole e = by (s.is_split room k) refl
    where
      by : (t : Bool) → s.is_split room k ≡ t → (other : List ℕ) × (k ∷ rest ≡ mark ∷ other) × (word ≡ coded s (s.home mark) other)
      by true split =
          let same : mark ∷ word ≡ s.common ∷ (k ∷ coded s (s.home k) rest) = e ∙ ap (λ t. with_mark t s.common (k ∷ coded s (s.home k) rest)) split in
          let first : mark ≡ s.common = cc in
          both_split (s.is_split room s.common) (common_too room k split) (sym (ap (s.is_split room) first) ∙ whole)
      by false apart =
          let same : mark ∷ word ≡ k ∷ coded s (s.home k) rest = e ∙ ap (λ t. with_mark t s.common (k ∷ coded s (s.home k) rest)) apart in
          let first : k ≡ mark = cc in
          let others : word ≡ coded s (s.home k) rest = cc in (
            rest,
            ap (λ (m : ℕ). m ∷ rest) first,
            others ∙ ap (λ (m : ℕ). coded s (s.home m) rest) first,
          )

  -- and one that begins with the common mark where that is split
  pub record IsUncoded (room : ℕ) (word plain : List ℕ) : Type 0 where
    pub mark : ℕ
    pub rest : List ℕ
    pub split : s.is_split room mark ≡ true
    pub plain_is : plain ≡ mark ∷ rest
    pub word_is : word ≡ mark ∷ coded s (s.home mark) rest

  uncoded_common : (room mark : ℕ) (word plain : List ℕ) → mark ≡ s.common → s.is_split room s.common ≡ true → mark ∷ word ≡ coded s room plain
      → IsUncoded room word plain
  uncoded_common room mark word [] is split e = cc
  uncoded_common room mark word (k ∷ rest) is split e = by (s.is_split room k) refl
    where
      by : (t : Bool) → s.is_split room k ≡ t → IsUncoded room word (k ∷ rest)
      by true here =
          let same : mark ∷ word ≡ s.common ∷ (k ∷ coded s (s.home k) rest) = e ∙ ap (λ t. with_mark t s.common (k ∷ coded s (s.home k) rest)) here in
          record { mark = k; rest = rest; split = here; plain_is = refl; word_is = cc }
      by false here =
          let same : mark ∷ word ≡ k ∷ coded s (s.home k) rest = e ∙ ap (λ t. with_mark t s.common (k ∷ coded s (s.home k) rest)) here in
          let first : k ≡ s.common = cc in
          both_split (s.is_split room s.common) split (sym (ap (s.is_split room) first) ∙ here)

  -- the common mark in front doesn't hide what is behind it
  behind : (room j k : ℕ) (a b : List ℕ) (t u : Bool) → s.is_split room j ≡ t → s.is_split room k ≡ u → with_mark t s.common (j ∷ a) ≡ with_mark u s.common (k ∷ b)
      → (j ≡ k) × (a ≡ b)
  behind room j k a b true true f g e = (cc, cc)
  behind room j k a b false false f g e = (cc, cc)
  behind room j k a b true false f g e =
      let first : k ≡ s.common = cc in both_split (s.is_split room s.common) (common_too room j f) (sym (ap (s.is_split room) first) ∙ g)
  behind room j k a b false true f g e =
      let first : j ≡ s.common = cc in both_split (s.is_split room s.common) (common_too room k g) (sym (ap (s.is_split room) first) ∙ f)

  none_coded : (t : Bool) (c k : ℕ) (a : List ℕ) → [] ≡ with_mark t c (k ∷ a) → ⊥
  none_coded true c k a e = cc
  none_coded false c k a e = cc

  pub coded_once : (word other : List ℕ) (room : ℕ) → coded s room word ≡ coded s room other → word ≡ other
  coded_once [] [] room e = refl
  coded_once [] (k ∷ other) room e = absurd (none_coded (s.is_split room k) s.common k (coded s (s.home k) other) e)
  coded_once (j ∷ word) [] room e = absurd (none_coded (s.is_split room j) s.common j (coded s (s.home j) word) (sym e))
  coded_once (j ∷ word) (k ∷ other) room e =
      let parts = behind room j k (coded s (s.home j) word) (coded s (s.home k) other) (s.is_split room j) (s.is_split room k) refl refl e in
      let rest = coded_once word other (s.home j) (parts.1 ∙ ap (λ (m : ℕ). coded s (s.home m) other) (sym parts.0)) in
      ap (λ (m : ℕ). m ∷ word) parts.0 ∙ ap (λ (u : List ℕ). k ∷ u) rest

module _ {W : Type 0} {d : Domain W} (l : IsLawful W d) (s : Splitting) (x : SplitSystem W) (is : IsSplit d s x) where
  abbrev Plain : ℕ → List ℕ → W → Type 0
  Plain = Derives d x.rules x.starts x.steps x.last

  abbrev Split : ℕ → List ℕ → W → Type 0
  Split = Derives d x.split x.starts x.split_steps x.last

  abbrev PlainLeads : ℕ → List ℕ → Type 0
  PlainLeads b word = Leads x.steps b word x.last

  abbrev SplitLeads : ℕ → List ℕ → Type 0
  SplitLeads b word = Leads x.split_steps b word x.last

  -- over a step that is there
  step_forth : (b k below : ℕ) (word : List ℕ) → Has x.steps (step_of b k below) → SplitLeads below word → (t : Bool) → s.is_split (s.base_room b) k ≡ t
      → SplitLeads b (with_mark t s.common (k ∷ word))
  step_forth b k below word has rest true split =
      (s.below b, (is.steps_are _).1 (step_common b k below has split refl), (below, (is.steps_are _).1 (step_below b k below has split refl), rest))
  step_forth b k below word has rest false whole = (below, (is.steps_are _).1 (step b k below has whole refl), rest)

  pub leads_forth : (b : ℕ) (word : List ℕ) → PlainLeads b word → SplitLeads b (coded s (s.base_room b) word)
  leads_forth b [] h = h
  leads_forth b (k ∷ word) h =
      step_forth b k h.0 (coded s (s.home k) word) h.1
      (subst (λ (room : ℕ). SplitLeads h.0 (coded s room word)) (sym (is.roomed.step_home (step_of b k h.0) h.1)) (leads_forth h.0 word h.2)) (s.is_split (s.base_room b) k) refl

  -- a coded word that leads from a base
  pub record IsLedBy (b : ℕ) (word : List ℕ) : Type 0 where
    pub plain : List ℕ
    pub word_is : word ≡ coded s (s.base_room b) plain
    pub leads : PlainLeads b plain

  -- and one from below a base, by a mark and on
  pub record IsLedBelow (b : ℕ) (word : List ℕ) : Type 0 where
    pub mark : ℕ
    pub rest : List ℕ
    pub split : s.is_split (s.base_room b) mark ≡ true
    pub word_is : word ≡ mark ∷ coded s (s.home mark) rest
    pub leads : PlainLeads b (mark ∷ rest)

  -- what leads from a base, by where it stands
  pub record LeadsBack (b : ℕ) (word : List ℕ) : Type 0 where
    pub at : s.base_place b ≡ At b → IsLedBy b word
    pub below : (room : ℕ) → s.base_place b ≡ Exit room → IsLedBelow room word

  step_back : (b k c : ℕ) (word : List ℕ) → IsSplitStep s x.steps (step_of b k c) → LeadsBack c word → LeadsBack b (k ∷ word)
  step_back b k c word (step b1 k1 c1 has whole same) inner =
      let base_is : b ≡ b1 = ap (λ (y : BaseStep). y.base) same in
      let split_same : s.is_split (s.base_room b) k ≡ s.is_split (s.base_room b1) k1 = ap (λ (y : BaseStep). s.is_split (s.base_room y.base) y.mark) same in
      let there : Has x.steps (step_of b k c) = subst (λ (y : BaseStep). Has x.steps y) (sym same) has in
      let places = is.placed.step_places (step_of b k c) there in record {
        at = λ _.
            let led = inner.at places.1 in
            let home = is.roomed.step_home (step_of b k c) there in record {
              plain = k ∷ led.plain;
              word_is = ap (λ (u : List ℕ). k ∷ u) (led.word_is ∙ ap (λ (room : ℕ). coded s room led.plain) (sym home))
                  ∙ sym (ap (λ t. with_mark t s.common (k ∷ coded s (s.home k) led.plain)) (split_same ∙ whole));
              leads = (c, there, led.leads);
            };
        below = λ room exit. let at_base = places.0 in cc;
      }
  step_back b k c word (step_common b1 k1 c1 has split same) inner =
      let base_is : b ≡ b1 = ap (λ (y : BaseStep). y.base) same in
      let mark_is : k ≡ s.common = ap (λ (y : BaseStep). y.mark) same in
      let below_is : c ≡ s.below b1 = ap (λ (y : BaseStep). y.below) same in record {
        at = λ _.
            let led = inner.below b1 (ap s.base_place below_is ∙ is.placed.below_place (step_of b1 k1 c1) has split) in record {
              plain = led.mark ∷ led.rest;
              word_is = ap (λ (u : List ℕ). k ∷ u) led.word_is ∙ ap (λ (m : ℕ). m ∷ (led.mark ∷ coded s (s.home led.mark) led.rest)) mark_is
                  ∙ sym (ap (λ t. with_mark t s.common (led.mark ∷ coded s (s.home led.mark) led.rest)) (ap (λ (m : ℕ). s.is_split (s.base_room m) led.mark) base_is ∙ led.split));
              leads = subst (λ (m : ℕ). PlainLeads m (led.mark ∷ led.rest)) (sym base_is) led.leads;
            };
        below = λ room exit. let at_base = (is.placed.step_places (step_of b1 k1 c1) has).0 in cc;
      }
  step_back b k c word (step_below b1 k1 c1 has split same) inner =
      let base_is : b ≡ s.below b1 = ap (λ (y : BaseStep). y.base) same in
      let mark_is : k ≡ k1 = ap (λ (y : BaseStep). y.mark) same in
      let below_is : c ≡ c1 = ap (λ (y : BaseStep). y.below) same in
      let below_room : s.base_place b ≡ Exit b1 = ap s.base_place base_is ∙ is.placed.below_place (step_of b1 k1 c1) has split in record {
        at = λ at_base. cc;
        below = λ room exit.
            let room_is : b1 ≡ room = cc in
            let here : s.is_split (s.base_room room) k ≡ true = ap (λ (m : ℕ). s.is_split (s.base_room room) m) mark_is
            ∙ ap (λ (m : ℕ). s.is_split (s.base_room m) k1) (sym room_is) ∙ split in
            let there : Has x.steps (step_of room k c) =
            subst (λ (m : ℕ). Has x.steps (step_of m k c)) room_is
            (subst (λ (m : ℕ). Has x.steps (step_of b1 m c)) (sym mark_is) (subst (λ (m : ℕ). Has x.steps (step_of b1 k1 m)) (sym below_is) has)) in
            let led = inner.at (is.placed.step_places (step_of room k c) there).1 in
            let home = is.roomed.step_home (step_of room k c) there in record {
              mark = k;
              rest = led.plain;
              split = here;
              word_is = ap (λ (u : List ℕ). k ∷ u) (led.word_is ∙ ap (λ (r : ℕ). coded s r led.plain) (sym home));
              leads = (c, there, led.leads);
            };
      }

  pub leads_back : (word : List ℕ) (b : ℕ) → SplitLeads b word → LeadsBack b word
  leads_back [] b h = record {
    at = λ _. record { plain = []; word_is = refl; leads = h };
    below = λ room exit. let at_last = ap s.base_place h ∙ is.placed.last_place in cc;
  }
  leads_back (k ∷ word) b h = step_back b k h.0 word ((is.steps_are _).0 h.1) (leads_back word h.0 h.2)

  weight_meant : {n : ℕ} {word : List ℕ} {y : W} → Plain n word y → d.IsMeant y
  weight_meant derived = derives_meant l x.steps is.told derived

  -- a weight of one changes nothing
  by_one : (n : ℕ) (word : List ℕ) (y weight : W) → weight ≡ d.one → Plain n word y → Plain n word (d.extend y weight)
  by_one n word y weight weighs derived =
      subst (λ (v : W). Plain n word v) (sym (l.extend_one y (weight_meant derived)) ∙ ap (d.extend y) (sym weighs)) derived

  read_back : (n room : ℕ) (word plain : List ℕ) (y : W) (u : IsUncoded s is.common_too room word plain) → Plain n plain y → Plain n (u.mark ∷ u.rest) y
  read_back n room word plain y u derived = subst (λ (v : List ℕ). Plain n v y) u.plain_is derived

  push_forth : (from to mark : ℕ) (word : List ℕ) (y weight : W) → Has x.rules (Push from to mark weight) → d.IsMeant y → Split from word y → (t : Bool)
      → s.is_split (s.room to) mark ≡ t → Split to (with_mark t s.common (mark ∷ word)) (d.extend y weight)
  push_forth from to mark word y weight has meant given true split =
      subst (λ (v : W). Split to (s.common ∷ (mark ∷ word)) v) (l.extend_one (d.extend y weight) (l.extend_meant y weight meant (is.told.rule _ has)))
      (pushes ((is.rules_are _).1 (push_common from to mark weight has split refl)) (pushes ((is.rules_are _).1 (push_entry from to mark weight has split refl)) given))
  push_forth from to mark word y weight has meant given false whole = pushes ((is.rules_are _).1 (push from to mark weight has whole refl)) given

  pop_forth : (from mark to : ℕ) (word : List ℕ) (y weight : W) → Has x.rules (Pop from mark to weight) → d.IsMeant y → (t : Bool)
      → s.is_split (s.room from) mark ≡ t → Split from (with_mark t s.common (mark ∷ word)) y → Split to word (d.extend y weight)
  pop_forth from mark to word y weight has meant true split given =
      subst (λ (v : W). Split to word (d.extend v weight)) (l.extend_one y meant)
      (pops ((is.rules_are _).1 (pop_exit from mark to weight has split refl)) (pops ((is.rules_are _).1 (pop_common from mark to weight has split refl)) given))
  pop_forth from mark to word y weight has meant false whole given = pops ((is.rules_are _).1 (pop from mark to weight has whole refl)) given

  -- what the system derives, the split one does, by the coded word
  pub forth : {n : ℕ} {word : List ℕ} {y : W} → Plain n word y → Split n (coded s (s.room n) word) y
  forth (starts_at {s = begin} {word} has leads) =
      starts_at has (subst (λ (room : ℕ). SplitLeads begin.base (coded s room word)) (sym (is.roomed.start_room begin has)) (leads_forth begin.base word leads))
  forth (flows {from} {to} {word} {x = y} {weight} has derived) =
      subst (λ (room : ℕ). Split to (coded s room word) (d.extend y weight)) (sym (is.roomed.flow_room from to weight has))
      (flows ((is.rules_are _).1 (flow from to weight has refl)) (forth derived))
  forth (pushes {from} {to} {mark} {word} {x = y} {weight} has derived) =
      push_forth from to mark (coded s (s.home mark) word) y weight has (weight_meant derived)
      (subst (λ (room : ℕ). Split from (coded s room word) y) (sym (is.roomed.push_home from to mark weight has)) (forth derived)) (s.is_split (s.room to) mark) refl
  forth (pops {from} {mark} {to} {word} {x = y} {weight} has derived) =
      subst (λ (room : ℕ). Split to (coded s room word) (d.extend y weight)) (is.roomed.pop_home from mark to weight has)
      (pop_forth from mark to (coded s (s.home mark) word) y weight has (weight_meant derived) (s.is_split (s.room from) mark) refl (forth derived))

  -- a coded word at a node
  pub record IsAt (n : ℕ) (word : List ℕ) (y : W) : Type 0 where
    pub plain : List ℕ
    pub word_is : word ≡ coded s (s.room n) plain
    pub derived : Plain n plain y

  -- a mark and a coded word, at the entry or the exit of a node
  pub record IsBeside (n : ℕ) (word : List ℕ) (y : W) : Type 0 where
    pub mark : ℕ
    pub rest : List ℕ
    pub split : s.is_split (s.room n) mark ≡ true
    pub word_is : word ≡ mark ∷ coded s (s.home mark) rest
    pub derived : Plain n (mark ∷ rest) y

  -- what a node of the split system has, by where it stands
  pub record IsGiven (n : ℕ) (word : List ℕ) (y : W) : Type 0 where
    pub at : s.node_place n ≡ At n → IsAt n word y
    pub entry : (m : ℕ) → s.node_place n ≡ Entry m → IsBeside m word y
    pub exit : (m : ℕ) → s.node_place n ≡ Exit m → IsBeside m word y

  given_at : (n : ℕ) (word : List ℕ) (y : W) → s.node_place n ≡ At n → IsAt n word y → IsGiven n word y
  given_at n word y place given = record { at = λ _. given; entry = λ m other. cc; exit = λ m other. cc }

  given_entry : (n m : ℕ) (word : List ℕ) (y : W) → s.node_place n ≡ Entry m → IsBeside m word y → IsGiven n word y
  given_entry n m word y place given = record {
    at = λ other. cc;
    entry = λ k other. let same : m ≡ k = cc in subst (λ (j : ℕ). IsBeside j word y) same given;
    exit = λ k other. cc;
  }

  given_exit : (n m : ℕ) (word : List ℕ) (y : W) → s.node_place n ≡ Exit m → IsBeside m word y → IsGiven n word y
  given_exit n m word y place given = record {
    at = λ other. cc;
    entry = λ k other. cc;
    exit = λ k other. let same : m ≡ k = cc in subst (λ (j : ℕ). IsBeside j word y) same given;
  }

  there : {r q : Rule W} → r ≡ q → Has x.rules q → Has x.rules r
  there same has = subst (λ (p : Rule W). Has x.rules p) (sym same) has

  start_back : (begin : Start W) (word : List ℕ) → Has x.starts begin → SplitLeads begin.base word → IsGiven begin.node word begin.weight
  start_back begin word has leads =
      let places = is.placed.start_places begin has in
      let led = (leads_back word begin.base leads).at places.1 in
      given_at begin.node word begin.weight places.0 (record {
        plain = led.plain;
        word_is = led.word_is ∙ ap (λ (room : ℕ). coded s room led.plain) (sym (is.roomed.start_room begin has));
        derived = starts_at has led.leads;
      })

  flow_back : (from to : ℕ) (weight : W) (word : List ℕ) (y : W) → IsSplitRule d s x.rules (Flow from to weight) → IsGiven from word y
      → IsGiven to word (d.extend y weight)
  flow_back from to weight word y (flow m n w has same) g =
      let rule = there same has in
      let places = is.placed.flow_places from to weight rule in
      let a = g.at places.0 in
      given_at to word (d.extend y weight) places.1 (record {
        plain = a.plain;
        word_is = a.word_is ∙ ap (λ (room : ℕ). coded s room a.plain) (sym (is.roomed.flow_room from to weight rule));
        derived = flows rule a.derived;
      })
  flow_back from to weight word y (push m n k w has whole same) g = cc
  flow_back from to weight word y (push_entry m n k w has split same) g = cc
  flow_back from to weight word y (push_common m n k w has split same) g = cc
  flow_back from to weight word y (pop m k n w has whole same) g = cc
  flow_back from to weight word y (pop_common m k n w has split same) g = cc
  flow_back from to weight word y (pop_exit m k n w has split same) g = cc

  push_back : (from to mark : ℕ) (weight : W) (word : List ℕ) (y : W) → IsSplitRule d s x.rules (Push from to mark weight) → IsGiven from word y
      → IsGiven to (mark ∷ word) (d.extend y weight)
  push_back from to mark weight word y (flow m n w has same) g = cc
  push_back from to mark weight word y (push m n k w has whole same) g =
      let rule = there same has in
      let places = is.placed.push_places from to mark weight rule in
      let a = g.at places.0 in
      let node : to ≡ n = cc in
      let mark_is : mark ≡ k = cc in
      let unsplit : s.is_split (s.room to) mark ≡ false = ap (λ (j : ℕ). s.is_split (s.room j) mark) node ∙ ap (s.is_split (s.room n)) mark_is ∙ whole in
      given_at to (mark ∷ word) (d.extend y weight) places.1 (record {
        plain = mark ∷ a.plain;
        word_is = ap (λ (u : List ℕ). mark ∷ u) (a.word_is ∙ ap (λ (room : ℕ). coded s room a.plain) (sym (is.roomed.push_home from to mark weight rule)))
            ∙ sym (ap (λ t. with_mark t s.common (mark ∷ coded s (s.home mark) a.plain)) unsplit);
        derived = pushes rule a.derived;
      })
  push_back from to mark weight word y (push_entry m n k w has split same) g =
      let target_is : to ≡ s.entry n = cc in
      let written : Push from n mark weight ≡ Push m n k w = cc in
      let mark_is : mark ≡ k = cc in
      let rule = there written has in
      let a = g.at (is.placed.push_places from n mark weight rule).0 in
      given_entry to n (mark ∷ word) (d.extend y weight) (ap s.node_place target_is ∙ is.placed.entry_place m n k w has split) (record {
        mark = mark;
        rest = a.plain;
        split = ap (s.is_split (s.room n)) mark_is ∙ split;
        word_is = ap (λ (u : List ℕ). mark ∷ u) (a.word_is ∙ ap (λ (room : ℕ). coded s room a.plain) (sym (is.roomed.push_home from n mark weight rule)));
        derived = pushes rule a.derived;
      })
  push_back from to mark weight word y (push_common m n k w has split same) g =
      let source_is : from ≡ s.entry n = cc in
      let target_is : to ≡ n = cc in
      let mark_is : mark ≡ s.common = cc in
      let weighs : weight ≡ d.one = cc in
      let a = g.entry n (ap s.node_place source_is ∙ is.placed.entry_place m n k w has split) in
      let place : s.node_place to ≡ At to = let at = (is.placed.push_places m n k w has).1 in cc in
      given_at to (mark ∷ word) (d.extend y weight) place (record {
        plain = a.mark ∷ a.rest;
        word_is = ap (λ (u : List ℕ). mark ∷ u) a.word_is ∙ ap (λ (c : ℕ). c ∷ (a.mark ∷ coded s (s.home a.mark) a.rest)) mark_is
            ∙ sym (ap (λ t. with_mark t s.common (a.mark ∷ coded s (s.home a.mark) a.rest)) (ap (λ (j : ℕ). s.is_split (s.room j) a.mark) target_is ∙ a.split));
        derived = by_one to (a.mark ∷ a.rest) y weight weighs (subst (λ (j : ℕ). Plain j (a.mark ∷ a.rest) y) (sym target_is) a.derived);
      })
  push_back from to mark weight word y (pop m k n w has whole same) g = cc
  push_back from to mark weight word y (pop_common m k n w has split same) g = cc
  push_back from to mark weight word y (pop_exit m k n w has split same) g = cc

  pop_back : (from mark to : ℕ) (weight : W) (word : List ℕ) (y : W) → IsSplitRule d s x.rules (Pop from mark to weight) → IsGiven from (mark ∷ word) y
      → IsGiven to word (d.extend y weight)
  pop_back from mark to weight word y (flow m n w has same) g = cc
  pop_back from mark to weight word y (push m n k w has whole same) g = cc
  pop_back from mark to weight word y (push_entry m n k w has split same) g = cc
  pop_back from mark to weight word y (push_common m n k w has split same) g = cc
  pop_back from mark to weight word y (pop m k n w has whole same) g =
      let rule = there same has in
      let places = is.placed.pop_places from mark to weight rule in
      let a = g.at places.0 in
      let node : from ≡ m = cc in
      let mark_is : mark ≡ k = cc in
      let unsplit : s.is_split (s.room from) mark ≡ false = ap (λ (j : ℕ). s.is_split (s.room j) mark) node ∙ ap (s.is_split (s.room m)) mark_is ∙ whole in
      let u = uncoded s is.common_too (s.room from) mark word a.plain unsplit a.word_is in
      given_at to word (d.extend y weight) places.1 (record {
        plain = u.0;
        word_is = u.2 ∙ ap (λ (room : ℕ). coded s room u.0) (is.roomed.pop_home from mark to weight rule);
        derived = pops rule (subst (λ (v : List ℕ). Plain from v y) u.1 a.derived);
      })
  pop_back from mark to weight word y (pop_common m k n w has split same) g =
      let source_is : from ≡ m = cc in
      let target_is : to ≡ s.exit m = cc in
      let weighs : weight ≡ d.one = cc in
      let place : s.node_place from ≡ At from = let at = (is.placed.pop_places m k n w has).0 in cc in
      let a = g.at place in
      let mark_is : mark ≡ s.common = cc in
      let u = uncoded_common s is.common_too (s.room from) mark word a.plain mark_is
      (ap (λ (j : ℕ). s.is_split (s.room j) s.common) source_is ∙ is.common_too (s.room m) k split) a.word_is in
      given_exit to m word (d.extend y weight) (ap s.node_place target_is ∙ is.placed.exit_place m k n w has split) (record {
        mark = u.mark;
        rest = u.rest;
        split = sym (ap (λ (j : ℕ). s.is_split (s.room j) u.mark) source_is) ∙ u.split;
        word_is = u.word_is;
        derived = by_one m (u.mark ∷ u.rest) y weight weighs
            (subst (λ (j : ℕ). Plain j (u.mark ∷ u.rest) y) source_is (read_back from (s.room from) word a.plain y u a.derived));
      })
  pop_back from mark to weight word y (pop_exit m k n w has split same) g =
      let source_is : from ≡ s.exit m = cc in
      let written : Pop m mark to weight ≡ Pop m k n w = cc in
      let rule = there written has in
      let a = g.exit m (ap s.node_place source_is ∙ is.placed.exit_place m k n w has split) in
      let first : a.mark ≡ mark = let e = a.word_is in cc in
      let others : word ≡ coded s (s.home a.mark) a.rest = let e = a.word_is in cc in
      given_at to word (d.extend y weight) (is.placed.pop_places m mark to weight rule).1 (record {
        plain = a.rest;
        word_is = others ∙ ap (λ (j : ℕ). coded s (s.home j) a.rest) first ∙ ap (λ (room : ℕ). coded s room a.rest) (is.roomed.pop_home m mark to weight rule);
        derived = pops rule (subst (λ (j : ℕ). Plain m (j ∷ a.rest) y) first a.derived);
      })

  -- what the split system derives
  pub back : {n : ℕ} {word : List ℕ} {y : W} → Split n word y → IsGiven n word y
  back (starts_at {s = begin} {word} has leads) = start_back begin word has leads
  back (flows {from} {to} {word} {x = y} {weight} has derived) = flow_back from to weight word y ((is.rules_are _).0 has) (back derived)
  back (pushes {from} {to} {mark} {word} {x = y} {weight} has derived) = push_back from to mark weight word y ((is.rules_are _).0 has) (back derived)
  back (pops {from} {mark} {to} {word} {x = y} {weight} has derived) = pop_back from mark to weight word y ((is.rules_are _).0 has) (back derived)

  pub coded_back : (n : ℕ) → s.node_place n ≡ At n → (word : List ℕ) (y : W) → Split n (coded s (s.room n) word) y → Plain n word y
  coded_back n place word y derived =
      let a = (back derived).at place in subst (λ (v : List ℕ). Plain n v y) (sym (coded_once s is.common_too word a.plain (s.room n) a.word_is)) a.derived

  pub any_forth : {n : ℕ} {y : W} → DerivesAny d x.rules x.starts x.steps x.last n y → DerivesAny d x.split x.starts x.split_steps x.last n y
  any_forth (any_word derived) = any_word (forth derived)

  pub any_back : {n : ℕ} {y : W} → s.node_place n ≡ At n → DerivesAny d x.split x.starts x.split_steps x.last n y → DerivesAny d x.rules x.starts x.steps x.last n y
  any_back place (any_word derived) = any_word ((back derived).at place).derived

  -- from a base of the system
  from_base : IsLed x.starts x.steps x.last → (b : ℕ) → IsNamed x.starts x.steps b → (word : List ℕ) × SplitLeads b word
  from_base led b named = let w = led b named in (coded s (s.base_room b) w.0, leads_forth b w.0 w.1)

  -- and from below one
  from_below : IsLed x.starts x.steps x.last → (b k c : ℕ) → Has x.steps (step_of b k c) → s.is_split (s.base_room b) k ≡ true → (word : List ℕ) × SplitLeads (s.below b) word
  from_below led b k c has split =
      let w = from_base led c (by_below (step_of b k c) has refl) in (k ∷ w.0, (c, (is.steps_are _).1 (step_below b k c has split refl), w.1))

  moved_base : (b c : ℕ) → c ≡ b → ((word : List ℕ) × SplitLeads c word) → (word : List ℕ) × SplitLeads b word
  moved_base b c same w = (w.0, subst (λ (m : ℕ). SplitLeads m w.0) same w.1)

  base_led : IsLed x.starts x.steps x.last → (y : BaseStep) → IsSplitStep s x.steps y → (word : List ℕ) × SplitLeads y.base word
  base_led led y (step b k c has whole same) = moved_base y.base b (sym (ap (λ (z : BaseStep). z.base) same)) (from_base led b (by_base (step_of b k c) has refl))
  base_led led y (step_common b k c has split same) = moved_base y.base b (sym (ap (λ (z : BaseStep). z.base) same)) (from_base led b (by_base (step_of b k c) has refl))
  base_led led y (step_below b k c has split same) = moved_base y.base (s.below b) (sym (ap (λ (z : BaseStep). z.base) same)) (from_below led b k c has split)

  below_led : IsLed x.starts x.steps x.last → (y : BaseStep) → IsSplitStep s x.steps y → (word : List ℕ) × SplitLeads y.below word
  below_led led y (step b k c has whole same) = moved_base y.below c (sym (ap (λ (z : BaseStep). z.below) same)) (from_base led c (by_below (step_of b k c) has refl))
  below_led led y (step_common b k c has split same) = moved_base y.below (s.below b) (sym (ap (λ (z : BaseStep). z.below) same)) (from_below led b k c has split)
  below_led led y (step_below b k c has split same) = moved_base y.below c (sym (ap (λ (z : BaseStep). z.below) same)) (from_base led c (by_below (step_of b k c) has refl))

  pub led_still : IsLed x.starts x.steps x.last → IsLed x.starts x.split_steps x.last
  led_still led b (by_start begin has same) = from_base led b (by_start begin has same)
  led_still led b (by_base y has same) = moved_base b y.base same (base_led led y ((is.steps_are y).0 has))
  led_still led b (by_below y has same) = moved_base b y.below same (below_led led y ((is.steps_are y).0 has))

  pub bases_split : (b : ℕ) → s.base_place b ≡ At b → LeadsBySplit s x b
  bases_split b place = record {
    coded_leads = λ word. (
      (λ h. leads_forth b word h),
      (λ h. let led = (leads_back (coded s (s.base_room b) word) b h).at place in
          subst (λ (v : List ℕ). PlainLeads b v) (sym (coded_once s is.common_too word led.plain (s.base_room b) led.word_is)) led.leads),
    );
    coded_alone = λ word h. let led = (leads_back word b h).at place in (led.plain, led.word_is);
  }

module _ {W : Type 0} {d : Domain W} (l : IsLawful W d) where
  pub derivations_split : DerivationsAreSplit d
  derivations_split s x is n place word w = ((λ p. forth l s x is p), (λ p. coded_back l s x is n place word w p))

  pub words_coded : WordsAreCoded d
  words_coded s x is n place word w p = let a = (back l s x is p).at place in (a.plain, a.word_is)

  pub any_derivations_split : AnyDerivationsAreSplit d
  any_derivations_split s x is n place w = ((λ p. any_forth l s x is p), (λ p. any_back l s x is place p))

  pub values_split : ValuesAreSplit d
  values_split s x is n place word v = (
    sum_same l (Derives d x.rules x.starts x.steps x.last n word) (Derives d x.split x.starts x.split_steps x.last n (coded s (s.room n) word))
        (λ y p. forth l s x is p) (λ y p. coded_back l s x is n place word y p) v,
    sum_same l (Derives d x.split x.starts x.split_steps x.last n (coded s (s.room n) word)) (Derives d x.rules x.starts x.steps x.last n word)
        (λ y p. coded_back l s x is n place word y p) (λ y p. forth l s x is p) v,
  )

  pub any_values_split : AnyValuesAreSplit d
  any_values_split s x is n place v = (
    sum_same l (DerivesAny d x.rules x.starts x.steps x.last n) (DerivesAny d x.split x.starts x.split_steps x.last n)
        (λ y p. any_forth l s x is p) (λ y p. any_back l s x is place p) v,
    sum_same l (DerivesAny d x.split x.starts x.split_steps x.last n) (DerivesAny d x.rules x.starts x.steps x.last n)
        (λ y p. any_back l s x is place p) (λ y p. any_forth l s x is p) v,
  )

  pub bases_are_split : BasesAreSplit d
  bases_are_split s x is base place = bases_split l s x is base place

  pub bases_led_still : BasesAreLedStill d
  bases_led_still s x is led = led_still l s x is led

pub codes_tell_words : CodesTellWords
codes_tell_words s common_too room word other e = coded_once s common_too word other room e
