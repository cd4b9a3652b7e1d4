-- Start nodes by their sites.
use Rattle.std.proofs.Common.{◌≡◌, ℕ, ◌<◌, ◌↔◌, Bool, Some, false, true, length, refl, sym, ap, subst, ◌∙◌}
use Rattle.lists.proofs.Places.{slice_get-below}
use Rattle.link_rules.specs.declared.code.Code.{Code}
use Rattle.link_rules.specs.Linked.{LinkedMethod, LinkedProgram}
use Rattle.link_sites.specs.declared.place.Place.{Place}
use Rattle.link_sites.specs.declared.site.Site.TheVariants as site
use Rattle.link_sites.specs.Places.{before}
use Rattle.spds_rules.specs.declared.node.Node.{Node}
use Rattle.spds_rules.specs.declared.node.Var.{Var}
use Rattle.spds_rules.specs.declared.node.Var.TheVariants.{Made, Nested, Raised, Text, Class}
use Rattle.spds_rules.specs.Nodes.{HasVar, IsNode, IsStart, at, site_at}
use Rattle.spds_nodes.specs.Starts.{IsBefore, IsThere}
use Rattle.spds_nodes.proofs.Froms.{one_index, one_method}

-- a variable is before one statement
pub there_index : (p : LinkedProgram) (v : Var) (m a b : ℕ) (n : Node) → IsThere p (at (before m a) v) n → IsThere p (at (before m b) v) n → a ≡ b
there_index p v m a b n x y = one_index n.place m m a b (ap (λ (k : Node). k.place) x.1) (ap (λ (k : Node). k.place) y.1)

pub there_method : (p : LinkedProgram) (v : Var) (m k a b : ℕ) (n : Node) → IsThere p (at (before m a) v) n → IsThere p (at (before k b) v) n → m ≡ k
there_method p v m k a b n x y = one_method n.place m k a b (ap (λ (q : Node). q.place) x.1) (ap (λ (q : Node). q.place) y.1)

-- and the statement is one of the method, and of the program
pub there_below : (p : LinkedProgram) (v : Var) (m i : ℕ) (n : Node) (there : IsThere p (at (before m i) v) n) → i < length there.0.method.code
there_below p v m i n there = slice_get-below there.0.method.code i there.0.code there.0.here

pub there_method_below : (p : LinkedProgram) (v : Var) (m i : ℕ) (n : Node) → IsThere p (at (before m i) v) n → m < length p.methods
there_method_below p v m i n there = slice_get-below p.methods m there.0.method there.0.there

-- what the site of a variable says of it
made_is : (q place : Place) (v : Var) → site_at q v ≡ Some (site.New place) → (q ≡ place) × (v ≡ Made)
made_is q place Made h = (cc (h), refl)
made_is q place (Nested level) h = absurd (cc (h))
made_is q place (Raised kind) h = absurd (cc (h))
made_is q place (Text number) h = absurd (cc (h))
made_is q place (Class number) h = absurd (cc (h))
made_is q place _ h = absurd (cc (h))

nested_is : (q place : Place) (k : ℕ) (v : Var) → site_at q v ≡ Some (site.Nested place k) → (q ≡ place) × (v ≡ Nested k)
nested_is q place k (Nested level) h = (cc (h), let same : level ≡ k = cc (h) in ap Nested same)
nested_is q place k Made h = absurd (cc (h))
nested_is q place k (Raised kind) h = absurd (cc (h))
nested_is q place k (Text number) h = absurd (cc (h))
nested_is q place k (Class number) h = absurd (cc (h))
nested_is q place k _ h = absurd (cc (h))

raised_is : (q place : Place) (k : ℕ) (v : Var) → site_at q v ≡ Some (site.Raised place k) → (q ≡ place) × (v ≡ Raised k)
raised_is q place k (Raised kind) h = (cc (h), let same : kind ≡ k = cc (h) in ap Raised same)
raised_is q place k Made h = absurd (cc (h))
raised_is q place k (Nested level) h = absurd (cc (h))
raised_is q place k (Text number) h = absurd (cc (h))
raised_is q place k (Class number) h = absurd (cc (h))
raised_is q place k _ h = absurd (cc (h))

text_is : (q : Place) (number : ℕ) (v : Var) → site_at q v ≡ Some (site.Text number) → v ≡ Text number
text_is q number (Text other) h = let same : other ≡ number = cc (h) in ap Text same
text_is q number Made h = absurd (cc (h))
text_is q number (Nested level) h = absurd (cc (h))
text_is q number (Raised kind) h = absurd (cc (h))
text_is q number (Class other) h = absurd (cc (h))
text_is q number _ h = absurd (cc (h))

class_is : (q : Place) (number : ℕ) (v : Var) → site_at q v ≡ Some (site.Class number) → v ≡ Class number
class_is q number (Class other) h = let same : other ≡ number = cc (h) in ap Class same
class_is q number Made h = absurd (cc (h))
class_is q number (Nested level) h = absurd (cc (h))
class_is q number (Raised kind) h = absurd (cc (h))
class_is q number (Text other) h = absurd (cc (h))
class_is q number _ h = absurd (cc (h))

-- a node by its place and its variable
node_by : (n : Node) (q : Place) (v : Var) → n.place ≡ q → n.var ≡ v → n ≡ at q v
node_by n q v place var =
    let first : n ≡ at q n.var = ap (λ (r : Place). at r n.var) place in
    let second : at q n.var ≡ at q v = ap (at q) var in
    first ∙ second

-- the start of what a statement makes, of its inner levels, and of what it raises
pub starts_made : (p : LinkedProgram) (place : Place) (n : Node) → IsThere p (at place Made) n ↔ IsStart p (site.New place) n
starts_made p place n = (
  (λ there. subst (IsStart p (site.New place)) (sym there.1) (there.0, refl)),
  (λ start.
      let is = made_is n.place place n.var start.1 in
      let same = node_by n place Made is.0 is.1 in
      (subst (IsNode p) same start.0, same)),
)

pub starts_nested : (p : LinkedProgram) (place : Place) (k : ℕ) (n : Node) → IsThere p (at place (Nested k)) n ↔ IsStart p (site.Nested place k) n
starts_nested p place k n = (
  (λ there. subst (IsStart p (site.Nested place k)) (sym there.1) (there.0, refl)),
  (λ start.
      let is = nested_is n.place place k n.var start.1 in
      let same = node_by n place (Nested k) is.0 is.1 in
      (subst (IsNode p) same start.0, same)),
)

pub starts_raised : (p : LinkedProgram) (place : Place) (k : ℕ) (n : Node) → IsThere p (at place (Raised k)) n ↔ IsStart p (site.Raised place k) n
starts_raised p place k n = (
  (λ there. subst (IsStart p (site.Raised place k)) (sym there.1) (there.0, refl)),
  (λ start.
      let is = raised_is n.place place k n.var start.1 in
      let same = node_by n place (Raised k) is.0 is.1 in
      (subst (IsNode p) same start.0, same)),
)

-- constants stand at no raised place
text_unraised : (m : LinkedMethod) (c : Code) (raised : Bool) (number : ℕ) → HasVar m c raised (Text number) → raised ≡ false
text_unraised m c false number has = refl
text_unraised m c true number has = absurd has

class_unraised : (m : LinkedMethod) (c : Code) (raised : Bool) (number : ℕ) → HasVar m c raised (Class number) → raised ≡ false
class_unraised m c false number has = refl
class_unraised m c true number has = absurd has

-- the starts of constants
pub starts_text : (p : LinkedProgram) (number : ℕ) (n : Node) → IsBefore p (Text number) n ↔ IsStart p (site.Text number) n
starts_text p number n = (
  (λ there. subst (IsStart p (site.Text number)) (sym there.1.1.1) (there.1.1.0, refl)),
  (λ start.
      let is = text_is n.place number n.var start.1 in
      let state = text_unraised start.0.method start.0.code n.place.raised number (subst (HasVar start.0.method start.0.code n.place.raised) is start.0.has) in
      let place : n.place ≡ before n.place.method n.place.index = ap (λ (b : Bool). record { method = n.place.method; index = n.place.index; raised = b }) state in
      let same = node_by n (before n.place.method n.place.index) (Text number) place is in
      (n.place.method, (n.place.index, (subst (IsNode p) same start.0, same)))),
)

pub starts_class : (p : LinkedProgram) (number : ℕ) (n : Node) → IsBefore p (Class number) n ↔ IsStart p (site.Class number) n
starts_class p number n = (
  (λ there. subst (IsStart p (site.Class number)) (sym there.1.1.1) (there.1.1.0, refl)),
  (λ start.
      let is = class_is n.place number n.var start.1 in
      let state = class_unraised start.0.method start.0.code n.place.raised number (subst (HasVar start.0.method start.0.code n.place.raised) is start.0.has) in
      let place : n.place ≡ before n.place.method n.place.index = ap (λ (b : Bool). record { method = n.place.method; index = n.place.index; raised = b }) state in
      let same = node_by n (before n.place.method n.place.index) (Class number) place is in
      (n.place.method, (n.place.index, (subst (IsNode p) same start.0, same)))),
)
