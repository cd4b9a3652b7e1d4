-- The places of statements, and the nodes of locals.
use Rattle.std.proofs.Common.{◌≡◌, ℕ, ◌<◌, List, Some, false, length, refl, slice_get, subst, sym}
use Rattle.lists.proofs.Places.{slice_get-there}
use Rattle.link_rules.specs.Accessed.{At}
use Rattle.link_rules.specs.declared.code.Code.{Code}
use Rattle.link_rules.specs.Linked.{LinkedProgram}
use Rattle.link_sites.specs.declared.place.Place.{Place}
use Rattle.link_sites.specs.Places.{HasCode, IsPlace, StandsAt, before}
use Rattle.spds_rules.specs.declared.node.Var.TheVariants.{Local}
use Rattle.report_text.specs.Answers.{IsQueryNode}

-- a statement stands at an index below the number of a method's statements
pub stands : (p : LinkedProgram) (place : Place) (codes : List Code) → place.method < length p.methods → At p.methods place.method (λ m. codes ≡ m.code)
    → place.index < length codes → place.raised ≡ false → IsPlace p place
stands p place codes there are below plain =
    let m = slice_get-there p.methods place.method there in
    let c = slice_get-there codes place.index below in
    let here : slice_get m.0.code place.index ≡ Some c.0 = subst (λ (xs : List Code). slice_get xs place.index ≡ Some c.0) (are m.0 m.1) c.1 in
    subst (λ raised. StandsAt p place.method place.index raised) (sym plain)
    (record { code = c.0; at = record { method = m.0; there = m.1; here = here }; is_so = tt })

-- a query may name a local just before a statement
pub names_local : (p : LinkedProgram) (number index x : ℕ) (names : List (List ℕ)) → HasCode p number index (λ code. Unit {0})
    → At p.methods number (λ m. names ≡ m.locals) → x < length names → IsQueryNode p (record { place = before number index; var = Local x })
names_local p number index x names stands are below = record {
  is_node = record {
    method = stands.at.method;
    there = stands.at.there;
    code = stands.code;
    here = stands.at.here;
    stands = tt;
    has = subst (λ (xs : List (List ℕ)). x < length xs) (are stands.at.method stands.at.there) below;
  };
  unraised = refl;
  is_local = tt;
}
