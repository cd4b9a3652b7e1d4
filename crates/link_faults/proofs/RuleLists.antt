-- The rules on statements by their places.
use Rattle.std.proofs.Common.{◌≡◌, ℕ, ◌+◌, ◌-◌, ◌<◌, ◌≤◌, Some, All, map, slice_get, get_or, refl, sym, ap, ◌∙◌, subst, arith, rules}
use Rattle.std.specs.List.{range_with_len}
use Rattle.std.proofs.lemmas.List.{get_or-map}
use Rattle.std.proofs.lemmas.List.Elements.{All-from_recursion}
use Rattle.std.proofs.lemmas.List.FromFn.{get_or-range_with_len}
use Rattle.std.proofs.lemmas.Option.{get_or_from_slice_get}
use Rattle.lists.proofs.Places.{slice_get-below}
use Rattle.lists.specs.Lists.{Has}
use Rattle.link_rules.specs.declared.refusal.LinkKind.{LinkKind}
use Rattle.link_rules.specs.declared.refusal.LinkKind.TheVariants as rule
use Rattle.link_rules.specs.Reach.{TakesTargets}
use Rattle.link_rules.specs.Refusals.{number_of}
use Rattle.link_faults.specs.declared.site.Site.{Site}
use Rattle.link_faults.specs.AtSite.{IsFirstAmong, IsFirstRule, Keeps, Refuses, rules_of_stmts, rules_of_targets}
use Rattle.std.specs.Prelude.{◌↔◌, Bool, true, false, not, is_some, IsTrue, Option, None}
use Rattle.std.proofs.lemmas.Bool.{false≢true, true≢false}
use Rattle.link_faults.proofs.Scans.{no, yes}

-- the rules have the numbers from 8 on
numbers : map number_of rules_of_stmts ≡ range_with_len 8 16
numbers = refl

number_at : (i : ℕ) (kind : LinkKind) → slice_get rules_of_stmts i ≡ Some kind → number_of kind ≡ 8 + i
number_at i kind is =
    let below : i < 16 = slice_get-below rules_of_stmts i kind is in
    let here = get_or_from_slice_get rules_of_stmts i kind kind is in
    ap number_of (sym here) ∙ sym (get_or-map number_of rules_of_stmts i kind 0 below) ∙ ap (λ ns. get_or ns i 0) numbers ∙ get_or-range_with_len 8 16 i 0 below

-- a rule that refuses a statement stands there
place_of : (x : Site) (kind : LinkKind) → Refuses x kind → (8 ≤ number_of kind) × (slice_get rules_of_stmts (number_of kind - 8) ≡ Some kind)
place_of x rule.UnknownLabel h = (omega arith, refl)
place_of x rule.FallsOff h = (omega arith, refl)
place_of x rule.UnknownLocal h = (omega arith, refl)
place_of x rule.BadIdentity h = (omega arith, refl)
place_of x rule.DynamicInvoke h = (omega arith, refl)
place_of x rule.Reflection h = (omega arith, refl)
place_of x rule.Threads h = (omega arith, refl)
place_of x rule.RetStatement h = (omega arith, refl)
place_of x rule.NestedArray h = (omega arith, refl)
place_of x rule.UnknownClass h = (omega arith, refl)
place_of x rule.UnknownField h = (omega arith, refl)
place_of x rule.AbstractNew h = (omega arith, refl)
place_of x rule.UndeclaredCallee h = (omega arith, refl)
place_of x rule.BadArguments h = (omega arith, refl)
place_of x rule.NativeCallee h = (omega arith, refl)
place_of x rule.AmbiguousDefault h = (omega arith, refl)
place_of x _ h = absurd h

-- the first of all rules on statements is the one with the least number
pub first_rule : (x : Site) (o : Option LinkKind) → IsFirstAmong x rules_of_stmts o → IsFirstRule x o
first_rule x None none = λ kind h. none kind (number_of kind - 8, (place_of x kind h).1) h
first_rule x (Some first) (place, is, refuses, before) = (
  refuses,
  λ kind h less.
      let at = place_of x kind h in
      before (number_of kind - 8) kind (omega (arith, at.0, less, number_at place first is)) at.1 h,
)

-- the rules that take a call its targets
takes_at : (i : ℕ) (kind : LinkKind) → slice_get rules_of_targets i ≡ Some kind → TakesTargets kind
takes_at i kind is =
    let each : All TakesTargets rules_of_targets = All-from_recursion TakesTargets rules_of_targets (search rules) in
    subst TakesTargets (get_or_from_slice_get rules_of_targets i kind kind is) (each i kind (slice_get-below rules_of_targets i kind is))

takes_place : (kind : LinkKind) → TakesTargets kind → Has rules_of_targets kind
takes_place rule.UnknownLocal h = (0, refl)
takes_place rule.DynamicInvoke h = (1, refl)
takes_place rule.Reflection h = (2, refl)
takes_place rule.Threads h = (3, refl)
takes_place rule.UnknownClass h = (4, refl)
takes_place rule.UndeclaredCallee h = (5, refl)
takes_place rule.BadArguments h = (6, refl)
takes_place rule.NativeCallee h = (7, refl)
takes_place rule.AmbiguousDefault h = (8, refl)
takes_place _ h = absurd h

pub keeps_by : (x : Site) (o : Option LinkKind) (b : Bool) → IsFirstAmong x rules_of_targets o → is_some o ≡ not b → IsTrue b ↔ Keeps x
keeps_by x None true none e = yes (λ kind takes h. none kind (takes_place kind takes) h)
keeps_by x (Some first) false found e = no (λ (keeps : Keeps x). keeps first (takes_at found.0 first found.1) found.2)
keeps_by x None false none e = absurd (false≢true e)
keeps_by x (Some first) true found e = absurd (true≢false e)
