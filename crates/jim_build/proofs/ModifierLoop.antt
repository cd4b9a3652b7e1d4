-- The loop that reads modifiers.
use Rattle.std.proofs.Common.{◌≡◌, Bool, true, false, ◌||◌, List, [], ◌∷◌, refl, sym, ap, ◌∙◌}
use Rattle.std.proofs.lemmas.Bool.{false≢true}
use Rattle.jim_signs.specs.declared.seen.Sign.{Sign}
use Rattle.jim_grammar.specs.declared.set.LeadSet.TheVariants.{Modifiers}
use Rattle.jim_grammar.specs.Sets.{is_modifier}
use Rattle.jim_grammar.specs.Expressions.{One, Chosen, spell, spell_each}
use Rattle.jim_stmts.specs.Leads.{lead_at}
use Rattle.jim_build.specs.Members.{has, is_static, is_native, is_abstract}
use Rattle.jim_build.specs.Splits.{flags_of}
use Rattle.jim_build.specs.declared.modifiers.Flags.{Flags}

-- the modifiers that are left are next, and the flags are those of the others
pub record ModifiersThrough (all : List (Chosen Modifiers)) (r now : List Sign) (flags : Flags) : Type 0 where
  pub left : List (Chosen Modifiers)
  pub is_next : now ≡ spell_each (spell (One Modifiers)) left r
  pub statics : has is_static all ≡ flags.is_static || has is_static left
  pub natives : has is_native all ≡ flags.is_native || has is_native left
  pub abstracts : has is_abstract all ≡ flags.is_abstract || has is_abstract left

-- disjunctions in a row
or_assoc : (a b c : Bool) → (a || b) || c ≡ a || (b || c)
or_assoc true b c = refl
or_assoc false b c = refl

-- a disjunction with false
or_false : (a : Bool) → a || false ≡ a
or_false true = refl
or_false false = refl

-- one more modifier
pub modifiers_more : (all : List (Chosen Modifiers)) (r now new : List Sign) (flags after : Flags)
    → ModifiersThrough all r now flags → is_modifier (lead_at r) ≡ false → is_modifier (lead_at now) ≡ true
    → after.is_static ≡ flags.is_static || is_static (lead_at now)
    → after.is_native ≡ flags.is_native || is_native (lead_at now)
    → after.is_abstract ≡ flags.is_abstract || is_abstract (lead_at now)
    → ((s : Sign) (w : List Sign) → now ≡ s ∷ w → new ≡ w)
    → ModifiersThrough all r new after
modifiers_more all r now new flags after t out one s n a rest = go t.left t.is_next t.statics t.natives t.abstracts
  where
    go : (left : List (Chosen Modifiers)) → now ≡ spell_each (spell (One Modifiers)) left r → has is_static all ≡ flags.is_static || has is_static left
        → has is_native all ≡ flags.is_native || has is_native left → has is_abstract all ≡ flags.is_abstract || has is_abstract left → ModifiersThrough all r new after
    go [] h e f g = absurd (false≢true (sym out ∙ (sym (ap (λ w. is_modifier (lead_at w)) h) ∙ one)))
    go (m ∷ ms) h e f g =
        let next : lead_at now ≡ m.lead = ap lead_at h in
        record {
          left = ms;
          is_next = rest _ _ h;
          statics = rw (s, next, or_assoc) e;
          natives = rw (n, next, or_assoc) f;
          abstracts = rw (a, next, or_assoc) g;
        }

-- no modifier is next any more
pub modifiers_end : (all : List (Chosen Modifiers)) (r now : List Sign) (flags : Flags)
    → ModifiersThrough all r now flags → is_modifier (lead_at now) ≡ false
    → (flags ≡ flags_of all) × (now ≡ r)
modifiers_end all r now flags t out = go t.left t.is_next t.statics t.natives t.abstracts
  where
    go : (left : List (Chosen Modifiers)) → now ≡ spell_each (spell (One Modifiers)) left r → has is_static all ≡ flags.is_static || has is_static left
        → has is_native all ≡ flags.is_native || has is_native left → has is_abstract all ≡ flags.is_abstract || has is_abstract left → (flags ≡ flags_of all) × (now ≡ r)
    go [] h e f g = (rw (e, f, g, or_false, or_false, or_false) refl, h)
    go (m ∷ ms) h e f g = absurd (false≢true (sym out ∙ (ap (λ w. is_modifier (lead_at w)) h ∙ m.is_in_set)))
