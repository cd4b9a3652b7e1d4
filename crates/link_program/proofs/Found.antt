-- What is found among the methods.
use Rattle.std.proofs.Common.{◌≡◌, ℕ, zero, suc, ◌+◌, ◌<◌, ◌≤◌, List, [], ◌∷◌, Some, length, map, slice_get, get_or, All, refl, sym, ap, subst, ◌∙◌, arith}
use Rattle.std.specs.Option.{option_map}
use Rattle.std.proofs.lemmas.Option.{slice_get-get_or, slice_get-map, same_Some}
use Rattle.lists.specs.Lists.{IsLeast, Has}
use Rattle.lists.proofs.Places.{slice_get-below, slice_get-there}
use Rattle.lists.proofs.Joined.{slice_get-mapped}
use Rattle.link_rules.specs.Linked.{LinkedMethod, LinkedProgram}
use Rattle.link_indexes.specs.declared.method.MethodCode.{MethodCode}
use Rattle.link_rules.specs.Accessed.{HasText, IsFirstPlace}
use Rattle.link_program.specs.Methods.{IsBodyOf, IsHead, IsHeadOf, joined, linked_method, texts_of}
use Rattle.link_program.specs.declared.method.MethodHead.{MethodHead}
use Rattle.link_program.proofs.Joined.{length-joined, slice_get-joined}

-- what stands at a place of a mapped list
pub at_map : {X Y : Type 0} (f : X → Y) (xs : List X) (i : ℕ) (x : X) → slice_get xs i ≡ Some x → slice_get (map f xs) i ≡ Some (f x)
at_map f xs i x e = slice_get-map f xs i ∙ ap (option_map f) e

-- the method with this number, by its parts
module _ (hs : List MethodHead) (bs : List MethodCode) (as_many : length hs ≡ length bs) (i : ℕ) (m : LinkedMethod) (there : slice_get (joined hs bs) i ≡ Some m) where
  -- its number is below those of the heads
  below_heads : i < length hs
  below_heads = omega (arith, slice_get-below (joined hs bs) i m there, length-joined hs bs as_many)

  -- it is what is joined there
  is_joined : (h : MethodHead) (b : MethodCode) → slice_get hs i ≡ Some h → slice_get bs i ≡ Some b → linked_method h b ≡ m
  is_joined h b p q = same_Some (linked_method h b) m (sym (slice_get-joined hs bs i h b p q) ∙ there)

  -- the code there is its code
  pub body_of : (b : MethodCode) → b ≡ get_or bs i b → IsBodyOf m b
  body_of b read =
      let h = slice_get-there hs i below_heads in
      let q : slice_get bs i ≡ Some b = slice_get-get_or bs i b (let less = below_heads in omega (arith, less, as_many)) ∙ ap Some (sym read) in
      let same = is_joined h.0 b h.1 q in
      record { code = ap (λ (x : LinkedMethod). x.code) (sym same); catches = ap (λ (x : LinkedMethod). x.catches) (sym same) }

  -- the head there is its head
  pub head_of : (h : MethodHead) → h ≡ get_or hs i h → All IsHead hs → IsHeadOf m h
  head_of h read few =
      let p : slice_get hs i ≡ Some h = slice_get-get_or hs i h below_heads ∙ ap Some (sym read) in
      let b = slice_get-there bs i (let less = below_heads in omega (arith, less, as_many)) in
      let same = is_joined h b.0 p b.1 in
      record {
        text = ap (λ (x : LinkedMethod). x.text) (sym same);
        has_this = ap (λ (x : LinkedMethod). x.has_this) (sym same);
        params = ap (λ (x : LinkedMethod). x.params) (sym same);
        locals = ap (λ (x : LinkedMethod). x.locals) (sym same);
        elements = ap (λ (x : LinkedMethod). x.elements) (sym same);
        few_locals = subst IsHead (sym read) (few i h below_heads);
      }

-- the first method of a text, which isn't the root
module _ (p : LinkedProgram) (text : List ℕ) where
  -- a method of the text stands at its number
  of_text : (n : ℕ) → HasText p text n → slice_get (texts_of p.methods) n ≡ Some text
  of_text n h = at_map (λ (m : LinkedMethod). m.text) p.methods n h.method h.there ∙ ap Some h.is_text

  -- the first of the text, where it isn't the root
  pub first_text : (n : ℕ) → IsFirstPlace (texts_of p.methods) text n → n + 1 < length p.methods → IsLeast (HasText p text) n
  first_text n is less =
      let m = slice_get-mapped (λ (m : LinkedMethod). m.text) p.methods n text is.holds in
      record {
        holds = record { method = m.0; there = m.1; not_root = less; is_text = m.2 };
        first = λ k before h. is.first k before (of_text k h);
      }

  -- no method has a text that isn't there
  pub no_text : (Has (texts_of p.methods) text → ⊥) → (n : ℕ) → HasText p text n → ⊥
  no_text none n h = none (n, of_text n h)

  -- a text that only the root has
  pub root_text : (first root : ℕ) → IsFirstPlace (texts_of p.methods) text first → root ≤ first → root + 1 ≡ length p.methods → (n : ℕ) → HasText p text n → ⊥
  root_text first root is late last n h = is.first n (let less = h.not_root in omega (arith, less, late, last)) (of_text n h)
