-- Heads are numbered one by one.
use Rattle.std.proofs.Common.{◌≡◌, ◌+◌, ◌<◌, ◌≤◌, ◌==◌, ℕ, Bool, true, false, List, [], ◌∷◌, ◌++◌, cond, get_or, length, map, slice_get, take, Some, length-append, refl, sym, ap, ◌∙◌, subst, inl, inr, arith}
use Rattle.std.proofs.lemmas.Bool.{eq-eqb, eqb-false, eqb-true, ne_eqb}
use Rattle.std.proofs.lemmas.List.{take_all, take_more}
use Rattle.auto_table.specs.declared.rule.Rule.{Rule}
use Rattle.lists.specs.Lists.{Has}
use Rattle.lists.proofs.Places.{IsApart-adds, slice_get-append_left, slice_get-push, slice_get-pushed}
use Rattle.weight_laws.specs.Law.{Domain}
use Rattle.rule_cells.specs.declared.cells.Cell.{Cell}
use Rattle.rule_cells.specs.Made.{head_at}
use Rattle.rule_cells.specs.Renamed.{AreHeadsTo, AreNumbered, HaveNumbersTo, renamed, with_head}

module _ {W : Type 0} (d : Domain W) (cells : List (Cell W)) where
  -- a node that is its own head is listed, and no other
  pub head_listed : (heads new : List ℕ) (n : ℕ) → head_at d cells n ≡ n → new ≡ heads ++ n ∷ [] → new ≡ with_head d cells heads n
  head_listed heads new n own is = is ∙ sym (ap (λ b. cond b (heads ++ n ∷ []) heads) (eq-eqb (head_at d cells n) n own))

  pub head_not_listed : (heads : List ℕ) (n : ℕ) → (head_at d cells n ≡ n → ⊥) → heads ≡ with_head d cells heads n
  head_not_listed heads n other = sym (ap (λ b. cond b (heads ++ n ∷ []) heads) (ne_eqb (head_at d cells n) n other))

  pub heads_none : AreHeadsTo d cells 0 [] []
  heads_none = record { many = refl; few = omega arith; each = λ n number at own. cc; are_heads = λ number head at. cc; apart = λ i j x one other. cc }

  pub heads_more : (below : ℕ) (heads numbers : List ℕ) → AreHeadsTo d cells below heads numbers
      → AreHeadsTo d cells (below + 1) (with_head d cells heads below) (numbers ++ length heads ∷ [])
  heads_more below heads numbers was = by (head_at d cells below == below) refl
    where
      more : length (numbers ++ length heads ∷ []) ≡ below + 1
      more = let many = was.many in omega (arith, length-append numbers (length heads ∷ []), many)

      missing : Has heads below → ⊥
      missing has = let low = (was.are_heads has.0 below has.1).1 in omega (arith, low)

      by : (b : Bool) → (head_at d cells below == below) ≡ b → AreHeadsTo d cells (below + 1) (cond b (heads ++ below ∷ []) heads) (numbers ++ length heads ∷ [])
      by true own = record {
        many = more;
        few = let few = was.few in omega (arith, length-append heads (below ∷ []), few);
        each = λ n number at is. elim (slice_get-pushed numbers (length heads) n number at) [
          | inl old ↦ slice_get-append_left heads (below ∷ []) number n (was.each n number old is)
          | inr new ↦
              let node : n ≡ below = new.0 ∙ was.many in
              ap (slice_get (heads ++ below ∷ [])) new.1 ∙ slice_get-push heads below ∙ ap Some (sym node)
        ];
        are_heads = λ number head at. elim (slice_get-pushed heads below number head at) [
          | inl old ↦ let h = was.are_heads number head old in (h.0, (let low = h.1 in omega (arith, low)))
          | inr new ↦ (subst (λ (k : ℕ). head_at d cells k ≡ k) (sym new.1) (eqb-true (head_at d cells below) below own), (let same = new.1 in omega (arith, same)))
        ];
        apart = IsApart-adds heads (heads ++ below ∷ []) below was.apart (inr (missing, refl));
      }
      by false other = record {
        many = more;
        few = let few = was.few in omega (arith, few);
        each = λ n number at is. elim (slice_get-pushed numbers (length heads) n number at) [
          | inl old ↦ was.each n number old is
          | inr new ↦
              let node : n ≡ below = new.0 ∙ was.many in
              absurd (eqb-false (head_at d cells below) below other (subst (λ (k : ℕ). head_at d cells k ≡ k) node is))
        ];
        are_heads = λ number head at. let h = was.are_heads number head at in (h.0, (let low = h.1 in omega (arith, low)));
        apart = was.apart;
      }

  pub numbers_none : (own : List ℕ) → HaveNumbersTo d cells own 0 []
  numbers_none own = record { many = refl; each = λ n number at. cc }

  pub numbers_more : (own : List ℕ) (below number : ℕ) (numbers : List ℕ) → slice_get own (head_at d cells below) ≡ Some number → HaveNumbersTo d cells own below numbers
      → HaveNumbersTo d cells own (below + 1) (numbers ++ number ∷ [])
  numbers_more own below number numbers is was = record {
    many = let many = was.many in omega (arith, length-append numbers (number ∷ []), many);
    each = λ n x at. elim (slice_get-pushed numbers number n x at) [
      | inl old ↦ was.each n x old
      | inr new ↦ ap (λ (k : ℕ). slice_get own (head_at d cells k)) (new.0 ∙ was.many) ∙ is ∙ ap Some (sym new.1)
    ];
  }

  pub numbered : (count : ℕ) (heads own numbers : List ℕ) → length cells ≡ count → ((n : ℕ) → head_at d cells (head_at d cells n) ≡ head_at d cells n)
      → AreHeadsTo d cells count heads own → HaveNumbersTo d cells own count numbers → AreNumbered d cells heads numbers
  numbered count heads own numbers many flat are have = record {
    many = have.many ∙ sym many;
    few = let few = are.few in omega (arith, few, many);
    each = λ n number at. are.each (head_at d cells n) number (have.each n number at) (flat n);
    are_heads = λ number head at. (are.are_heads number head at).0;
    apart = are.apart;
  }

module _ {W : Type 0} (f : ℕ → ℕ) where
  renamed_pushed : (rules : List (Rule W)) (r : Rule W) → map (renamed f) (rules ++ r ∷ []) ≡ map (renamed f) rules ++ renamed f r ∷ []
  renamed_pushed [] r = refl
  renamed_pushed (q ∷ rules) r = ap (λ (rs : List (Rule W)). renamed f q ∷ rs) (renamed_pushed rules r)

  pub renamed_more : (rules few : List (Rule W)) (i : ℕ) (r q : Rule W) → i < length rules → r ≡ get_or rules i r → q ≡ renamed f r → few ≡ map (renamed f) (take i rules)
      → few ++ q ∷ [] ≡ map (renamed f) (take (i + 1) rules)
  renamed_more rules few i r q below is renames was =
      ap (λ (rs : List (Rule W)). rs ++ q ∷ []) was ∙ ap (λ (x : Rule W). map (renamed f) (take i rules) ++ x ∷ []) renames
      ∙ sym (ap (map (renamed f)) (take_more rules i r below ∙ ap (λ (x : Rule W). take i rules ++ x ∷ []) (sym is)) ∙ renamed_pushed (take i rules) r)

  pub renamed_all : (rules few : List (Rule W)) (i : ℕ) → length rules ≤ i → few ≡ map (renamed f) (take i rules) → few ≡ map (renamed f) rules
  renamed_all rules few i all was = was ∙ ap (map (renamed f)) (take_all i rules all)
