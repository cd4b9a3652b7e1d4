use Rattle.std.proofs.Common.{◌≡◌, ℕ, ◌<◌, ◌++◌, List, [], ◌∷◌, false, get_or, length, slice_get, take, ap, sym, ◌∙◌, arith}
use Rattle.std.proofs.lemmas.List.{map_push, take_more, take_all}
use Rattle.class_tree.specs.FirstFields.{rows_of_firsts}
use Rattle.class_tree.proofs.first_fields.rows_of_firsts.Goals as goal

pub loop-class-preserved : goal.loop-class-preserved
loop-class-preserved c =
    let h : c.loop-class.class < length c.args.interfaces.now = omega (arith, c.loop-class-test.true, c.len-class-end.ensures) in
    let first : c.copied.result ≡ slice_get (get_or c.args.interfaces.now c.loop-class.class []) 0 = c.copied.ensures ∙ c.first.ensures.value ∙ ap (λ xs. slice_get xs 0) c.get.ensures in
    rw c.in_ok-push.ensures.items (record {
      rows = ap (λ xs. xs ++ record { parent = c.copied.result; interface = false } ∷ []) c.loop-class.invariant.rows
          ∙ ap (λ o. rows_of_firsts (take c.loop-class.class c.args.interfaces.now) ++ record { parent = o; interface = false } ∷ []) first
          ∙ sym (ap rows_of_firsts (take_more c.args.interfaces.now c.loop-class.class [] h)
          ∙ map_push (λ (listed : List ℕ). record { parent = slice_get listed 0; interface = false }) (take c.loop-class.class c.args.interfaces.now) (get_or c.args.interfaces.now c.loop-class.class []));
      within = omega (arith, h);
    })

pub returns : goal.returns
returns c = c.loop-class.invariant.rows ∙ ap rows_of_firsts (take_all c.loop-class.class c.args.interfaces.now (omega (arith, c.loop-class-test.false, c.len-class-end.ensures)))
