use Rattle.std.proofs.Common.{◌≡◌, ◌++◌, List, [], ◌∷◌, length, map, append_assoc, append-nil, refl, ap, ◌∙◌, sym, arith}
use Rattle.std.specs.Vec.Iter.{into_iter_items}
use Rattle.std.proofs.lemmas.List.{map-append}
use Rattle.std.proofs.lemmas.List.Elements.{All-push}
use Rattle.query_core.specs.Print.{filter_text}
use Rattle.query_normal.specs.declared.sorting.Printed.{Printed}
use Rattle.query_normal.specs.Printed.{filter_of_printed}
use Rattle.query_normal.proofs.sorting.with_texts.Goals as goal

none_left : {A : Type 0} (xs : List A) → length xs ≡ 0 → xs ≡ []
none_left [] e = refl
none_left (x ∷ xs) e = absurd (omega arith)

-- a filter goes from what is left to what is done
pub loop-filter-preserved : goal.loop-filter-preserved
loop-filter-preserved c =
    let l = c.loop-filter in
    let left = into_iter_items c.next.new.self in
    let taken = c.in-Some.ensures.steps.0 in
    let pair : Printed = record { text = c.in_ok-text.text; filter = c.in-Some.filter } in
    record {
      done = rw c.in_ok-push.ensures.items (
          ap (λ vs. vs ++ left) (map-append filter_of_printed l.all.items (pair ∷ []))
          ∙ append_assoc (map filter_of_printed l.all.items) (c.in-Some.filter ∷ []) left
          ∙ ap (λ vs. map filter_of_printed l.all.items ++ vs) (sym taken)
          ∙ l.invariant.done);
      texts = rw c.in_ok-push.ensures.items (All-push (λ (p : Printed). p.text ≡ filter_text p.filter) l.all.items pair l.invariant.texts c.in_ok-text.ensures);
      length = omega (arith, c.in-Some.ensures.steps.1, ap length c.in-Some.ensures.steps.0);
    }

-- none is left
pub returns-clause-filters : goal.returns-clause-filters
returns-clause-filters c =
    let l = c.loop-filter in
    let none : into_iter_items l.filter-iterator ≡ [] = none_left (into_iter_items l.filter-iterator) (sym l.invariant.length ∙ c.in-None.ensures.steps.0) in
    sym (append-nil (map filter_of_printed l.all.items)) ∙ ap (λ vs. map filter_of_printed l.all.items ++ vs) (sym none) ∙ l.invariant.done
