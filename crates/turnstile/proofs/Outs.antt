-- How many of the seats that were split off the first one are out.
use Rattle.std.proofs.Common.{◌≡◌, ℕ, zero, suc, ◌+◌, List, [], ◌∷◌, ◌++◌, refl, sym, ap, ◌∙◌, subst, arith}
use Rattle.turnstile.specs.declared.view.View.{View}
use Rattle.turnstile.specs.Views.{opening_view, with_seen, after_split, split_view, after_join}
use Rattle.turnstile.specs.Levels.{occurs, level_of, AreAll, Out}
use Rattle.turnstile.proofs.Totals.{occurs_append, occurs_behind}

pub out_first : Out 0 (0 ∷ []) []
out_first = record { top = refl; first = refl; above = refl; missing = refl; deeper = λ n less. occurs_behind n 0 [] (λ e. omega (arith, less, e)) }

one_more : (count : ℕ) (ls cs : List ℕ) → Out count ls cs → Out (count + 1) ls (1 ∷ cs)
one_more count ls cs o = record {
  top = o.top;
  first = o.first;
  above = occurs_behind 0 1 cs (λ e. omega (arith, e)) ∙ o.above;
  missing = omega (arith, o.missing);
  deeper = λ n less. o.deeper n less ∙ sym (occurs_behind n 1 cs (λ e. omega (arith, less, e)));
}

pub out_split : (count : ℕ) (ls cs : List ℕ) → Out count ls cs → Out (count + 1) ls (suc (level_of ls) ∷ cs)
out_split count ls cs o = subst (λ l. Out (count + 1) ls (suc l ∷ cs)) (sym o.top) (one_more count ls cs o)

pub part_split : (count : ℕ) (ls cs : List ℕ) → Out count ls cs → suc (level_of ls) ∷ [] ≡ 1 ∷ []
part_split count ls cs o = ap (λ l. suc l ∷ []) o.top

top_joined : (ls ms : List ℕ) → occurs 0 ls ≡ 1 → level_of ls ≡ 0 → level_of (ls ++ ms) ≡ 0
top_joined [] ms first top = absurd (omega (arith, first))
top_joined (x ∷ ls) ms first top = top

one_less : (count : ℕ) (ls cs : List ℕ) → Out (count + 1) ls cs → Out count (ls ++ 1 ∷ []) (cs ++ [])
one_less count ls cs o = record {
  top = top_joined ls (1 ∷ []) o.first o.top;
  first = omega (arith, occurs_append 0 ls (1 ∷ []), o.first);
  above = omega (arith, occurs_append 0 cs [], o.above);
  missing = omega (arith, occurs_append 1 ls (1 ∷ []), occurs_append 1 cs [], o.missing);
  deeper = λ n less. omega (arith, occurs_append n ls (1 ∷ []), occurs_append n cs [], occurs_behind n 1 [] (λ e. omega (arith, less, e)), o.deeper n less);
}

pub out_join : (count : ℕ) (ls cs ms ds : List ℕ) → Out (count + 1) ls cs → ms ≡ 1 ∷ [] → ds ≡ [] → Out count (ls ++ ms) (cs ++ ds)
out_join count ls cs ms ds o is none = subst (λ m. Out count (ls ++ m) (cs ++ ds)) (sym is) (subst (λ d. Out count (ls ++ 1 ∷ []) (cs ++ d)) (sym none) (one_less count ls cs o))

pub out_none : (ls cs : List ℕ) → Out 0 ls cs → AreAll ls cs
out_none ls cs o zero = omega (arith, o.first, o.above)
out_none ls cs o (suc zero) = omega (arith, o.missing, occurs_behind 1 0 cs (λ e. omega (arith, e)))
out_none ls cs o (suc (suc n)) = omega (arith, o.deeper (suc (suc n)) (omega arith), occurs_behind (suc (suc n)) 0 cs (λ e. omega (arith, e)))

out_to : {E K : Type 0} → (count : ℕ) (v w : View E K) → w ≡ v → Out count v.levels v.children → Out count w.levels w.children
out_to {E} {K} count v w is = subst (λ (u : View E K). Out count u.levels u.children) (sym is)

-- The same of the views that the calls leave.
module _ {E K S : Type 0} where
  pub out_opened : (key : K) (m : View E K × S) (held : S) → m ≡ (opening_view key, held) → Out 0 m.0.levels m.0.children
  out_opened key m held is = out_to 0 (opening_view key) m.0 (ap (λ (z : View E K × S). z.0) is) out_first

  pub out_after_split : (v : View E K) (m r : View E K × S) (held none : S) → m ≡ (after_split v, held) → r ≡ (split_view v, none) → (n : ℕ) → Out n v.levels v.children
      → Out (n + 1) m.0.levels m.0.children × ((r.0.levels ≡ 1 ∷ []) × (r.0.children ≡ []))
  out_after_split v m r held none left right n o = (
    out_to (n + 1) (after_split v) m.0 (ap (λ (z : View E K × S). z.0) left) (out_split n v.levels v.children o),
    (ap (λ (z : View E K × S). z.0.levels) right ∙ part_split n v.levels v.children o, ap (λ (z : View E K × S). z.0.children) right),
  )

  pub out_after_join : (v w : View E K) (m : View E K × S) (held : S) (l : View E K) → m ≡ (after_join v w, held) → l ≡ with_seen l.seen m.0 → (n : ℕ) → Out (n + 1) v.levels v.children
      → (w.levels ≡ 1 ∷ []) × (w.children ≡ []) → Out n l.levels l.children
  out_after_join v w m held l joined seen n o part =
      let both : Out n m.0.levels m.0.children = out_to n (after_join v w) m.0 (ap (λ (z : View E K × S). z.0) joined) (out_join n v.levels v.children w.levels w.children o part.0 part.1) in
      out_to n (with_seen l.seen m.0) l seen both
