-- Candidates, one document after another, and the first of them in order.
use Rattle.std.proofs.Common.{◌≡◌, ℕ, suc, ◌+◌, ◌-◌, ◌<◌, List, [], ◌∷◌, ◌++◌, map, take, drop, min, length, get_or, ◌≤◌, Bool, inl, inr, true, false, not, refl, sym, ap, ◌∙◌, arith, Option, None, Some, subst}
use Rattle.std.specs.List.{filter, All}
use Rattle.std.specs.Ordering.{is_lt}
use Rattle.std.proofs.lemmas.Bool.{cases_Bool}
use Rattle.std.proofs.lemmas.List.{take_more, map-append, take_all, take_min, drop_min, take-map, take-take, drop-map, drop-take, get_or-map, length-map}
use Rattle.std.proofs.lemmas.List.Elements.{All-push, All-same, All-take, All-get_or, All-from_recursion, recursion_from_All}
use Rattle.query_core.specs.declared.query.Query.{Query}
use Rattle.query_core.specs.declared.windows.Candidate.{Candidate}
use Rattle.query_core.specs.Window.{Row, Order, rows_cmp, in_order, matches}
use Rattle.query_core.specs.Candidates.{row_of, candidates_cmp, IsRanked, IsPast, is_past, IsLast, Closes, AreFirsts, AreFirst}
use Rattle.query_core.proofs.Firsts.{placed_alike, in_order-push, push_alike, past-placed, past_stays, past_chain, past_last, in_order_same, first_rise}
use Rattle.query_core.proofs.Rising.{Rises, map-in_order, in_order_all}
use Rattle.query_core.proofs.RowOrder.{candidates_agree, rows_cmp_total}

filter-push_yes : {X : Type 0} (p : X → Bool) (xs : List X) (x : X) → p x ≡ true → filter p (xs ++ x ∷ []) ≡ filter p xs ++ x ∷ []
filter-push_yes p [] x h = rw h
filter-push_yes p (y ∷ ys) x h = elim (cases_Bool (p y)) [ inl e ↦ rw e (ap (λ l. y ∷ l) (filter-push_yes p ys x h)) | inr e ↦ rw e (filter-push_yes p ys x h) ]

filter-push_no : {X : Type 0} (p : X → Bool) (xs : List X) (x : X) → p x ≡ false → filter p (xs ++ x ∷ []) ≡ filter p xs
filter-push_no p [] x h = rw h
filter-push_no p (y ∷ ys) x h = elim (cases_Bool (p y)) [ inl e ↦ rw e (ap (λ l. y ∷ l) (filter-push_no p ys x h)) | inr e ↦ rw e (filter-push_no p ys x h) ]

one_more : {X : Type 0} (xs : List X) (i : ℕ) (x : X) → i < length xs → x ≡ get_or xs i x → take (i + 1) xs ≡ take i xs ++ x ∷ []
one_more xs i x l e = take_more xs i x l ∙ ap (λ y. take i xs ++ y ∷ []) (sym e)

-- one more document that satisfies
pub filter-take_yes : {X : Type 0} (p : X → Bool) (xs : List X) (i : ℕ) (x : X) → i < length xs → x ≡ get_or xs i x → p x ≡ true → filter p (take (i + 1) xs) ≡ filter p (take i xs) ++ x ∷ []
filter-take_yes p xs i x l e h = ap (filter p) (one_more xs i x l e) ∙ filter-push_yes p (take i xs) x h

-- one more that does not
pub filter-take_no : {X : Type 0} (p : X → Bool) (xs : List X) (i : ℕ) (x : X) → i < length xs → x ≡ get_or xs i x → p x ≡ false → filter p (take (i + 1) xs) ≡ filter p (take i xs)
filter-take_no p xs i x l e h = ap (filter p) (one_more xs i x l e) ∙ filter-push_no p (take i xs) x h

-- what is left of a list without the first ones and cut off, seen by a part of each item
pub map-slice : {X Y : Type 0} (f : X → Y) (xs rest kept : List X) (skip count i : ℕ) → rest ≡ drop (min skip (length xs)) xs → kept ≡ take (min count (length rest)) rest → length kept ≤ i
    → map f (take i kept) ≡ take count (drop skip (map f xs))
map-slice f xs rest kept skip count i r k l =
    ap (map f) (take_all i kept l ∙ k ∙ take_min count rest ∙ ap (take count) (r ∙ drop_min skip xs))
    ∙ sym (take-map f count (drop skip xs))
    ∙ ap (take count) (sym (drop-map f skip xs))

-- ---- the first of candidates in order

-- candidates in order are their rows in order
rows_in_order : (order : Order) (found : List Candidate) → All (IsRanked order) found
    → map row_of (in_order (candidates_cmp order 0) found) ≡ in_order (rows_cmp order) (map row_of found)
rows_in_order order found ranked =
    map-in_order row_of (candidates_cmp order 0) (rows_cmp order) (IsRanked order) (candidates_agree order) found (recursion_from_All (IsRanked order) found ranked)

not_true : (b : Bool) → not b ≡ true → b ≡ false
not_true true h = absurd (cc)
not_true false h = refl

-- what is not before the last one that counts stays away
pub firsts_leave : (order : Order) (count : ℕ) (seen : List Row) (found : List Candidate) (last : Option Candidate) (new : Candidate) → IsRanked order new → AreFirsts order count seen found last
    → is_past order last new ≡ true → AreFirsts order count (seen ++ row_of new ∷ []) found last
firsts_leave order count seen found None new ranked are past = absurd (cc)
firsts_leave order count seen found (Some last) new ranked are past =
    let before : is_lt (rows_cmp order (row_of new) (row_of last)) ≡ false =
    ap is_lt (sym (candidates_agree order new last ranked are.closed.0)) ∙ not_true (is_lt (candidates_cmp order 0 new last)) past in
    let rows : List Row = map row_of found in
    let behind = past_chain (rows_cmp order) (rows_cmp_total order) count (row_of last) (row_of new) (in_order (rows_cmp order) rows) before are.closed.1 in
    record {
      same =
          sym (past-placed (rows_cmp order) (rows_cmp_total order) count (row_of new) (in_order (rows_cmp order) rows) behind)
          ∙ placed_alike (rows_cmp order) count (row_of new) (in_order (rows_cmp order) rows) (in_order (rows_cmp order) seen) are.same
          ∙ sym (ap (take count) (in_order-push (rows_cmp order) seen (row_of new)));
      ranked = are.ranked;
      closed = are.closed;
    }

rows-push : (found : List Candidate) (new : Candidate) → map row_of (found ++ new ∷ []) ≡ map row_of found ++ row_of new ∷ []
rows-push found new = map-append row_of found (new ∷ [])

closes_still : (order : Order) (count : ℕ) (found : List Candidate) (last : Option Candidate) (new : Candidate) → Closes order count found last → Closes order count (found ++ new ∷ []) last
closes_still order count found None new closed = tt
closes_still order count found (Some last) new closed = (
  closed.0,
  subst (λ (rows : List Row). IsPast (rows_cmp order) count (row_of last) rows)
      (sym (ap (in_order (rows_cmp order)) (rows-push found new) ∙ in_order-push (rows_cmp order) (map row_of found) (row_of new)))
      (past_stays (rows_cmp order) (rows_cmp_total order) count (row_of last) (row_of new) (in_order (rows_cmp order) (map row_of found)) closed.1),
)

-- one more candidate is taken
pub firsts_push : (order : Order) (count : ℕ) (seen : List Row) (found : List Candidate) (last : Option Candidate) (new : Candidate) → IsRanked order new → AreFirsts order count seen found last
    → AreFirsts order count (seen ++ row_of new ∷ []) (found ++ new ∷ []) last
firsts_push order count seen found last new ranked are = record {
  same =
      ap (λ rows. take count (in_order (rows_cmp order) rows)) (rows-push found new)
      ∙ push_alike (rows_cmp order) count (row_of new) (map row_of found) seen are.same;
  ranked = All-push (IsRanked order) found new are.ranked ranked;
  closed = closes_still order count found last new are.closed;
}

closes_at_last : (order : Order) (count : ℕ) (found : List Candidate) (last : Option Candidate) → Rises (rows_cmp order) (rows_cmp_total order) (map row_of found) → All (IsRanked order) found
    → IsLast count found last → Closes order count found last
closes_at_last order count found None rises ranked is = tt
closes_at_last order count found (Some last) rises ranked is =
    let within : count - 1 < length found = omega (arith, is.0, is.1) in
    let at : get_or (map row_of found) (count - 1) (row_of last) ≡ row_of last = get_or-map row_of found (count - 1) last (row_of last) within ∙ ap row_of (sym is.2) in
    let rows : List Row = map row_of found in
    let many : length rows ≡ suc (count - 1) = omega (arith, length-map found row_of, is.0, is.1) in (
      subst (IsRanked order) (sym is.2) (All-get_or (IsRanked order) found (count - 1) last within ranked),
      subst (λ (r : Row). IsPast (rows_cmp order) count r (in_order (rows_cmp order) rows)) at
          (subst (λ (l : List Row). IsPast (rows_cmp order) count (get_or rows (count - 1) (row_of last)) l) (sym (in_order_same (rows_cmp order) (rows_cmp_total order) rows rises))
          (past_last (rows_cmp order) (rows_cmp_total order) rows (count - 1) count (row_of last) rises many (omega (arith, is.0)))),
    )

-- the candidates are cut off
pub firsts_cut : (order : Order) (count : ℕ) (seen : List Row) (found kept : List Candidate) (was last : Option Candidate) → AreFirsts order count seen found was
    → kept ≡ take count (in_order (candidates_cmp order 0) found) → IsLast count kept last → AreFirsts order count seen kept last
firsts_cut order count seen found kept was last are cut is =
    let rows : map row_of kept ≡ take count (in_order (rows_cmp order) (map row_of found)) =
    ap (map row_of) cut ∙ sym (take-map row_of count (in_order (candidates_cmp order 0) found)) ∙ ap (take count) (rows_in_order order found are.ranked) in
    let rises : Rises (rows_cmp order) (rows_cmp_total order) (map row_of kept) =
    subst (λ (l : List Row). Rises (rows_cmp order) (rows_cmp_total order) l) (sym rows) (first_rise (rows_cmp order) (rows_cmp_total order) count (map row_of found)) in
    let ranked : All (IsRanked order) kept =
    All-same (IsRanked order) kept (take count (in_order (candidates_cmp order 0) found)) cut
    (All-take (IsRanked order) count (in_order (candidates_cmp order 0) found)
    (All-from_recursion (IsRanked order) (in_order (candidates_cmp order 0) found) (in_order_all (IsRanked order) (candidates_cmp order 0) found (recursion_from_All (IsRanked order) found are.ranked)))) in
    record {
      same =
          ap (take count) (in_order_same (rows_cmp order) (rows_cmp_total order) (map row_of kept) rises ∙ rows)
          ∙ take-take count count (in_order (rows_cmp order) (map row_of found)) (omega arith)
          ∙ are.same;
      ranked = ranked;
      closed = closes_at_last order count kept last rises ranked is;
    }

-- candidates in order begin with the first rows that satisfy
pub firsts_sorted : (q : Query) (docs : List Row) (count : ℕ) (order : Order) (found sorted : List Candidate) → AreFirst q docs count found → order ≡ q.order → sorted ≡ in_order (candidates_cmp order 0) found
    → take count (map row_of sorted) ≡ take count (matches q docs)
firsts_sorted q docs count order found sorted are o s =
    ap (λ l. take count (map row_of l)) (s ∙ ap (λ p. in_order (candidates_cmp p 0) found) o) ∙ ap (take count) (rows_in_order q.order found are.ranked) ∙ are.same

-- a window is made of the first rows alone
pub window-firsts : (skip count : ℕ) (xs ys : List Row) → take (skip + count) xs ≡ take (skip + count) ys → take count (drop skip xs) ≡ take count (drop skip ys)
window-firsts skip count xs ys h = sym (drop-take skip count xs) ∙ ap (drop skip) h ∙ drop-take skip count ys
