-- The rows of commits, one by one.
use Rattle.std.proofs.Common.{◌≡◌, ℕ, zero, suc, ◌+◌, ◌-◌, ◌<◌, ◌≤◌, List, [], ◌∷◌, length, take, drop, get_or, slice_get, Some, refl, ap, ap₂, ◌∙◌, arith}
use Rattle.std.specs.List.{enumerate_from}
use Rattle.std.proofs.lemmas.List.{get_or-drop, length-drop, get_or-take, get_or-map, length-map, length-take-le}
use Rattle.std.proofs.lemmas.List.FromFn.{length-enumerate_from, get_or-enumerate_from}
use Rattle.std.proofs.lemmas.Option.{get_or_from_slice_get}
use Rattle.commit_book.specs.declared.change.Change.{Change}
use Rattle.commit_book.specs.declared.change.CommitRow.{CommitRow}
use Rattle.commit_book.specs.CommitRows.{commit_row, commit_rows}
use Rattle.active_queries.specs.Following.{IsRowAfter}

item_at : {X : Type 0} (xs : List X) (k : ℕ) → k < length xs → (x : X) × (slice_get xs k ≡ Some x)
item_at [] k low = absurd (omega (arith, low))
item_at (x ∷ xs) zero low = (x, refl)
item_at (x ∷ xs) (suc k) low = item_at xs k (omega (arith, low))

pub length-commit_rows : (journal : List Change) (from to : ℕ) → from ≤ to → to ≤ length journal → length (commit_rows journal from to) ≡ to - from
length-commit_rows journal from to forward within =
    let numbered = length-enumerate_from 1 journal in
    let rest = length-drop from (enumerate_from 1 journal) in
    length-map (take (to - from) (drop from (enumerate_from 1 journal))) (λ (c : ℕ × Change). commit_row journal c.0 c.1)
    ∙ length-take-le (to - from) (drop from (enumerate_from 1 journal)) (omega (arith, rest, numbered, within, forward))

-- the row at a place is that of its commit
pub row_there : (journal : List Change) (from n to : ℕ) (row : CommitRow) → from ≤ n → n < to → to ≤ length journal → row ≡ get_or (commit_rows journal from to) (n - from) row → IsRowAfter journal n row
row_there journal from n to row behind below within is =
    let found = item_at journal n (omega (arith, below, within)) in
    let change = found.0 in
    let numbered = length-enumerate_from 1 journal in
    let rest = length-drop from (enumerate_from 1 journal) in
    let low : n - from < to - from = omega (arith, behind, below) in
    let fits : to - from ≤ length (drop from (enumerate_from 1 journal)) = omega (arith, rest, numbered, within, behind, below) in
    let number : 1 + n ≡ suc n = omega arith in
    let index : from + (n - from) ≡ n = omega (arith, behind) in
    let own = length-take-le (to - from) (drop from (enumerate_from 1 journal)) fits in
    let here : get_or (take (to - from) (drop from (enumerate_from 1 journal))) (n - from) (0, change) ≡ (suc n, change) =
    get_or-take (to - from) (drop from (enumerate_from 1 journal)) (n - from) (0, change) low
    ∙ get_or-drop from (enumerate_from 1 journal) (n - from) (0, change)
    ∙ ap (λ (k : ℕ). get_or (enumerate_from 1 journal) k (0, change)) index
    ∙ get_or-enumerate_from 1 journal n (0, change) (omega (arith, below, within))
    ∙ ap (λ (k : ℕ). (k, get_or journal n change)) number
    ∙ ap (λ (c : Change). (suc n, c)) (get_or_from_slice_get journal n change change found.1) in (
      change,
      found.1,
      is
          ∙ get_or-map (λ (c : ℕ × Change). commit_row journal c.0 c.1) (take (to - from) (drop from (enumerate_from 1 journal))) (n - from) (0, change) row (omega (arith, own, low))
          ∙ ap (λ (c : ℕ × Change). commit_row journal c.0 c.1) here,
    )

-- the row at an index is that of the next commit
pub row-next : (journal : List Change) (from i to : ℕ) (row : CommitRow) (rows : List CommitRow) → from ≤ to → to ≤ length journal → rows ≡ commit_rows journal from to → i < length rows → row ≡ get_or rows i row → IsRowAfter journal (from + i) row
row-next journal from i to row rows forward within are low is =
    let count = ap length are ∙ length-commit_rows journal from to forward within in
    let place : i ≡ from + i - from = omega arith in
    row_there journal from (from + i) to row (omega arith) (omega (arith, count, low, forward)) within (is ∙ ap₂ (λ (xs : List CommitRow) (n : ℕ). get_or xs n row) are place)

pub row-number : (journal : List Change) (n : ℕ) (row : CommitRow) → IsRowAfter journal n row → row.commit ≡ suc n
row-number journal n row after = ap (λ (r : CommitRow). r.commit) after.2
