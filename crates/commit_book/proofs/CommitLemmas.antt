-- The commits as a caller receives them, one by one.
use Rattle.std.proofs.Common.{◌≡◌, ℕ, zero, suc, ◌+◌, ◌-◌, ◌<◌, ◌≤◌, List, [], ◌∷◌, ◌++◌, Some, length, map, take, drop, get_or, slice_get, refl, ap, ◌∙◌, arith}
use Rattle.std.specs.List.{enumerate_from}
use Rattle.std.proofs.lemmas.List.{take_more, map-append, get_or-drop, length-drop}
use Rattle.std.proofs.lemmas.List.FromFn.{length-enumerate_from, get_or-enumerate_from}
use Rattle.std.proofs.lemmas.Option.{slice_get_within, get_or_from_slice_get}
use Rattle.commit_book.specs.declared.change.Change.{Change}
use Rattle.commit_book.specs.CommitRows.{commit_row, commit_rows}

-- an item within a list
pub item_at : {X : Type 0} (xs : List X) (k : ℕ) → k < length xs → (x : X) × (slice_get xs k ≡ Some x)
item_at [] k low = absurd (omega arith)
item_at (x ∷ xs) zero low = (x, refl)
item_at (x ∷ xs) (suc k) low = item_at xs k (omega arith)

-- one commit more
pub commit_rows_more : (journal : List Change) (from n : ℕ) (change : Change) → from ≤ n → slice_get journal n ≡ Some change →
    commit_rows journal from (n + 1) ≡ commit_rows journal from n ++ commit_row journal (n + 1) change ∷ []
commit_rows_more journal from n change forward at =
    let inside = slice_get_within journal n change at in
    let numbered = length-enumerate_from 1 journal in
    let rest = length-drop from (enumerate_from 1 journal) in
    let count : n + 1 - from ≡ n - from + 1 = omega arith in
    let index : from + (n - from) ≡ n = omega arith in
    let number : 1 + n ≡ n + 1 = omega arith in
    let here : get_or (drop from (enumerate_from 1 journal)) (n - from) (0, change) ≡ (n + 1, change) =
    get_or-drop from (enumerate_from 1 journal) (n - from) (0, change)
    ∙ ap (λ (k : ℕ). get_or (enumerate_from 1 journal) k (0, change)) index
    ∙ get_or-enumerate_from 1 journal n (0, change) inside
    ∙ ap (λ (k : ℕ). (k, get_or journal n change)) number
    ∙ ap (λ (c : Change). (n + 1, c)) (get_or_from_slice_get journal n change change at) in
    let more : take (n + 1 - from) (drop from (enumerate_from 1 journal)) ≡ take (n - from) (drop from (enumerate_from 1 journal)) ++ (n + 1, change) ∷ [] =
    ap (λ (k : ℕ). take k (drop from (enumerate_from 1 journal))) count
    ∙ take_more (drop from (enumerate_from 1 journal)) (n - from) (0, change) (omega (arith, rest, numbered, inside))
    ∙ ap (λ (c : ℕ × Change). take (n - from) (drop from (enumerate_from 1 journal)) ++ c ∷ []) here in
    ap (map (λ (c : ℕ × Change). commit_row journal c.0 c.1)) more
    ∙ map-append (λ (c : ℕ × Change). commit_row journal c.0 c.1) (take (n - from) (drop from (enumerate_from 1 journal))) ((n + 1, change) ∷ [])
