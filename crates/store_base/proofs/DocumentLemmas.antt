-- The documents of commits are those of their rows, and later commits change them alike.
use Rattle.std.proofs.Common.{◌≡◌, ℕ, zero, suc, ◌+◌, ◌-◌, ◌≤◌, Bool, true, false, not, ◌&&◌, ◌||◌, List, [], ◌∷◌, ◌++◌, map, filter, length, take, drop, Option, Some, None, is_some, if◌then◌else◌, slice_get, refl, sym, ap, ap₂, ◌∙◌, arith, inl, inr}
use Rattle.std.proofs.lemmas.Bool.{cases_Bool}
use Rattle.std.specs.List.{list_any}
use Rattle.std.proofs.lemmas.List.{append-nil, map-append}
use Rattle.std.proofs.lemmas.List.Folds.{list_any-append}
use Rattle.q_doc.specs.Tree.{Tree}
use Rattle.commit_book.specs.declared.change.Change.{Change}
use Rattle.commit_book.specs.Journal.{is_of, put_at, document_after, document_at}
use Rattle.commit_book.proofs.GrowLemmas.{document_prefix}
use Rattle.store_base.specs.declared.base.BaseRow.{BaseRow}
use Rattle.store_base.specs.declared.base.DatedChange.{DatedChange}
use Rattle.store_base.specs.Bases.{Base, changes_of, lives, rows_from, last_clock, last_deleted, base_from, base_of, expanded}
use Rattle.store_base.proofs.RowLemmas.{names_are, has, has_row, no_row, filled, heads_of, expanded_is, length-filled, rows_filled, clock_filled, deleted_filled}

-- ---- lists

length-map : {X Y : Type 0} (f : X → Y) (xs : List X) → length (map f xs) ≡ length xs
length-map f [] = refl
length-map f (x ∷ xs) = ap suc (length-map f xs)

drop_parts : {X : Type 0} (xs : List X) (n : ℕ) (y : X) (ys : List X) → drop n xs ≡ y ∷ ys → (slice_get xs n ≡ Some y) × (drop (suc n) xs ≡ ys)
drop_parts [] zero y ys e = absurd (cc)
drop_parts [] (suc n) y ys e = absurd (cc)
drop_parts (x ∷ xs) zero y ys e = (let same : x ≡ y = cc in ap Some same, cc)
drop_parts (x ∷ xs) (suc n) y ys e = drop_parts xs n y ys e

slice_get_behind : {X : Type 0} (xs ys : List X) (k : ℕ) → slice_get (xs ++ ys) (k + length xs) ≡ slice_get ys k
slice_get_behind [] ys k = (let same : k + 0 ≡ k = omega arith in ap (slice_get ys) same)
slice_get_behind (x ∷ xs) ys k = (let next : k + suc (length xs) ≡ suc (k + length xs) = omega arith in ap (slice_get (x ∷ xs ++ ys)) next ∙ slice_get_behind xs ys k)

pub take_drop : {X : Type 0} (n : ℕ) (xs : List X) → take n xs ++ drop n xs ≡ xs
take_drop zero xs = refl
take_drop (suc n) [] = refl
take_drop (suc n) (x ∷ xs) = ap (λ (ys : List _). x ∷ ys) (take_drop n xs)

pub length_take : {X : Type 0} (n : ℕ) (xs : List X) → n ≤ length xs → length (take n xs) ≡ n
length_take zero xs within = refl
length_take (suc n) [] within = absurd (omega (arith, within))
length_take (suc n) (x ∷ xs) within = ap suc (length_take n xs (omega (arith, within)))

take_behind : {X : Type 0} (xs ys : List X) (n : ℕ) → take (n + length xs) (xs ++ ys) ≡ xs ++ take n ys
take_behind [] ys n = (let same : n + 0 ≡ n = omega arith in ap (λ (m : ℕ). take m ys) same)
take_behind (x ∷ xs) ys n =
    (let next : n + suc (length xs) ≡ suc (n + length xs) = omega arith in
    ap (λ (m : ℕ). take m (x ∷ xs ++ ys)) next ∙ ap (λ (zs : List _). x ∷ zs) (take_behind xs ys n))

-- ---- the document that some commits leave

module _ (collection id : List ℕ) where
  -- what these rows have of the record
  abbrev found : List BaseRow → Option (ℕ × Tree)
  found [] = None
  found (row ∷ rows) = if is_of collection id row.change then put_at row.commit row.change.document else found rows

  found_none : (rows : List BaseRow) → has_row collection id rows ≡ false → found rows ≡ None
  found_none [] none = refl
  found_none (row ∷ rows) none =
      elim (cases_Bool (is_of collection id row.change)) [
        | inl e ↦ absurd (let f : true ≡ false = rw e at none in cc)
        | inr e ↦ let rest : has_row collection id rows ≡ false = rw e at none in rw e (found_none rows rest)
      ]

  -- the commits in turn, numbered from one on
  abbrev folded : ℕ → Option (ℕ × Tree) → List DatedChange → Option (ℕ × Tree)
  folded k before [] = before
  folded k before (c ∷ later) = folded (suc k) (document_after collection id k (Some c.change) before) later

  folded_is : (k : ℕ) (before : Option (ℕ × Tree)) (commits : List DatedChange) → folded k before commits ≡ (if has collection id commits then found (rows_from k commits) else before)
  folded_is k before [] = refl
  folded_is k before (c ∷ later) =
      folded_is (suc k) (document_after collection id k (Some c.change) before) later ∙ elim (cases_Bool (is_of collection id c.change)) [ inl own ↦ ours own | inr other ↦ others other ]
    where
      -- it is another record's
      others : is_of collection id c.change ≡ false
          → (if has collection id later then found (rows_from (suc k) later) else document_after collection id k (Some c.change) before) ≡ (if has collection id (c ∷ later) then found (rows_from k (c ∷ later)) else before)
      others other = elim (cases_Bool (lives c.change later)) [ inl e ↦ rw (e, other) refl | inr e ↦ rw (e, other) refl ]

      -- it is of this record: what it puts lives where no later one is
      by : (document : Option Tree) (later_has : Bool) → has collection id later ≡ later_has → found (rows_from (suc k) later) ≡ (if later_has then found (rows_from (suc k) later) else None)
          → (if later_has then found (rows_from (suc k) later) else put_at k document)
          ≡ (if is_some document && not later_has then put_at k document else found (rows_from (suc k) later))
      by None true e none = refl
      by (Some tree) true e none = refl
      by (Some tree) false e none = refl
      by None false e none = sym none

      ours : is_of collection id c.change ≡ true
          → (if has collection id later then found (rows_from (suc k) later) else document_after collection id k (Some c.change) before) ≡ (if has collection id (c ∷ later) then found (rows_from k (c ∷ later)) else before)
      ours own =
          let names = names_are collection id c.change own in
          let same : has c.change.collection c.change.id later ≡ has collection id later = ap₂ (λ (x y : List ℕ). has x y later) names.0 names.1 in
          let row : found (rows_from k (c ∷ later)) ≡ (if is_some c.change.document && not (has collection id later) then put_at k c.change.document else found (rows_from (suc k) later))
          = ap (λ (b : Bool). found (if is_some c.change.document && not b then record { commit = k; clock = c.clock; change = c.change } ∷ rows_from (suc k) later else rows_from (suc k) later)) same
          ∙ outside (is_some c.change.document && not (has collection id later)) in
          rw own (by c.change.document (has collection id later) refl (rest (has collection id later) refl) ∙ sym row)
        where
          outside : (b : Bool) → found (if b then record { commit = k; clock = c.clock; change = c.change } ∷ rows_from (suc k) later else rows_from (suc k) later)
              ≡ (if b then put_at k c.change.document else found (rows_from (suc k) later))
          outside true = rw own refl
          outside false = refl

          rest : (b : Bool) → has collection id later ≡ b → found (rows_from (suc k) later) ≡ (if b then found (rows_from (suc k) later) else None)
          rest true e = refl
          rest false e = found_none (rows_from (suc k) later) (no_row collection id (suc k) later e)

  -- the same by the changes of a journal
  at_folded : (journal : List Change) (n : ℕ) (commits : List DatedChange) → drop n journal ≡ changes_of commits → folded (suc n) (document_at journal n collection id) commits ≡ document_at journal (n + length commits) collection id
  at_folded journal n [] e = (let same : n ≡ n + 0 = omega arith in ap (λ (m : ℕ). document_at journal m collection id) same)
  at_folded journal n (c ∷ later) e =
      let parts = drop_parts journal n c.change (changes_of later) e in
      let next : suc n + length later ≡ n + suc (length later) = omega arith in
      ap (λ (o : Option Change). folded (suc (suc n)) (document_after collection id (suc n) o (document_at journal n collection id)) later) (sym parts.0)
      ∙ at_folded journal (suc n) later parts.1
      ∙ ap (λ (m : ℕ). document_at journal m collection id) next

  pub document_found : (commits : List DatedChange) → document_at (changes_of commits) (length commits) collection id ≡ found (rows_from 1 commits)
  document_found commits =
      let zero_and : 0 + length commits ≡ length commits = omega arith in
      sym (at_folded (changes_of commits) 0 commits refl ∙ ap (λ (m : ℕ). document_at (changes_of commits) m collection id) zero_and)
      ∙ folded_is 1 None commits
      ∙ by (has collection id commits) refl
    where
      by : (b : Bool) → has collection id commits ≡ b → (if b then found (rows_from 1 commits) else None) ≡ found (rows_from 1 commits)
      by true e = refl
      by false e = sym (found_none (rows_from 1 commits) (no_row collection id 1 commits e))

  -- commits with the same rows have the same documents, and so have all behind them
  pub same_behind : (front other more : List DatedChange) (k : ℕ) → length front ≡ length other → rows_from 1 front ≡ rows_from 1 other
      → document_at (changes_of (front ++ more)) (k + length front) collection id ≡ document_at (changes_of (other ++ more)) (k + length other) collection id
  same_behind front other more zero size same =
      at_end front ∙ ap found same ∙ sym (at_end other)
    where
      at_end : (commits : List DatedChange) → document_at (changes_of (commits ++ more)) (0 + length commits) collection id ≡ found (rows_from 1 commits)
      at_end commits =
          let none : 0 + length commits ≡ length commits = omega arith in
          let within : length commits ≤ length (changes_of commits) = omega (arith, length-map (λ (c : DatedChange). c.change) commits) in
          ap (λ (m : ℕ). document_at (changes_of (commits ++ more)) m collection id) none
          ∙ ap (λ (cs : List Change). document_at cs (length commits) collection id) (map-append (λ (c : DatedChange). c.change) commits more)
          ∙ document_prefix (changes_of commits) (changes_of more) (length commits) collection id within
          ∙ document_found commits
  same_behind front other more (suc k) size same =
      step front ∙ ap₂ (λ (m : ℕ) (o : Option (ℕ × Tree)). document_after collection id (suc (k + m)) (slice_get (changes_of more) k) o) size (same_behind front other more k size same) ∙ sym (step other)
    where
      step : (commits : List DatedChange) → document_at (changes_of (commits ++ more)) (suc k + length commits) collection id
          ≡ document_after collection id (suc (k + length commits)) (slice_get (changes_of more) k) (document_at (changes_of (commits ++ more)) (k + length commits) collection id)
      step commits =
          let next : suc k + length commits ≡ suc (k + length commits) = omega arith in
          let size : k + length commits ≡ k + length (changes_of commits) = ap (λ (m : ℕ). k + m) (sym (length-map (λ (c : DatedChange). c.change) commits)) in
          let row : slice_get (changes_of (commits ++ more)) (k + length commits) ≡ slice_get (changes_of more) k
          = ap₂ (λ (cs : List Change) (m : ℕ). slice_get cs m) (map-append (λ (c : DatedChange). c.change) commits more) size
          ∙ slice_get_behind (changes_of commits) (changes_of more) k in
          ap (λ (m : ℕ). document_at (changes_of (commits ++ more)) m collection id) next
          ∙ ap (λ (o : Option Change). document_after collection id (suc (k + length commits)) o (document_at (changes_of (commits ++ more)) (k + length commits) collection id)) row

-- ---- the rows with further commits

-- no later commit is of the row's record
abbrev stays : List DatedChange → BaseRow → Bool
stays more row = not (has row.change.collection row.change.id more)

pub rows_append : (k : ℕ) (front more : List DatedChange) → rows_from k (front ++ more) ≡ filter (stays more) (rows_from k front) ++ rows_from (k + length front) more
rows_append k [] more = (let none : k ≡ k + 0 = omega arith in ap (λ (m : ℕ). rows_from m more) none)
rows_append k (c ∷ front) more =
    let both : has c.change.collection c.change.id (front ++ more) ≡ (has c.change.collection c.change.id front || has c.change.collection c.change.id more)
    = ap (list_any (is_of c.change.collection c.change.id)) (map-append (λ (d : DatedChange). d.change) front more)
    ∙ list_any-append (is_of c.change.collection c.change.id) (changes_of front) (changes_of more) in
    let next : suc k + length front ≡ k + suc (length front) = omega arith in
    let rest = rows_append (suc k) front more ∙ ap (λ (m : ℕ). filter (stays more) (rows_from (suc k) front) ++ rows_from m more) next in
    ap (λ (b : Bool). if is_some c.change.document && not b then record { commit = k; clock = c.clock; change = c.change } ∷ rows_from (suc k) (front ++ more) else rows_from (suc k) (front ++ more)) both
    ∙ by (is_some c.change.document) (has c.change.collection c.change.id front) (has c.change.collection c.change.id more) refl rest
  where
    row : BaseRow
    row = record { commit = k; clock = c.clock; change = c.change }

    by : (d f m : Bool) → has c.change.collection c.change.id more ≡ m → rows_from (suc k) (front ++ more) ≡ filter (stays more) (rows_from (suc k) front) ++ rows_from (k + suc (length front)) more
        → (if d && not (f || m) then record { commit = k; clock = c.clock; change = c.change } ∷ rows_from (suc k) (front ++ more) else rows_from (suc k) (front ++ more))
        ≡ filter (stays more) (if d && not f then record { commit = k; clock = c.clock; change = c.change } ∷ rows_from (suc k) front else rows_from (suc k) front) ++ rows_from (k + suc (length front)) more
    by false f m e rest = rest
    by true true m e rest = rest
    by true false true e rest = rw e rest
    by true false false e rest = rw e (ap (λ (rs : List BaseRow). record { commit = k; clock = c.clock; change = c.change } ∷ rs) rest)

clock_behind : (front : List DatedChange) (d : DatedChange) (more : List DatedChange) → last_clock (front ++ d ∷ more) ≡ last_clock (d ∷ more)
clock_behind [] d more = refl
clock_behind (c ∷ []) d more = refl
clock_behind (c ∷ b ∷ front) d more = clock_behind (b ∷ front) d more

deleted_behind : (front : List DatedChange) (d : DatedChange) (more : List DatedChange) → last_deleted (front ++ d ∷ more) ≡ last_deleted (d ∷ more)
deleted_behind [] d more = refl
deleted_behind (c ∷ []) d more = refl
deleted_behind (c ∷ b ∷ front) d more = deleted_behind (b ∷ front) d more

same_clock : (front other more : List DatedChange) → last_clock front ≡ last_clock other → last_clock (front ++ more) ≡ last_clock (other ++ more)
same_clock front other [] same = ap last_clock (append-nil front) ∙ same ∙ ap last_clock (sym (append-nil other))
same_clock front other (d ∷ more) same = clock_behind front d more ∙ sym (clock_behind other d more)

same_deleted : (front other more : List DatedChange) → last_deleted front ≡ last_deleted other → last_deleted (front ++ more) ≡ last_deleted (other ++ more)
same_deleted front other [] same = ap last_deleted (append-nil front) ∙ same ∙ ap last_deleted (sym (append-nil other))
same_deleted front other (d ∷ more) same = deleted_behind front d more ∙ sym (deleted_behind other d more)

-- commits with the same base have the same base with further commits
same_base : (front other more : List DatedChange) (horizon moment : ℕ) → length front ≡ length other → rows_from 1 front ≡ rows_from 1 other → last_clock front ≡ last_clock other → last_deleted front ≡ last_deleted other
    → base_from (front ++ more) horizon moment ≡ base_from (other ++ more) horizon moment
same_base front other more horizon moment size rows clock deleted =
    let all : rows_from 1 (front ++ more) ≡ rows_from 1 (other ++ more)
    = rows_append 1 front more
    ∙ ap₂ (λ (rs : List BaseRow) (m : ℕ). filter (stays more) rs ++ rows_from (1 + m) more) rows size
    ∙ sym (rows_append 1 other more) in
    rw (all, same_clock front other more clock, same_deleted front other more deleted) refl

-- ---- the laws

module _ (journal : List DatedChange) (horizon moment : ℕ) (within : horizon ≤ length journal) where
  size : length (take horizon journal) ≡ horizon
  size = length_take horizon journal within

  abbrev first : List DatedChange
  first = take horizon journal

  abbrev whole : Base
  whole = base_from first (length first) moment

  is_whole : base_of journal horizon moment ≡ whole
  is_whole = ap (λ (n : ℕ). base_from first n moment) (sym size)

  filled_is : expanded (base_of journal horizon moment) ≡ filled whole.head 1 first
  filled_is = ap expanded is_whole ∙ expanded_is first moment

  pub length-expanded : length (expanded (base_of journal horizon moment)) ≡ horizon
  length-expanded = ap length filled_is ∙ length-filled whole.head 1 first ∙ size

  same_size : length (expanded (base_of journal horizon moment)) ≡ length first
  same_size = length-expanded ∙ sym size

  same_rows : rows_from 1 (expanded (base_of journal horizon moment)) ≡ rows_from 1 first
  same_rows = ap (rows_from 1) filled_is ∙ rows_filled whole.head 1 first (heads_of first moment)

  pub documents_stay : (n : ℕ) (collection id : List ℕ) → horizon ≤ n → document_at (changes_of (expanded (base_of journal horizon moment) ++ drop horizon journal)) n collection id ≡ document_at (changes_of journal) n collection id
  documents_stay n collection id low =
      let there : n ≡ n - horizon + length (expanded (base_of journal horizon moment)) = omega (arith, low, length-expanded) in
      let back : n - horizon + length first ≡ n = omega (arith, low, size) in
      ap (λ (m : ℕ). document_at (changes_of (expanded (base_of journal horizon moment) ++ drop horizon journal)) m collection id) there
      ∙ same_behind collection id (expanded (base_of journal horizon moment)) first (drop horizon journal) (n - horizon) same_size same_rows
      ∙ ap₂ (λ (cs : List DatedChange) (m : ℕ). document_at (changes_of cs) m collection id) (take_drop horizon journal) back

  pub base_again : (later kept : ℕ) → horizon ≤ later → base_of (expanded (base_of journal horizon moment) ++ drop horizon journal) later kept ≡ base_of journal later kept
  base_again later kept low =
      let there : later ≡ later - horizon + length (expanded (base_of journal horizon moment)) = omega (arith, low, length-expanded) in
      let back : later - horizon + length first ≡ later = omega (arith, low, size) in
      ap (λ (m : ℕ). base_from (take m (expanded (base_of journal horizon moment) ++ drop horizon journal)) later kept) there
      ∙ ap (λ (cs : List DatedChange). base_from cs later kept) (take_behind (expanded (base_of journal horizon moment)) (drop horizon journal) (later - horizon))
      ∙ same_base (expanded (base_of journal horizon moment)) first (take (later - horizon) (drop horizon journal)) later kept same_size same_rows
      (ap last_clock filled_is ∙ clock_filled whole.head 1 first (heads_of first moment))
      (ap last_deleted filled_is ∙ deleted_filled whole.head 1 first (heads_of first moment))
      ∙ ap (λ (cs : List DatedChange). base_from cs later kept) (sym (take_behind first (drop horizon journal) (later - horizon)))
      ∙ ap₂ (λ (cs : List DatedChange) (m : ℕ). base_from (take m cs) later kept) (take_drop horizon journal) back
