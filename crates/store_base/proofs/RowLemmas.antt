-- The rows of some commits, and the commits that a base of them stands for.
use Rattle.std.proofs.Common.{◌≡◌, ℕ, suc, ◌+◌, ◌-◌, ◌≤◌, Bool, true, false, not, ◌&&◌, ◌||◌, List, [], ◌∷◌, map, length, Option, Some, None, is_some, if◌then◌else◌, refl, sym, ap, ◌∙◌, arith, inl, inr, ◌⊎◌}
use Rattle.std.specs.List.{list_any}
use Rattle.std.specs.Str.{bytes_eq}
use Rattle.std.proofs.lemmas.Bool.{cases_Bool, and_parts}
use Rattle.std.proofs.lemmas.Slice.Eq.{bytes_eq-Decides}
use Rattle.commit_book.specs.declared.change.Change.{Change}
use Rattle.commit_book.specs.Journal.{is_of, bases}
use Rattle.store_base.specs.declared.base.BaseHead.{BaseHead}
use Rattle.store_base.specs.declared.base.BaseRow.{BaseRow}
use Rattle.store_base.specs.declared.base.DatedChange.{DatedChange}
use Rattle.store_base.specs.declared.base.RecordName.{RecordName}
use Rattle.store_base.specs.Bases.{changes_of, name_of, lives, rows_from, last_clock, last_deleted, base_from, deletion, deletions, expanded_from, expanded}

-- a change of a record has its names
pub names_are : (collection id : List ℕ) (change : Change) → is_of collection id change ≡ true → (change.collection ≡ collection) × (change.id ≡ id)
names_are collection id change own =
    let parts = and_parts (bytes_eq change.id id) (bytes_eq change.collection collection) own in
    ((bytes_eq-Decides change.collection collection).0 parts.1, (bytes_eq-Decides change.id id).0 parts.0)

-- one of the commits is of the record
abbrev pub has : (collection id : List ℕ) → List DatedChange → Bool
has collection id commits = list_any (is_of collection id) (changes_of commits)

or_false : (a b : Bool) → (a || b) ≡ false → (a ≡ false) × (b ≡ false)
or_false false b e = (refl, e)
or_false true b e = absurd (cc)

-- ---- the changes of the rows are those that the book keeps

pub rows_bases : (k : ℕ) (commits : List DatedChange) → map (λ (r : BaseRow). r.change) (rows_from k commits) ≡ bases (changes_of commits)
rows_bases k [] = refl
rows_bases k (c ∷ later) =
    elim (cases_Bool (lives c.change later)) [
      | inl e ↦ rw e (ap (λ (cs : List Change). c.change ∷ cs) (rows_bases (suc k) later))
      | inr e ↦ rw e (rows_bases (suc k) later)
    ]

-- ---- rows are behind the commits before them

abbrev Above : ℕ → List BaseRow → Type 0
Above k [] = Unit {0}
Above k (row ∷ rows) = k ≤ row.commit

above_less : (k : ℕ) (rows : List BaseRow) → Above (suc k) rows → Above k rows
above_less k [] a = tt
above_less k (row ∷ rows) a = omega (arith, a)

pub rows_above : (k : ℕ) (commits : List DatedChange) → Above k (rows_from k commits)
rows_above k [] = tt
rows_above k (c ∷ later) =
    elim (cases_Bool (lives c.change later)) [
      | inl e ↦ rw e (omega arith)
      | inr e ↦ rw e (above_less k (rows_from (suc k) later) (rows_above (suc k) later))
    ]

-- ---- where no document lives, the last commit deleted

nothing_lives : (c : DatedChange) (later : List DatedChange) (k : ℕ) (rows : List BaseRow) → (if lives c.change later then record { commit = k; clock = c.clock; change = c.change } ∷ rows else rows) ≡ [] → (lives c.change later ≡ false) × (rows ≡ [])
nothing_lives c later k rows e =
    elim (cases_Bool (lives c.change later)) [
      | inl l ↦ absurd (let f : record { commit = k; clock = c.clock; change = c.change } ∷ rows ≡ [] = rw l at e in cc)
      | inr l ↦ let f : rows ≡ [] = rw l at e in (l, f)
    ]

and_true : (b : Bool) → (b && true) ≡ false → b ≡ false
and_true true e = absurd (cc)
and_true false e = refl

tail_some : (k : ℕ) (c : DatedChange) (later : List DatedChange) → rows_from k (c ∷ later) ≡ [] → (name : RecordName) × (last_deleted (c ∷ later) ≡ Some name)
tail_some k c [] e =
    let none : is_some c.change.document ≡ false = and_true (is_some c.change.document) (nothing_lives c [] k [] e).0 in
    (name_of c.change, rw none refl)
tail_some k c (d ∷ later) e = tail_some (suc k) d later (nothing_lives c (d ∷ later) k (rows_from (suc k) (d ∷ later)) e).1

-- ---- the commits that a base stands for, one by one

-- a deletion of this record, or of none
abbrev deletion_by : ℕ → Option RecordName → DatedChange
deletion_by clock None = deletion clock (record { collection = []; id = [] })
deletion_by clock (Some name) = deletion clock name

-- what stands in the place of a commit of which no document lives
abbrev filler : BaseHead → List BaseRow → DatedChange
filler head [] = deletion_by head.clock head.tail
filler head (row ∷ rows) = deletion row.clock (name_of row.change)

abbrev pub filled : BaseHead → ℕ → List DatedChange → List DatedChange
filled head k [] = []
filled head k (c ∷ later) = (if lives c.change later then c else filler head (rows_from (suc k) later)) ∷ filled head (suc k) later

-- one commit further, where no row is at this place
skips : (head : BaseHead) (k : ℕ) (rows : List BaseRow) → Above (suc k) rows → k ≤ head.horizon → (rows ≡ [] → (name : RecordName) × (head.tail ≡ Some name))
    → expanded_from head k rows ≡ filler head rows ∷ expanded_from head (suc k) rows
skips head k [] above within tail =
    let found = tail refl in
    let next : suc head.horizon - k ≡ suc (suc head.horizon - suc k) = omega arith in
    rw (found.1, next) refl
skips head k (row ∷ rows) above within tail =
    let next : row.commit - k ≡ suc (row.commit - suc k) = omega (arith, above) in
    rw next refl

-- what is asked of a head: that of some commits, from a number on
pub record Heads (head : BaseHead) (k : ℕ) (commits : List DatedChange) : Type 0 where
  pub size : suc head.horizon ≡ k + length commits
  pub clock : commits ≡ [] ⊎ (head.clock ≡ last_clock commits)
  pub tail : commits ≡ [] ⊎ (head.tail ≡ last_deleted commits)

heads_next : (head : BaseHead) (k : ℕ) (c : DatedChange) (later : List DatedChange) → Heads head k (c ∷ later) → Heads head (suc k) later
heads_next head k c [] h = record { size = omega (arith, h.size); clock = inl refl; tail = inl refl }
heads_next head k c (d ∷ later) h = record { size = omega (arith, h.size); clock = inr (clock_of h.clock); tail = inr (tail_of h.tail) }
  where
    clock_of : (c ∷ d ∷ later) ≡ [] ⊎ (head.clock ≡ last_clock (c ∷ d ∷ later)) → head.clock ≡ last_clock (d ∷ later)
    clock_of (inl e) = absurd (cc)
    clock_of (inr e) = e

    tail_of : (c ∷ d ∷ later) ≡ [] ⊎ (head.tail ≡ last_deleted (c ∷ d ∷ later)) → head.tail ≡ last_deleted (d ∷ later)
    tail_of (inl e) = absurd (cc)
    tail_of (inr e) = e

pub tail_is : (head : BaseHead) (k : ℕ) (c : DatedChange) (later : List DatedChange) → Heads head k (c ∷ later) → head.tail ≡ last_deleted (c ∷ later)
tail_is head k c later h = by h.tail
  where
    by : (c ∷ later) ≡ [] ⊎ (head.tail ≡ last_deleted (c ∷ later)) → head.tail ≡ last_deleted (c ∷ later)
    by (inl e) = absurd (cc)
    by (inr e) = e

pub clock_is : (head : BaseHead) (k : ℕ) (c : DatedChange) (later : List DatedChange) → Heads head k (c ∷ later) → head.clock ≡ last_clock (c ∷ later)
clock_is head k c later h = by h.clock
  where
    by : (c ∷ later) ≡ [] ⊎ (head.clock ≡ last_clock (c ∷ later)) → head.clock ≡ last_clock (c ∷ later)
    by (inl e) = absurd (cc)
    by (inr e) = e

-- where this commit and those behind it leave no row, there is a tail
some_tail : (head : BaseHead) (k : ℕ) (c : DatedChange) (later : List DatedChange) → Heads head k (c ∷ later) → lives c.change later ≡ false → rows_from (suc k) later ≡ [] → (name : RecordName) × (head.tail ≡ Some name)
some_tail head k c later h dead none =
    let all : rows_from k (c ∷ later) ≡ [] = rw dead none in
    let found = tail_some k c later all in
    (found.0, tail_is head k c later h ∙ found.1)

pub expanded_filled : (head : BaseHead) (k : ℕ) (commits : List DatedChange) → Heads head k commits → expanded_from head k (rows_from k commits) ≡ filled head k commits
expanded_filled head k [] h =
    let none : suc head.horizon - k ≡ 0 = omega (arith, h.size) in
    rw none (by head.tail)
  where
    by : (tail : Option RecordName) → deletions head.clock 0 tail ≡ []
    by None = refl
    by (Some name) = refl
expanded_filled head k (c ∷ later) h =
    let rest = expanded_filled head (suc k) later (heads_next head k c later h) in
    elim (cases_Bool (lives c.change later)) [
      | inl e ↦
          let none : k - k ≡ 0 = omega arith in
          rw (e, none) (ap (λ (cs : List DatedChange). c ∷ cs) rest)
      | inr e ↦
          rw e (
          skips head k (rows_from (suc k) later) (rows_above (suc k) later) (omega (arith, h.size)) (λ none. some_tail head k c later h e none)
          ∙ ap (λ (cs : List DatedChange). filler head (rows_from (suc k) later) ∷ cs) rest
          )
    ]

pub length-filled : (head : BaseHead) (k : ℕ) (commits : List DatedChange) → length (filled head k commits) ≡ length commits
length-filled head k [] = refl
length-filled head k (c ∷ later) = ap suc (length-filled head (suc k) later)

-- ---- they are of the records of the commits

-- the rows are of the records of the commits
abbrev pub has_row : (collection id : List ℕ) → List BaseRow → Bool
has_row collection id rows = list_any (λ r. is_of collection id r.change) rows

pub no_row : (collection id : List ℕ) (k : ℕ) (commits : List DatedChange) → has collection id commits ≡ false → has_row collection id (rows_from k commits) ≡ false
no_row collection id k [] none = refl
no_row collection id k (c ∷ later) none =
    let parts = or_false (is_of collection id c.change) (has collection id later) none in
    let rest = no_row collection id (suc k) later parts.1 in
    elim (cases_Bool (lives c.change later)) [ inl e ↦ rw (e, parts.0) rest | inr e ↦ rw e rest ]

-- the record is not that of the deletion
apart : (collection id : List ℕ) → Option RecordName → Type 0
apart collection id None = Unit {0}
apart collection id (Some name) = is_of collection id (deletion 0 name).change ≡ false

no_tail : (collection id : List ℕ) (c : DatedChange) (later : List DatedChange) (name : RecordName) → has collection id (c ∷ later) ≡ false → last_deleted (c ∷ later) ≡ Some name → is_of collection id (deletion 0 name).change ≡ false
no_tail collection id c [] name none e =
    let parts = or_false (is_of collection id c.change) false none in
    elim (cases_Bool (is_some c.change.document)) [
      | inl some ↦ absurd (let f : None ≡ Some name = rw some at e in cc)
      | inr gone ↦
          let f : Some (name_of c.change) ≡ Some name = rw gone at e in
          let same : name_of c.change ≡ name = cc in
          ap (λ (n : RecordName). is_of collection id (deletion 0 n).change) (sym same) ∙ parts.0
    ]
no_tail collection id c (d ∷ later) name none e = no_tail collection id d later name (or_false (is_of collection id c.change) (has collection id (d ∷ later)) none).1 e

no_filler : (collection id : List ℕ) (head : BaseHead) (k : ℕ) (c : DatedChange) (later : List DatedChange) → Heads head k (c ∷ later) → lives c.change later ≡ false → has collection id (c ∷ later) ≡ false
    → (rows : List BaseRow) → rows_from (suc k) later ≡ rows → has_row collection id rows ≡ false → is_of collection id (filler head rows).change ≡ false
no_filler collection id head k c later h dead none [] is unseen =
    let found = some_tail head k c later h dead is in
    let tail : last_deleted (c ∷ later) ≡ Some found.0 = sym (tail_is head k c later h) ∙ found.1 in
    rw found.1 (no_tail collection id c later found.0 none tail)
no_filler collection id head k c later h dead none (row ∷ rows) is unseen = (or_false (is_of collection id row.change) (has_row collection id rows) unseen).0

pub none_filled : (collection id : List ℕ) (head : BaseHead) (k : ℕ) (commits : List DatedChange) → Heads head k commits → has collection id commits ≡ false → has collection id (filled head k commits) ≡ false
none_filled collection id head k [] h none = refl
none_filled collection id head k (c ∷ later) h none =
    let parts = or_false (is_of collection id c.change) (has collection id later) none in
    let rest = none_filled collection id head (suc k) later (heads_next head k c later h) parts.1 in
    elim (cases_Bool (lives c.change later)) [
      | inl e ↦ rw (e, parts.0) rest
      | inr e ↦
          let own = no_filler collection id head k c later h e none (rows_from (suc k) later) refl (no_row collection id (suc k) later parts.1) in
          rw (e, own) rest
    ]

-- ---- and have the same rows

-- a deletion puts no document
gone : (head : BaseHead) (rows : List BaseRow) → is_some (filler head rows).change.document ≡ false
gone head (row ∷ rows) = refl
gone head [] = by head.tail
  where
    by : (tail : Option RecordName) → is_some (deletion_by head.clock tail).change.document ≡ false
    by None = refl
    by (Some name) = refl

still_lives : (change : Change) (later others : List DatedChange) → (has change.collection change.id later ≡ false → has change.collection change.id others ≡ false) → lives change later ≡ true → lives change others ≡ true
still_lives change later others same l =
    let parts = and_parts (is_some change.document) (not (has change.collection change.id later)) l in
    let none = same (not_true (has change.collection change.id later) parts.1) in
    rw (parts.0, none) refl
  where
    not_true : (b : Bool) → not b ≡ true → b ≡ false
    not_true true e = absurd (cc)
    not_true false e = refl

pub rows_filled : (head : BaseHead) (k : ℕ) (commits : List DatedChange) → Heads head k commits → rows_from k (filled head k commits) ≡ rows_from k commits
rows_filled head k [] h = refl
rows_filled head k (c ∷ later) h =
    let rest = rows_filled head (suc k) later (heads_next head k c later h) in
    elim (cases_Bool (lives c.change later)) [
      | inl e ↦
          let still : lives c.change (filled head (suc k) later) ≡ true
          = still_lives c.change later (filled head (suc k) later) (none_filled c.change.collection c.change.id head (suc k) later (heads_next head k c later h)) e in
          rw e (rw still (ap (λ (rs : List BaseRow). record { commit = k; clock = c.clock; change = c.change } ∷ rs) rest))
      | inr e ↦
          let none = gone head (rows_from (suc k) later) in
          rw e (rw none rest)
    ]

-- ---- and the same end

pub clock_filled : (head : BaseHead) (k : ℕ) (commits : List DatedChange) → Heads head k commits → last_clock (filled head k commits) ≡ last_clock commits
clock_filled head k [] h = refl
clock_filled head k (c ∷ []) h =
    elim (cases_Bool (lives c.change [])) [
      | inl e ↦ rw e refl
      | inr e ↦
          let found = some_tail head k c [] h e refl in
          let clock = clock_is head k c [] h in
          rw e (rw found.1 clock)
    ]
clock_filled head k (c ∷ d ∷ later) h = clock_filled head (suc k) (d ∷ later) (heads_next head k c (d ∷ later) h)

pub deleted_filled : (head : BaseHead) (k : ℕ) (commits : List DatedChange) → Heads head k commits → last_deleted (filled head k commits) ≡ last_deleted commits
deleted_filled head k [] h = refl
deleted_filled head k (c ∷ []) h =
    elim (cases_Bool (lives c.change [])) [
      | inl e ↦ rw e refl
      | inr e ↦
          let found = some_tail head k c [] h e refl in
          let tail = tail_is head k c [] h in
          rw e (rw found.1 (sym found.1 ∙ tail))
    ]
deleted_filled head k (c ∷ d ∷ later) h = deleted_filled head (suc k) (d ∷ later) (heads_next head k c (d ∷ later) h)

-- ---- all of them

pub heads_of : (commits : List DatedChange) (moment : ℕ) → Heads (base_from commits (length commits) moment).head 1 commits
heads_of commits moment = record { size = omega arith; clock = inr refl; tail = inr refl }

pub expanded_is : (commits : List DatedChange) (moment : ℕ) → expanded (base_from commits (length commits) moment) ≡ filled (base_from commits (length commits) moment).head 1 commits
expanded_is commits moment = expanded_filled (base_from commits (length commits) moment).head 1 commits (heads_of commits moment)
