-- The sets of a table: which rows they have, how many of them are taken, and how many marks of a past stand in them.
use Rattle.std.proofs.Common.{◌≡◌, ◌≢◌, ℕ, zero, suc, ◌+◌, ◌*◌, ◌<◌, ◌≤◌, ◌==◌, Bool, true, false, ◌||◌, if◌then◌else◌, List, [], ◌∷◌, filter, ◌⊎◌, inl, inr, refl, sym, ap, ap₂, ◌∙◌, arith}
use Rattle.std.proofs.lemmas.Bool.{cases_Bool, cases_eq, cond-true, cond-false, and_parts, and_from, eqb-true, eq-eqb}
use Rattle.std.proofs.lemmas.Nat.{mod_below}
use Rattle.std.specs.List.{list_any}
use Rattle.flat_snapshot.specs.declared.sight.KeyMark.{KeyMark}
use Rattle.client_core.specs.declared.floors.FloorRow.{FloorRow}
use Rattle.client_core.specs.Floor.{Event, keys_of, distinct, same_mark}
use Rattle.client_core.specs.Table.{row_at, ways, set_size, set_count, set_of, IsInSet, taken_from, crowd, HasRoomFor}

-- ---- marks

pub same_mark-true : (a b : KeyMark) → same_mark a b ≡ true → a ≡ b
same_mark-true a b same =
    let parts = and_parts (a.first == b.first) (a.second == b.second) same in
    let make : ℕ → ℕ → KeyMark = λ m n. record { first = m; second = n } in
    let e : make a.first a.second ≡ make b.first b.second = ap₂ make (eqb-true _ _ parts.0) (eqb-true _ _ parts.1) in
    e

pub same_mark-refl : (a : KeyMark) → same_mark a a ≡ true
same_mark-refl a = and_from (a.first == a.first) (a.second == a.second) (eq-eqb a.first a.first refl) (eq-eqb a.second a.second refl)

pub or_first : (a b : Bool) → a ≡ true → (a || b) ≡ true
or_first true b h = refl
or_first false b h = absurd (let no : ◌≡◌ {A = Bool} false true = h in cc)

pub or_second : (a b : Bool) → b ≡ true → (a || b) ≡ true
or_second true b h = refl
or_second false b h = h

pub or_either : (a b : Bool) → (a || b) ≡ true → (b ≡ true) ⊎ (a ≡ true)
or_either true b h = inr refl
or_either false b h = inl h

or_false : (a b : Bool) → a ≡ false → (a || b) ≡ b
or_false true b h = absurd (let no : ◌≡◌ {A = Bool} true false = h in cc)
or_false false b h = refl

-- ---- which rows a set has

pub set_of-below : (n : ℕ) (mark : KeyMark) → set_of n mark < set_count n
set_of-below n mark = mod_below mark.first (set_count n) (omega arith)

-- a set ends within the rows
pub set_within : (n s : ℕ) → s < set_count n → ways * s + set_size n ≤ n
set_within n s below = omega (arith, below)

-- a row is in one set alone
pub set_alone : (n s t i : ℕ) → IsInSet n s i → IsInSet n t i → s ≡ t
set_alone n s t i a b = omega (arith, a.begins, a.ends, b.begins, b.ends)

-- ---- how many rows are taken

-- one row, as a number
abbrev one_if : Bool → ℕ
one_if b = if b then 1 else 0

-- as many where the rows are taken alike
pub taken_same : (rows other : List FloorRow) (i k : ℕ) →
    ((j : ℕ) → i ≤ j → j < i + k → (row_at other j).is_taken ≡ (row_at rows j).is_taken) → taken_from other i k ≡ taken_from rows i k
taken_same rows other i zero same = refl
taken_same rows other i (suc k) same =
    ap₂ (λ (b : Bool) (n : ℕ). one_if b + n) (same i (omega arith) (omega arith))
    (taken_same rows other (suc i) k (λ j low high. same j (omega (arith, low)) (omega (arith, high))))

-- one more where one row becomes taken
pub taken_more : (rows other : List FloorRow) (i k p : ℕ) → i ≤ p → p < i + k → (row_at rows p).is_taken ≡ false → (row_at other p).is_taken ≡ true →
    ((j : ℕ) → j ≢ p → (row_at other j).is_taken ≡ (row_at rows j).is_taken) → taken_from other i k ≡ 1 + taken_from rows i k
taken_more rows other i zero p low high free taken same = absurd (omega (arith, low, high))
taken_more rows other i (suc k) p low high free taken same = elim (cases_eq i p) [
  | inl here ↦
      (let new : one_if (row_at other i).is_taken ≡ 1 = ap one_if (ap (λ (m : ℕ). (row_at other m).is_taken) here ∙ taken) in
      let old : one_if (row_at rows i).is_taken ≡ 0 = ap one_if (ap (λ (m : ℕ). (row_at rows m).is_taken) here ∙ free) in
      let rest : taken_from other (suc i) k ≡ taken_from rows (suc i) k = taken_same rows other (suc i) k (λ j above below. same j (λ e. omega (arith, above, e, here))) in
      omega (arith, new, old, rest))
  | inr there ↦
      (let first : one_if (row_at other i).is_taken ≡ one_if (row_at rows i).is_taken = ap one_if (same i there) in
      let rest : taken_from other (suc i) k ≡ 1 + taken_from rows (suc i) k = taken_more rows other (suc i) k p (omega (arith, low, there)) (omega (arith, high)) free taken same in
      omega (arith, first, rest))
]

-- all of them
pub taken_all : (rows : List FloorRow) (i k : ℕ) → ((j : ℕ) → i ≤ j → j < i + k → (row_at rows j).is_taken ≡ true) → taken_from rows i k ≡ k
taken_all rows i zero all = refl
taken_all rows i (suc k) all =
    let first : one_if (row_at rows i).is_taken ≡ 1 = ap one_if (all i (omega arith) (omega arith)) in
    let rest : taken_from rows (suc i) k ≡ k = taken_all rows (suc i) k (λ j low high. all j (omega (arith, low)) (omega (arith, high))) in
    omega (arith, first, rest)

-- none of them
pub taken_none : (rows : List FloorRow) (i k : ℕ) → ((j : ℕ) → (row_at rows j).is_taken ≡ false) → taken_from rows i k ≡ 0
taken_none rows i zero none = refl
taken_none rows i (suc k) none =
    let first : one_if (row_at rows i).is_taken ≡ 0 = ap one_if (none i) in
    let rest : taken_from rows (suc i) k ≡ 0 = taken_none rows (suc i) k none in
    omega (arith, first, rest)

-- ---- how many marks stand in a set

-- a mark that passes a test is among those that pass where it is among all
pub any_passed : (p : KeyMark → Bool) (mark : KeyMark) (keys : List KeyMark) → p mark ≡ true → list_any (same_mark mark) (filter p keys) ≡ list_any (same_mark mark) keys
any_passed p mark [] passes = refl
any_passed p mark (key ∷ keys) passes = elim (cases_Bool (p key)) [
  | inl passed ↦
      ap (list_any (same_mark mark)) (cond-true (p key) (key ∷ filter p keys) (filter p keys) passed)
      ∙ ap (λ (b : Bool). same_mark mark key || b) (any_passed p mark keys passes)
  | inr failed ↦
      (let other : same_mark mark key ≡ false = elim (cases_Bool (same_mark mark key)) [
        | inl same ↦ absurd (let never : ◌≡◌ {A = Bool} true false = sym passes ∙ ap p (same_mark-true mark key same) ∙ failed in cc)
        | inr other ↦ other
      ] in
      ap (list_any (same_mark mark)) (cond-false (p key) (key ∷ filter p keys) (filter p keys) failed)
      ∙ any_passed p mark keys passes ∙ sym (or_false (same_mark mark key) (list_any (same_mark mark) keys) other))
]

-- a mark that does not pass counts for nothing
pub more_out : (p : KeyMark → Bool) (mark : KeyMark) (keys : List KeyMark) → p mark ≡ false →
    distinct same_mark (filter p (mark ∷ keys)) ≡ distinct same_mark (filter p keys)
more_out p mark keys out = ap (distinct same_mark) (cond-false (p mark) (mark ∷ filter p keys) (filter p keys) out)

-- one that was there counts for nothing
pub more_old : (p : KeyMark → Bool) (mark : KeyMark) (keys : List KeyMark) → p mark ≡ true → list_any (same_mark mark) keys ≡ true →
    distinct same_mark (filter p (mark ∷ keys)) ≡ distinct same_mark (filter p keys)
more_old p mark keys passes old =
    ap (distinct same_mark) (cond-true (p mark) (mark ∷ filter p keys) (filter p keys) passes)
    ∙ cond-true (list_any (same_mark mark) (filter p keys)) (distinct same_mark (filter p keys)) (1 + distinct same_mark (filter p keys)) (any_passed p mark keys passes ∙ old)

-- a new one counts for one
pub more_new : (p : KeyMark → Bool) (mark : KeyMark) (keys : List KeyMark) → p mark ≡ true → list_any (same_mark mark) keys ≡ false →
    distinct same_mark (filter p (mark ∷ keys)) ≡ 1 + distinct same_mark (filter p keys)
more_new p mark keys passes new =
    ap (distinct same_mark) (cond-true (p mark) (mark ∷ filter p keys) (filter p keys) passes)
    ∙ cond-false (list_any (same_mark mark) (filter p keys)) (distinct same_mark (filter p keys)) (1 + distinct same_mark (filter p keys)) (any_passed p mark keys passes ∙ new)

-- in no case do they become fewer
pub more_least : (p : KeyMark → Bool) (mark : KeyMark) (keys : List KeyMark) → distinct same_mark (filter p keys) ≤ distinct same_mark (filter p (mark ∷ keys))
more_least p mark keys = elim (cases_Bool (p mark)) [
  | inl passes ↦ elim (cases_Bool (list_any (same_mark mark) keys)) [
    | inl old ↦ (let e = more_old p mark keys passes old in omega (arith, e))
    | inr new ↦ (let e = more_new p mark keys passes new in omega (arith, e))
  ]
  | inr out ↦ (let e = more_out p mark keys out in omega (arith, e))
]

-- whether a mark stands in a set
abbrev pub in_set : ℕ → ℕ → KeyMark → Bool
in_set n s mark = set_of n mark == s

pub in_own : (n : ℕ) (mark : KeyMark) → in_set n (set_of n mark) mark ≡ true
in_own n mark = eq-eqb (set_of n mark) (set_of n mark) refl

-- where there is room for a past with one mark more, there was room without it
pub room_before : (n : ℕ) (past more : List (Event KeyMark)) (mark : KeyMark) → keys_of more ≡ mark ∷ keys_of past → HasRoomFor n more → HasRoomFor n past
room_before n past more mark keys room s below =
    let le = more_least (in_set n s) mark (keys_of past) in
    let after : crowd n s more ≡ distinct same_mark (filter (in_set n s) (mark ∷ keys_of past)) = ap (λ (ks : List KeyMark). distinct same_mark (filter (in_set n s) ks)) keys in
    let fits = room s below in
    omega (arith, le, after, fits)

-- some of the marks are no more than all
passed_le : (p : KeyMark → Bool) (keys : List KeyMark) → distinct same_mark (filter p keys) ≤ distinct same_mark keys
passed_le p [] = omega arith
passed_le p (key ∷ keys) = elim (cases_Bool (list_any (same_mark key) keys)) [
  | inl old ↦
      (let all : distinct same_mark (key ∷ keys) ≡ distinct same_mark keys = cond-true (list_any (same_mark key) keys) _ _ old in
      let rest = passed_le p keys in
      elim (cases_Bool (p key)) [
        | inl passes ↦ (let e = more_old p key keys passes old in omega (arith, e, all, rest))
        | inr out ↦ (let e = more_out p key keys out in omega (arith, e, all, rest))
      ])
  | inr new ↦
      (let all : distinct same_mark (key ∷ keys) ≡ 1 + distinct same_mark keys = cond-false (list_any (same_mark key) keys) _ _ new in
      let rest = passed_le p keys in
      elim (cases_Bool (p key)) [
        | inl passes ↦ (let e = more_new p key keys passes new in omega (arith, e, all, rest))
        | inr out ↦ (let e = more_out p key keys out in omega (arith, e, all, rest))
      ])
]

-- so where all of them fit one set, each set has room
pub few_fit : (rows : ℕ) (past : List (Event KeyMark)) → distinct same_mark (keys_of past) ≤ set_size rows → HasRoomFor rows past
few_fit rows past few s below = (let le = passed_le (in_set rows s) (keys_of past) in omega (arith, le, few))
