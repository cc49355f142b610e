-- What is seen of the entries: the greatest untils.
use Rattle.std.proofs.Common.{◌≡◌, cond, ltb, ℕ, ◌<◌, ◌≤◌, max, Bool, true, false, not, ◌&&◌, ◌||◌, zero, suc, List, [], ◌∷◌, ◌++◌, length, map, filter, All, Option, Some, None, IfSome, is_some, refl, sym, ap, ◌∙◌, arith, inl, inr}
use Rattle.std.specs.List.{list_any, IsDistinct}
use Rattle.std.specs.Map.{keys_of}
use Rattle.std.proofs.lemmas.Bool.{cases_Bool, cases_lt, cond-true, cond-false, lt-ltb, le-ltb, ltb-true}
use Rattle.std.proofs.lemmas.Map.{lookup-none}
use Rattle.std.proofs.lemmas.Map.Entries.{none_past_head, length-keys_of}
use Rattle.std.proofs.lemmas.List.Elements.{All-append}
use Rattle.std.proofs.lemmas.Map.Made.{length-from_keys, is_some-lookup}
use Rattle.query_normal.specs.declared.key.KeyShape.{KeyShape}
use Rattle.query_normal.specs.Keys.{same_key}
use Rattle.query_normal.specs.SameKey.{same_key_equiv}
use Rattle.issued_expiries.specs.Copies.{Copy, SameCopies, active_keys, is_active, later_of, latest_where, unexpired}
use Rattle.issued_expiries.specs.KeyCopies.{KeptCopies, greatest, is_later, last_until}
use Rattle.issued_expiries.specs.Entries.{Entries, kept_of, held_of, greatest_in, Ages, AllAge, AreUnexpired}

-- ---- seconds above a clock

-- a second, if it is above the clock
abbrev pub if_above : ℕ → ℕ → Option ℕ
if_above clock n = cond (ltb clock n) (Some n) None

pub above_some : (clock n : ℕ) → clock < n → if_above clock n ≡ Some n
above_some clock n late = cond-true (ltb clock n) (Some n) None (lt-ltb clock n late)

pub above_nothing : (clock n : ℕ) → n ≤ clock → if_above clock n ≡ None
above_nothing clock n past = cond-false (ltb clock n) (Some n) None (le-ltb clock n past)

-- one more that is above the clock
pub later_above : (clock u g : ℕ) → clock < u → Some (later_of u (if_above clock g)) ≡ if_above clock (max u g)
later_above clock u g late =
    elim (cases_lt clock g) [
      | inl more ↦ ap (λ (o : Option ℕ). Some (later_of u o)) (above_some clock g more) ∙ sym (above_some clock (max u g) (omega arith))
      | inr past ↦ ap (λ (o : Option ℕ). Some (later_of u o)) (above_nothing clock g past) ∙ ap (λ (n : ℕ). Some n) (let e : u ≡ max u g = omega arith in e) ∙ sym (above_some clock (max u g) (omega arith))
    ]

-- one more that is not
past_above : (clock u g : ℕ) → u ≤ clock → if_above clock g ≡ if_above clock (max u g)
past_above clock u g past =
    elim (cases_lt clock g) [
      | inl more ↦ ap (if_above clock) (let e : g ≡ max u g = omega arith in e)
      | inr less ↦ above_nothing clock g less ∙ sym (above_nothing clock (max u g) (omega arith))
    ]

-- ---- lists of copies

-- the later of two
abbrev pub join : Option ℕ → Option ℕ → Option ℕ
join None o = o
join (Some u) o = Some (later_of u o)

later_join : (u : ℕ) (a b : Option ℕ) → Some (later_of u (join a b)) ≡ join (Some (later_of u a)) b
later_join u None b = refl
later_join u (Some v) None = refl
later_join u (Some v) (Some w) = ap (λ (n : ℕ). Some n) (let e : max u (max v w) ≡ max (max u v) w = omega arith in e)

-- the copies of one key, as the list of all shows them
abbrev pub shown : ℕ → KeyShape → List (ℕ × ℕ) → List Copy
shown clock key copies = map (λ copy. (key, copy.0, copy.1)) (filter (is_later clock) copies)

join_none : (o : Option ℕ) → join o None ≡ o
join_none None = refl
join_none (Some u) = refl

distinct_rest : (e : KeyShape × KeptCopies) (entries : Entries) → IsDistinct same_key (keys_of (e ∷ entries)) → IsDistinct same_key (keys_of entries)
unfolding IsDistinct
distinct_rest e entries distinct = distinct.1

-- Of a list of copies, what is shown of a key.
module _ (clock : ℕ) (key : KeyShape) (test : ℕ → Bool) where
  latest-append : (some others : List Copy) → latest_where key test (some ++ others) ≡ join (latest_where key test some) (latest_where key test others)
  latest-append [] others = refl
  latest-append (x ∷ some) others =
      elim (cases_Bool (same_key key x.0 && test x.1)) [
        | inl passes ↦ (rw passes (ap (λ (o : Option ℕ). Some (later_of x.2 o)) (latest-append some others) ∙ later_join x.2 (latest_where key test some) (latest_where key test others)))
        | inr fails ↦ (rw fails (latest-append some others))
      ]

  latest_own : (own : KeyShape) → same_key key own ≡ true → (copies : List (ℕ × ℕ)) → latest_where key test (shown clock own copies) ≡ if_above clock (greatest test copies)
  latest_own own same [] = sym (above_nothing clock 0 (omega arith))
  latest_own own same (x ∷ xs) =
      elim (cases_lt clock x.1) [
        | inl late ↦ (rw (lt-ltb clock x.1 late) (rw same (elim (cases_Bool (test x.0)) [
          | inl passes ↦ (rw passes (ap (λ (o : Option ℕ). Some (later_of x.1 o)) (latest_own own same xs) ∙ later_above clock x.1 (greatest test xs) late))
          | inr fails ↦ (rw fails (latest_own own same xs))
        ])))
        | inr past ↦ (rw (le-ltb clock x.1 past) (elim (cases_Bool (test x.0)) [
          | inl passes ↦ (rw passes (latest_own own same xs ∙ past_above clock x.1 (greatest test xs) past))
          | inr fails ↦ (rw fails (latest_own own same xs))
        ]))
      ]

  latest_other : (own : KeyShape) → same_key key own ≡ false → (copies : List (ℕ × ℕ)) → latest_where key test (shown clock own copies) ≡ None
  latest_other own other [] = refl
  latest_other own other (x ∷ xs) =
      elim (cases_lt clock x.1) [
        | inl late ↦ (rw (lt-ltb clock x.1 late) (rw other (latest_other own other xs)))
        | inr past ↦ (rw (le-ltb clock x.1 past) (latest_other own other xs))
      ]

  -- nothing is shown of a key that is not kept
  latest_absent : (entries : Entries) → kept_of key entries ≡ None → latest_where key test (held_of clock entries) ≡ None
  latest_absent [] absent = refl
  latest_absent (e ∷ entries) absent =
      elim (cases_Bool (same_key key e.0)) [
        | inl hit ↦ absurd (let first : Some e.1 ≡ None = rw hit at absent in cc)
        | inr other ↦ (
            latest-append (shown clock e.0 e.1.copies) (held_of clock entries)
            ∙ ap (λ (o : Option ℕ). join o (latest_where key test (held_of clock entries))) (latest_other e.0 other e.1.copies)
            ∙ latest_absent entries (rw other at absent))
      ]

  -- what is shown of a key is what is kept of it
  pub latest_kept : (entries : Entries) → IsDistinct same_key (keys_of entries) → latest_where key test (held_of clock entries) ≡ if_above clock (greatest_in test (kept_of key entries))
  latest_kept [] distinct = sym (above_nothing clock 0 (omega arith))
  latest_kept (e ∷ entries) distinct =
      elim (cases_Bool (same_key key e.0)) [
        | inl hit ↦ (
            latest-append (shown clock e.0 e.1.copies) (held_of clock entries)
            ∙ ap (λ (o : Option ℕ). join (latest_where key test (shown clock e.0 e.1.copies)) o) (latest_absent entries (lookup-none (same_key key) entries (none_past_head same_key_equiv key e entries distinct hit)))
            ∙ join_none (latest_where key test (shown clock e.0 e.1.copies))
            ∙ latest_own e.0 hit e.1.copies
            ∙ (rw hit refl))
        | inr other ↦ (
            latest-append (shown clock e.0 e.1.copies) (held_of clock entries)
            ∙ ap (λ (o : Option ℕ). join o (latest_where key test (held_of clock entries))) (latest_other e.0 other e.1.copies)
            ∙ latest_kept entries (distinct_rest e entries distinct)
            ∙ (rw other refl))
      ]

-- ---- which keys are active

-- whether one of two lists has a copy of a key
pub active_is : (copies : List Copy) (key : KeyShape) → is_active copies key ≡ is_some (latest_where key (λ _. true) copies)
active_is [] key = refl
active_is (x ∷ copies) key =
    elim (cases_Bool (same_key key x.0)) [
      | inl hit ↦ rw hit refl
      | inr other ↦ rw other (active_is copies key)
    ]

some_active : (clock : ℕ) (o : Option KeptCopies) → IfSome o (λ kept. clock < last_until kept) → is_some (if_above clock (greatest_in (λ _. true) o)) ≡ is_some o
some_active clock None late = ap (λ (p : Option ℕ). is_some p) (above_nothing clock 0 (omega arith))
some_active clock (Some kept) late = ap (λ (p : Option ℕ). is_some p) (above_some clock (last_until kept) late)

-- a key is active where it is kept
pub active_kept : (clock : ℕ) (entries : Entries) (key : KeyShape) → IsDistinct same_key (keys_of entries) → AreUnexpired clock entries → is_active (held_of clock entries) key ≡ is_some (kept_of key entries)
active_kept clock entries key distinct unexpired =
    active_is (held_of clock entries) key
    ∙ ap (λ (o : Option ℕ). is_some o) (latest_kept clock key (λ _. true) entries distinct)
    ∙ some_active clock (kept_of key entries) (unexpired key)

pub active-map : (copies : List Copy) (key : KeyShape) → list_any (same_key key) (map (λ copy. copy.0) copies) ≡ is_active copies key
active-map [] key = refl
active-map (x ∷ copies) key = ap (λ (b : Bool). same_key key x.0 || b) (active-map copies key)

-- the number of active keys is that of the entries
pub active_keys_kept : (clock : ℕ) (entries : Entries) → IsDistinct same_key (keys_of entries) → AreUnexpired clock entries → length entries ≡ active_keys (held_of clock entries)
active_keys_kept clock entries distinct unexpired =
    sym (length-keys_of entries)
    ∙ length-from_keys same_key_equiv (keys_of entries) (map (λ copy. copy.0) (held_of clock entries)) distinct (λ key. (
    sym (is_some-lookup (same_key key) entries) ∙ sym (active_kept clock entries key distinct unexpired) ∙ sym (active-map (held_of clock entries) key)))

-- what is shown is later than the clock
shown_later : (clock : ℕ) (key : KeyShape) (copies : List (ℕ × ℕ)) → All (λ (copy : Copy). clock < copy.2) (shown clock key copies)
shown_later clock key [] = λ k d low. absurd (omega (arith, low))
shown_later clock key (x ∷ copies) =
    elim (cases_Bool (is_later clock x)) as (λ _. All (λ (copy : Copy). clock < copy.2) (shown clock key (x ∷ copies))) [
      | inl late ↦ (rw late (shown_first clock key x copies (ltb-true clock x.1 late) (shown_later clock key copies)))
      | inr past ↦ (rw past (shown_later clock key copies))
    ]
  where
    shown_first : (clock : ℕ) (key : KeyShape) (x : ℕ × ℕ) (copies : List (ℕ × ℕ)) → clock < x.1 → All (λ (copy : Copy). clock < copy.2) (shown clock key copies) → All (λ (copy : Copy). clock < copy.2) ((key, x.0, x.1) ∷ shown clock key copies)
    shown_first clock key x copies late rest zero d low = late
    shown_first clock key x copies late rest (suc k) d low = rest k d (omega (arith, low))

pub held_later : (clock : ℕ) (entries : Entries) → All (λ (copy : Copy). clock < copy.2) (held_of clock entries)
held_later clock [] k d low = absurd (omega (arith, low))
held_later clock (e ∷ entries) k d low = All-append (λ (copy : Copy). clock < copy.2) (shown clock e.0 e.1.copies) (held_of clock entries) (shown_later clock e.0 e.1.copies) (held_later clock entries) k d low

-- ---- what expires

-- a second, if it is there and above the clock
abbrev pub only_above : ℕ → Option ℕ → Option ℕ
only_above clock None = None
only_above clock (Some u) = if_above clock u

only_later : (clock u : ℕ) (o : Option ℕ) → clock < u → Some (later_of u (only_above clock o)) ≡ only_above clock (Some (later_of u o))
only_later clock u None late = sym (above_some clock u late)
only_later clock u (Some v) late = later_above clock u v late

only_past : (clock u : ℕ) (o : Option ℕ) → u ≤ clock → only_above clock o ≡ only_above clock (Some (later_of u o))
only_past clock u None past = sym (above_nothing clock u past)
only_past clock u (Some v) past = past_above clock u v past

-- the greatest until of the copies that expire later
pub latest_unexpired : (clock : ℕ) (key : KeyShape) (test : ℕ → Bool) (copies : List Copy) → latest_where key test (unexpired clock copies) ≡ only_above clock (latest_where key test copies)
latest_unexpired clock key test [] = refl
latest_unexpired clock key test (x ∷ copies) =
    elim (cases_lt clock x.2) [
      | inl late ↦ (rw (lt-ltb clock x.2 late) (elim (cases_Bool (same_key key x.0 && test x.1)) [
        | inl passes ↦ (rw passes (ap (λ (o : Option ℕ). Some (later_of x.2 o)) (latest_unexpired clock key test copies) ∙ only_later clock x.2 (latest_where key test copies) late))
        | inr fails ↦ (rw fails (latest_unexpired clock key test copies))
      ]))
      | inr past ↦ (rw (le-ltb clock x.2 past) (elim (cases_Bool (same_key key x.0 && test x.1)) [
        | inl passes ↦ (rw passes (latest_unexpired clock key test copies ∙ only_past clock x.2 (latest_where key test copies) past))
        | inr fails ↦ (rw fails (latest_unexpired clock key test copies))
      ]))
    ]

-- above a clock and above a later one
pub only_again : (early late n : ℕ) → early ≤ late → only_above late (if_above early n) ≡ if_above late n
only_again early late n order =
    elim (cases_lt early n) [
      | inl more ↦ ap (only_above late) (above_some early n more)
      | inr less ↦ ap (only_above late) (above_nothing early n less) ∙ sym (above_nothing late n (omega arith))
    ]

greatest_upto : (test : ℕ → Bool) (copies : List (ℕ × ℕ)) → greatest test copies ≤ greatest (λ _. true) copies
greatest_upto test [] = omega arith
greatest_upto test (x ∷ xs) =
    elim (cases_Bool (test x.0)) [
      | inl passes ↦ (let rest = greatest_upto test xs in rw passes (omega (arith, rest)))
      | inr fails ↦ (let rest = greatest_upto test xs in rw fails (omega (arith, rest)))
    ]

-- what a moment leaves of a key
aged : (moment : ℕ) (test : ℕ → Bool) (before after : Option KeptCopies) (was is : Bool) → Ages moment before after was is → if_above moment (greatest_in test after) ≡ if_above moment (greatest_in test before)
aged moment test before after was is (inl stays) = ap (λ (o : Option KeptCopies). if_above moment (greatest_in test o)) stays.0
aged moment test before after was is (inr (kept, before_is, past, gone, idle)) =
    ap (λ (o : Option KeptCopies). if_above moment (greatest_in test o)) gone
    ∙ above_nothing moment 0 (omega arith)
    ∙ sym (ap (λ (o : Option KeptCopies). if_above moment (greatest_in test o)) before_is ∙ above_nothing moment (greatest test kept.copies) (let g = greatest_upto test kept.copies in omega (arith, g, past)))

-- the unexpired copies after a moment
pub aged_held : (clock moment : ℕ) (before after : Entries) (was is : List KeyShape) → clock ≤ moment → IsDistinct same_key (keys_of before) → IsDistinct same_key (keys_of after) → AllAge moment before after was is →
    SameCopies (held_of moment after) (unexpired moment (held_of clock before))
aged_held clock moment before after was is order distinct distinct_after ages key test =
    latest_kept moment key test after distinct_after
    ∙ aged moment test (kept_of key before) (kept_of key after) (list_any (same_key key) was) (list_any (same_key key) is) (ages key)
    ∙ sym (latest_unexpired moment key test (held_of clock before)
    ∙ ap (only_above moment) (latest_kept clock key test before distinct)
    ∙ only_again clock moment (greatest_in test (kept_of key before)) order)

-- without a later moment
pub same_held : (clock : ℕ) (entries : Entries) → IsDistinct same_key (keys_of entries) → SameCopies (held_of clock entries) (unexpired clock (held_of clock entries))
same_held clock entries distinct key test =
    latest_kept clock key test entries distinct
    ∙ sym (latest_unexpired clock key test (held_of clock entries)
    ∙ ap (only_above clock) (latest_kept clock key test entries distinct)
    ∙ only_again clock clock (greatest_in test (kept_of key entries)) (omega arith))

-- which keys are idle after a moment
idle_after : (moment : ℕ) (before after : Option KeptCopies) (was is : Bool) → Ages moment before after was is → is ≡ (was || is_some before && not (is_some after))
idle_after moment before after was is (inl stays) = stays.1 ∙ sym (ap (λ (o : Option KeptCopies). was || is_some before && not (is_some o)) stays.0 ∙ still was (is_some before))
  where
    still : (a b : Bool) → (a || b && not b) ≡ a
    still true true = refl
    still true false = refl
    still false true = refl
    still false false = refl
idle_after moment before after was is (inr (kept, before_is, past, gone, idle)) =
    idle ∙ sym (ap (λ (o : Option KeptCopies). was || is_some o && not (is_some after)) before_is ∙ ap (λ (o : Option KeptCopies). was || not (is_some o)) gone ∙ or_true was)
  where
    or_true : (a : Bool) → (a || true) ≡ true
    or_true true = refl
    or_true false = refl

pub aged_idle : (clock moment : ℕ) (before after : Entries) (was is : List KeyShape) → IsDistinct same_key (keys_of before) → IsDistinct same_key (keys_of after) → AreUnexpired clock before → AreUnexpired moment after → AllAge moment before after was is →
    (key : KeyShape) → list_any (same_key key) is ≡ (list_any (same_key key) was || is_active (held_of clock before) key && not (is_active (held_of moment after) key))
aged_idle clock moment before after was is distinct distinct_after unexpired unexpired_after ages key =
    idle_after moment (kept_of key before) (kept_of key after) (list_any (same_key key) was) (list_any (same_key key) is) (ages key)
    ∙ sym (ap (λ (b : Bool). list_any (same_key key) was || b && not (is_active (held_of moment after) key)) (active_kept clock before key distinct unexpired)
    ∙ ap (λ (b : Bool). list_any (same_key key) was || is_some (kept_of key before) && not b) (active_kept moment after key distinct_after unexpired_after))

pub above_zero : (clock : ℕ) → if_above clock 0 ≡ None
above_zero clock = above_nothing clock 0 (omega arith)
