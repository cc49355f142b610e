-- What the invalidations of a match raise.
use Rattle.std.proofs.Common.{◌≡◌, ℕ, zero, suc, ◌+◌, ◌<◌, ◌≤◌, ◌==◌, Bool, true, false, not, ◌&&◌, ◌||◌, ◌⊎◌, max, nat_lt, nat_le, List, [], ◌∷◌, ◌++◌, length, map, is_some, Option, Some, None, unwrap_or, slice_get, slice_index, slice_index_or, get_or, take, option_map, option_and_then, bytes_eq, if◌then◌else◌, refl, sym, ap, ap₂, ◌∙◌, arith, inl, inr}
use Rattle.std.specs.List.{list_any, IsDistinct, AllByRecursion}
use Rattle.std.specs.Map.{lookup, keys_of}
use Rattle.std.proofs.lemmas.Option.{get_or_from_slice_get}
use Rattle.std.proofs.lemmas.Bool.{cases_Bool, cases_lt, lt-ltb, le-ltb, le-leb, lt-leb, ltb-true, leb-true, eq-eqb, eqb-true, or_left, or_right}
use Rattle.std.proofs.Math.Bool.{and-true, and-false, and_comm, or-false}
use Rattle.std.proofs.Math.Seq.{take-suc}
use Rattle.query_normal.specs.Keys.{same_key}
use Rattle.query_normal.specs.SameKey.{same_key-Decides, same_key_equiv}
use Rattle.query_normal.specs.declared.key.KeyShape.{KeyShape}
use Rattle.query_normal.specs.declared.key.KeyShape.TheVariants.{Record, Query}
use Rattle.issued_expiries.specs.Copies.{Copy, SameCopies, unexpired, latest_where, is_between, is_active}
use Rattle.issued_expiries.proofs.ViewLemmas.{only_above, latest_unexpired}
use Rattle.commit_book.specs.declared.change.Change.{Change}
use Rattle.commit_book.specs.Journal.{is_of, document_at, alteration}
use Rattle.active_queries.specs.Following.{Following}
use Rattle.active_queries.specs.Queries.{HaveSeen, AreListed, has_any, has_changed}
use Rattle.hub_model.specs.Copies.{live}
use Rattle.hub_model.specs.Outdated.{is_changed}
use Rattle.hub_model.specs.State.{IssuedCopy, State, until_of}
use Rattle.hub_model.specs.Until.{until_among, latest_until, until_of_outdated}
use Rattle.hub_model.proofs.Changes.{record-changed}
use Rattle.hub_model.proofs.Covered.{outdated_until-commit}
use Rattle.hub_core.specs.declared.invalidations.Invalidation.{Invalidation}
use Rattle.hub_core.specs.ActiveQueries.{is_query, KeepsQueries}
use Rattle.hub_core.specs.Invalidations.{key_of, altered_key, is_key, is_invalidation, is_after, invalidates, lists_after, AreInvalidationsOf, AreRecordInvalidationsOf, invalidated_until}
use Rattle.hub_core.specs.Copied.{copy_of}
use Rattle.hub_core.specs.HubState.{HasCopies}
use Rattle.hub_core.specs.CopiesView.{until_below}
use Rattle.hub_core.proofs.CopyLemmas.{latest, latest-cons}
use Rattle.hub_core.proofs.GreatestLemmas.{best, best-cons, best-append, best-le}
use Rattle.hub_core.proofs.KeepLemmas.{invalidations-are}

-- ---- the last copy of a key

-- the second of the last copy is the greatest until
until-latest : (key : KeyShape) (test : ℕ → Bool) (rs : List IssuedCopy) → unwrap_or (latest_where key test (map copy_of rs)) 0 ≡ until_among key (λ r. test r.at) rs
until-latest key test [] = refl
until-latest key test (r ∷ rs) =
    let rest = until-latest key test rs in
    ap (λ (o : Option ℕ). unwrap_or o 0) (latest-cons key test (copy_of r) (map copy_of rs))
    ∙ by (same_key key r.key && test r.at) (latest_where key test (map copy_of rs))
    ∙ ap (λ (n : ℕ). max (if same_key key r.key && test r.at then until_of r else 0) n) rest
    ∙ sym (best-cons until_of (λ (x : IssuedCopy). same_key key x.key && test x.at) r rs)
  where
    by : (b : Bool) (o : Option ℕ) → unwrap_or (latest (if b then Some (until_of r) else None) o) 0 ≡ max (if b then until_of r else 0) (unwrap_or o 0)
    by true None = omega arith
    by true (Some n) = refl
    by false o = omega arith

pub below-until : (copies : List Copy) (s : State) (key : KeyShape) (commit : ℕ) → HasCopies copies s → until_below copies key commit ≡ latest_until s key 0 commit
below-until copies s key commit same =
    ap (λ (o : Option ℕ). unwrap_or o 0) (same key (is_between 0 commit)) ∙ until-latest key (is_between 0 commit) (live s)

-- ---- the key whose result a commit changed

-- a change is of a record where their keys are equal
pub is_of-key : (change : Change) (collection id : List ℕ) → is_of collection id change ≡ same_key (key_of change) (Record collection id)
is_of-key change collection id = and_comm (bytes_eq change.id id) (bytes_eq change.collection collection)

-- the key that a commit altered is the only record's whose result it changed
altered-decides : (journal : List Change) (n : ℕ) (key : KeyShape) → n < length journal → (not (is_query key) && is_changed key journal (suc n)) ≡ is_key key (altered_key journal (suc n))
altered-decides journal n (Query kind query) low = by (alteration journal (suc n))
  where
    by : (found : Option Change) → false ≡ is_key (Query kind query) (option_map key_of found)
    by None = refl
    by (Some x) = refl
altered-decides journal n (Record collection id) low = of (there journal n low)
  where
    there : (xs : List Change) (i : ℕ) → i < length xs → (x : Change) × (slice_get xs i ≡ Some x)
    there [] i low = absurd (omega (arith, low))
    there (x ∷ xs) zero low = (x, refl)
    there (x ∷ xs) (suc i) low = there xs i (omega (arith, low))

    same_record : (x : Change) (b : Bool) → same_key (Record collection id) (key_of x) ≡ b →
        (b && (is_some x.document || is_some (document_at journal n collection id))) ≡ (b && (is_some x.document || is_some (document_at journal n x.collection x.id)))
    same_record x true hit =
        let e : Record collection id ≡ key_of x = (same_key-Decides (Record collection id) (key_of x)).0 hit in
        let c : collection ≡ x.collection = cc in
        let i : id ≡ x.id = cc in
        ap₂ (λ (a b : List ℕ). is_some x.document || is_some (document_at journal n a b)) c i
    same_record x false miss = refl

    decides : (x : Change) (a : Bool) → (same_key (Record collection id) (key_of x) && a) ≡ is_key (Record collection id) (option_map key_of (if a then Some x else None))
    decides x true = and-true (same_key (Record collection id) (key_of x))
    decides x false = and-false (same_key (Record collection id) (key_of x))

    of : (x : Change) × (slice_get journal n ≡ Some x) → is_changed (Record collection id) journal (suc n) ≡ is_key (Record collection id) (altered_key journal (suc n))
    of found =
        let x = found.0 in
        record-changed collection id journal n x found.1
        ∙ ap (λ (b : Bool). b && (is_some x.document || is_some (document_at journal n collection id))) (is_of-key x collection id ∙ same_key_equiv.symm (key_of x) (Record collection id))
        ∙ same_record x (same_key (Record collection id) (key_of x)) refl
        ∙ decides x (is_some x.document || is_some (document_at journal n x.collection x.id))
        ∙ sym (ap (λ (o : Option Change). is_key (Record collection id) (option_map key_of (option_and_then (λ change. if is_some change.document || is_some (document_at journal n change.collection change.id) then Some change else None) o))) found.1)

-- ---- the invalidations by commits

-- no commit is after itself
pub invalidations-none : (journal : List Change) (front : ℕ) → AreRecordInvalidationsOf journal front front []
invalidations-none journal front key commit =
    elim (cases_lt front commit) [
      | inl above ↦ rw (lt-ltb front commit above, lt-leb commit front above) (sym (and-false (not (is_query key))))
      | inr below ↦ rw (le-ltb front commit below) (sym (and-false (not (is_query key))))
    ]

-- one commit more
pub invalidations-next : (journal : List Change) (front n : ℕ) (old new : List Invalidation) → AreRecordInvalidationsOf journal front n old →
    ((key : KeyShape) (commit : ℕ) → list_any (is_invalidation key commit) new ≡ (list_any (is_invalidation key commit) old || (is_key key (altered_key journal (n + 1)) && (n + 1 == commit)))) →
    front ≤ n → n < length journal → AreRecordInvalidationsOf journal front (n + 1) new
invalidations-next journal front n old new were more forward within key commit =
    more key commit
    ∙ ap (λ (b : Bool). b || (is_key key (altered_key journal (n + 1)) && (n + 1 == commit))) (were key commit ∙ outer (is_query key) (is_after front n commit) (is_changed key journal commit))
    ∙ by (cases_Bool (n + 1 == commit))
    ∙ sym (outer (is_query key) (is_after front (n + 1) commit) (is_changed key journal commit))
  where
    -- the commit changes the result of the key, which is a record's
    alters : Bool
    alters = not (is_query key) && is_changed key journal commit

    outer : (query a changed : Bool) → (not query && (a && changed)) ≡ (a && (not query && changed))
    outer true a changed = sym (and-false a)
    outer false a changed = refl

    beyond-next : ((n + 1 == commit) ≡ false) → n < commit → n + 1 < commit
    beyond-next miss beyond =
        elim (cases_lt (n + 1) commit) [
          | inl h ↦ h
          | inr h ↦ (let e : n + 1 ≡ commit = omega (arith, h, beyond) in absurd (let t : (n + 1 == commit) ≡ true = eq-eqb (n + 1) commit e in cc))
        ]

    by : ((n + 1 == commit) ≡ true) ⊎ ((n + 1 == commit) ≡ false) → ((is_after front n commit && alters) || (is_key key (altered_key journal (n + 1)) && (n + 1 == commit))) ≡ (is_after front (n + 1) commit && alters)
    by (inl hit) =
        let same : n + 1 ≡ commit = eqb-true (n + 1) commit hit in
        let next : suc n ≡ n + 1 = omega arith in
        let told : is_key key (altered_key journal (n + 1)) ≡ alters =
        ap (λ (m : ℕ). is_key key (altered_key journal m)) (sym next) ∙ sym (altered-decides journal n key within) ∙ ap (λ (m : ℕ). not (is_query key) && is_changed key journal m) (next ∙ same) in
        let above : front < commit = omega (arith, same, forward) in
        let beyond : n < commit = omega (arith, same) in
        let up : commit ≤ n + 1 = omega (arith, same) in
        ap₂ (λ (b c : Bool). (b && alters) || c)
        (ap₂ (λ (b c : Bool). b && c) (lt-ltb front commit above) (lt-leb commit n beyond))
        (ap₂ (λ (b c : Bool). b && c) told hit ∙ and-true alters)
        ∙ sym (ap₂ (λ (b c : Bool). (b && c) && alters) (lt-ltb front commit above) (le-leb commit (n + 1) up))
    by (inr miss) =
        ap (λ (b : Bool). (is_after front n commit && alters) || b) (ap (λ (b : Bool). is_key key (altered_key journal (n + 1)) && b) miss ∙ and-false (is_key key (altered_key journal (n + 1))))
        ∙ or-false (is_after front n commit && alters)
        ∙ ap (λ (b : Bool). (nat_lt front commit && b) && alters)
        (elim (cases_lt n commit) [
          | inl beyond ↦ (let apart : n + 1 < commit = beyond-next miss beyond in lt-leb commit n beyond ∙ sym (lt-leb commit (n + 1) apart))
          | inr within' ↦ le-leb commit n within' ∙ sym (le-leb commit (n + 1) (omega (arith, within')))
        ])

-- ---- the invalidations by the changes of queries

-- a key without a query is invalidated by none
none-invalidates : (front to : ℕ) (key : KeyShape) (n : ℕ) (entries : List (KeyShape × Following)) → is_some (lookup (same_key key) entries) ≡ false → list_any (invalidates front to key n) entries ≡ false
none-invalidates front to key n [] none = refl
none-invalidates front to key n (e ∷ entries) none = by (same_key key e.0) refl (none-invalidates front to key n entries)
  where
    by : (b : Bool) → same_key key e.0 ≡ b → (is_some (lookup (same_key key) entries) ≡ false → list_any (invalidates front to key n) entries ≡ false) → list_any (invalidates front to key n) (e ∷ entries) ≡ false
    by true own rest = absurd (let there : is_some (if true then Some e.1 else lookup (same_key key) entries) ≡ false = sym (ap (λ (b : Bool). is_some (if b then Some e.1 else lookup (same_key key) entries)) own) ∙ none in cc)
    by false apart rest =
        ap (λ (b : Bool). (b && list_any (λ m. is_after front to m && (m == n)) e.1.changed) || list_any (invalidates front to key n) entries) apart
        ∙ rest (sym (ap (λ (b : Bool). is_some (if b then Some e.1 else lookup (same_key key) entries)) apart) ∙ none)

-- the invalidations of records and those by the queries are all
pub invalidations-all : (journal : List Change) (front to : ℕ) (copies : List Copy) (idle : List KeyShape) (entries : List (KeyShape × Following)) (records all : List Invalidation) → KeepsQueries journal front copies idle entries → HaveSeen to entries →
    AreRecordInvalidationsOf journal front to records → ((key : KeyShape) (n : ℕ) → list_any (is_invalidation key n) all ≡ (list_any (is_invalidation key n) records || list_any (invalidates front to key n) entries)) →
    AreInvalidationsOf journal front to copies all
invalidations-all journal front to copies idle entries records all keeps seen of is key commit some = is key commit ∙ by (cases_Bool (is_query key))
  where
    matters : Bool
    matters = is_after front to commit && is_changed key journal commit

    by : (is_query key ≡ true) ⊎ (is_query key ≡ false) → (list_any (is_invalidation key commit) records || list_any (invalidates front to key commit) entries) ≡ matters
    by (inl query) =
        ap₂ (λ (a b : Bool). a || b) (of key commit ∙ ap (λ (b : Bool). not b && matters) query) (invalidations-are journal front copies idle entries keeps to seen key commit query some)
    by (inr none) =
        ap₂ (λ (a b : Bool). a || b) (of key commit ∙ ap (λ (b : Bool). not b && matters) none)
        (none-invalidates front to key commit entries (keeps.tied key ∙ ap (λ (b : Bool). b && (is_active copies key || list_any (same_key key) idle)) none))
        ∙ or-false matters

-- three tests, grouped
or-group : (x y z : Bool) → (x || (y || z)) ≡ ((x || y) || z)
or-group true y z = refl
or-group false y z = refl

-- a test of one item more
any-next : {X : Type 0} (p : X → Bool) (xs : List X) (i : ℕ) (x : X) → slice_get xs i ≡ Some x → list_any p (take (i + 1) xs) ≡ (list_any p (take i xs) || p x)
any-next {X} p xs i x there = ap (λ n. list_any p (take n xs)) (let h : i + 1 ≡ suc i = omega arith in h) ∙ by xs i there
  where
    by : (ys : List X) (j : ℕ) → slice_get ys j ≡ Some x → list_any p (take (suc j) ys) ≡ (list_any p (take j ys) || p x)
    by [] j found = absurd (let e : ◌≡◌ {A = Option X} None (Some x) = found in cc)
    by (y ∷ ys) zero found = (let e : y ≡ x = (let f : ◌≡◌ {A = Option X} (Some y) (Some x) = found in cc) in or-false (p y) ∙ ap p e)
    by (y ∷ ys) (suc j) found = ap (λ (b : Bool). p y || b) (by ys j found) ∙ or-group (p y) (list_any p (take j ys)) (p x)

-- an index within a list has an item
item-there : {X : Type 0} (xs : List X) (i : ℕ) → i < length xs → (x : X) × (slice_get xs i ≡ Some x)
item-there [] i low = absurd (omega (arith, low))
item-there (x ∷ xs) zero low = (x, refl)
item-there (x ∷ xs) (suc i) low = item-there xs i (omega (arith, low))

-- the invalidations by one key more
pub listed-next : (lists : Option Following → Bool) (entries : List (KeyShape × Following)) (key k : KeyShape) (ks : List KeyShape) (i : ℕ) (first old new : Bool) → i < length ks → k ≡ get_or ks i k → old ≡ (first || (list_any (same_key key) (take i ks) && lists (lookup (same_key key) entries)))
    → new ≡ (old || (same_key key k && lists (lookup (same_key k) entries))) → new ≡ (first || (list_any (same_key key) (take (i + 1) ks) && lists (lookup (same_key key) entries)))
listed-next lists entries key k ks i first old new low item was is =
    let there = item-there ks i low in
    let k_is : k ≡ there.0 = item ∙ get_or_from_slice_get ks i there.0 k there.1 in
    is
    ∙ ap₂ (λ (a b : Bool). a || b) was own
    ∙ group first (list_any (same_key key) (take i ks)) (same_key key k) (lists (lookup (same_key key) entries))
    ∙ ap (λ (x : KeyShape). first || ((list_any (same_key key) (take i ks) || same_key key x) && lists (lookup (same_key key) entries))) k_is
    ∙ ap (λ (b : Bool). first || (b && lists (lookup (same_key key) entries))) (sym (any-next (same_key key) ks i there.0 there.1))
  where
    group : (a b c d : Bool) → ((a || (b && d)) || (c && d)) ≡ (a || ((b || c) && d))
    group true b c d = refl
    group false true true true = refl
    group false true true false = refl
    group false true false true = refl
    group false true false false = refl
    group false false c d = refl

    own : (same_key key k && lists (lookup (same_key k) entries)) ≡ (same_key key k && lists (lookup (same_key key) entries))
    own = elim (cases_Bool (same_key key k)) [
      | inl hit ↦ ap (λ (x : KeyShape). same_key key k && lists (lookup (same_key x) entries)) (sym ((same_key-Decides key k).0 hit))
      | inr miss ↦ rw miss refl
    ]

-- no query of the keys has this one
others-invalidate : (front to : ℕ) (key : KeyShape) (n : ℕ) (first : KeyShape) (entries : List (KeyShape × Following)) → key ≡ first → AllByRecursion (λ k. same_key first k ≡ false) (keys_of entries) → list_any (invalidates front to key n) entries ≡ false
others-invalidate front to key n first [] same apart = refl
others-invalidate front to key n first (e ∷ entries) same apart =
    let miss : same_key key e.0 ≡ false = ap (λ (k : KeyShape). same_key k e.0) same ∙ apart.0 in
    rw miss (others-invalidate front to key n first entries same apart.1)

-- the one query of a key
own-invalidates : (front to : ℕ) (key : KeyShape) (n : ℕ) (entries : List (KeyShape × Following)) → IsDistinct same_key (keys_of entries) → lists_after front to n (lookup (same_key key) entries) ≡ list_any (invalidates front to key n) entries
unfolding IsDistinct
own-invalidates front to key n [] once = refl
own-invalidates front to key n (e ∷ entries) once = elim (cases_Bool (same_key key e.0)) [
  | inl hit ↦
      let rest = others-invalidate front to key n e.0 entries ((same_key-Decides key e.0).0 hit) once.0 in
      rw (hit, rest) (sym (or-false (list_any (λ m. is_after front to m && (m == n)) e.1.changed)))
  | inr miss ↦ rw miss (own-invalidates front to key n entries once.1)
]

-- the keys that were looked at are those of all queries that list a changed commit
pub listed-whole : (front to : ℕ) (key : KeyShape) (n : ℕ) (entries : List (KeyShape × Following)) (listed : List KeyShape) (i : ℕ) (first new : Bool) → AreListed entries listed → IsDistinct same_key (keys_of entries) → length listed ≤ i
    → new ≡ (first || (list_any (same_key key) (take i listed) && lists_after front to n (lookup (same_key key) entries))) → new ≡ (first || list_any (invalidates front to key n) entries)
listed-whole front to key n entries listed i first new are once past is =
    is
    ∙ ap (λ (ks : List KeyShape). first || (list_any (same_key key) ks && lists_after front to n (lookup (same_key key) entries))) (whole listed i past)
    ∙ ap (λ (b : Bool). first || (b && lists_after front to n (lookup (same_key key) entries))) (are key)
    ∙ ap (λ (b : Bool). first || b) (both (lookup (same_key key) entries) ∙ own-invalidates front to key n entries once)
  where
    whole : (ks : List KeyShape) (m : ℕ) → length ks ≤ m → take m ks ≡ ks
    whole [] zero past = refl
    whole [] (suc m) past = refl
    whole (k ∷ ks) zero past = absurd (omega (arith, past))
    whole (k ∷ ks) (suc m) past = ap (λ (rest : List KeyShape). k ∷ rest) (whole ks m (omega (arith, past)))

    by : (changed : List ℕ) → (has_any changed && list_any (λ m. is_after front to m && (m == n)) changed) ≡ list_any (λ m. is_after front to m && (m == n)) changed
    by [] = refl
    by (m ∷ changed) = refl

    both : (found : Option Following) → (has_changed found && lists_after front to n found) ≡ lists_after front to n found
    both None = refl
    both (Some a) = by a.changed

-- there are no queries
pub none-listed : {X : Type 0} (p : X → Bool) (xs : List X) (first : Bool) → length xs ≡ 0 → first ≡ (first || list_any p xs)
none-listed p [] first none = sym (or-false first)
none-listed p (x ∷ xs) first none = absurd (omega (arith, none))

-- and by one of a query's changes more
pub changes-next : (p : ℕ → Bool) (own : Bool) (xs : List ℕ) (i m : ℕ) (first old new : Bool) → i < length xs → m ≡ slice_index xs i → old ≡ (first || (own && list_any p (take i xs))) → new ≡ (old || (own && p m)) → new ≡ (first || (own && list_any p (take (i + 1) xs)))
changes-next p own xs i m first old new low item was is =
    let there = item-there xs i low in
    let m_is : m ≡ there.0 = item ∙ value xs i there.0 there.1 in
    is
    ∙ ap₂ (λ (b : Bool) (n : ℕ). b || (own && p n)) was m_is
    ∙ sym (or-group first (own && list_any p (take i xs)) (own && p there.0))
    ∙ ap (λ (b : Bool). first || b) (both own (list_any p (take i xs)) (p there.0) ∙ ap (λ (b : Bool). own && b) (sym (any-next p xs i there.0 there.1)))
  where
    both : (a b c : Bool) → ((a && b) || (a && c)) ≡ (a && (b || c))
    both true b c = refl
    both false b c = refl

    value : (ys : List ℕ) (j x : ℕ) → slice_get ys j ≡ Some x → slice_index ys j ≡ x
    value [] j x found = absurd (let e : ◌≡◌ {A = Option ℕ} None (Some x) = found in cc)
    value (y ∷ ys) zero x found = (let f : ◌≡◌ {A = Option ℕ} (Some y) (Some x) = found in cc)
    value (y ∷ ys) (suc j) x found = value ys j x found

-- they stay those of the copies when some expire
pub invalidations-later : (journal : List Change) (front to clock : ℕ) (old new : List Copy) (invalidations : List Invalidation) → SameCopies new (unexpired clock old) → AreInvalidationsOf journal front to old invalidations → AreInvalidationsOf journal front to new invalidations
invalidations-later journal front to clock old new invalidations same are key commit some =
    are key commit
    (let is : until_below new key commit ≡ unwrap_or (only_above clock (latest_where key (is_between 0 commit) old)) 0 = ap (λ (o : Option ℕ). unwrap_or o 0) (same key (is_between 0 commit) ∙ latest_unexpired clock key (is_between 0 commit) old) in
    let less = by (latest_where key (is_between 0 commit) old) in
    omega (arith, some, is, less))
  where
    by : (o : Option ℕ) → unwrap_or (only_above clock o) 0 ≤ unwrap_or o 0
    by None = omega arith
    by (Some n) = elim (cases_Bool (nat_lt clock n)) [ inl later ↦ rw later (omega arith) | inr past ↦ rw past (omega arith) ]

-- ---- how far the commits of a match raise a key

module _ (U L : ℕ → ℕ) (changed : ℕ → Bool) (step : (n : ℕ) → U (suc n) ≡ max (U n) (if changed (suc n) then L (suc n) else 0)) where
  raised-most : (front most to : ℕ) → front ≤ to → ((n : ℕ) → front < n → n ≤ to → changed n ≡ true → L n ≤ most) → U to ≤ max (U front) most
  raised-most front most zero forward each = (let e : front ≡ zero = omega (arith, forward) in let u = ap U e in omega (arith, u))
  raised-most front most (suc n) forward each =
      elim (cases_lt n front) [
        | inl past ↦ (let e : front ≡ suc n = omega (arith, past, forward) in let u = ap U e in omega (arith, u))
        | inr low ↦ (
            let rest = raised-most front most n low (λ m above within hit. each m above (omega (arith, within)) hit) in
            let one = step n in
            elim (cases_Bool (changed (suc n))) [
              | inl hit ↦ (
                  let top = each (suc n) (omega (arith, low)) (omega arith) hit in
                  let is : U (suc n) ≡ max (U n) (L (suc n)) = one ∙ ap (λ (b : Bool). max (U n) (if b then L (suc n) else 0)) hit in
                  omega (arith, rest, top, is))
              | inr miss ↦ (
                  let is : U (suc n) ≡ max (U n) 0 = one ∙ ap (λ (b : Bool). max (U n) (if b then L (suc n) else 0)) miss in
                  omega (arith, rest, is))
            ])
      ]

  raised-stays : (front to : ℕ) → front ≤ to → U front ≤ U to
  raised-stays front zero forward = (let e : front ≡ zero = omega (arith, forward) in let u = ap U e in omega (arith, u))
  raised-stays front (suc n) forward =
      elim (cases_lt n front) [
        | inl past ↦ (let e : front ≡ suc n = omega (arith, past, forward) in let u = ap U e in omega (arith, u))
        | inr low ↦ (let rest = raised-stays front n low in let one = step n in omega (arith, rest, one))
      ]

  raised-least : (to n : ℕ) → 0 < n → n ≤ to → changed n ≡ true → L n ≤ U to
  raised-least zero n some within hit = absurd (omega (arith, some, within))
  raised-least (suc m) n some within hit =
      elim (cases_lt m n) [
        | inl own ↦ (
            let e : n ≡ suc m = omega (arith, own, within) in
            let is : U (suc m) ≡ max (U m) (L (suc m)) = step m ∙ ap (λ (b : Bool). max (U m) (if b then L (suc m) else 0)) (ap changed (sym e) ∙ hit) in
            let l = ap L e in
            omega (arith, is, l))
        | inr low ↦ (let rest = raised-least m n some low hit in let one = step m in omega (arith, rest, one))
      ]

-- an invalidation that is there raises its key as far as its copies go
any-most : (copies : List Copy) (key : KeyShape) (n : ℕ) (invalidations : List Invalidation) → list_any (is_invalidation key n) invalidations ≡ true → until_below copies key n ≤ invalidated_until copies invalidations key
any-most copies key n [] there = absurd (let e = there in cc)
any-most copies key n (m ∷ ms) there =
    let u : Invalidation → ℕ = λ x. until_below copies x.key x.commit in
    let p : Invalidation → Bool = λ x. same_key key x.key in
    by (same_key key m.key) (m.commit == n) refl refl (best-cons u p m ms) (λ rest. any-most copies key n ms rest)
  where
    by : (a b : Bool) → same_key key m.key ≡ a → (m.commit == n) ≡ b → invalidated_until copies (m ∷ ms) key ≡ max (if same_key key m.key then until_below copies m.key m.commit else 0) (invalidated_until copies ms key) →
        (list_any (is_invalidation key n) ms ≡ true → until_below copies key n ≤ invalidated_until copies ms key) → until_below copies key n ≤ invalidated_until copies (m ∷ ms) key
    by true true own at more further =
        let k : key ≡ m.key = (same_key-Decides key m.key).0 own in
        let c : m.commit ≡ n = eqb-true m.commit n at in
        let first : (if same_key key m.key then until_below copies m.key m.commit else 0) ≡ until_below copies key n = ap (λ (b : Bool). if b then until_below copies m.key m.commit else 0) own ∙ ap₂ (until_below copies) (sym k) c in
        omega (arith, more, first)
    by true false own at more further =
        let low = further (sym (ap₂ (λ (a b : Bool). (a && b) || list_any (is_invalidation key n) ms) own at) ∙ there) in
        omega (arith, more, low)
    by false b own at more further =
        let low = further (sym (ap (λ (a : Bool). (a && (m.commit == n)) || list_any (is_invalidation key n) ms) own) ∙ there) in
        omega (arith, more, low)

-- each invalidation is there
any-own : {X : Type 0} (p : X → Bool) (xs : List X) (k : ℕ) (d : X) → k < length xs → p (slice_index_or xs k d) ≡ true → list_any p xs ≡ true
any-own p [] k d low hit = absurd (omega (arith, low))
any-own p (x ∷ xs) zero d low hit = or_left (p x) (list_any p xs) hit
any-own p (x ∷ xs) (suc k) d low hit = or_right (p x) (list_any p xs) (any-own p xs k d (omega (arith, low)) hit)

both-parts : (a b c : Bool) → ((a && b) && c) ≡ true → (a ≡ true) × (b ≡ true) × (c ≡ true)
both-parts true true true h = (refl, refl, refl)
both-parts true true false h = absurd (let e = h in cc)
both-parts true false c h = absurd (let e = h in cc)
both-parts false b c h = absurd (let e = h in cc)

-- the invalidations by the commits up to one raise a key as far as these outdate its copies
pub invalidations-raise : (copies : List Copy) (s : State) (front to : ℕ) (invalidations : List Invalidation) (key : KeyShape) → HasCopies copies s → front ≤ to → AreInvalidationsOf s.journal front to copies invalidations →
    until_of_outdated (record s { front = to }) key ≡ max (until_of_outdated (record s { front = front }) key) (invalidated_until copies invalidations key)
invalidations-raise copies s front to invalidations key same forward are =
    let upper = raised-most raised own changed step front (invalidated_until copies invalidations key) to forward (λ n above within hit. reached n (cases_lt 0 (until_below copies key n)) above within hit) in
    let lower = best-le (λ (m : Invalidation). until_below copies m.key m.commit) (λ (m : Invalidation). same_key key m.key) (raised to) invalidations (λ k d low hit. covered k d (cases_lt 0 (until_below copies key (slice_index_or invalidations k d).commit)) low hit) in
    let stays = raised-stays raised own changed step front to forward in
    omega (arith, upper, lower, stays)
  where
    raised : ℕ → ℕ
    raised n = until_of_outdated (record s { front = n }) key

    own : ℕ → ℕ
    own n = latest_until s key 0 n

    changed : ℕ → Bool
    changed n = is_changed key s.journal n

    step : (n : ℕ) → raised (suc n) ≡ max (raised n) (if changed (suc n) then own (suc n) else 0)
    step n = outdated_until-commit s key n

    -- a commit below which the key has no unexpired copy raises nothing
    reached : (n : ℕ) → (0 < until_below copies key n) ⊎ (until_below copies key n ≤ 0) → front < n → n ≤ to → changed n ≡ true → own n ≤ invalidated_until copies invalidations key
    reached n (inl some) above within hit =
        let there : list_any (is_invalidation key n) invalidations ≡ true =
        are key n some ∙ ap₂ (λ (b c : Bool). (b && c) && is_changed key s.journal n) (lt-ltb front n above) (le-leb n to within) ∙ hit in
        let most = any-most copies key n invalidations there in
        let is = below-until copies s key n same in
        omega (arith, most, is)
    reached n (inr none) above within hit =
        let is = below-until copies s key n same in
        omega (arith, none, is)

    covered : (k : ℕ) (d : Invalidation) → (0 < until_below copies key (slice_index_or invalidations k d).commit) ⊎ (until_below copies key (slice_index_or invalidations k d).commit ≤ 0) → k < length invalidations → same_key key (slice_index_or invalidations k d).key ≡ true → until_below copies (slice_index_or invalidations k d).key (slice_index_or invalidations k d).commit ≤ raised to
    covered k d (inl some) low hit =
        let m = slice_index_or invalidations k d in
        let k_is : key ≡ m.key = (same_key-Decides key m.key).0 hit in
        let invalidation : is_invalidation key m.commit m ≡ true = ap₂ (λ (a b : Bool). a && b) hit (eq-eqb m.commit m.commit refl) in
        let there : list_any (is_invalidation key m.commit) invalidations ≡ true = any-own (is_invalidation key m.commit) invalidations k d low invalidation in
        let parts = both-parts (nat_lt front m.commit) (nat_le m.commit to) (is_changed key s.journal m.commit) (sym (are key m.commit some) ∙ there) in
        let above = ltb-true front m.commit parts.0 in
        let least = raised-least raised own changed step to m.commit (omega (arith, above)) (leb-true m.commit to parts.1) parts.2 in
        let is = below-until copies s key m.commit same in
        let value : until_below copies m.key m.commit ≡ until_below copies key m.commit = ap (λ (x : KeyShape). until_below copies x m.commit) (sym k_is) in
        omega (arith, least, is, value)
    covered k d (inr none) low hit =
        let m = slice_index_or invalidations k d in
        let k_is : key ≡ m.key = (same_key-Decides key m.key).0 hit in
        let value : until_below copies m.key m.commit ≡ until_below copies key m.commit = ap (λ (x : KeyShape). until_below copies x m.commit) (sym k_is) in
        omega (arith, none, value)

-- one invalidation more
pub invalidated-more : (copies : List Copy) (invalidations : List Invalidation) (m : Invalidation) (key : KeyShape) → invalidated_until copies (invalidations ++ m ∷ []) key ≡ max (invalidated_until copies invalidations key) (if same_key key m.key then until_below copies m.key m.commit else 0)
invalidated-more copies invalidations m key =
    let u : Invalidation → ℕ = λ m. until_below copies m.key m.commit in
    let p : Invalidation → Bool = λ m. same_key key m.key in
    best-append u p invalidations (m ∷ [])
    ∙ ap (max (best u p invalidations)) (best-cons u p m [] ∙ (let h : max (if p m then u m else 0) 0 ≡ (if p m then u m else 0) = omega arith in h))

pub invalidated-take : (copies : List Copy) (invalidations : List Invalidation) (i : ℕ) (m : Invalidation) (key : KeyShape) (first old new : ℕ) → m ≡ get_or invalidations i m → i < length invalidations → old ≡ max first (invalidated_until copies (take i invalidations) key) →
    new ≡ max old (if same_key key m.key then until_below copies m.key m.commit else 0) → new ≡ max first (invalidated_until copies (take (i + 1) invalidations) key)
invalidated-take copies invalidations i m key first old new item low was is =
    let next : take (i + 1) invalidations ≡ take i invalidations ++ m ∷ [] =
    ap (λ n. take n invalidations) (let h : i + 1 ≡ suc i = omega arith in h) ∙ take-suc invalidations i m low ∙ ap (λ (x : Invalidation). take i invalidations ++ x ∷ []) (sym item) in
    let more = invalidated-more copies (take i invalidations) m key in
    let last = if same_key key m.key then until_below copies m.key m.commit else 0 in
    let there : invalidated_until copies (take (i + 1) invalidations) key ≡ max (invalidated_until copies (take i invalidations) key) last = ap (λ (ms : List Invalidation). invalidated_until copies ms key) next ∙ more in
    is
    ∙ ap (λ n. max n last) was
    ∙ (let h : max (max first (invalidated_until copies (take i invalidations) key)) last ≡ max first (max (invalidated_until copies (take i invalidations) key) last) = omega arith in h)
    ∙ ap (max first) (sym there)
