-- The active queries stay kept through the steps of the hub's calls.
use Rattle.std.proofs.Common.{◌≡◌, ◌⊎◌, ℕ, ◌<◌, ◌≤◌, ◌==◌, Bool, true, false, not, ◌&&◌, ◌||◌, suc, max, nat_le, nat_lt, List, [], ◌∷◌, ◌++◌, length, slice_index_or, Option, Some, None, is_some, unwrap_or, if◌then◌else◌, refl, sym, ap, ap₂, ◌∙◌, subst, inl, inr, arith}
use Rattle.std.specs.List.{All, Contains, list_any}
use Rattle.std.specs.Map.{lookup, keys_of}
use Rattle.std.proofs.lemmas.Bool.{cases_Bool, cases_lt, eqb-true, ltb-true, lt-ltb, le-ltb, leb-true, and_right, and_from, and_parts, or_parts}
use Rattle.std.proofs.lemmas.List.Elements.{All-nil, All-map, All-push, All-weaker}
use Rattle.std.proofs.lemmas.Map.Made.{is_some-lookup, keys_of-map_values}
use Rattle.std.proofs.Math.Bool.{and-false}
use Rattle.query_normal.specs.Keys.{same_key}
use Rattle.query_normal.specs.SameKey.{same_key-Decides}
use Rattle.query_normal.specs.declared.key.KeyShape.{KeyShape}
use Rattle.issued_expiries.specs.Copies.{Copy, SameCopies, unexpired, latest_where, is_between, is_active}
use Rattle.issued_expiries.proofs.LawLemmas.{active_alike}
use Rattle.issued_expiries.proofs.ViewLemmas.{only_above, above_nothing, latest_unexpired}
use Rattle.commit_book.specs.declared.change.Change.{Change}
use Rattle.hub_model.specs.Outdated.{is_changed}
use Rattle.hub_model.proofs.KeySets.{same_key-flips}
use Rattle.active_queries.specs.Following.{Following, FollowsKey, AreFollowing, AreAbove, forgotten}
use Rattle.active_queries.specs.Queries.{HaveSeen, ListAbove, begun, all_forgotten}
use Rattle.hub_core.specs.CopiesView.{until_below}
use Rattle.hub_core.specs.Invalidations.{is_after, invalidates}
use Rattle.hub_core.specs.ActiveQueries.{KeepsQueries, IsCovered, has_query, is_query}
use Rattle.hub_core.proofs.CopyLemmas.{latest, latest-cons}
use Rattle.active_queries.proofs.EntryLemmas.{begun-All, begun-lookup, among-All}
use Rattle.hub_core.proofs.IssueLemmas.{active-later, inactive-none}

-- ---- until when copies of earlier commits may be kept

-- nothing expires to something
still-none : (clock : ℕ) (o : Option ℕ) → unwrap_or o 0 ≡ 0 → unwrap_or (only_above clock o) 0 ≡ 0
still-none clock None none = refl
still-none clock (Some until) none = ap (λ (o : Option ℕ). unwrap_or o 0) (above_nothing clock until (omega (arith, none)))

-- when copies expire none of an earlier commit appears
below-later : (clock : ℕ) (old new : List Copy) → SameCopies new (unexpired clock old) → (key : KeyShape) (n : ℕ) → until_below old key n ≡ 0 → until_below new key n ≡ 0
below-later clock old new same key n none =
    ap (λ (o : Option ℕ). unwrap_or o 0) (same key (is_between 0 n) ∙ latest_unexpired clock key (is_between 0 n) old)
    ∙ still-none clock (latest_where key (is_between 0 n) old) none

-- nor with a copy of no earlier commit
below-more : (old new : List Copy) (key : KeyShape) (commit until : ℕ) → SameCopies new ((key, commit, until) ∷ old) → (other : KeyShape) (n : ℕ) → n ≤ commit → until_below new other n ≡ until_below old other n
below-more old new key commit until same other n low =
    ap (λ (o : Option ℕ). unwrap_or o 0)
    (same other (is_between 0 n)
    ∙ latest-cons other (is_between 0 n) (key, commit, until) old
    ∙ ap (λ (b : Bool). latest (if b then Some until else None) (latest_where other (is_between 0 n) old)) misses)
  where
    misses : (same_key other key && is_between 0 n commit) ≡ false
    misses = and_right (same_key other key) (is_between 0 n commit) (and_right (nat_le 0 commit) (nat_lt commit n) (le-ltb commit n low))

-- a key that is not active has no copy
below-inactive : (copies : List Copy) (key : KeyShape) (n : ℕ) → is_active copies key ≡ false → until_below copies key n ≡ 0
below-inactive copies key n none = ap (λ (o : Option ℕ). unwrap_or o 0) (inactive-none copies key (is_between 0 n) none)

-- the copies of commits below one are among those of commits below a later one
below-grows : (copies : List Copy) (key : KeyShape) (n m : ℕ) → n ≤ m → until_below copies key n ≤ until_below copies key m
below-grows [] key n m low = omega arith
below-grows (x ∷ xs) key n m low =
    let rest = below-grows xs key n m low in
    let one = ap (λ (o : Option ℕ). unwrap_or o 0) (latest-cons key (is_between 0 n) x xs) in
    let all = ap (λ (o : Option ℕ). unwrap_or o 0) (latest-cons key (is_between 0 m) x xs) in
    let step = by (same_key key x.0) (is_between 0 n x.1) (is_between 0 m x.1) grows (latest_where key (is_between 0 n) xs) (latest_where key (is_between 0 m) xs) x.2 rest in
    omega (arith, one, all, step)
  where
    grows : is_between 0 n x.1 ≡ true → is_between 0 m x.1 ≡ true
    grows h =
        let parts = and_parts _ _ h in
        let less : x.1 < n = ltb-true x.1 n parts.1 in
        and_from _ _ parts.0 (lt-ltb x.1 m (omega (arith, less, low)))

    by : (a b c : Bool) → (b ≡ true → c ≡ true) → (o p : Option ℕ) (t : ℕ) → unwrap_or o 0 ≤ unwrap_or p 0 → unwrap_or (latest (if a && b then Some t else None) o) 0 ≤ unwrap_or (latest (if a && c then Some t else None) p) 0
    by false b c sub o p t h = h
    by true true false sub o p t h = absurd (let e : false ≡ true = sub refl in cc)
    by true true true sub None None t h = omega arith
    by true true true sub None (Some q) t h = omega arith
    by true true true sub (Some r) None t h = omega (arith, h)
    by true true true sub (Some r) (Some q) t h = omega (arith, h)
    by true false false sub o p t h = h
    by true false true sub None None t h = omega arith
    by true false true sub None (Some q) t h = omega arith
    by true false true sub (Some r) None t h = omega (arith, h)
    by true false true sub (Some r) (Some q) t h = omega (arith, h)

-- ---- which keys have a query

-- with one query more
lookup-push : (entries : List (KeyShape × Following)) (e : KeyShape × Following) (key : KeyShape) → is_some (lookup (same_key key) (entries ++ e ∷ [])) ≡ (is_some (lookup (same_key key) entries) || same_key key e.0)
lookup-push [] e key = elim (cases_Bool (same_key key e.0)) [ inl own ↦ rw own refl | inr other ↦ rw other refl ]
lookup-push (x ∷ entries) e key =
    elim (cases_Bool (same_key key x.0)) [
      | inl own ↦ rw own refl
      | inr other ↦ rw other (lookup-push entries e key)
    ]

-- a key whose last copy expired is idle then
was-active : (q a b i : Bool) → (b ≡ true → a ≡ true) → (q && (a || i)) ≡ (q && (b || (i || (a && not b))))
was-active false a b i sub = refl
was-active true true true i sub = refl
was-active true true false true sub = refl
was-active true true false false sub = refl
was-active true false true i sub = absurd (let e : false ≡ true = sub refl in cc)
was-active true false false true sub = refl
was-active true false false false sub = refl

-- a key with one copy more is active, and not idle
now-active : (q s a i : Bool) → (s ≡ true → (q && (a || i)) ≡ q) → (q && (a || i)) ≡ (q && ((s || a) || (not s && i)))
now-active false s a i own = refl
now-active true true a i own = own refl
now-active true false a i own = refl

-- so it is with one query more
now-queried : (q s a i : Bool) → (s ≡ true → q ≡ true) → ((q && (a || i)) || s) ≡ (q && ((s || a) || (not s && i)))
now-queried false true a i own = sym (own refl)
now-queried false false a i own = refl
now-queried true true true i own = refl
now-queried true true false true own = refl
now-queried true true false false own = refl
now-queried true false true i own = refl
now-queried true false false true own = refl
now-queried true false false false own = refl

-- where both hold the first does
first-of : (q b : Bool) → (q && b) ≡ true → (q && b) ≡ q
first-of true b h = h
first-of false b h = refl

-- ---- the commits that are listed

-- the query is of this key, and lists the commit among those that changed its result
abbrev pub lists : KeyShape → ℕ → KeyShape × Following → Bool
lists key n e = same_key key e.0 && list_any (λ m. m == n) e.1.changed

-- a commit is listed so where it comes after the one, up to the other
pub after-listed : (front to n : ℕ) (changed : List ℕ) → list_any (λ m. is_after front to m && (m == n)) changed ≡ (is_after front to n && list_any (λ m. m == n) changed)
after-listed front to n [] = sym (and-false (is_after front to n))
after-listed front to n (m ∷ changed) =
    ap (λ (b : Bool). (is_after front to m && (m == n)) || b) (after-listed front to n changed)
    ∙ elim (cases_Bool (m == n)) [
      | inl own ↦ (
          let e : m ≡ n = eqb-true m n own in
          ap (λ (k : ℕ). (is_after front to k && (m == n)) || (is_after front to n && list_any (λ l. l == n) changed)) e
          ∙ rw own (taken (is_after front to n) (list_any (λ l. l == n) changed)))
      | inr other ↦ rw other (left-out (is_after front to m) (is_after front to n && list_any (λ l. l == n) changed))
    ]
  where
    taken : (a c : Bool) → ((a && true) || (a && c)) ≡ (a && (true || c))
    taken true c = refl
    taken false c = refl

    left-out : (a c : Bool) → ((a && false) || c) ≡ c
    left-out true c = refl
    left-out false c = refl

-- the same of all queries
pub invalidates-lists : (front to : ℕ) (key : KeyShape) (n : ℕ) (entries : List (KeyShape × Following)) → list_any (invalidates front to key n) entries ≡ (is_after front to n && list_any (lists key n) entries)
invalidates-lists front to key n [] = sym (and-false (is_after front to n))
invalidates-lists front to key n (e ∷ entries) =
    ap₂ (λ (b c : Bool). (same_key key e.0 && b) || c) (after-listed front to n e.1.changed) (invalidates-lists front to key n entries)
    ∙ parted (same_key key e.0) (is_after front to n) (list_any (λ m. m == n) e.1.changed) (list_any (lists key n) entries)
  where
    parted : (s a b c : Bool) → ((s && (a && b)) || (a && c)) ≡ (a && ((s && b) || c))
    parted true true b c = refl
    parted true false b c = refl
    parted false a b c = refl

-- where each query of a key lists a commit alike, they do so together, if there is one
lists-are : (key : KeyShape) (n : ℕ) (c : Bool) (entries : List (KeyShape × Following)) → All (λ e. same_key key e.0 ≡ true → list_any (λ m. m == n) e.1.changed ≡ c) entries → list_any (lists key n) entries ≡ (list_any (same_key key) (keys_of entries) && c)
lists-are key n c [] all = refl
lists-are key n c (e ∷ entries) all =
    ap (λ (b : Bool). lists key n e || b) (lists-are key n c entries (λ k d low. all (suc k) d (omega (arith, low))))
    ∙ elim (cases_Bool (same_key key e.0)) [
      | inl own ↦ (let one : list_any (λ m. m == n) e.1.changed ≡ c = all 0 e (omega arith) own in rw own (ap (λ (b : Bool). b || (list_any (same_key key) (keys_of entries) && c)) one ∙ taken c (list_any (same_key key) (keys_of entries))))
      | inr other ↦ rw other refl
    ]
  where
    taken : (c r : Bool) → (c || (r && c)) ≡ c
    taken true r = refl
    taken false true = refl
    taken false false = refl

-- ---- the steps

-- nothing is issued
pub keeps-none : (journal : List Change) (front : ℕ) → KeepsQueries journal front [] [] []
keeps-none journal front = record {
  following = All-nil _;
  recent = All-nil _;
  covered = All-nil _;
  listed = All-nil _;
  tied = λ key. sym (and-false (is_query key));
}

-- of active queries that are kept
module _ (journal : List Change) (front : ℕ) (copies : List Copy) (idle : List KeyShape) (entries : List (KeyShape × Following)) (keeps : KeepsQueries journal front copies idle entries) where
  -- with another journal that the queries follow
  pub keeps-written : (longer : List Change) → AreFollowing longer entries → KeepsQueries longer front copies idle entries
  keeps-written longer following = record { following = following; recent = keeps.recent; covered = keeps.covered; listed = keeps.listed; tied = keeps.tied }

  -- when the queries have followed
  pub keeps-followed : (new : List (KeyShape × Following)) → begun new ≡ begun entries → AreFollowing journal new → HaveSeen front new → ListAbove front new → KeepsQueries journal front copies idle new
  keeps-followed new same following seen above = record {
    following = following;
    recent = seen;
    covered = begun-All (λ key from. (from ≤ front) ⊎ (until_below copies key from ≡ 0)) entries new same keeps.covered;
    listed = above;
    tied = λ key. begun-lookup entries new same key ∙ keeps.tied key;
  }

  -- when the clock moved
  pub keeps-later : (clock : ℕ) (later : List Copy) (left : List KeyShape) → SameCopies later (unexpired clock copies) →
      ((key : KeyShape) → list_any (same_key key) left ≡ (list_any (same_key key) idle || (is_active copies key && not (is_active later key)))) → KeepsQueries journal front later left entries
  keeps-later clock later left same gone = record {
    following = keeps.following;
    recent = keeps.recent;
    covered = λ k d low. still (slice_index_or entries k d) (keeps.covered k d low);
    listed = keeps.listed;
    tied = λ key.
        keeps.tied key
        ∙ was-active (is_query key) (is_active copies key) (is_active later key) (list_any (same_key key) idle) (active-later clock copies later same key)
        ∙ ap (λ (b : Bool). is_query key && (is_active later key || b)) (sym (gone key));
  }
    where
      still : (e : KeyShape × Following) → (e.1.from ≤ front) ⊎ (until_below copies e.0 e.1.from ≡ 0) → (e.1.from ≤ front) ⊎ (until_below later e.0 e.1.from ≡ 0)
      still e (inl matched) = inl matched
      still e (inr none) = inr (below-later clock copies later same e.0 e.1.from none)

  -- with the same copies, and the same idle keys
  pub keeps-same : (others : List Copy) (left : List KeyShape) → SameCopies others copies → ((key : KeyShape) → list_any (same_key key) left ≡ list_any (same_key key) idle) → KeepsQueries journal front others left entries
  keeps-same others left same is = record {
    following = keeps.following;
    recent = keeps.recent;
    covered = λ k d low. still (slice_index_or entries k d) (keeps.covered k d low);
    listed = keeps.listed;
    tied = λ key. keeps.tied key ∙ ap₂ (λ (a b : Bool). is_query key && (a || b)) (sym (active_alike others copies key same)) (sym (is key));
  }
    where
      still : (e : KeyShape × Following) → (e.1.from ≤ front) ⊎ (until_below copies e.0 e.1.from ≡ 0) → (e.1.from ≤ front) ⊎ (until_below others e.0 e.1.from ≡ 0)
      still e (inl matched) = inl matched
      still e (inr none) = inr (ap (λ (o : Option ℕ). unwrap_or o 0) (same e.0 (is_between 0 e.1.from)) ∙ none)

  -- with a copy of the last commit
  module _ (key : KeyShape) (commit until : ℕ) (more : List Copy) (left : List KeyShape) (last : length journal ≤ commit) (same : SameCopies more ((key, commit, until) ∷ copies))
      (given : (other : KeyShape) → list_any (same_key other) left ≡ (not (same_key key other) && list_any (same_key other) idle)) where
    covered-more : (e : KeyShape × Following) → FollowsKey journal e → (e.1.from ≤ front) ⊎ (until_below copies e.0 e.1.from ≡ 0) → (e.1.from ≤ front) ⊎ (until_below more e.0 e.1.from ≡ 0)
    covered-more e follows (inl matched) = inl matched
    covered-more e follows (inr none) =
        let begun = follows.3.begun in
        let within = follows.3.within in
        inr (below-more copies more key commit until same e.0 e.1.from (omega (arith, begun, within, last)) ∙ none)

    active-more : (other : KeyShape) → is_active more other ≡ (same_key key other || is_active copies other)
    active-more other = active_alike more ((key, commit, until) ∷ copies) other same ∙ ap (λ (b : Bool). b || is_active copies other) (same_key-flips other key)

    queried-more : (other : KeyShape) → has_query more left other ≡ (is_query other && ((same_key key other || is_active copies other) || (not (same_key key other) && list_any (same_key other) idle)))
    queried-more other = ap₂ (λ (a b : Bool). is_query other && (a || b)) (active-more other) (given other)

    -- of a key that needs no query, or has one
    pub keeps-issued : (is_query key ≡ false) ⊎ (is_some (lookup (same_key key) entries) ≡ true) → KeepsQueries journal front more left entries
    keeps-issued known = record {
      following = keeps.following;
      recent = keeps.recent;
      covered = λ k d low. covered-more (slice_index_or entries k d) (keeps.following k d low) (keeps.covered k d low);
      listed = keeps.listed;
      tied = λ other.
          keeps.tied other
          ∙ now-active (is_query other) (same_key key other) (is_active copies other) (list_any (same_key other) idle)
          (λ own. subst (λ (k : KeyShape). has_query copies idle k ≡ is_query k) ((same_key-Decides key other).0 own) itself)
          ∙ sym (queried-more other);
    }
      where
        itself : has_query copies idle key ≡ is_query key
        itself = elim known [
          | inl none ↦ rw none refl
          | inr there ↦ first-of (is_query key) (is_active copies key || list_any (same_key key) idle) (sym (keeps.tied key) ∙ there)
        ]

    -- of a key that has a query from now on
    pub keeps-started : (query : Following) → is_query key ≡ true → lookup (same_key key) entries ≡ None → FollowsKey journal (key, query) → query.from ≡ commit → query.seen ≡ commit → query.changed ≡ [] → front ≤ commit → KeepsQueries journal front more left (entries ++ (key, query) ∷ [])
    keeps-started query is absent follows from seen nothing forward = record {
      following = All-push (FollowsKey journal) entries (key, query) keeps.following follows;
      recent = All-push (λ (e : KeyShape × Following). front ≤ e.1.seen) entries (key, query) keeps.recent recent;
      covered = All-push (IsCovered front more) entries (key, query) (λ k d low. covered-more (slice_index_or entries k d) (keeps.following k d low) (keeps.covered k d low)) (inr none);
      listed = All-push (λ (e : KeyShape × Following). AreAbove front e.1.changed) entries (key, query) keeps.listed (subst (AreAbove front) (sym nothing) (All-nil _));
      tied = λ other.
          lookup-push entries (key, query) other
          ∙ ap₂ (λ (a b : Bool). a || b) (keeps.tied other) (same_key-flips other key)
          ∙ now-queried (is_query other) (same_key key other) (is_active copies other) (list_any (same_key other) idle)
          (λ own. subst (λ (k : KeyShape). is_query k ≡ true) ((same_key-Decides key other).0 own) is)
          ∙ sym (queried-more other);
    }
      where
        recent : front ≤ query.seen
        recent = omega (arith, seen, forward)

        inactive : is_active copies key ≡ false
        inactive =
            let none : (is_query key && (is_active copies key || list_any (same_key key) idle)) ≡ false = sym (keeps.tied key) ∙ ap (λ (o : Option Following). is_some o) absent in
            let other : (is_active copies key || list_any (same_key key) idle) ≡ false = rw is at none in
            (or_parts (is_active copies key) (list_any (same_key key) idle) other).0

        none : until_below more key query.from ≡ 0
        none = below-more copies more key commit until same key query.from (omega (arith, from)) ∙ below-inactive copies key query.from inactive

  -- without the query of an idle key
  pub keeps-dropped : (key : KeyShape) (left : List KeyShape) (new : List (KeyShape × Following)) → is_active copies key ≡ false →
      ((other : KeyShape) → list_any (same_key other) left ≡ (not (same_key key other) && list_any (same_key other) idle)) →
      lookup (same_key key) new ≡ None → ((other : KeyShape) → same_key key other ≡ false → lookup (same_key other) new ≡ lookup (same_key other) entries) →
      ((e : KeyShape × Following) → Contains new e → Contains entries e) → KeepsQueries journal front copies left new
  keeps-dropped key left new inactive given gone others among = record {
    following = among-All (FollowsKey journal) entries new among keeps.following;
    recent = among-All (λ (e : KeyShape × Following). front ≤ e.1.seen) entries new among keeps.recent;
    covered = among-All (IsCovered front copies) entries new among keeps.covered;
    listed = among-All (λ (e : KeyShape × Following). AreAbove front e.1.changed) entries new among keeps.listed;
    tied = λ other. elim (cases_Bool (same_key key other)) [
      | inl own ↦ (
          let e : key ≡ other = (same_key-Decides key other).0 own in
          let absent : lookup (same_key other) new ≡ None = subst (λ (k : KeyShape). lookup (same_key k) new ≡ None) e gone in
          let quiet : is_active copies other ≡ false = subst (λ (k : KeyShape). is_active copies k ≡ false) e inactive in
          ap (λ (o : Option Following). is_some o) absent
          ∙ sym (ap₂ (λ (a b : Bool). is_query other && (a || b)) quiet (given other ∙ ap (λ (b : Bool). not b && list_any (same_key other) idle) own) ∙ and-false (is_query other)))
      | inr apart ↦ (
          ap (λ (o : Option Following). is_some o) (others other apart)
          ∙ keeps.tied other
          ∙ ap (λ (b : Bool). is_query other && (is_active copies other || b)) (sym (given other ∙ ap (λ (b : Bool). not b && list_any (same_key other) idle) apart)))
    ];
  }

  -- when the front has moved, and the changes up to it are forgotten
  pub keeps-matched : (to : ℕ) → front ≤ to → AreFollowing journal (all_forgotten to entries) → HaveSeen to (all_forgotten to entries) → ListAbove to (all_forgotten to entries) → KeepsQueries journal to copies idle (all_forgotten to entries)
  keeps-matched to forward following seen above = record {
    following = following;
    recent = seen;
    covered = All-map (IsCovered to copies) (λ (e : KeyShape × Following). (e.0, forgotten to e.1)) entries (λ k d low. moved (slice_index_or entries k d) (keeps.covered k d low));
    listed = above;
    tied = λ key.
        is_some-lookup (same_key key) (all_forgotten to entries)
        ∙ ap (list_any (same_key key)) (keys_of-map_values (forgotten to) entries)
        ∙ sym (is_some-lookup (same_key key) entries)
        ∙ keeps.tied key;
  }
    where
      moved : (e : KeyShape × Following) → (e.1.from ≤ front) ⊎ (until_below copies e.0 e.1.from ≡ 0) → (max e.1.from to ≤ to) ⊎ (until_below copies e.0 (max e.1.from to) ≡ 0)
      moved e (inl matched) = inl (omega (arith, matched, forward))
      moved e (inr none) = elim (cases_lt to e.1.from) [
        | inl later ↦ inr (ap (until_below copies e.0) (let m : max e.1.from to ≡ e.1.from = omega (arith, later) in m) ∙ none)
        | inr past ↦ inl (omega (arith, past))
      ]

  -- ---- the changes that a match needs

  -- an active query key has its query
  pub active-queried : (key : KeyShape) (n : ℕ) → is_query key ≡ true → 0 < until_below copies key n → is_some (lookup (same_key key) entries) ≡ true
  active-queried key n is some = elim (cases_Bool (is_active copies key)) [
    | inl active ↦ keeps.tied key ∙ (rw is (rw active refl))
    | inr none ↦ absurd (let e = below-inactive copies key n none in omega (arith, some, e))
  ]

  -- of a key with a copy of an earlier commit its query lists each commit behind the front that it has seen, and that changed its result
  pub changes-listed : (e : KeyShape × Following) → FollowsKey journal e → IsCovered front copies e → (n : ℕ) → 0 < until_below copies e.0 n → front < n → n ≤ e.1.seen → list_any (λ m. m == n) e.1.changed ≡ is_changed e.0 journal n
  changes-listed e follows covered n some above seen =
      follows.3.exact n begun seen ∙ ap (λ (k : KeyShape). is_changed k journal n) (sym follows.2)
    where
      begun : e.1.from < n
      begun = elim covered [
        | inl matched ↦ omega (arith, matched, above)
        | inr none ↦ elim (cases_lt e.1.from n) [
          | inl less ↦ less
          | inr past ↦ absurd (let most = below-grows copies e.0 n e.1.from past in omega (arith, some, none, most))
        ]
      ]

  -- the queries of a key list a commit after the front that each has seen exactly where it changed the result of the key
  pub changes-are : (key : KeyShape) (n : ℕ) → is_query key ≡ true → 0 < until_below copies key n → front < n → HaveSeen n entries → list_any (lists key n) entries ≡ is_changed key journal n
  changes-are key n is some above seen =
      lists-are key n (is_changed key journal n) entries (λ k d low. own (slice_index_or entries k d) (keeps.following k d low) (keeps.covered k d low) (seen k d low))
      ∙ ap (λ (b : Bool). b && is_changed key journal n) (sym (is_some-lookup (same_key key) entries) ∙ active-queried key n is some)
    where
      own : (e : KeyShape × Following) → FollowsKey journal e → IsCovered front copies e → n ≤ e.1.seen → same_key key e.0 ≡ true → list_any (λ m. m == n) e.1.changed ≡ is_changed key journal n
      own e follows covered within hit =
          let same : key ≡ e.0 = (same_key-Decides key e.0).0 hit in
          changes-listed e follows covered n (subst (λ (k : KeyShape). 0 < until_below copies k n) same some) above within
          ∙ ap (λ (k : KeyShape). is_changed k journal n) (sym same)

  -- so the listed commits after the front, up to another, are the invalidations of the key
  pub invalidations-are : (to : ℕ) → HaveSeen to entries → (key : KeyShape) (n : ℕ) → is_query key ≡ true → 0 < until_below copies key n → list_any (invalidates front to key n) entries ≡ (is_after front to n && is_changed key journal n)
  invalidations-are to seen key n is some =
      invalidates-lists front to key n entries
      ∙ by (cases_Bool (is_after front to n))
    where
      by : (is_after front to n ≡ true) ⊎ (is_after front to n ≡ false) → (is_after front to n && list_any (lists key n) entries) ≡ (is_after front to n && is_changed key journal n)
      by (inr beyond) = rw beyond refl
      by (inl within) =
          let parts = and_parts _ _ within in
          let above : front < n = ltb-true front n parts.0 in
          let low : n ≤ to = leb-true n to parts.1 in
          ap (λ (b : Bool). is_after front to n && b) (changes-are key n is some above (λ k d there. (let far = seen k d there in omega (arith, far, low))))

-- ---- the horizon

-- each query has seen what is not above the front
pub keeps-seen : (journal : List Change) (front horizon : ℕ) (copies : List Copy) (idle : List KeyShape) (entries : List (KeyShape × Following)) → horizon ≤ front → KeepsQueries journal front copies idle entries → HaveSeen horizon entries
keeps-seen journal front horizon copies idle entries low keeps = All-weaker (λ e. front ≤ e.1.seen) (λ e. horizon ≤ e.1.seen) (λ e recent. omega (arith, recent, low)) entries keeps.recent
