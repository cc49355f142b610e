-- Lists of queries with their keys, also for the crates above.
use Rattle.std.proofs.Common.{◌≡◌, ℕ, zero, suc, ◌<◌, ◌≤◌, Bool, true, false, List, [], ◌∷◌, ◌++◌, length, map, take, drop, get_or, slice_get, All, Contains, Option, Some, None, is_some, position, set, filter, nat_lt, OnOk, Result, Ok, Err, ◌-◌, refl, sym, ap, ◌∙◌, subst, inl, inr, arith}
use Rattle.std.specs.Map.{lookup, keys_of}
use Rattle.std.specs.List.{swap_remove}
use Rattle.std.specs.Option.{option_map_or}
use Rattle.std.proofs.lemmas.Bool.{cases_Bool, cases_eq, ltb-true}
use Rattle.std.proofs.lemmas.List.{get_or-take, get_or_default, get_or-set_same, get_or-set_other, length-set, length-take-le}
use Rattle.std.proofs.lemmas.List.Elements.{All-weaker, filter_passes}
use Rattle.std.proofs.lemmas.List.Quantifiers.{position-Some}
use Rattle.std.proofs.lemmas.Map.Entries.{length-keys_of}
use Rattle.indexmap.specs.IndexMap.{set_value_at, swap_remove_entry}
use Rattle.commit_book.specs.declared.change.Change.{Change}
use Rattle.query_core.specs.declared.query.Kind.{Kind}
use Rattle.query_core.specs.declared.query.Query.{Query}
use Rattle.query_normal.specs.declared.key.KeyShape.{KeyShape}
use Rattle.query_normal.specs.Keys.{same_key}
use Rattle.query_normal.specs.SameKey.{same_key-Decides}
use Rattle.active_queries.specs.Following.{Following, Follows, FollowsKey, AreFollowing, AreAbove, forgotten}
use Rattle.active_queries.specs.Queries.{begun, HaveSeen, ListAbove, all_forgotten}

-- ---- what holds of each

pub All-first : {X : Type 0} (P : X → Type 0) (x : X) (xs : List X) → All P (x ∷ xs) → P x
All-first P x xs all = all 0 x (omega arith)

pub All-rest : {X : Type 0} (P : X → Type 0) (x : X) (xs : List X) → All P (x ∷ xs) → All P xs
All-rest P x xs all k d within = all (suc k) d (omega (arith, within))

pub All-both : {X : Type 0} (P : X → Type 0) (x : X) (xs : List X) → P x → All P xs → All P (x ∷ xs)
All-both P x xs here rest zero d within = here
All-both P x xs here rest (suc k) d within = rest k d (omega (arith, within))

-- what holds of the keys, each with the commit above which its changed commits are listed
pub begun-All : (P : KeyShape → ℕ → Type 0) (old new : List (KeyShape × Following)) → begun new ≡ begun old → All (λ e. P e.0 e.1.from) old → All (λ e. P e.0 e.1.from) new
begun-All P [] [] is all = all
begun-All P [] (n ∷ new) is all = absurd (let h = is in cc)
begun-All P (o ∷ old) [] is all = absurd (let h = is in cc)
begun-All P (o ∷ old) (n ∷ new) is all =
    let rest : begun new ≡ begun old = (let h = is in cc) in
    let first : (n.0, n.1.from) ≡ (o.0, o.1.from) = (let h = is in cc) in
    All-both (λ e. P e.0 e.1.from) n new
    (subst (λ (b : KeyShape × ℕ). P b.0 b.1) (sym first) (All-first (λ e. P e.0 e.1.from) o old all))
    (begun-All P old new rest (All-rest (λ e. P e.0 e.1.from) o old all))

-- the keys are the same then
pub begun-keys : (old new : List (KeyShape × Following)) → begun new ≡ begun old → keys_of new ≡ keys_of old
begun-keys [] [] is = refl
begun-keys [] (n ∷ new) is = absurd (let h = is in cc)
begun-keys (o ∷ old) [] is = absurd (let h = is in cc)
begun-keys (o ∷ old) (n ∷ new) is =
    let rest : begun new ≡ begun old = (let h = is in cc) in
    let pair : (n.0, n.1.from) ≡ (o.0, o.1.from) = (let h = is in cc) in
    let first : n.0 ≡ o.0 = ap (λ (b : KeyShape × ℕ). b.0) pair in
    ap (λ (k : KeyShape). k ∷ keys_of new) first ∙ ap (λ (ks : List KeyShape). o.0 ∷ ks) (begun-keys old new rest)

-- so the same keys are found
pub begun-lookup : (old new : List (KeyShape × Following)) → begun new ≡ begun old → (key : KeyShape) → is_some (lookup (same_key key) new) ≡ is_some (lookup (same_key key) old)
begun-lookup [] [] is key = refl
begun-lookup [] (n ∷ new) is key = absurd (let h = is in cc)
begun-lookup (o ∷ old) [] is key = absurd (let h = is in cc)
begun-lookup (o ∷ old) (n ∷ new) is key =
    let rest : begun new ≡ begun old = (let h = is in cc) in
    let pair : (n.0, n.1.from) ≡ (o.0, o.1.from) = (let h = is in cc) in
    let first : n.0 ≡ o.0 = ap (λ (b : KeyShape × ℕ). b.0) pair in
    let one : same_key key n.0 ≡ same_key key o.0 = ap (same_key key) first in
    elim (cases_Bool (same_key key o.0)) [
      | inl hit ↦ rw (one, hit) refl
      | inr miss ↦ rw (one, miss) (begun-lookup old new rest key)
    ]

-- what holds of each holds of each of those that are left
pub among-All : (P : KeyShape × Following → Type 0) (old new : List (KeyShape × Following)) → ((e : KeyShape × Following) → Contains new e → Contains old e) → All P old → All P new
among-All P old new among all k d within =
    let e = get_or new k d in
    let found = among e (k, within, all_the_same new k d e within) in
    subst P found.2 (all found.0 e found.1)
  where
    all_the_same : (xs : List (KeyShape × Following)) (k : ℕ) (d e : KeyShape × Following) → k < length xs → get_or xs k e ≡ get_or xs k d
    all_the_same [] k d e low = absurd (omega arith)
    all_the_same (x ∷ xs) zero d e low = refl
    all_the_same (x ∷ xs) (suc k) d e low = all_the_same xs k d e (omega (arith, low))

-- ---- a query that was written at an index

pub All-written : (P : KeyShape × Following → Type 0) (entries : List (KeyShape × Following)) (i : ℕ) (v w : Following) → slice_get (map (λ e. e.1) entries) i ≡ Some v →
    ((key : KeyShape) → P (key, v) → P (key, w)) → All P entries → All P (set_value_at entries i w)
All-written P [] i v w there to all = all
All-written P (e ∷ entries) zero v w there to all =
    let same : e.1 ≡ v = (let h = there in cc) in
    All-both P (e.0, w) entries (to e.0 (subst (λ (a : Following). P (e.0, a)) same (All-first P e entries all))) (All-rest P e entries all)
All-written P (e ∷ entries) (suc i) v w there to all =
    All-both P e (set_value_at entries i w) (All-first P e entries all) (All-written P entries i v w there to (All-rest P e entries all))

pub begun-written : (entries : List (KeyShape × Following)) (i : ℕ) (v w : Following) → slice_get (map (λ e. e.1) entries) i ≡ Some v → w.from ≡ v.from → begun (set_value_at entries i w) ≡ begun entries
begun-written [] i v w there is = refl
begun-written (e ∷ entries) zero v w there is =
    let same : e.1 ≡ v = (let h = there in cc) in
    ap (λ (n : ℕ). (e.0, n) ∷ begun entries) (is ∙ sym (ap (λ (a : Following). a.from) same))
begun-written (e ∷ entries) (suc i) v w there is = ap (λ (rest : List (KeyShape × ℕ)). (e.0, e.1.from) ∷ rest) (begun-written entries i v w there is)

-- the queries before an index, and the one written there, have seen a commit
pub reached-written : (entries : List (KeyShape × Following)) (i to : ℕ) (v w : Following) → slice_get (map (λ e. e.1) entries) i ≡ Some v → to ≤ w.seen →
    ((k : ℕ) (d : KeyShape × Following) → k < i → to ≤ (get_or entries k d).1.seen) → (k : ℕ) (d : KeyShape × Following) → k < suc i → to ≤ (get_or (set_value_at entries i w) k d).1.seen
reached-written [] i to v w there high before k d low = absurd (let h = there in cc)
reached-written (e ∷ entries) zero to v w there high before zero d low = high
reached-written (e ∷ entries) zero to v w there high before (suc k) d low = absurd (omega (arith, low))
reached-written (e ∷ entries) (suc i) to v w there high before zero d low = before 0 d (omega arith)
reached-written (e ∷ entries) (suc i) to v w there high before (suc k) d low =
    reached-written entries i to v w there high (λ m x below. before (suc m) x (omega (arith, below))) k d (omega (arith, low))

pub length-written : (entries : List (KeyShape × Following)) (i : ℕ) (w : Following) → length (set_value_at entries i w) ≡ length entries
length-written [] i w = refl
length-written (e ∷ entries) zero w = refl
length-written (e ∷ entries) (suc i) w = ap suc (length-written entries i w)

-- the query at an index
pub value-at : (entries : List (KeyShape × Following)) (i : ℕ) (v : Following) (d : KeyShape × Following) → slice_get (map (λ e. e.1) entries) i ≡ Some v → (get_or entries i d).1 ≡ v
value-at [] i v d there = absurd (let h = there in cc)
value-at (e ∷ entries) zero v d there = (let h = there in cc)
value-at (e ∷ entries) (suc i) v d there = value-at entries i v d there

pub seen-at : (n : ℕ) (entries : List (KeyShape × Following)) (i : ℕ) (v : Following) → slice_get (map (λ e. e.1) entries) i ≡ Some v → HaveSeen n entries → n ≤ v.seen
seen-at n [] i v there all = absurd (let h = there in cc)
seen-at n (e ∷ entries) zero v there all =
    let same : e.1 ≡ v = (let h = there in cc) in
    subst (λ (a : Following). n ≤ a.seen) same (All-first (λ x. n ≤ x.1.seen) e entries all)
seen-at n (e ∷ entries) (suc i) v there all = seen-at n entries i v there (All-rest (λ x. n ≤ x.1.seen) e entries all)

-- what holds of each, after the query at an index followed
pub followed-on : (journal : List Change) (entries : List (KeyShape × Following)) (i : ℕ) (v w : Following) → slice_get (map (λ e. e.1) entries) i ≡ Some v → ((kind : Kind) (query : Query) → Follows kind query v journal → Follows kind query w journal)
    → AreFollowing journal entries → AreFollowing journal (set_value_at entries i w)
followed-on journal entries i v w there on = All-written (FollowsKey journal) entries i v w there (λ key follows. (follows.0, follows.1, follows.2, on follows.0 follows.1 follows.3))

pub seen-on : (n : ℕ) (entries : List (KeyShape × Following)) (i : ℕ) (v w : Following) → slice_get (map (λ e. e.1) entries) i ≡ Some v → v.seen ≤ w.seen → HaveSeen n entries → HaveSeen n (set_value_at entries i w)
seen-on n entries i v w there up = All-written (λ e. n ≤ e.1.seen) entries i v w there (λ key low. omega (arith, low, up))

pub above-on : (n : ℕ) (entries : List (KeyShape × Following)) (i : ℕ) (v w : Following) → slice_get (map (λ e. e.1) entries) i ≡ Some v → (n ≤ v.seen → AreAbove n v.changed → AreAbove n w.changed)
    → HaveSeen n entries → ListAbove n entries → ListAbove n (set_value_at entries i w)
above-on n entries i v w there on seen = All-written (λ e. AreAbove n e.1.changed) entries i v w there (λ key above. on (seen-at n entries i v there seen) above)

-- the one written under a key is found there
found-written : (test : KeyShape → Bool) (entries : List (KeyShape × Following)) (i : ℕ) (w : Following) (d : KeyShape) → i < length (keys_of entries) → test (get_or (keys_of entries) i d) ≡ true →
    ((k : ℕ) → k < i → test (get_or (keys_of entries) k d) ≡ false) → lookup test (set_value_at entries i w) ≡ Some w
found-written test [] i w d low own before = absurd (omega (arith, low))
found-written test (e ∷ entries) zero w d low own before = rw own refl
found-written test (e ∷ entries) (suc i) w d low own before =
    let first : test e.0 ≡ false = before 0 (omega arith) in
    rw first (found-written test entries i w d (omega (arith, low)) own (λ k below. before (suc k) (omega (arith, below))))

-- and those of other keys are found as before
others-written : (test : KeyShape → Bool) (entries : List (KeyShape × Following)) (i : ℕ) (w : Following) (d : KeyShape) → i < length (keys_of entries) → test (get_or (keys_of entries) i d) ≡ false →
    lookup test (set_value_at entries i w) ≡ lookup test entries
others-written test [] i w d low own = refl
others-written test (e ∷ entries) zero w d low own = rw own refl
others-written test (e ∷ entries) (suc i) w d low own = elim (cases_Bool (test e.0)) [
  | inl hit ↦ rw hit refl
  | inr miss ↦ rw miss (others-written test entries i w d (omega (arith, low)) own)
]

pub lookup-written : (key : KeyShape) (entries : List (KeyShape × Following)) (i : ℕ) (w : Following) → position (same_key key) (keys_of entries) ≡ Some i → lookup (same_key key) (set_value_at entries i w) ≡ Some w
lookup-written key entries i w is =
    let found = position-Some (same_key key) (keys_of entries) i key is in
    found-written (same_key key) entries i w key found.0 found.1 found.2

pub lookup-others : (key : KeyShape) (entries : List (KeyShape × Following)) (i : ℕ) (w : Following) → position (same_key key) (keys_of entries) ≡ Some i
    → (other : KeyShape) → same_key key other ≡ false → lookup (same_key other) (set_value_at entries i w) ≡ lookup (same_key other) entries
lookup-others key entries i w is other apart =
    let found = position-Some (same_key key) (keys_of entries) i key is in
    others-written (same_key other) entries i w key found.0 (elim (cases_Bool (same_key other (get_or (keys_of entries) i key))) [
      | inl hit ↦ absurd (
          let one : key ≡ get_or (keys_of entries) i key = (same_key-Decides key (get_or (keys_of entries) i key)).0 found.1 in
          let two : other ≡ get_or (keys_of entries) i key = (same_key-Decides other (get_or (keys_of entries) i key)).0 hit in
          let again : same_key key other ≡ true = (same_key-Decides key other).1 (one ∙ sym two) in
          cc)
      | inr miss ↦ miss
    ])

-- ---- changed commits that are forgotten

pub forgotten-whole : (to n : ℕ) (old : List (KeyShape × Following)) → length old ≤ n → all_forgotten to (take n old) ++ drop n old ≡ all_forgotten to old
forgotten-whole to zero [] past = refl
forgotten-whole to zero (e ∷ old) past = absurd (omega (arith, past))
forgotten-whole to (suc n) [] past = refl
forgotten-whole to (suc n) (e ∷ old) past = ap (λ (rest : List (KeyShape × Following)). (e.0, forgotten to e.1) ∷ rest) (forgotten-whole to n old (omega (arith, past)))

pub forgotten-written : (to i : ℕ) (old : List (KeyShape × Following)) (v : Following) → slice_get (map (λ e. e.1) (all_forgotten to (take i old) ++ drop i old)) i ≡ Some v →
    set_value_at (all_forgotten to (take i old) ++ drop i old) i (forgotten to v) ≡ all_forgotten to (take (suc i) old) ++ drop (suc i) old
forgotten-written to zero [] v there = refl
forgotten-written to zero (e ∷ old) v there =
    let same : e.1 ≡ v = (let h = there in cc) in
    ap (λ (a : Following). (e.0, forgotten to a) ∷ old) (sym same)
forgotten-written to (suc i) [] v there = refl
forgotten-written to (suc i) (e ∷ old) v there = ap (λ (rest : List (KeyShape × Following)). (e.0, forgotten to e.1) ∷ rest) (forgotten-written to i old v there)

pub keys-forgotten : (to : ℕ) (entries : List (KeyShape × Following)) → keys_of (all_forgotten to entries) ≡ keys_of entries
keys-forgotten to [] = refl
keys-forgotten to (e ∷ entries) = ap (λ (ks : List KeyShape). e.0 ∷ ks) (keys-forgotten to entries)

pub All-forgotten : (P Q : KeyShape × Following → Type 0) (to : ℕ) (entries : List (KeyShape × Following)) → ((e : KeyShape × Following) → P e → Q (e.0, forgotten to e.1)) → All P entries → All Q (all_forgotten to entries)
All-forgotten P Q to [] each all = λ k d within. absurd (omega (arith, within))
All-forgotten P Q to (e ∷ entries) each all =
    All-both Q (e.0, forgotten to e.1) (all_forgotten to entries) (each e (All-first P e entries all)) (All-forgotten P Q to entries each (All-rest P e entries all))

-- those that are left are above the commit
pub forgotten-above : (to : ℕ) (changed : List ℕ) → AreAbove to (filter (λ n. nat_lt to n) changed)
forgotten-above to changed =
    All-weaker (λ n. nat_lt to n ≡ true) (λ n. to < n) (λ n above. ltb-true to n above) (filter (λ n. nat_lt to n) changed) (filter_passes (λ n. nat_lt to n) changed)

pub all-above : (to : ℕ) (entries : List (KeyShape × Following)) → ListAbove to (all_forgotten to entries)
all-above to [] = λ k d within. absurd (omega (arith, within))
all-above to (e ∷ entries) = All-both (λ x. AreAbove to x.1.changed) (e.0, forgotten to e.1) (all_forgotten to entries) (forgotten-above to e.1.changed) (all-above to entries)

-- what follows where a call succeeded
pub on-ok : {A E P Q : Type 0} (r : Result A E) → (P → Q) → OnOk r P → OnOk r Q
on-ok (Ok a) to given = to given
on-ok (Err e) to given = tt

-- two facts that hold of each
pub All-and : {X : Type 0} (P Q : X → Type 0) (xs : List X) → All P xs → All Q xs → All (λ x. P x × Q x) xs
All-and P Q xs one two k d within = (one k d within, two k d within)

-- ---- a query that was removed

removed-by : {X : Type 0} (xs : List X) (i : ℕ) (d : X) (e : X) → i < length xs → Contains (swap_remove xs i d) e → Contains xs e
removed-by xs i d e low there =
    let n = length xs - 1 in
    let last = get_or xs n d in
    let long = length-set xs i last in
    let count = length-take-le n (set xs i last) (omega (arith, long)) in
    let below : there.0 < n = omega (arith, count, there.1) in
    let at : get_or (set xs i last) there.0 e ≡ e = sym (get_or-take n (set xs i last) there.0 e below) ∙ there.2 in
    elim (cases_eq there.0 i) [
      | inl same ↦ (
        n,
        omega (arith, low),
        get_or_default xs n e d (omega (arith, low))
            ∙ sym (get_or-set_same xs i last e low)
            ∙ ap (λ (k : ℕ). get_or (set xs i last) k e) (sym same)
            ∙ at,
      )
      | inr other ↦ (there.0, omega (arith, below), sym (get_or-set_other xs i there.0 last e other) ∙ at)
    ]

within-keys : (test : KeyShape → Bool) (entries : List (KeyShape × Following)) (e : KeyShape × Following) (i : ℕ) → position test (keys_of entries) ≡ Some i → i < length entries
within-keys test entries e i is =
    let found = position-Some test (keys_of entries) i e.0 is in
    let keys = length-keys_of entries in
    omega (arith, found.0, keys)

pub removed-among : (test : KeyShape → Bool) (entries : List (KeyShape × Following)) (e : KeyShape × Following) → Contains (swap_remove_entry test entries) e → Contains entries e
removed-among test [] e there = there
removed-among test (x ∷ entries) e there = by (position test (keys_of (x ∷ entries))) refl there
  where
    by : (p : Option ℕ) → position test (keys_of (x ∷ entries)) ≡ p → Contains (option_map_or (λ i. swap_remove (x ∷ entries) i x) p (x ∷ entries)) e → Contains (x ∷ entries) e
    by None is there = there
    by (Some i) is there = removed-by (x ∷ entries) i x e (within-keys test (x ∷ entries) x i is) there
