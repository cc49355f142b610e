-- The queries with what they have in common.
use Rattle.std.proofs.Common.{◌≡◌, ℕ, zero, suc, ◌<◌, ◌≤◌, Bool, true, false, List, [], ◌∷◌, ◌++◌, length, map, take, drop, get_or, slice_get, position, is_some, All, Contains, Option, Some, None, IfSome, option_map, max, refl, sym, ap, ap₂, ◌∙◌, subst, inl, inr, arith}
use Rattle.std.specs.List.{IsDistinct, AllByRecursion}
use Rattle.std.specs.Map.{lookup, keys_of}
use Rattle.std.proofs.lemmas.Bool.{cases_Bool}
use Rattle.std.proofs.lemmas.List.Quantifiers.{position-Some}
use Rattle.std.proofs.lemmas.Map.Entries.{lookup_head, lookup_tail}
use Rattle.indexmap.specs.IndexMap.{set_value_at}
use Rattle.commit_book.specs.declared.change.Change.{Change}
use Rattle.query_normal.specs.declared.key.KeyShape.{KeyShape}
use Rattle.query_normal.specs.Keys.{same_key}
use Rattle.query_normal.specs.SameKey.{same_key-Decides, same_key_equiv}
use Rattle.active_queries.specs.Following.{Following, FollowsKey, AreFollowing, AreAbove, HasFollowed, lifted}
use Rattle.active_queries.specs.Queries.{begun, GoesOn, AllGoOn, HaveSeen, ListAbove, all_lifted, all_raised}
use Rattle.active_queries.proofs.EntryLemmas.{All-first, All-rest, All-both, All-and, lookup-written}

same_key-itself : (key : KeyShape) → same_key key key ≡ true
same_key-itself key = (same_key-Decides key key).1 refl

-- ---- what is common

pub lookup-lifted : (seen from : ℕ) (test : KeyShape → Bool) (es : List (KeyShape × Following)) → lookup test (all_lifted seen from es) ≡ option_map (lifted seen from) (lookup test es)
lookup-lifted seen from test [] = refl
lookup-lifted seen from test (e ∷ es) = elim (cases_Bool (test e.0)) [
  | inl hit ↦ rw hit refl
  | inr miss ↦ rw miss (lookup-lifted seen from test es)
]

-- what is not found there is not there
pub absent-lifted : (seen from : ℕ) (test : KeyShape → Bool) (es : List (KeyShape × Following)) → lookup test (all_lifted seen from es) ≡ None → lookup test es ≡ None
absent-lifted seen from test [] none = refl
absent-lifted seen from test (e ∷ es) none = elim (cases_Bool (test e.0)) [
  | inl hit ↦ absurd (let h : Some (lifted seen from e.1) ≡ None = sym (lookup_head test (e.0, lifted seen from e.1) (all_lifted seen from es) hit) ∙ none in cc)
  | inr miss ↦ lookup_tail test e es miss ∙ absent-lifted seen from test es (sym (lookup_tail test (e.0, lifted seen from e.1) (all_lifted seen from es) miss) ∙ none)
]

pub keys-lifted : (seen from : ℕ) (es : List (KeyShape × Following)) → keys_of (all_lifted seen from es) ≡ keys_of es
keys-lifted seen from [] = refl
keys-lifted seen from (e ∷ es) = ap (λ (ks : List KeyShape). e.0 ∷ ks) (keys-lifted seen from es)

pub length-lifted : (seen from : ℕ) (es : List (KeyShape × Following)) → length (all_lifted seen from es) ≡ length es
length-lifted seen from [] = refl
length-lifted seen from (e ∷ es) = ap suc (length-lifted seen from es)

pub at-lifted : (seen from : ℕ) (es : List (KeyShape × Following)) (i : ℕ) → slice_get (all_lifted seen from es) i ≡ option_map (λ e. (e.0, lifted seen from e.1)) (slice_get es i)
at-lifted seen from [] i = refl
at-lifted seen from (e ∷ es) zero = refl
at-lifted seen from (e ∷ es) (suc i) = at-lifted seen from es i

-- a query that is as far as all are
pub lifted-own : (seen from : ℕ) (a : Following) → seen ≤ a.seen → from ≤ a.from → lifted seen from a ≡ a
lifted-own seen from a one two =
    let same : max a.seen seen ≡ a.seen = omega (arith, one) in
    let alike : max a.from from ≡ a.from = omega (arith, two) in
    ap₂ (λ (n m : ℕ). record { kind = a.kind; set = a.set; seen = n; from = m; changed = a.changed }) same alike

pub have-seen : (seen from : ℕ) (es : List (KeyShape × Following)) → HaveSeen seen (all_lifted seen from es)
have-seen seen from [] = λ k d within. absurd (omega (arith, within))
have-seen seen from (e ∷ es) = All-both (λ x. seen ≤ x.1.seen) (e.0, lifted seen from e.1) (all_lifted seen from es) (omega arith) (have-seen seen from es)

-- what holds of the query at an index, with what is common
pub value-lifted : (P : Following → Type 0) (seen from : ℕ) (es : List (KeyShape × Following)) (i : ℕ) (v : Following) → slice_get (map (λ e. e.1) es) i ≡ Some v → All (λ e. P e.1) (all_lifted seen from es) → P (lifted seen from v)
value-lifted P seen from [] i v there all = absurd (let h = there in cc)
value-lifted P seen from (e ∷ es) zero v there all =
    let same : e.1 ≡ v = (let h = there in cc) in
    subst (λ (a : Following). P (lifted seen from a)) same (All-first (λ x. P x.1) (e.0, lifted seen from e.1) (all_lifted seen from es) all)
value-lifted P seen from (e ∷ es) (suc i) v there all =
    value-lifted P seen from es i v there (All-rest (λ x. P x.1) (e.0, lifted seen from e.1) (all_lifted seen from es) all)

-- the query of a key is the one at its index
at-place : (test : KeyShape → Bool) (es : List (KeyShape × Following)) (i : ℕ) (v : Following) (d : KeyShape) → i < length (keys_of es) → test (get_or (keys_of es) i d) ≡ true → ((k : ℕ) → k < i → test (get_or (keys_of es) k d) ≡ false)
    → slice_get (map (λ e. e.1) es) i ≡ Some v → lookup test es ≡ Some v
at-place test [] i v d low own before there = absurd (omega (arith, low))
at-place test (e ∷ es) zero v d low own before there = lookup_head test e es own ∙ there
at-place test (e ∷ es) (suc i) v d low own before there =
    lookup_tail test e es (before 0 (omega arith)) ∙ at-place test es i v d (omega (arith, low)) own (λ k below. before (suc k) (omega (arith, below))) there

pub lookup-at : (key : KeyShape) (es : List (KeyShape × Following)) (i : ℕ) (v : Following) → position (same_key key) (keys_of es) ≡ Some i → slice_get (map (λ e. e.1) es) i ≡ Some v → lookup (same_key key) es ≡ Some v
lookup-at key es i v is there =
    let found = position-Some (same_key key) (keys_of es) i key is in
    at-place (same_key key) es i v key found.0 found.1 found.2 there

pub reached-lifted : (key : KeyShape) (to seen from : ℕ) (es : List (KeyShape × Following)) (i : ℕ) (w : Following) → position (same_key key) (keys_of es) ≡ Some i → to ≤ w.seen → IfSome (lookup (same_key key) (all_lifted seen from (set_value_at es i w))) (λ a. to ≤ a.seen)
reached-lifted key to seen from es i w is high =
    let there : lookup (same_key key) (all_lifted seen from (set_value_at es i w)) ≡ Some (lifted seen from w) =
    lookup-lifted seen from (same_key key) (set_value_at es i w) ∙ ap (option_map (lifted seen from)) (lookup-written key es i w is) in
    let up : to ≤ max w.seen seen = omega (arith, high) in
    subst (λ (found : Option Following). IfSome found (λ a. to ≤ a.seen)) (sym there) up

pub reached-at : (key : KeyShape) (to seen from : ℕ) (es : List (KeyShape × Following)) (i : ℕ) (v : Following) → position (same_key key) (keys_of es) ≡ Some i → slice_get (map (λ e. e.1) es) i ≡ Some v → to ≤ max v.seen seen
    → IfSome (lookup (same_key key) (all_lifted seen from es)) (λ a. to ≤ a.seen)
reached-at key to seen from es i v is there high =
    subst (λ (found : Option Following). IfSome found (λ a. to ≤ a.seen)) (sym (lookup-lifted seen from (same_key key) es ∙ ap (option_map (lifted seen from)) (lookup-at key es i v is there))) high

-- there is no query of a key
pub none-found : (found : Option Following) → false ≡ is_some found → found ≡ None
none-found None none = refl
none-found (Some a) none = absurd (let h = none in cc)

pub none-lifted : (key : KeyShape) (seen from : ℕ) (es : List (KeyShape × Following)) → false ≡ is_some (lookup (same_key key) es) → lookup (same_key key) (all_lifted seen from es) ≡ None
none-lifted key seen from es none = lookup-lifted seen from (same_key key) es ∙ ap (option_map (lifted seen from)) (none-found (lookup (same_key key) es) none)

pub none-reached : (key : KeyShape) (to seen from : ℕ) (es : List (KeyShape × Following)) → false ≡ is_some (lookup (same_key key) es) → IfSome (lookup (same_key key) (all_lifted seen from es)) (λ a. to ≤ a.seen)
none-reached key to seen from es none = subst (λ (found : Option Following). IfSome found (λ a. to ≤ a.seen)) (sym (none-lifted key seen from es none)) tt

-- a further commit that all have seen
pub lifted-raised : (seen from more : ℕ) (es : List (KeyShape × Following)) → all_lifted (max seen more) from es ≡ all_raised more (all_lifted seen from es)
lifted-raised seen from more [] = refl
lifted-raised seen from more (e ∷ es) =
    let same : max e.1.seen (max seen more) ≡ max (max e.1.seen seen) more = omega arith in
    ap₂ (λ (n : ℕ) (rest : List (KeyShape × Following)). (e.0, record { kind = e.1.kind; set = e.1.set; seen = n; from = max e.1.from from; changed = e.1.changed }) ∷ rest) same (lifted-raised seen from more es)

-- a query more, which is as far as all are
lifted-append : (seen from : ℕ) (es fs : List (KeyShape × Following)) → all_lifted seen from (es ++ fs) ≡ all_lifted seen from es ++ all_lifted seen from fs
lifted-append seen from [] fs = refl
lifted-append seen from (e ∷ es) fs = ap (λ (rest : List (KeyShape × Following)). (e.0, lifted seen from e.1) ∷ rest) (lifted-append seen from es fs)

pub lifted-added : (seen from : ℕ) (key : KeyShape) (query : Following) (es : List (KeyShape × Following)) → seen ≤ query.seen → from ≤ query.from → all_lifted seen from (es ++ (key, query) ∷ []) ≡ all_lifted seen from es ++ (key, query) ∷ []
lifted-added seen from key query es one two =
    lifted-append seen from es ((key, query) ∷ [])
    ∙ ap (λ (a : Following). all_lifted seen from es ++ (key, a) ∷ []) (lifted-own seen from query one two)

-- nothing is common where each has it as its own
pub lifted-none : (es : List (KeyShape × Following)) → all_lifted 0 0 es ≡ es
lifted-none [] = refl
lifted-none (e ∷ es) = ap₂ (λ (a : Following) (rest : List (KeyShape × Following)). (e.0, a) ∷ rest) (lifted-own 0 0 e.1 (omega arith) (omega arith)) (lifted-none es)

pub settled-whole : (seen from n : ℕ) (old : List (KeyShape × Following)) → length old ≤ n → all_lifted seen from (take n old) ++ drop n old ≡ all_lifted seen from old
settled-whole seen from zero [] past = refl
settled-whole seen from zero (e ∷ old) past = absurd (omega (arith, past))
settled-whole seen from (suc n) [] past = refl
settled-whole seen from (suc n) (e ∷ old) past = ap (λ (rest : List (KeyShape × Following)). (e.0, lifted seen from e.1) ∷ rest) (settled-whole seen from n old (omega (arith, past)))

pub settled-written : (seen from i : ℕ) (old : List (KeyShape × Following)) (v : Following) → slice_get (map (λ e. e.1) (all_lifted seen from (take i old) ++ drop i old)) i ≡ Some v →
    set_value_at (all_lifted seen from (take i old) ++ drop i old) i (lifted seen from v) ≡ all_lifted seen from (take (suc i) old) ++ drop (suc i) old
settled-written seen from zero [] v there = refl
settled-written seen from zero (e ∷ old) v there =
    let same : e.1 ≡ v = (let h = there in cc) in
    ap (λ (a : Following). (e.0, lifted seen from a) ∷ old) (sym same)
settled-written seen from (suc i) [] v there = refl
settled-written seen from (suc i) (e ∷ old) v there = ap (λ (rest : List (KeyShape × Following)). (e.0, lifted seen from e.1) ∷ rest) (settled-written seen from i old v there)

pub lifted-among : (seen from : ℕ) (es fs : List (KeyShape × Following)) → ((e : KeyShape × Following) → Contains fs e → Contains es e) → (e : KeyShape × Following) → Contains (all_lifted seen from fs) e → Contains (all_lifted seen from es) e
lifted-among seen from es fs among e there =
    let own = item seen from fs there.0 e (subst (λ (n : ℕ). there.0 < n) (length-lifted seen from fs) there.1) in
    let found = among (get_or fs there.0 e) (there.0, (subst (λ (n : ℕ). there.0 < n) (length-lifted seen from fs) there.1), same fs there.0 (get_or fs there.0 e) e (subst (λ (n : ℕ). there.0 < n) (length-lifted seen from fs) there.1)) in (
      found.0,
      subst (λ (n : ℕ). found.0 < n) (sym (length-lifted seen from es)) found.1,
      item seen from es found.0 e found.1
          ∙ ap (λ (x : KeyShape × Following). (x.0, lifted seen from x.1)) (same es found.0 e (get_or fs there.0 e) found.1 ∙ found.2)
          ∙ sym own
          ∙ there.2,
    )
  where
    item : (seen from : ℕ) (xs : List (KeyShape × Following)) (k : ℕ) (d : KeyShape × Following) → k < length xs → get_or (all_lifted seen from xs) k d ≡ ((get_or xs k d).0, lifted seen from (get_or xs k d).1)
    item seen from [] k d low = absurd (omega (arith, low))
    item seen from (x ∷ xs) zero d low = refl
    item seen from (x ∷ xs) (suc k) d low = item seen from xs k d (omega (arith, low))

    same : (xs : List (KeyShape × Following)) (k : ℕ) (d e : KeyShape × Following) → k < length xs → get_or xs k d ≡ get_or xs k e
    same [] k d e low = absurd (omega (arith, low))
    same (x ∷ xs) zero d e low = refl
    same (x ∷ xs) (suc k) d e low = same xs k d e (omega (arith, low))

-- ---- from one state to a later one

entry-goes : (journal : List Change) (key : KeyShape) (v w : Following) → HasFollowed journal v w → GoesOn journal (key, v) (key, w)
entry-goes journal key v w on = record {
  key = refl;
  follows = λ follows. (follows.0, follows.1, follows.2, on.follows follows.0 follows.1 follows.3);
  from = on.from;
  seen = on.seen;
  above = on.above;
}

pub entry-stays : (journal : List Change) (e : KeyShape × Following) → GoesOn journal e e
entry-stays journal e = record {
  key = refl;
  follows = λ follows. follows;
  from = refl;
  seen = omega arith;
  above = λ n low above. above;
}

pub all_stay : (journal : List Change) (es : List (KeyShape × Following)) → AllGoOn journal es es
all_stay journal [] = tt
all_stay journal (e ∷ es) = (entry-stays journal e, all_stay journal es)

pub all-go-on : (journal : List Change) (es fs gs : List (KeyShape × Following)) → AllGoOn journal es fs → AllGoOn journal fs gs → AllGoOn journal es gs
all-go-on journal [] [] [] one two = tt
all-go-on journal [] [] (g ∷ gs) one two = two
all-go-on journal [] (f ∷ fs) gs one two = absurd one
all-go-on journal (e ∷ es) [] gs one two = absurd one
all-go-on journal (e ∷ es) (f ∷ fs) [] one two = two
all-go-on journal (e ∷ es) (f ∷ fs) (g ∷ gs) one two =
    let first = one.0 in
    let then = two.0 in
    let low = first.seen in
    let high = then.seen in (
      record {
        key = then.key ∙ first.key;
        follows = λ follows. then.follows (first.follows follows);
        from = then.from ∙ first.from;
        seen = omega (arith, low, high);
        above = λ n below above. then.above n (omega (arith, below, low)) (first.above n below above);
      },
      all-go-on journal es fs gs one.1 two.1,
    )

pub all-begun : (journal : List Change) (es fs : List (KeyShape × Following)) → AllGoOn journal es fs → begun fs ≡ begun es
all-begun journal [] [] on = refl
all-begun journal [] (f ∷ fs) on = absurd on
all-begun journal (e ∷ es) [] on = absurd on
all-begun journal (e ∷ es) (f ∷ fs) on =
    let first = on.0 in
    ap₂ (λ (b : KeyShape × ℕ) (bs : List (KeyShape × ℕ)). b ∷ bs) (ap₂ (λ (k : KeyShape) (n : ℕ). (k, n)) first.key first.from) (all-begun journal es fs on.1)

-- what each keeps that goes on
pub on-All : (P : KeyShape × Following → Type 0) (journal : List Change) → ((e f : KeyShape × Following) → GoesOn journal e f → P e → P f) → (es fs : List (KeyShape × Following)) → AllGoOn journal es fs → All P es → All P fs
on-All P journal each [] [] on all = all
on-All P journal each [] (f ∷ fs) on all = absurd on
on-All P journal each (e ∷ es) [] on all = absurd on
on-All P journal each (e ∷ es) (f ∷ fs) on all =
    All-both P f fs (each e f on.0 (All-first P e es all)) (on-All P journal each es fs on.1 (All-rest P e es all))

pub on-following : (journal : List Change) (es fs : List (KeyShape × Following)) → AllGoOn journal es fs → AreFollowing journal es → AreFollowing journal fs
on-following journal = on-All (FollowsKey journal) journal (λ e f on follows. on.follows follows)

pub on-seen : (journal : List Change) (es fs : List (KeyShape × Following)) → AllGoOn journal es fs → (n : ℕ) → HaveSeen n es → HaveSeen n fs
on-seen journal es fs all n = on-All (λ e. n ≤ e.1.seen) journal (λ e f on low. up n e f on low) es fs all
  where
    up : (n : ℕ) (e f : KeyShape × Following) → GoesOn journal e f → n ≤ e.1.seen → n ≤ f.1.seen
    up n e f on low = let high = on.seen in omega (arith, low, high)

pub on-above : (journal : List Change) (es fs : List (KeyShape × Following)) → AllGoOn journal es fs → (n : ℕ) → HaveSeen n es → ListAbove n es → ListAbove n fs
on-above journal es fs all n seen above = λ k d within.
    (on-All (λ e. (n ≤ e.1.seen) × AreAbove n e.1.changed) journal (λ e f on both. (up n e f on both.0, on.above n both.0 both.1)) es fs all
    (All-and (λ e. n ≤ e.1.seen) (λ e. AreAbove n e.1.changed) es seen above) k d within).1
  where
    up : (n : ℕ) (e f : KeyShape × Following) → GoesOn journal e f → n ≤ e.1.seen → n ≤ f.1.seen
    up n e f on low = let high = on.seen in omega (arith, low, high)

-- the query at an index followed, having taken what is common as its own
pub goes-written : (journal : List Change) (seen from : ℕ) (es : List (KeyShape × Following)) (i : ℕ) (v w : Following) → slice_get (map (λ e. e.1) es) i ≡ Some v → HasFollowed journal (lifted seen from v) w
    → AllGoOn journal (all_lifted seen from es) (all_lifted seen from (set_value_at es i w))
goes-written journal seen from [] i v w there on = absurd (let h = there in cc)
goes-written journal seen from (e ∷ es) zero v w there on =
    let same : e.1 ≡ v = (let h = there in cc) in
    let high = on.seen in
    let alike = on.from in
    let own : lifted seen from w ≡ w = lifted-own seen from w (omega (arith, high)) (omega (arith, alike)) in (
      subst (λ (a : Following). GoesOn journal (e.0, lifted seen from a) (e.0, lifted seen from w)) (sym same)
          (subst (λ (a : Following). GoesOn journal (e.0, lifted seen from v) (e.0, a)) (sym own) (entry-goes journal e.0 (lifted seen from v) w on)),
      all_stay journal (all_lifted seen from es),
    )
goes-written journal seen from (e ∷ es) (suc i) v w there on =
    (entry-stays journal (e.0, lifted seen from e.1), goes-written journal seen from es i v w there on)

-- ---- queries of keys that differ

none-same : (P : KeyShape × Following → Type 0) (key : KeyShape) (seen from : ℕ) (es : List (KeyShape × Following)) → AllByRecursion (λ k. same_key key k ≡ false) (keys_of es) → All (λ e. same_key key e.0 ≡ true → P e) (all_lifted seen from es)
none-same P key seen from [] apart = λ k d within. absurd (omega (arith, within))
none-same P key seen from (e ∷ es) apart =
    All-both (λ x. same_key key x.0 ≡ true → P x) (e.0, lifted seen from e.1) (all_lifted seen from es) (λ same. absurd (let h : true ≡ false = sym same ∙ apart.0 in cc)) (none-same P key seen from es apart.1)

-- each query of a key is the one that was written there
written-alone : (P : KeyShape × Following → Type 0) (seen from : ℕ) (key : KeyShape) (es : List (KeyShape × Following)) (i : ℕ) (w : Following) (d : KeyShape) → i < length (keys_of es) → same_key key (get_or (keys_of es) i d) ≡ true
    → ((k : ℕ) → k < i → same_key key (get_or (keys_of es) k d) ≡ false) → IsDistinct same_key (keys_of es) → ((k : KeyShape) → P (k, lifted seen from w)) → All (λ e. same_key key e.0 ≡ true → P e) (all_lifted seen from (set_value_at es i w))
unfolding IsDistinct
written-alone P seen from key [] i w d low own before once holds = absurd (omega (arith, low))
written-alone P seen from key (e ∷ es) zero w d low own before once holds =
    let same : key ≡ e.0 = (same_key-Decides key e.0).0 own in
    All-both (λ x. same_key key x.0 ≡ true → P x) (e.0, lifted seen from w) (all_lifted seen from es) (λ hit. holds e.0)
    (subst (λ (k : KeyShape). All (λ x. same_key k x.0 ≡ true → P x) (all_lifted seen from es)) (sym same) (none-same P e.0 seen from es once.0))
written-alone P seen from key (e ∷ es) (suc i) w d low own before once holds =
    All-both (λ x. same_key key x.0 ≡ true → P x) (e.0, lifted seen from e.1) (all_lifted seen from (set_value_at es i w)) (λ hit. absurd (let h : true ≡ false = sym hit ∙ before 0 (omega arith) in cc))
    (written-alone P seen from key es i w d (omega (arith, low)) own (λ k below. before (suc k) (omega (arith, below))) once.1 holds)

pub written-only : (P : KeyShape × Following → Type 0) (seen from : ℕ) (key : KeyShape) (es : List (KeyShape × Following)) (i : ℕ) (w : Following) → position (same_key key) (keys_of es) ≡ Some i → IsDistinct same_key (keys_of es)
    → ((k : KeyShape) → P (k, lifted seen from w)) → All (λ e. same_key key e.0 ≡ true → P e) (all_lifted seen from (set_value_at es i w))
written-only P seen from key es i w is once holds =
    let found = position-Some (same_key key) (keys_of es) i key is in
    written-alone P seen from key es i w key found.0 found.1 found.2 once holds

-- no query has the key
pub none-there : (P : KeyShape × Following → Type 0) (key : KeyShape) (es : List (KeyShape × Following)) → lookup (same_key key) es ≡ None → All (λ e. same_key key e.0 ≡ true → P e) es
none-there P key [] none = λ k d within. absurd (omega (arith, within))
none-there P key (e ∷ es) none = elim (cases_Bool (same_key key e.0)) [
  | inl hit ↦ absurd (let h : Some e.1 ≡ None = sym (lookup_head (same_key key) e es hit) ∙ none in cc)
  | inr miss ↦ All-both (λ x. same_key key x.0 ≡ true → P x) e es (λ hit. absurd (let h : true ≡ false = sym hit ∙ miss in cc)) (none-there P key es (sym (lookup_tail (same_key key) e es miss) ∙ none))
]

-- the query of a key is found under it
pub found-own : (es : List (KeyShape × Following)) (k : ℕ) (d : KeyShape × Following) → k < length es → is_some (lookup (same_key (get_or es k d).0) es) ≡ true
found-own [] k d low = absurd (omega (arith, low))
found-own (e ∷ es) zero d low = rw (same_key-itself e.0) refl
found-own (e ∷ es) (suc k) d low = elim (cases_Bool (same_key (get_or es k d).0 e.0)) [
  | inl hit ↦ rw hit refl
  | inr miss ↦ rw miss (found-own es k d (omega (arith, low)))
]

apart-at : (key : KeyShape) (es : List (KeyShape × Following)) (k : ℕ) (d : KeyShape × Following) → AllByRecursion (λ x. same_key key x ≡ false) (keys_of es) → k < length es → same_key (get_or es k d).0 key ≡ false
apart-at key [] k d apart low = absurd (omega (arith, low))
apart-at key (e ∷ es) zero d apart low = same_key_equiv.symm e.0 key ∙ apart.0
apart-at key (e ∷ es) (suc k) d apart low = apart-at key es k d apart.1 (omega (arith, low))

-- and it alone, where keys differ
pub lookup-own : (es : List (KeyShape × Following)) (k : ℕ) (d : KeyShape × Following) → IsDistinct same_key (keys_of es) → k < length es → lookup (same_key (get_or es k d).0) es ≡ Some (get_or es k d).1
unfolding IsDistinct
lookup-own [] k d once low = absurd (omega (arith, low))
lookup-own (e ∷ es) zero d once low = lookup_head (same_key e.0) e es (same_key-itself e.0)
lookup-own (e ∷ es) (suc k) d once low =
    lookup_tail (same_key (get_or es k d).0) e es (apart-at e.0 es k d once.0 (omega (arith, low))) ∙ lookup-own es k d once.1 (omega (arith, low))
