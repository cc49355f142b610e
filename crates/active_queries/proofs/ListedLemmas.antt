-- The keys of the queries that list changed commits, and those that a commit may concern.
use Rattle.std.proofs.Common.{◌≡◌, ℕ, zero, suc, ◌+◌, ◌-◌, ◌<◌, ◌≤◌, Bool, true, false, not, ◌&&◌, ◌||◌, if◌then◌else◌, List, [], ◌∷◌, ◌++◌, length, map, filter, take, get_or, slice_get, position, All, Option, Some, None, IfSome, option_map, is_some, max, nat_lt, refl, sym, ap, ap₂, ◌∙◌, subst, inl, inr, arith, add-one}
use mathlib.Core.Bool.{beq}
use Rattle.std.specs.List.{list_any, IsDistinct}
use Rattle.std.specs.Map.{lookup, keys_of}
use Rattle.std.proofs.lemmas.Bool.{cases_Bool, cases_lt, lt-ltb}
use Rattle.indexmap.specs.IndexMap.{set_value_at}
use Rattle.commit_book.specs.declared.change.Change.{Change}
use Rattle.commit_book.specs.declared.change.CommitRow.{CommitRow}
use Rattle.commit_book.specs.CommitRows.{commit_row}
use Rattle.commit_book.specs.Documents.{docs}
use Rattle.query_core.specs.declared.query.Kind.{Kind}
use Rattle.query_core.specs.declared.query.Query.{Query}
use Rattle.query_core.specs.Changes.{passes_by}
use Rattle.query_core.specs.Window.{window}
use Rattle.query_normal.specs.declared.key.KeyShape.{KeyShape}
use Rattle.query_normal.specs.declared.key.KeyShape.TheVariants.{Query as QueryKey}
use Rattle.query_normal.specs.Keys.{same_key}
use Rattle.query_normal.specs.SameKey.{same_key-Decides}
use Rattle.match_index.specs.Candidates.{is_query, passes_key}
use Rattle.match_sets.specs.Follow.{verdict_on}
use Rattle.active_queries.specs.Following.{Following, Follows, AreAbove, IsRowAfter, IsRowOf, forgotten, lifted, raised}
use Rattle.active_queries.specs.Queries.{GoesOn, AllGoOn, HaveSeen, ListAbove, has_any, has_changed, is_ready, AreListed, AreIndexed, all_forgotten, all_lifted, all_raised}
use Rattle.active_queries.proofs.EntryLemmas.{All-first, All-rest, All-both, begun-lookup, forgotten-above, keys-forgotten, lookup-written, lookup-others}
use Rattle.active_queries.proofs.FollowLemmas.{AreTested, seen-passing}
use Rattle.active_queries.proofs.LiftLemmas.{lookup-lifted, lookup-at, lookup-own, keys-lifted, all-begun, on-All, found-own}

-- ---- keys with changed commits

-- the query of a key was written, and the key is listed as it should
pub listed-written : (es : List (KeyShape × Following)) (key copy : KeyShape) (i : ℕ) (w : Following) (old new : List KeyShape) → position (same_key key) (keys_of es) ≡ Some i → AreListed es old → copy ≡ key → (lists : Bool) → lists ≡ has_any w.changed
    → ((other : KeyShape) → list_any (same_key other) new ≡ (if same_key copy other then lists else list_any (same_key other) old)) → AreListed (set_value_at es i w) new
listed-written es key copy i w old new is listed alike lists own put other = elim (cases_Bool (same_key key other)) [
  | inl hit ↦
      let same : key ≡ other = (same_key-Decides key other).0 hit in
      put other
      ∙ ap (λ (k : KeyShape). if same_key k other then lists else list_any (same_key other) old) alike
      ∙ ap (λ (b : Bool). if b then lists else list_any (same_key other) old) hit
      ∙ own
      ∙ ap has_changed (sym (subst (λ (k : KeyShape). lookup (same_key k) (set_value_at es i w) ≡ Some w) same (lookup-written key es i w is)))
  | inr miss ↦
      put other
      ∙ ap (λ (k : KeyShape). if same_key k other then lists else list_any (same_key other) old) alike
      ∙ ap (λ (b : Bool). if b then lists else list_any (same_key other) old) miss
      ∙ listed other
      ∙ ap has_changed (sym (lookup-others key es i w is other miss))
]

-- what is common changes no list of changed commits
pub changed-lifted : (seen from : ℕ) (found : Option Following) → has_changed (option_map (lifted seen from) found) ≡ has_changed found
changed-lifted seen from None = refl
changed-lifted seen from (Some a) = refl

pub listed-lifted : (seen from : ℕ) (es : List (KeyShape × Following)) (listed : List KeyShape) → AreListed es listed → AreListed (all_lifted seen from es) listed
listed-lifted seen from es listed are key =
    are key ∙ sym (ap has_changed (lookup-lifted seen from (same_key key) es) ∙ changed-lifted seen from (lookup (same_key key) es))

-- ---- one key more that has seen a commit

or-assoc : (a b c : Bool) → (a || (b || c)) ≡ ((a || b) || c)
or-assoc true b c = refl
or-assoc false b c = refl

or-none : (b : Bool) → (b || false) ≡ b
or-none true = refl
or-none false = refl

any-next : {X : Type 0} (p : X → Bool) (xs : List X) (i : ℕ) (d : X) → i < length xs → list_any p (take (suc i) xs) ≡ (list_any p (take i xs) || p (get_or xs i d))
any-next p [] i d low = absurd (omega (arith, low))
any-next p (x ∷ xs) zero d low = or-none (p x)
any-next p (x ∷ xs) (suc i) d low = ap (λ (b : Bool). p x || b) (any-next p xs i d (omega (arith, low))) ∙ or-assoc (p x) (list_any p (take i xs)) (p (get_or xs i d))

any-more : {X : Type 0} (p : X → Bool) (xs : List X) (i : ℕ) (d : X) → i < length xs → list_any p (take (i + 1) xs) ≡ (list_any p (take i xs) || p (get_or xs i d))
any-more p xs i d low = ap (λ (n : ℕ). list_any p (take n xs)) (add-one i) ∙ any-next p xs i d low

either : (a b : Bool) {P : Type 0} → (a || b) ≡ true → (a ≡ true → P) → (b ≡ true → P) → P
either true b h one two = one refl
either false b h one two = two h

pub reached-more : (c : ℕ) (journal : List Change) (keys : List KeyShape) (i : ℕ) (key : KeyShape) (old new : List (KeyShape × Following)) → i < length keys → key ≡ get_or keys i key → AllGoOn journal old new
    → All (λ e. list_any (same_key e.0) (take i keys) ≡ true → c ≤ e.1.seen) old → All (λ e. same_key key e.0 ≡ true → c ≤ e.1.seen) new → All (λ e. list_any (same_key e.0) (take (i + 1) keys) ≡ true → c ≤ e.1.seen) new
reached-more c journal keys i key old new low is on before here k d within there =
    let e = get_or new k d in
    let still = on-All (λ x. list_any (same_key x.0) (take i keys) ≡ true → c ≤ x.1.seen) journal (λ x y goes reached. up x y goes reached) old new on before k d within in
    either (list_any (same_key e.0) (take i keys)) (same_key e.0 (get_or keys i key)) (sym (any-more (same_key e.0) keys i key low) ∙ there) still
    (λ same. here k d within
    (let one : e.0 ≡ get_or keys i key = (same_key-Decides e.0 (get_or keys i key)).0 same in
    (same_key-Decides key e.0).1 (is ∙ sym one)))
  where
    up : (x y : KeyShape × Following) → GoesOn journal x y → (list_any (same_key x.0) (take i keys) ≡ true → c ≤ x.1.seen) → list_any (same_key y.0) (take i keys) ≡ true → c ≤ y.1.seen
    up x y goes reached hit =
        let key_is = goes.key in
        let high = goes.seen in
        let was : c ≤ x.1.seen = reached (subst (λ (k : KeyShape). list_any (same_key k) (take i keys) ≡ true) key_is hit) in
        omega (arith, was, high)

take-whole : (ks : List KeyShape) (n : ℕ) → length ks ≤ n → take n ks ≡ ks
take-whole [] zero past = refl
take-whole [] (suc n) past = refl
take-whole (x ∷ ks) zero past = absurd (omega (arith, past))
take-whole (x ∷ ks) (suc n) past = ap (λ (rest : List KeyShape). x ∷ rest) (take-whole ks n (omega (arith, past)))

-- all keys were looked at
pub reached-whole : (c : ℕ) (keys : List KeyShape) (i : ℕ) (es : List (KeyShape × Following)) → length keys ≤ i → All (λ e. list_any (same_key e.0) (take i keys) ≡ true → c ≤ e.1.seen) es → All (λ e. list_any (same_key e.0) keys ≡ true → c ≤ e.1.seen) es
reached-whole c keys i es past all k d within there = all k d within (subst (λ (ks : List KeyShape). list_any (same_key (get_or es k d).0) ks ≡ true) (sym (take-whole keys i past)) there)

-- ---- a commit that passes the others by

-- a commit that was looked for by its number
pub row-of : (journal : List Change) (n : ℕ) (row : CommitRow) → IsRowAfter journal n row → IsRowOf journal row
row-of journal n row after =
    let number : row.commit ≡ suc n = ap (λ (r : CommitRow). r.commit) after.2 in
    let same : n ≡ row.commit - 1 = omega (arith, number) in
    subst (λ (m : ℕ). IsRowAfter journal m row) same after

neither : (a b : Bool) → (not a && not b) ≡ true → (a || b) ≡ false
neither false false h = refl
neither true b h = absurd (let e = h in cc)
neither false true h = absurd (let e = h in cc)

abbrev ArePassed : Type 0
ArePassed = (q : Query) (journal : List Change) (n : ℕ) (change : Change) → slice_get journal n ≡ Some change → passes_by q change.collection (commit_row journal (suc n) change).before change.document ≡ true
    → window q (docs journal (suc n) q.collection) ≡ window q (docs journal n q.collection)

-- a query that saw all but the last commit, which passes it by, has seen that one too
raised-by : AreTested → ArePassed → (journal : List Change) (row : CommitRow) (kind : Kind) (query : Query) (a : Following) → IsRowOf journal row → a.seen ≡ row.commit - 1 → a.seen < row.commit → passes_by query row.collection row.before row.after ≡ true
    → Follows kind query a journal → Follows kind query (raised row.commit a) journal
raised-by tested passed journal row kind query a next last low passes follows =
    let none : ((verdict_on a.set.query row).before || (verdict_on a.set.query row).after) ≡ false =
    neither (verdict_on a.set.query row).before (verdict_on a.set.query row).after (subst (λ (q : Query). passes_by q row.collection row.before row.after ≡ true) (sym follows.query_is) passes) in
    let at : IsRowAfter journal a.seen row = subst (λ (m : ℕ). IsRowAfter journal m row) (sym last) next in
    let top : max a.seen row.commit ≡ row.commit = omega (arith, low) in
    subst (λ (n : ℕ). Follows kind query (record { kind = a.kind; set = a.set; seen = n; from = a.from; changed = a.changed }) journal) (sym top)
    (seen-passing tested passed a journal row (verdict_on a.set.query row) at refl none kind query follows)

raised-one : AreTested → ArePassed → (journal : List Change) (row : CommitRow) (keys : List KeyShape) (e : KeyShape × Following) → IsRowOf journal row → row.commit - 1 ≤ e.1.seen → (list_any (same_key e.0) keys ≡ true → row.commit ≤ e.1.seen)
    → (is_query e.0 ≡ true → list_any (same_key e.0) keys ≡ false → passes_key e.0 row ≡ true) → GoesOn journal e (e.0, raised row.commit e.1)
raised-one tested passed journal row keys e next recent reached others = record {
  key = refl;
  follows = λ follows. (follows.0, follows.1, follows.2, on follows.0 follows.1 follows.2 follows.3);
  from = refl;
  seen = omega arith;
  above = λ n low above. above;
}
  where
    on : (kind : Kind) (query : Query) → e.0 ≡ QueryKey kind query → Follows kind query e.1 journal → Follows kind query (raised row.commit e.1) journal
    on kind query is follows = elim (cases_lt e.1.seen row.commit) [
      | inl low ↦
          let number : row.commit ≡ suc (row.commit - 1) = ap (λ (r : CommitRow). r.commit) next.2 in
          let last : e.1.seen ≡ row.commit - 1 = omega (arith, low, recent) in
          elim (cases_Bool (list_any (same_key e.0) keys)) [
            | inl hit ↦ absurd (let high = reached hit in omega (arith, high, low))
            | inr miss ↦
                raised-by tested passed journal row kind query e.1 next last low
                (subst (λ (k : KeyShape). passes_key k row ≡ true) is (others (ap is_query is) miss)) follows
          ]
      | inr high ↦
          let top : max e.1.seen row.commit ≡ e.1.seen = omega (arith, high) in
          subst (λ (n : ℕ). Follows kind query (record { kind = e.1.kind; set = e.1.set; seen = n; from = e.1.from; changed = e.1.changed }) journal) (sym top) follows
    ]

raised-each : (journal : List Change) (c : ℕ) (es : List (KeyShape × Following)) → All (λ e. GoesOn journal e (e.0, raised c e.1)) es → AllGoOn journal es (all_raised c es)
raised-each journal c [] all = tt
raised-each journal c (e ∷ es) all = (All-first (λ x. GoesOn journal x (x.0, raised c x.1)) e es all, raised-each journal c es (All-rest (λ x. GoesOn journal x (x.0, raised c x.1)) e es all))

-- those that a commit may concern have seen it, and it passes the others by
pub raised-all : AreTested → ArePassed → (journal : List Change) (row : CommitRow) (keys : List KeyShape) (es : List (KeyShape × Following)) → IsRowOf journal row → HaveSeen (row.commit - 1) es → All (λ e. list_any (same_key e.0) keys ≡ true → row.commit ≤ e.1.seen) es
    → ((key : KeyShape) → is_some (lookup (same_key key) es) ≡ true → is_query key ≡ true → list_any (same_key key) keys ≡ false → passes_key key row ≡ true) → AllGoOn journal es (all_raised row.commit es)
raised-all tested passed journal row keys es next recent reached others =
    raised-each journal row.commit es
    (λ k d within. raised-one tested passed journal row keys (get_or es k d) next (recent k d within) (reached k d within) (others (get_or es k d).0 (found-own es k d within)))

pub raised-seen : (c : ℕ) (es : List (KeyShape × Following)) → HaveSeen c (all_raised c es)
raised-seen c [] = λ k d within. absurd (omega (arith, within))
raised-seen c (e ∷ es) = All-both (λ x. c ≤ x.1.seen) (e.0, raised c e.1) (all_raised c es) (omega arith) (raised-seen c es)

-- a key that is held and not among the candidates is passed by
pub passed-others : (es before : List (KeyShape × Following)) (ready : Option KeyShape) (index keys : List KeyShape) (row : CommitRow) (journal : List Change) → AreIndexed before ready index → AllGoOn journal before es
    → ((key : KeyShape) → list_any (same_key key) index ≡ true → passes_key key row ≡ false → list_any (same_key key) keys ≡ true)
    → (key : KeyShape) → is_some (lookup (same_key key) es) ≡ true → is_query key ≡ true → list_any (same_key key) keys ≡ false → passes_key key row ≡ true
passed-others es before ready index keys row journal indexed on all key there query miss = elim (cases_Bool (passes_key key row)) [
  | inl passes ↦ passes
  | inr concerns ↦
      let was : is_some (lookup (same_key key) before) ≡ true = sym (begun-lookup before es (all-begun journal before es on) key) ∙ there in
      let held : list_any (same_key key) index ≡ true = indexed key ∙ ap₂ (λ (a b : Bool). a && (b || is_ready ready key)) query was in
      absurd (let h : true ≡ false = sym (all key held concerns) ∙ miss in cc)
]

-- the index has the same keys where each query goes on
pub indexed-on : (journal : List Change) (es fs : List (KeyShape × Following)) (ready : Option KeyShape) (index : List KeyShape) → AllGoOn journal es fs → AreIndexed es ready index → AreIndexed fs ready index
indexed-on journal es fs ready index on indexed key =
    indexed key ∙ ap (λ (b : Bool). is_query key && (b || is_ready ready key)) (sym (begun-lookup es fs (all-begun journal es fs on) key))

-- ---- changed commits that are forgotten

filter-same : (p : ℕ → Bool) (ns : List ℕ) → All (λ n. p n ≡ true) ns → filter p ns ≡ ns
filter-same p [] all = refl
filter-same p (n ∷ ns) all = rw (All-first (λ m. p m ≡ true) n ns all) (ap (λ (rest : List ℕ). n ∷ rest) (filter-same p ns (All-rest (λ m. p m ≡ true) n ns all)))

above-same : (to : ℕ) (ns : List ℕ) → AreAbove to ns → filter (λ n. nat_lt to n) ns ≡ ns
above-same to ns above = filter-same (λ n. nat_lt to n) ns (λ k d within. lt-ltb to (get_or ns k d) (above k d within))

forgotten-twice : (to : ℕ) (a : Following) → forgotten to (forgotten to a) ≡ forgotten to a
forgotten-twice to a =
    let same : max (max a.from to) to ≡ max a.from to = omega arith in
    ap₂ (λ (n : ℕ) (ns : List ℕ). record { kind = a.kind; set = a.set; seen = a.seen; from = n; changed = ns }) same (above-same to (filter (λ n. nat_lt to n) a.changed) (forgotten-above to a.changed))

pub forgotten-again : (to : ℕ) (es : List (KeyShape × Following)) (i : ℕ) (v : Following) → slice_get (map (λ e. e.1) es) i ≡ Some v → all_forgotten to (set_value_at es i (forgotten to v)) ≡ all_forgotten to es
forgotten-again to [] i v there = refl
forgotten-again to (e ∷ es) zero v there =
    let same : e.1 ≡ v = (let h = there in cc) in
    ap (λ (a : Following). (e.0, a) ∷ all_forgotten to es) (forgotten-twice to v ∙ ap (forgotten to) (sym same))
forgotten-again to (e ∷ es) (suc i) v there = ap (λ (rest : List (KeyShape × Following)). (e.0, forgotten to e.1) ∷ rest) (forgotten-again to es i v there)

none-left : (p : ℕ → Bool) (ns : List ℕ) → has_any ns ≡ false → has_any (filter p ns) ≡ false
none-left p [] none = refl
none-left p (n ∷ ns) none = absurd (let h = none in cc)

-- the query of a key without changed commits has none then
pub forgotten-fewer : (to : ℕ) (key : KeyShape) (es : List (KeyShape × Following)) (i : ℕ) (v : Following) → position (same_key key) (keys_of es) ≡ Some i → slice_get (map (λ e. e.1) es) i ≡ Some v
    → (other : KeyShape) → has_changed (lookup (same_key other) es) ≡ false → has_changed (lookup (same_key other) (set_value_at es i (forgotten to v))) ≡ false
forgotten-fewer to key es i v is there other none = elim (cases_Bool (same_key key other)) [
  | inl hit ↦
      let same : key ≡ other = (same_key-Decides key other).0 hit in
      let was : has_any v.changed ≡ false = ap has_changed (sym (lookup-at key es i v is there)) ∙ ap (λ (k : KeyShape). has_changed (lookup (same_key k) es)) same ∙ none in
      ap has_changed (subst (λ (k : KeyShape). lookup (same_key k) (set_value_at es i (forgotten to v)) ≡ Some (forgotten to v)) same (lookup-written key es i (forgotten to v) is)) ∙ none-left (λ n. nat_lt to n) v.changed was
  | inr miss ↦ ap has_changed (lookup-others key es i (forgotten to v) is other miss) ∙ none
]

pub forgotten-there : (to : ℕ) (key : KeyShape) (es : List (KeyShape × Following)) (i : ℕ) (v : Following) → position (same_key key) (keys_of es) ≡ Some i → IfSome (lookup (same_key key) (set_value_at es i (forgotten to v))) (λ a. AreAbove to a.changed)
forgotten-there to key es i v is = subst (λ (found : Option Following). IfSome found (λ a. AreAbove to a.changed)) (sym (lookup-written key es i (forgotten to v) is)) (forgotten-above to v.changed)

pub forgotten-still : (to : ℕ) (key : KeyShape) (es : List (KeyShape × Following)) (i : ℕ) (v : Following) → position (same_key key) (keys_of es) ≡ Some i
    → (other : KeyShape) → IfSome (lookup (same_key other) es) (λ a. AreAbove to a.changed) → IfSome (lookup (same_key other) (set_value_at es i (forgotten to v))) (λ a. AreAbove to a.changed)
forgotten-still to key es i v is other above = elim (cases_Bool (same_key key other)) [
  | inl hit ↦
      let same : key ≡ other = (same_key-Decides key other).0 hit in
      subst (λ (k : KeyShape). IfSome (lookup (same_key k) (set_value_at es i (forgotten to v))) (λ a. AreAbove to a.changed)) same (forgotten-there to key es i v is)
  | inr miss ↦ subst (λ (found : Option Following). IfSome found (λ a. AreAbove to a.changed)) (sym (lookup-others key es i (forgotten to v) is other miss)) above
]

-- one key more whose query has forgotten
pub above-more : (to : ℕ) (keys : List KeyShape) (i : ℕ) (key : KeyShape) (old new : List (KeyShape × Following)) → i < length keys → key ≡ get_or keys i key
    → ((other : KeyShape) → list_any (same_key other) (take i keys) ≡ true → IfSome (lookup (same_key other) old) (λ a. AreAbove to a.changed))
    → ((other : KeyShape) → IfSome (lookup (same_key other) old) (λ a. AreAbove to a.changed) → IfSome (lookup (same_key other) new) (λ a. AreAbove to a.changed))
    → IfSome (lookup (same_key key) new) (λ a. AreAbove to a.changed) → (other : KeyShape) → list_any (same_key other) (take (i + 1) keys) ≡ true → IfSome (lookup (same_key other) new) (λ a. AreAbove to a.changed)
above-more to keys i key old new low is before still here other there =
    either (list_any (same_key other) (take i keys)) (same_key other (get_or keys i key)) (sym (any-more (same_key other) keys i key low) ∙ there) (λ hit. still other (before other hit))
    (λ same. subst (λ (k : KeyShape). IfSome (lookup (same_key k) new) (λ a. AreAbove to a.changed)) (is ∙ sym ((same_key-Decides other (get_or keys i key)).0 same)) here)

pub above-whole : (to : ℕ) (keys : List KeyShape) (i : ℕ) (es : List (KeyShape × Following)) → length keys ≤ i → ((other : KeyShape) → list_any (same_key other) (take i keys) ≡ true → IfSome (lookup (same_key other) es) (λ a. AreAbove to a.changed))
    → (other : KeyShape) → list_any (same_key other) keys ≡ true → IfSome (lookup (same_key other) es) (λ a. AreAbove to a.changed)
above-whole to keys i es past all other there = all other (ap (λ (ks : List KeyShape). list_any (same_key other) ks) (take-whole keys i past) ∙ there)

-- those of which no query lists a commit any more are not listed
pub listed-left : (es new : List (KeyShape × Following)) (listed left : List KeyShape) → AreListed es listed → ((key : KeyShape) → has_changed (lookup (same_key key) es) ≡ false → has_changed (lookup (same_key key) new) ≡ false)
    → ((key : KeyShape) → list_any (same_key key) left ≡ (list_any (same_key key) listed && has_changed (lookup (same_key key) new))) → AreListed new left
listed-left es new listed left are fewer is key = elim (cases_Bool (list_any (same_key key) listed)) [
  | inl hit ↦ is key ∙ ap (λ (b : Bool). b && has_changed (lookup (same_key key) new)) hit
  | inr miss ↦ is key ∙ ap (λ (b : Bool). b && has_changed (lookup (same_key key) new)) miss ∙ sym (fewer key (sym (are key) ∙ miss))
]

none-above : (to : ℕ) (found : Option Following) → has_changed found ≡ false → IfSome found (λ a. AreAbove to a.changed)
none-above to None none = tt
none-above to (Some a) none = by a.changed none
  where
    by : (ns : List ℕ) → has_any ns ≡ false → AreAbove to ns
    by [] none = λ k d within. absurd (omega (arith, within))
    by (n ∷ ns) none = absurd (let h = none in cc)

all-above-by : (to : ℕ) (es : List (KeyShape × Following)) → IsDistinct same_key (keys_of es) → ((key : KeyShape) → IfSome (lookup (same_key key) es) (λ a. AreAbove to a.changed)) → ListAbove to es
all-above-by to es once each k d within = subst (λ (found : Option Following). IfSome found (λ a. AreAbove to a.changed)) (lookup-own es k d once within) (each (get_or es k d).0)

-- what all have in common, and what is forgotten
forgotten-lifted : (to seen from : ℕ) (es : List (KeyShape × Following)) → all_forgotten to (all_lifted seen from es) ≡ all_lifted seen (max from to) (all_forgotten to es)
forgotten-lifted to seen from [] = refl
forgotten-lifted to seen from (e ∷ es) =
    let same : max (max e.1.from from) to ≡ max (max e.1.from to) (max from to) = omega arith in
    ap₂ (λ (n : ℕ) (rest : List (KeyShape × Following)). (e.0, record { kind = e.1.kind; set = e.1.set; seen = max e.1.seen seen; from = n; changed = filter (λ m. nat_lt to m) e.1.changed }) ∷ rest) same (forgotten-lifted to seen from es)

lifted-forgotten : (to seen from : ℕ) (es : List (KeyShape × Following)) → ListAbove to es → all_lifted seen (max from to) (all_forgotten to es) ≡ all_lifted seen (max from to) es
lifted-forgotten to seen from [] above = refl
lifted-forgotten to seen from (e ∷ es) above =
    let same : max (max e.1.from to) (max from to) ≡ max e.1.from (max from to) = omega arith in
    let kept = above-same to e.1.changed (All-first (λ x. AreAbove to x.1.changed) e es above) in
    let rest = lifted-forgotten to seen from es (All-rest (λ x. AreAbove to x.1.changed) e es above) in
    (λ i. (e.0, record { kind = e.1.kind; set = e.1.set; seen = max e.1.seen seen; from = same i; changed = kept i }) ∷ rest i)

pub all-forgotten : (to seen from : ℕ) (old new : List (KeyShape × Following)) (listed : List KeyShape) → all_forgotten to new ≡ all_forgotten to old → AreListed old listed → IsDistinct same_key (keys_of (all_lifted seen from old))
    → ((key : KeyShape) → has_changed (lookup (same_key key) old) ≡ false → has_changed (lookup (same_key key) new) ≡ false) → ((key : KeyShape) → list_any (same_key key) listed ≡ true → IfSome (lookup (same_key key) new) (λ a. AreAbove to a.changed))
    → all_lifted seen (max from to) new ≡ all_forgotten to (all_lifted seen from old)
all-forgotten to seen from old new listed same are once fewer above =
    sym (lifted-forgotten to seen from new (all-above-by to new (subst (IsDistinct same_key) keys once) each))
    ∙ ap (all_lifted seen (max from to)) same
    ∙ sym (forgotten-lifted to seen from old)
  where
    keys : keys_of (all_lifted seen from old) ≡ keys_of new
    keys = keys-lifted seen from old ∙ sym (keys-forgotten to old) ∙ ap keys_of (sym same) ∙ keys-forgotten to new

    each : (key : KeyShape) → IfSome (lookup (same_key key) new) (λ a. AreAbove to a.changed)
    each key = elim (cases_Bool (list_any (same_key key) listed)) [
      | inl hit ↦ above key hit
      | inr miss ↦ none-above to (lookup (same_key key) new) (fewer key (sym (are key) ∙ miss))
    ]

-- ---- the query of a key is removed

-- the key is not listed any more
pub listed-less : (es new : List (KeyShape × Following)) (listed left : List KeyShape) (key : KeyShape) → AreListed es listed → ((other : KeyShape) → lookup (same_key other) new ≡ (if same_key key other then None else lookup (same_key other) es))
    → ((other : KeyShape) → list_any (same_key other) left ≡ (if same_key key other then false else list_any (same_key other) listed)) → AreListed new left
listed-less es new listed left key are gone less other = elim (cases_Bool (same_key key other)) [
  | inl hit ↦
      less other
      ∙ ap (λ (b : Bool). if b then false else list_any (same_key other) listed) hit
      ∙ sym (ap has_changed (gone other ∙ ap (λ (b : Bool). if b then None else lookup (same_key other) es) hit))
  | inr miss ↦
      less other
      ∙ ap (λ (b : Bool). if b then false else list_any (same_key other) listed) miss
      ∙ are other
      ∙ sym (ap has_changed (gone other ∙ ap (λ (b : Bool). if b then None else lookup (same_key other) es) miss))
]

-- ---- a query is added

found-added : (key other : KeyShape) (query : Following) (es : List (KeyShape × Following)) → query.changed ≡ [] → has_changed (lookup (same_key other) (es ++ (key, query) ∷ [])) ≡ has_changed (lookup (same_key other) es)
found-added key other query [] none = elim (cases_Bool (same_key other key)) [
  | inl hit ↦ rw hit (ap has_any none)
  | inr miss ↦ rw miss refl
]
found-added key other query (e ∷ es) none = elim (cases_Bool (same_key other e.0)) [
  | inl hit ↦ rw hit refl
  | inr miss ↦ rw miss (found-added key other query es none)
]

-- it lists no commit
pub listed-added : (es : List (KeyShape × Following)) (key : KeyShape) (query : Following) (listed : List KeyShape) → query.changed ≡ [] → AreListed es listed → AreListed (es ++ (key, query) ∷ []) listed
listed-added es key query listed none are other = are other ∙ sym (found-added key other query es none)

-- ---- a key that is listed already, or is not and stays so

pub same-bools : (a b : Bool) → beq a b ≡ true → a ≡ b
same-bools true true same = refl
same-bools false false same = refl
same-bools true false same = absurd (let h = same in cc)
same-bools false true same = absurd (let h = same in cc)

pub listed-alike : (key : KeyShape) (listed : List KeyShape) (was is : Bool) → list_any (same_key key) listed ≡ was → was ≡ is → (other : KeyShape) → list_any (same_key other) listed ≡ (if same_key key other then is else list_any (same_key other) listed)
listed-alike key listed was is own same other = elim (cases_Bool (same_key key other)) [
  | inl hit ↦
      let alike : key ≡ other = (same_key-Decides key other).0 hit in
      rw hit (ap (λ (k : KeyShape). list_any (same_key k) listed) (sym alike) ∙ own ∙ same)
  | inr miss ↦ rw miss refl
]
