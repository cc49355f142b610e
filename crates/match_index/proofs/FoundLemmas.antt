-- What is found for a commit: all that it may concern, and nothing but candidates, each once.
use Rattle.std.proofs.Common.{◌≡◌, ◌⊎◌, ℕ, Bool, true, false, cond, ◌&&◌, ◌||◌, List, [], ◌∷◌, ◌++◌, Option, Some, None, IfSome, Result, Ok, Err, IfOk, OnOk, inl, inr, refl, sym, ap, ◌∙◌, subst}
use Rattle.std.specs.BTreeMap.{BTreeMap, get, is_at, IsOrdered}
use Rattle.std.specs.List.{list_any, flat_map, AllByRecursion, IsDistinct}
use Rattle.std.specs.Map.{keys_of}
use Rattle.std.specs.Ordering.{is_eq, eq_by_cmp}
use Rattle.std.specs.Str.{bytes_eq}
use Rattle.std.proofs.lemmas.Bool.{cases_Bool, and_parts, and_from, or_cases, or_left, or_right}
use Rattle.std.proofs.lemmas.List.Elements.{recursion_from_All}
use Rattle.std.proofs.lemmas.List.Folds.{list_any-append}
use Rattle.std.proofs.lemmas.Map.Entries.{place_from_lookup}
use Rattle.std.proofs.lemmas.Map.Keys.{IsDistinct-from_sorted, IsDistinct-head, IsDistinct-tail, IsDistinct-cons, any_passes_from_place}
use Rattle.std.proofs.lemmas.Map.Views.{All-found}
use Rattle.std.proofs.lemmas.Slice.Eq.{bytes_eq-Decides}
use Rattle.indexmap.specs.IndexSet.{IndexSet}
use Rattle.q_doc.specs.Order.{tree_cmp}
use Rattle.q_doc.specs.TextOrder.{text_cmp, path_cmp, path_cmp_total}
use Rattle.q_doc.specs.Tree.{Tree}
use Rattle.commit_book.specs.declared.change.CommitRow.{CommitRow}
use Rattle.query_core.specs.Meaning.{same_value}
use Rattle.query_core.specs.SameLaws.{same_value-Decides}
use Rattle.query_normal.specs.declared.key.KeyShape.{KeyShape}
use Rattle.query_normal.specs.declared.key.KeyShape.TheVariants.{Record, Query as QueryKey}
use Rattle.query_normal.specs.Keys.{same_key, collection_of}
use Rattle.query_normal.specs.SameKey.{same_key-Decides}
use Rattle.match_index.specs.declared.places.Places.{Places}
use Rattle.match_index.specs.Candidates.{Probe, probe_of, is_found, is_query, is_candidate_key, passes_key}
use Rattle.match_index.specs.Found.{value_at, unless_same, keys_in, keys_at, keys_of_entry, keys_found, IsOnce, AreOnce, HaveOnce}
use Rattle.match_index.specs.Places.{is_held, probe_of_key, inner, has_key, has_value, has_path, has_places, has_spot, same_probe, is_own, ArePlaced}
use Rattle.match_index.proofs.CandidateLemmas.{candidate_from_change, found_at, found_from}
use Rattle.match_index.proofs.PlaceLemmas.{exact_text, exact_path, exact_value, tie_text, tie_path, tie_value}

-- ---- lists

any_flat_map : {X : Type 0} (test : KeyShape → Bool) (f : X → List KeyShape) (xs : List X) → list_any test (flat_map f xs) ≡ list_any (λ x. list_any test (f x)) xs
any_flat_map test f [] = refl
any_flat_map test f (x ∷ xs) = list_any-append test (f x) (flat_map f xs) ∙ ap (λ (b : Bool). list_any test (f x) || b) (any_flat_map test f xs)

-- one that passes
passing : {X : Type 0} (P : X → Type 0) (test : X → Bool) (xs : List X) → AllByRecursion P xs → list_any test xs ≡ true → (x : X) × P x × (test x ≡ true)
passing P test [] all h = absurd (cc)
passing P test (x ∷ xs) all h = elim (or_cases (test x) (list_any test xs) h) [
  | inl holds ↦ (x, all.0, holds)
  | inr rest ↦ passing P test xs all.1 rest
]

both-hold : {X : Type 0} (P Q : X → Type 0) (xs : List X) → AllByRecursion P xs → AllByRecursion Q xs → AllByRecursion (λ x. P x × Q x) xs
both-hold P Q [] p q = tt
both-hold P Q (x ∷ xs) p q = ((p.0, q.0), both-hold P Q xs p.1 q.1)

of_keys : {K X : Type 0} (P : K → Type 0) (es : List (K × X)) → AllByRecursion P (keys_of es) → AllByRecursion (λ e. P e.0) es
of_keys P [] all = tt
of_keys P (e ∷ es) all = (all.0, of_keys P es all.1)

pub distinct_none : IsDistinct same_key []
unfolding IsDistinct
distinct_none = tt

-- a key that is not among the others is other than each
absent_apart : (key : KeyShape) (keys : List KeyShape) → is_held keys key ≡ false → AllByRecursion (λ k. same_key key k ≡ false) keys
absent_apart key [] h = tt
absent_apart key (k ∷ ks) h = elim (cases_Bool (same_key key k)) [
  | inl same ↦ absurd (let wrong : true ≡ false = sym (or_left (same_key key k) (is_held ks key) same) ∙ h in cc)
  | inr apart ↦ (apart, absent_apart key ks (ap (λ (b : Bool). b || is_held ks key) (sym apart) ∙ h))
]

apart_append : (key : KeyShape) (xs ys : List KeyShape) → AllByRecursion (λ k. same_key key k ≡ false) xs → AllByRecursion (λ k. same_key key k ≡ false) ys → AllByRecursion (λ k. same_key key k ≡ false) (xs ++ ys)
apart_append key [] ys one other = other
apart_append key (x ∷ xs) ys one other = (one.0, apart_append key xs ys one.1 other)

-- two lists, each without a key twice and without one of the other
distinct_append : (xs ys : List KeyShape) → IsDistinct same_key xs → IsDistinct same_key ys → ((key : KeyShape) → is_held xs key ≡ true → is_held ys key ≡ true → ⊥) → IsDistinct same_key (xs ++ ys)
distinct_append [] ys one other apart = other
distinct_append (x ∷ xs) ys one other apart =
    let own : same_key x x ≡ true = (same_key-Decides x x).1 refl in
    let absent : is_held ys x ≡ false =
    elim (cases_Bool (is_held ys x)) [
      | inl there ↦ absurd (apart x (or_left (same_key x x) (is_held xs x) own) there)
      | inr none ↦ none
    ] in
    IsDistinct-cons same_key x (xs ++ ys)
    (apart_append x xs ys (IsDistinct-head same_key x xs one) (absent_apart x ys absent))
    (distinct_append xs ys (IsDistinct-tail same_key x xs one) other (λ key here there. apart key (or_right (same_key key x) (is_held xs key) here) there))

-- ---- the values of two documents at a path

unless_cases : (a b : Option Tree) (v : Tree) → b ≡ Some v → (a ≡ Some v) ⊎ (unless_same a b ≡ Some v)
unless_cases None b v h = inr h
unless_cases (Some t) None v h = absurd (cc)
unless_cases (Some t) (Some u) v h = elim (cases_Bool (same_value t u)) [
  | inl same ↦ inl (ap Some ((same_value-Decides t u).0 same) ∙ h)
  | inr other ↦ inr (rw other h)
]

unless_is : (a b : Option Tree) (v : Tree) → unless_same a b ≡ Some v → b ≡ Some v
unless_is None b v h = h
unless_is (Some t) None v h = absurd (cc)
unless_is (Some t) (Some u) v h = by (same_value t u) h
  where
    by : (same : Bool) → cond same None (Some u) ≡ Some v → Some u ≡ Some v
    by true h = absurd (cc)
    by false h = h

unless_other : (a b : Option Tree) (v : Tree) → unless_same a b ≡ Some v → a ≡ Some v → ⊥
unless_other None b v h own = (cc)
unless_other (Some t) None v h own = (cc)
unless_other (Some t) (Some u) v h own = by (same_value t u) refl h
  where
    by : (same : Bool) → same_value t u ≡ same → cond same None (Some u) ≡ Some v → ⊥
    by true is h = (cc)
    by false is h =
        let one : t ≡ v = cc in
        let other : u ≡ v = cc in
        let wrong : true ≡ false = sym ((same_value-Decides t u).1 (one ∙ sym other)) ∙ is in
        (cc)

value_found : (p : List (List ℕ)) (v : Tree) (document : Option Tree) → is_found (Some (p, v)) document ≡ true → value_at p document ≡ Some v
value_found p v None h = absurd (cc)
value_found p v (Some t) h = found_at p v t h

found_value : (p : List (List ℕ)) (v : Tree) (document : Option Tree) → value_at p document ≡ Some v → is_found (Some (p, v)) document ≡ true
found_value p v None h = absurd (cc)
found_value p v (Some t) h = found_from p v t h

found_either : (p : List (List ℕ)) (v : Tree) (before after : Option Tree) → (value_at p before ≡ Some v) ⊎ (value_at p after ≡ Some v) → (is_found (Some (p, v)) before || is_found (Some (p, v)) after) ≡ true
found_either p v before after (inl first) = or_left (is_found (Some (p, v)) before) (is_found (Some (p, v)) after) (found_value p v before first)
found_either p v before after (inr second) = or_right (is_found (Some (p, v)) before) (is_found (Some (p, v)) after) (found_value p v after second)

-- ---- the keys of an entry

-- keys by a value
abbrev Values : Type 0 → Type 0
Values S = BTreeMap Tree (IndexSet KeyShape S)

module _ {S : Type 0} where
  any_in : (o : Option (IndexSet KeyShape S)) (key : KeyShape) → is_held (keys_in o) key ≡ inner has_key o key
  any_in None key = refl
  any_in (Some keys) key = refl

  -- what is at a value, if there is one
  abbrev met : Values S → Option Tree → KeyShape → Bool
  met values None key = false
  met values (Some t) key = has_value values (t, key)

  any_at : (values : Values S) (o : Option Tree) (key : KeyShape) → is_held (keys_at values o) key ≡ met values o key
  any_at values None key = refl
  any_at values (Some t) key = any_in (get tree_cmp values t) key

  met_some : (values : Values S) (o : Option Tree) (key : KeyShape) → met values o key ≡ true → (v : Tree) × (o ≡ Some v) × (has_value values (v, key) ≡ true)
  met_some values None key h = absurd (cc)
  met_some values (Some t) key h = (t, refl, h)

  some_met : (values : Values S) (o : Option Tree) (v : Tree) (key : KeyShape) → o ≡ Some v → has_value values (v, key) ≡ true → is_held (keys_at values o) key ≡ true
  some_met values o v key is has = any_at values o key ∙ ap (λ (x : Option Tree). met values x key) is ∙ has

  entry_all : (values : Values S) (a b : Option Tree) (v : Tree) (key : KeyShape) → has_value values (v, key) ≡ true → (a ≡ Some v) ⊎ (b ≡ Some v) → is_held (keys_at values a ++ keys_at values (unless_same a b)) key ≡ true
  entry_all values a b v key has at = list_any-append (same_key key) (keys_at values a) (keys_at values (unless_same a b)) ∙ one at
    where
      at_first : a ≡ Some v → (is_held (keys_at values a) key || is_held (keys_at values (unless_same a b)) key) ≡ true
      at_first first = or_left (is_held (keys_at values a) key) (is_held (keys_at values (unless_same a b)) key) (some_met values a v key first has)

      at_second : (a ≡ Some v) ⊎ (unless_same a b ≡ Some v) → (is_held (keys_at values a) key || is_held (keys_at values (unless_same a b)) key) ≡ true
      at_second (inl first) = at_first first
      at_second (inr own) = or_right (is_held (keys_at values a) key) (is_held (keys_at values (unless_same a b)) key) (some_met values (unless_same a b) v key own has)

      one : (a ≡ Some v) ⊎ (b ≡ Some v) → (is_held (keys_at values a) key || is_held (keys_at values (unless_same a b)) key) ≡ true
      one (inl first) = at_first first
      one (inr second) = at_second (unless_cases a b v second)

  entry_only : (values : Values S) (a b : Option Tree) (key : KeyShape) → is_held (keys_at values a ++ keys_at values (unless_same a b)) key ≡ true → (v : Tree) × (has_value values (v, key) ≡ true) × ((a ≡ Some v) ⊎ (b ≡ Some v))
  entry_only values a b key h =
      elim (or_cases (is_held (keys_at values a) key) (is_held (keys_at values (unless_same a b)) key) (sym (list_any-append (same_key key) (keys_at values a) (keys_at values (unless_same a b))) ∙ h)) [
        | inl first ↦ (let some = met_some values a key (sym (any_at values a key) ∙ first) in (some.0, some.2, inl some.1))
        | inr second ↦ (
            let some = met_some values (unless_same a b) key (sym (any_at values (unless_same a b) key) ∙ second) in
            (some.0, some.2, inr (unless_is a b some.0 some.1)))
      ]

  got : (o : Option (Values S)) (i : Tree × KeyShape) → inner has_value o i ≡ true → (values : Values S) × (o ≡ Some values) × (has_value values i ≡ true)
  got None i h = absurd (cc)
  got (Some values) i h = (values, refl, h)

-- ---- none is left out

all_equal : (before after : Option Tree) (places : Places) (p : List (List ℕ)) (v : Tree) (key : KeyShape) → has_path places.equal (p, (v, key)) ≡ true → (is_found (Some (p, v)) before || is_found (Some (p, v)) after) ≡ true
    → list_any (same_key key) (flat_map (keys_of_entry before after) places.equal.entries) ≡ true
all_equal before after places p v key has asked =
    let some = got (get path_cmp places.equal p) (v, key) has in
    let place = place_from_lookup (is_at (path_cmp p)) places.equal.entries some.0 some.1 in
    let same : p ≡ place.1 = exact_path p place.1 place.3 in
    let at : (value_at place.1 before ≡ Some v) ⊎ (value_at place.1 after ≡ Some v) =
    elim (or_cases (is_found (Some (p, v)) before) (is_found (Some (p, v)) after) asked) [
      | inl first ↦ inl (ap (λ (q : List (List ℕ)). value_at q before) (sym same) ∙ value_found p v before first)
      | inr second ↦ inr (ap (λ (q : List (List ℕ)). value_at q after) (sym same) ∙ value_found p v after second)
    ] in
    any_flat_map (same_key key) (keys_of_entry before after) places.equal.entries
    ∙ any_passes_from_place (λ e. list_any (same_key key) (keys_of_entry before after e)) places.equal.entries place.0 (place.1, some.0) place.2
    (entry_all some.0 (value_at place.1 before) (value_at place.1 after) v key some.2 at)

all_in : (before after : Option Tree) (o : Option Places) (probe : Option Probe) (key : KeyShape) → inner has_places o (probe, key) ≡ true → (is_found probe before || is_found probe after) ≡ true → is_held (keys_found before after o) key ≡ true
all_in before after None probe key has asked = absurd (cc)
all_in before after (Some places) None key has asked =
    list_any-append (same_key key) places.rest.keys (flat_map (keys_of_entry before after) places.equal.entries)
    ∙ or_left (is_held places.rest.keys key) (is_held (flat_map (keys_of_entry before after) places.equal.entries) key) has
all_in before after (Some places) (Some probe) key has asked =
    list_any-append (same_key key) places.rest.keys (flat_map (keys_of_entry before after) places.equal.entries)
    ∙ or_right (is_held places.rest.keys key) (is_held (flat_map (keys_of_entry before after) places.equal.entries) key) (all_equal before after places probe.0 probe.1 key has asked)

itself : (probe : Option Probe) → same_probe probe probe ≡ true
itself None = refl
itself (Some probe) = and_from (is_eq (path_cmp probe.0 probe.0)) (is_eq (tree_cmp probe.1 probe.1)) (tie_path probe.0 probe.0 refl) (tie_value probe.1 probe.1 refl)

-- a candidate is of the commit's collection, and its equality is true of a document
asked_for : (key : KeyShape) (row : CommitRow) → is_candidate_key key row ≡ true → (collection_of key ≡ row.collection) × ((is_found (probe_of_key key) row.before || is_found (probe_of_key key) row.after) ≡ true)
asked_for (Record collection id) row h = absurd (cc)
asked_for (QueryKey kind q) row h =
    let parts = and_parts (bytes_eq row.collection q.collection) (is_found (probe_of q.filter) row.before || is_found (probe_of q.filter) row.after) h in
    (sym ((bytes_eq-Decides row.collection q.collection).0 parts.0), parts.1)

pub found-candidates : (held : List KeyShape) (collections : BTreeMap (List ℕ) Places) (row : CommitRow) (key : KeyShape) → ArePlaced held collections → is_held held key ≡ true → is_candidate_key key row ≡ true
    → is_held (keys_found row.before row.after (get text_cmp collections row.collection)) key ≡ true
found-candidates held collections row key placed there candidate =
    let asked = asked_for key row candidate in
    let own : is_own (row.collection, (probe_of_key key, key)) ≡ true =
    and_from (is_eq (text_cmp (collection_of key) row.collection)) (same_probe (probe_of_key key) (probe_of_key key)) (tie_text (collection_of key) row.collection asked.0) (itself (probe_of_key key)) in
    all_in row.before row.after (get text_cmp collections row.collection) (probe_of_key key) key
    (placed.spots (row.collection, (probe_of_key key, key)) ∙ and_from (is_held held key) (is_own (row.collection, (probe_of_key key, key))) there own) asked.1

-- each key whose query the commit does not pass by
pub found-all : (held : List KeyShape) (collections : BTreeMap (List ℕ) Places) (row : CommitRow) (key : KeyShape) → ArePlaced held collections → is_held held key ≡ true → passes_key key row ≡ false
    → is_held (keys_found row.before row.after (get text_cmp collections row.collection)) key ≡ true
found-all held collections row key placed there change = found-candidates held collections row key placed there (candidate_from_change key row change)

-- ---- a spot tells its key's equality

own_probe : (probe asked : Option Probe) → same_probe probe asked ≡ true → probe ≡ asked
own_probe None None h = refl
own_probe None (Some asked) h = absurd (cc)
own_probe (Some probe) None h = absurd (cc)
own_probe (Some probe) (Some asked) h =
    let parts = and_parts (is_eq (path_cmp probe.0 asked.0)) (is_eq (tree_cmp probe.1 asked.1)) h in
    let path : probe.0 ≡ asked.0 = exact_path probe.0 asked.0 parts.0 in
    let value : probe.1 ≡ asked.1 = exact_value probe.1 asked.1 parts.1 in
    ap (λ (p : List (List ℕ)). Some (p, probe.1)) path ∙ ap (λ (v : Tree). Some (asked.0, v)) value

by_spot : (held : List KeyShape) (collections : BTreeMap (List ℕ) Places) (c : List ℕ) (probe : Option Probe) (key : KeyShape) → ArePlaced held collections → has_spot collections (c, (probe, key)) ≡ true
    → (is_held held key ≡ true) × (collection_of key ≡ c) × (probe_of_key key ≡ probe)
by_spot held collections c probe key placed has =
    let all = and_parts (is_held held key) (is_own (c, (probe, key))) (sym (placed.spots (c, (probe, key))) ∙ has) in
    let own = and_parts (is_eq (text_cmp (collection_of key) c)) (same_probe (probe_of_key key) probe) all.1 in
    (all.0, exact_text (collection_of key) c own.0, own_probe (probe_of_key key) probe own.1)

candidate_by : (key : KeyShape) (row : CommitRow) (probe : Option Probe) → is_query key ≡ true → collection_of key ≡ row.collection → probe_of_key key ≡ probe → (is_found probe row.before || is_found probe row.after) ≡ true → is_candidate_key key row ≡ true
candidate_by (Record collection id) row probe query same is asked = absurd (cc)
candidate_by (QueryKey kind q) row probe query same is asked =
    and_from (bytes_eq row.collection q.collection) (is_found (probe_of q.filter) row.before || is_found (probe_of q.filter) row.after)
    ((bytes_eq-Decides row.collection q.collection).1 (sym same))
    (ap (λ (o : Option Probe). is_found o row.before || is_found o row.after) is ∙ asked)

rest_spot : (collections : BTreeMap (List ℕ) Places) (c : List ℕ) (places : Places) → get text_cmp collections c ≡ Some places → (key : KeyShape) → is_held places.rest.keys key ≡ true → has_spot collections (c, (None, key)) ≡ true
rest_spot collections c places at key has = ap (λ (o : Option Places). inner has_places o (None, key)) at ∙ has

equal_spot : (collections : BTreeMap (List ℕ) Places) (c : List ℕ) (places : Places) → get text_cmp collections c ≡ Some places
    → (p : List (List ℕ)) (v : Tree) (key : KeyShape) → has_path places.equal (p, (v, key)) ≡ true → has_spot collections (c, (Some (p, v), key)) ≡ true
equal_spot collections c places at p v key has = ap (λ (o : Option Places). inner has_places o (Some (p, v), key)) at ∙ has

-- ---- the paths of a collection

some_same : (a b : Probe) → ◌≡◌ {A = Option Probe} (Some a) (Some b) → a ≡ b
some_same a b h = (let same = h in cc)

-- The keys that the paths of a collection have at a value have that equality.
module _ {S : Type 0} (paths : BTreeMap (List (List ℕ)) (BTreeMap Tree (IndexSet KeyShape S))) (ordered : IsOrdered path_cmp paths)
    (own : (p : List (List ℕ)) (v : Tree) (key : KeyShape) → has_path paths (p, (v, key)) ≡ true → probe_of_key key ≡ Some (p, v)) (before after : Option Tree) where
  abbrev Entry : Type 0
  Entry = List (List ℕ) × BTreeMap Tree (IndexSet KeyShape S)

  abbrev IsThere : Entry → Type 0
  IsThere e = get path_cmp paths e.0 ≡ Some e.1

  all_there : AllByRecursion IsThere paths.entries
  all_there = recursion_from_All IsThere paths.entries (All-found path_cmp_total paths ordered)

  there_has : (e : Entry) (v : Tree) (key : KeyShape) → IsThere e → has_value e.1 (v, key) ≡ true → has_path paths (e.0, (v, key)) ≡ true
  there_has e v key there has = ap (λ (o : Option (BTreeMap Tree (IndexSet KeyShape S))). inner has_value o (v, key)) there ∙ has

  -- what an entry gives has its path, and a value of one of the documents
  told : (e : Entry) (key : KeyShape) → IsThere e → is_held (keys_of_entry before after e) key ≡ true
      → (v : Tree) × (has_path paths (e.0, (v, key)) ≡ true) × ((value_at e.0 before ≡ Some v) ⊎ (value_at e.0 after ≡ Some v))
  told e key there h =
      let some = entry_only e.1 (value_at e.0 before) (value_at e.0 after) key h in
      (some.0, there_has e some.0 key there some.1, some.2)

  pub paths_only : (key : KeyShape) → is_held (flat_map (keys_of_entry before after) paths.entries) key ≡ true
      → (p : List (List ℕ)) × (v : Tree) × (has_path paths (p, (v, key)) ≡ true) × ((is_found (Some (p, v)) before || is_found (Some (p, v)) after) ≡ true)
  paths_only key h =
      let one = passing IsThere (λ e. is_held (keys_of_entry before after e) key) paths.entries all_there (sym (any_flat_map (same_key key) (keys_of_entry before after) paths.entries) ∙ h) in
      let e : Entry = one.0 in
      let some = told e key one.1 one.2 in (
        e.0,
        some.0,
        some.1,
        found_either e.0 some.0 before after some.2,
      )

  -- two spots of a key are one
  one_path : (p q : List (List ℕ)) (v w : Tree) (key : KeyShape) → has_path paths (p, (v, key)) ≡ true → has_path paths (q, (w, key)) ≡ true → (p ≡ q) × (v ≡ w)
  one_path p q v w key one other =
      let same : (p, v) ≡ (q, w) = some_same (p, v) (q, w) (sym (own p v key one) ∙ own q w key other) in
      (ap (λ (probe : Probe). probe.0) same, ap (λ (probe : Probe). probe.1) same)

  entry_once : (e : Entry) → IsThere e → IsOnce before after e → IsDistinct same_key (keys_of_entry before after e)
  entry_once e there once =
      distinct_append (keys_at e.1 (value_at e.0 before)) (keys_at e.1 (unless_same (value_at e.0 before) (value_at e.0 after))) once.0 once.1
      (λ key here also.
      let one = met_some e.1 (value_at e.0 before) key (sym (any_at e.1 (value_at e.0 before) key) ∙ here) in
      let other =
      met_some e.1 (unless_same (value_at e.0 before) (value_at e.0 after)) key (sym (any_at e.1 (unless_same (value_at e.0 before) (value_at e.0 after)) key) ∙ also) in
      let same = (one_path e.0 e.0 one.0 other.0 key (there_has e one.0 key there one.2) (there_has e other.0 key there other.2)).1 in
      unless_other (value_at e.0 before) (value_at e.0 after) other.0 other.1 (one.1 ∙ ap Some same))

  entries_once : (es : List Entry) → AllByRecursion IsThere es → IsDistinct (eq_by_cmp path_cmp) (keys_of es) → AreOnce before after es → IsDistinct same_key (flat_map (keys_of_entry before after) es)
  entries_once [] there apart once = distinct_none
  entries_once (e ∷ es) there apart once =
      distinct_append (keys_of_entry before after e) (flat_map (keys_of_entry before after) es) (entry_once e there.0 once.0)
      (entries_once es there.1 (IsDistinct-tail (eq_by_cmp path_cmp) e.0 (keys_of es) apart) once.1)
      (λ key here also.
      let one = told e key there.0 here in
      let others =
      both-hold IsThere (λ x. eq_by_cmp path_cmp e.0 x.0 ≡ false) es there.1
      (of_keys (λ p. eq_by_cmp path_cmp e.0 p ≡ false) es (IsDistinct-head (eq_by_cmp path_cmp) e.0 (keys_of es) apart)) in
      let next =
      passing (λ x. IsThere x × (eq_by_cmp path_cmp e.0 x.0 ≡ false)) (λ x. is_held (keys_of_entry before after x) key) es others
      (sym (any_flat_map (same_key key) (keys_of_entry before after) es) ∙ also) in
      let x : Entry = next.0 in
      let other = told x key next.1.0 next.2 in
      let same : e.0 ≡ x.0 = (one_path e.0 x.0 one.0 other.0 key one.1 other.1).0 in
      let wrong : true ≡ false = sym (tie_path e.0 x.0 same) ∙ next.1.1 in
      cc)

  pub paths_once : AreOnce before after paths.entries → IsDistinct same_key (flat_map (keys_of_entry before after) paths.entries)
  paths_once once = entries_once paths.entries all_there (IsDistinct-from_sorted path_cmp (keys_of paths.entries) ordered) once

-- ---- a collection

module _ (held : List KeyShape) (collections : BTreeMap (List ℕ) Places) (placed : ArePlaced held collections) (row : CommitRow) where
  own_at : (places : Places) → get text_cmp collections row.collection ≡ Some places → (p : List (List ℕ)) (v : Tree) (key : KeyShape) → has_path places.equal (p, (v, key)) ≡ true → probe_of_key key ≡ Some (p, v)
  own_at places at p v key has = (by_spot held collections row.collection (Some (p, v)) key placed (equal_spot collections row.collection places at p v key has)).2

  -- a key at a spot whose equality is true of a document
  chosen : (probe : Option Probe) (key : KeyShape) → has_spot collections (row.collection, (probe, key)) ≡ true → (is_found probe row.before || is_found probe row.after) ≡ true → (is_held held key && is_candidate_key key row) ≡ true
  chosen probe key has asked =
      let spot = by_spot held collections row.collection probe key placed has in
      and_from (is_held held key) (is_candidate_key key row) spot.0 (candidate_by key row probe (placed.queries key spot.0) spot.1 spot.2 asked)

  only_in : (o : Option Places) → get text_cmp collections row.collection ≡ o → IfSome o (HaveOnce row.before row.after) → (key : KeyShape) → is_held (keys_found row.before row.after o) key ≡ true → (is_held held key && is_candidate_key key row) ≡ true
  only_in None at have key h = absurd (cc)
  only_in (Some places) at have key h =
      let equal = flat_map (keys_of_entry row.before row.after) places.equal.entries in
      elim (or_cases (is_held places.rest.keys key) (is_held equal key) (sym (list_any-append (same_key key) places.rest.keys equal) ∙ h)) [
        | inl rest ↦ chosen None key (rest_spot collections row.collection places at key rest) refl
        | inr there ↦ (
            let some = paths_only places.equal have.ordered (own_at places at) row.before row.after key there in
            chosen (Some (some.0, some.1)) key (equal_spot collections row.collection places at some.0 some.1 key some.2) some.3)
      ]

  -- each key that is found is held, and its query is a candidate
  pub found-only : IfSome (get text_cmp collections row.collection) (HaveOnce row.before row.after) → (key : KeyShape) → is_held (keys_found row.before row.after (get text_cmp collections row.collection)) key ≡ true
      → (is_held held key && is_candidate_key key row) ≡ true
  found-only = only_in (get text_cmp collections row.collection) refl

  once_in : (o : Option Places) → get text_cmp collections row.collection ≡ o → IfSome o (HaveOnce row.before row.after) → IsDistinct same_key (keys_found row.before row.after o)
  once_in None at have = distinct_none
  once_in (Some places) at have =
      distinct_append places.rest.keys (flat_map (keys_of_entry row.before row.after) places.equal.entries) have.rest
      (paths_once places.equal have.ordered (own_at places at) row.before row.after have.equal)
      (λ key here also.
      let one = (by_spot held collections row.collection None key placed (rest_spot collections row.collection places at key here)).2 in
      let some = paths_only places.equal have.ordered (own_at places at) row.before row.after key also in
      let other = own_at places at some.0 some.1 key some.2 in
      let wrong : ◌≡◌ {A = Option Probe} None (Some (some.0, some.1)) = sym one ∙ other in
      cc)

  -- none is found twice
  pub found-once : IfSome (get text_cmp collections row.collection) (HaveOnce row.before row.after) → IsDistinct same_key (keys_found row.before row.after (get text_cmp collections row.collection))
  found-once = once_in (get text_cmp collections row.collection) refl

-- what holds of the keys that are found holds of those that a call gave
pub if-found : {V E : Type 0} (P : List KeyShape → Type 0) (items : V → List KeyShape) (r : Result V E) (keys : List KeyShape) {Q : Type 0} → IfOk r (λ v. items v ≡ keys) → OnOk r Q → (Q → P keys) → IfOk r (λ v. P (items v))
if-found P items (Ok v) keys found given to = subst P (sym found) (to given)
if-found P items (Err e) keys found given to = tt
