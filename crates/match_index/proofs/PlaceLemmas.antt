-- Keys at their spots, after one is added or taken out.
use Rattle.std.proofs.Common.{◌≡◌, ℕ, Bool, true, false, not, cond, ◌&&◌, ◌||◌, List, [], ◌∷◌, ◌++◌, length, Option, Some, None, IsSome, Result, Ok, Err, OnOk, OnErr, inl, inr, refl, sym, ap, ◌∙◌, subst, arith}
use Rattle.std.specs.BTreeMap.{BTreeMap, get, is_at, UpdatesBy, WritesThrough}
use Rattle.std.specs.List.{list_any}
use Rattle.std.specs.Map.{lookup}
use Rattle.std.specs.Ordering.{is_eq}
use Rattle.std.specs.declared.cmp.Ordering.{Ordering}
use Rattle.std.proofs.lemmas.Bool.{cases_Bool, cond-true, cond-false, and_right}
use Rattle.std.proofs.lemmas.Slice.Eq.{bytes_eq-Decides}
use Rattle.std.proofs.lemmas.List.Folds.{list_any-append}
use Rattle.indexmap.specs.IndexSet.{IndexSet}
use Rattle.q_doc.specs.Order.{tree_cmp}
use Rattle.q_doc.specs.OrderLaws.{tree_eq-Decides}
use Rattle.q_doc.specs.TextOrder.{text_cmp, path_cmp, text_eq-tie, path_eq-tie}
use Rattle.q_doc.specs.Tree.{Tree}
use Rattle.query_core.specs.SameLaws.{same_path-Decides}
use Rattle.query_normal.specs.declared.key.KeyShape.{KeyShape}
use Rattle.query_normal.specs.Keys.{same_key, collection_of}
use Rattle.query_normal.specs.SameKey.{same_key-Decides, same_key_equiv}
use Rattle.match_index.specs.declared.places.Places.{Places}
use Rattle.match_index.specs.Candidates.{Probe, is_query}
use Rattle.match_index.specs.Places.{is_held, probe_of_key, Adds, Drops, Stays, inner, level, at_pair, has_key, has_value, has_path, has_place, has_places, has_spot, at_path, at_place, at_places, at_spot, same_probe, is_own, ArePlaced}

-- ---- names, paths and values that tie are the same

pub exact_text : (a b : List ℕ) → is_eq (text_cmp a b) ≡ true → a ≡ b
exact_text a b tie = (bytes_eq-Decides a b).0 (text_eq-tie a b ∙ tie)

pub exact_path : (p q : List (List ℕ)) → is_eq (path_cmp p q) ≡ true → p ≡ q
exact_path p q tie = (same_path-Decides p q).0 (path_eq-tie p q ∙ tie)

pub exact_value : (v w : Tree) → is_eq (tree_cmp v w) ≡ true → v ≡ w
exact_value v w tie = (tree_eq-Decides v w).0 tie

pub tie_text : (a b : List ℕ) → a ≡ b → is_eq (text_cmp a b) ≡ true
tie_text a b same = sym (text_eq-tie a b) ∙ (bytes_eq-Decides a b).1 same

pub tie_path : (p q : List (List ℕ)) → p ≡ q → is_eq (path_cmp p q) ≡ true
tie_path p q same = sym (path_eq-tie p q) ∙ (same_path-Decides p q).1 same

pub tie_value : (v w : Tree) → v ≡ w → is_eq (tree_cmp v w) ≡ true
tie_value v w same = (tree_eq-Decides v w).1 same

-- ---- three operations on truth values: one that adds, one that takes out, one that leaves

abbrev pub added : Bool → Bool → Bool
added was here = was || here

abbrev pub dropped : Bool → Bool → Bool
dropped was here = was && not here

abbrev pub left : Bool → Bool → Bool
left was here = was

pub added_elsewhere : (b : Bool) → added b false ≡ b
added_elsewhere true = refl
added_elsewhere false = refl

pub dropped_elsewhere : (b : Bool) → dropped b false ≡ b
dropped_elsewhere true = refl
dropped_elsewhere false = refl

pub left_elsewhere : (b : Bool) → left b false ≡ b
left_elsewhere b = refl

cond_added : (here was : Bool) → cond here true was ≡ (was || here)
cond_added true true = refl
cond_added true false = refl
cond_added false true = refl
cond_added false false = refl

cond_dropped : (here was : Bool) → cond here false was ≡ (was && not here)
cond_dropped true true = refl
cond_dropped true false = refl
cond_dropped false true = refl
cond_dropped false false = refl

-- ---- a level of maps

module _ {K V I : Type 0} (cmp : K → K → Ordering) (exact : (a b : K) → is_eq (cmp a b) ≡ true → a ≡ b) (has : V → I → Bool) (f : Bool → Bool → Bool) (elsewhere : (b : Bool) → f b false ≡ b) (test : I → Bool) where
  -- what is kept at one key was changed
  pub level-changed : (k : K) (m n : BTreeMap K V) (w : Option V) → ((q : K) → get cmp n q ≡ cond (is_at (cmp k) q) w (get cmp m q)) → ((i : I) → inner has w i ≡ f (inner has (get cmp m k) i) (test i))
      → (i : K × I) → level cmp has n i ≡ f (level cmp has m i) (at_pair cmp k test i)
  level-changed k m n w updates changed i = elim (cases_Bool (is_eq (cmp k i.0))) [
    | inl here ↦
        let same : k ≡ i.0 = exact k i.0 here in
        ap (λ (o : Option V). inner has o i.1) (updates i.0 ∙ cond-true (is_eq (cmp k i.0)) w (get cmp m i.0) here)
        ∙ changed i.1
        ∙ ap (λ (q : K). f (inner has (get cmp m q) i.1) (test i.1)) same
        ∙ ap (λ (b : Bool). f (level cmp has m i) (b && test i.1)) (sym here)
    | inr other ↦
        ap (λ (o : Option V). inner has o i.1) (updates i.0 ∙ cond-false (is_eq (cmp k i.0)) w (get cmp m i.0) other)
        ∙ sym (elsewhere (level cmp has m i))
        ∙ ap (λ (b : Bool). f (level cmp has m i) (b && test i.1)) (sym other)
  ]

  -- a value was written through what was lent for the key
  pub level-written : (k : K) (m n : BTreeMap K V) (v w : V) → get cmp m k ≡ Some v → WritesThrough cmp (cmp k) m w n → ((i : I) → has w i ≡ f (has v i) (test i)) → (i : K × I) → level cmp has n i ≡ f (level cmp has m i) (at_pair cmp k test i)
  level-written k m n v w was writes changed =
      level-changed k m n (Some w) ((writes.3 (subst IsSome (sym was) refl)).0) (λ i. changed i ∙ ap (λ (o : Option V). f (inner has o i) (test i)) (sym was))

  -- and then the key was taken out, since nothing was left
  pub level-removed : (k : K) (m l n : BTreeMap K V) (v w : V) → get cmp m k ≡ Some v → WritesThrough cmp (cmp k) m w l → UpdatesBy cmp (cmp k) l n None → ((i : I) → has w i ≡ false) → ((i : I) → has w i ≡ f (has v i) (test i))
      → (i : K × I) → level cmp has n i ≡ f (level cmp has m i) (at_pair cmp k test i)
  level-removed k m l n v w was writes removes empty changed =
      level-changed k m n None (λ q. removes.0 q ∙ ap (λ (o : Option V). cond (is_at (cmp k) q) None o) ((writes.3 (subst IsSome (sym was) refl)).0 q) ∙ twice (is_at (cmp k) q) (get cmp m q))
      (λ i. sym (empty i) ∙ changed i ∙ ap (λ (o : Option V). f (inner has o i) (test i)) (sym was))
    where
      twice : (b : Bool) (o : Option V) → cond b None (cond b (Some w) o) ≡ cond b None o
      twice true o = refl
      twice false o = refl

  -- a key that was not there, or its copy, was put in
  pub level-inserted : (k own : K) (m n : BTreeMap K V) (w : V) → k ≡ own → get cmp m k ≡ None → UpdatesBy cmp (cmp own) m n (Some w) → ((i : I) → has w i ≡ f false (test i)) → (i : K × I) → level cmp has n i ≡ f (level cmp has m i) (at_pair cmp k test i)
  level-inserted k own m n w same was updates changed =
      level-changed k m n (Some w) (λ q. updates.0 q ∙ ap (λ (x : K). cond (is_at (cmp x) q) (Some w) (get cmp m q)) (sym same)) (λ i. changed i ∙ ap (λ (o : Option V). f (inner has o i) (test i)) (sym was))

  -- there was nothing to take out
  pub level-missed : (k : K) (m : BTreeMap K V) → get cmp m k ≡ None → ((b : Bool) → f false b ≡ false) → (i : K × I) → level cmp has m i ≡ f (level cmp has m i) (at_pair cmp k test i)
  level-missed k m was nothing =
      level-changed k m m None (λ q. by q (is_eq (cmp k q)) refl) (λ i. sym (ap (λ (o : Option V). f (inner has o i) (test i)) was ∙ nothing (test i)))
    where
      by : (q : K) (b : Bool) → is_eq (cmp k q) ≡ b → get cmp m q ≡ cond b None (get cmp m q)
      by q true here = ap (get cmp m) (sym (exact k q here)) ∙ was
      by q false other = refl

pub dropped_nothing : (b : Bool) → dropped false b ≡ false
dropped_nothing b = refl

-- the same entries
pub level-same : {K V I : Type 0} (cmp : K → K → Ordering) (has : V → I → Bool) (m n : BTreeMap K V) → n.entries ≡ m.entries → Stays (level cmp has m) (level cmp has n)
level-same {K} {V} cmp has m n same i = ap (λ (es : List (K × V)). inner has (lookup (is_at (cmp i.0)) es) i.1) same

-- ---- sets of keys

pub keys-added : {S : Type 0} (key : KeyShape) (old new : IndexSet KeyShape S) → ((q : KeyShape) → list_any (same_key q) new.keys ≡ cond (same_key key q) true (list_any (same_key q) old.keys)) → Adds (same_key key) (has_key old) (has_key new)
keys-added key old new updates q = updates q ∙ cond_added (same_key key q) (has_key old q)

pub keys-dropped : {S : Type 0} (key : KeyShape) (old new : IndexSet KeyShape S) → ((q : KeyShape) → list_any (same_key q) new.keys ≡ cond (same_key key q) false (list_any (same_key q) old.keys)) → Drops (same_key key) (has_key old) (has_key new)
keys-dropped key old new updates q = updates q ∙ cond_dropped (same_key key q) (has_key old q)

pub keys-same : {S : Type 0} (old new : IndexSet KeyShape S) → new.keys ≡ old.keys → Stays (has_key old) (has_key new)
keys-same old new same q = ap (list_any (same_key q)) same

-- ---- nothing is kept

pub no_keys : {S : Type 0} (keys : IndexSet KeyShape S) → keys.keys ≡ [] → (key : KeyShape) → has_key keys key ≡ false
no_keys keys empty key = ap (list_any (same_key key)) empty

pub no_entries : {K V I : Type 0} (cmp : K → K → Ordering) (has : V → I → Bool) (m : BTreeMap K V) → m.entries ≡ [] → (i : K × I) → level cmp has m i ≡ false
no_entries {K} {V} cmp has m empty i = ap (λ (es : List (K × V)). inner has (lookup (is_at (cmp i.0)) es) i.1) empty

pub no_length : {X : Type 0} (xs : List X) → length xs ≡ 0 → xs ≡ []
no_length [] h = refl
no_length (x ∷ xs) h = absurd (omega (arith, h))

pub no_places : (places : Places) → places.rest.keys ≡ [] → places.equal.entries ≡ [] → (i : Option Probe × KeyShape) → has_places places i ≡ false
no_places places rest equal i = by i.0
  where
    by : (probe : Option Probe) → has_place places probe i.1 ≡ false
    by None = no_keys places.rest rest i.1
    by (Some probe) = no_entries path_cmp has_value places.equal equal (probe.0, (probe.1, i.1))

-- ---- a place of a collection

-- a change of one of its parts
pub rest-changed : (f : Bool → Bool → Bool) → ((b : Bool) → f b false ≡ b) → (old new : Places) (probe : Option Probe) (key : KeyShape) → probe ≡ None → new.equal ≡ old.equal → ((other : KeyShape) → has_key new.rest other ≡ f (has_key old.rest other) (same_key key other))
    → (i : Option Probe × KeyShape) → has_places new i ≡ f (has_places old i) (at_places probe key i)
rest-changed f elsewhere old new probe key none same changed i = by i.0 ∙ ap (λ (o : Option Probe). f (has_places old i) (at_places o key i)) (sym none)
  where
    by : (asked : Option Probe) → has_place new asked i.1 ≡ f (has_place old asked i.1) (at_place None key asked i.1)
    by None = changed i.1
    by (Some asked) = ap (λ paths. has_path paths (asked.0, (asked.1, i.1))) same ∙ sym (elsewhere (has_place old (Some asked) i.1))

pub equal-changed : (f : Bool → Bool → Bool) → ((b : Bool) → f b false ≡ b) → (old new : Places) (probe : Option Probe) (p : List (List ℕ)) (v : Tree) (key : KeyShape) → probe ≡ Some (p, v) → new.rest ≡ old.rest
    → ((j : List (List ℕ) × (Tree × KeyShape)) → has_path new.equal j ≡ f (has_path old.equal j) (at_path p v key j))
    → (i : Option Probe × KeyShape) → has_places new i ≡ f (has_places old i) (at_places probe key i)
equal-changed f elsewhere old new probe p v key some same changed i = by i.0 ∙ ap (λ (o : Option Probe). f (has_places old i) (at_places o key i)) (sym some)
  where
    by : (asked : Option Probe) → has_place new asked i.1 ≡ f (has_place old asked i.1) (at_place (Some (p, v)) key asked i.1)
    by None = ap (λ keys. has_key keys i.1) same ∙ sym (elsewhere (has_place old None i.1))
    by (Some asked) = changed (asked.0, (asked.1, i.1))

-- ---- each key at its own spot

last_true : (b : Bool) → (b && true) ≡ b
last_true true = refl
last_true false = refl

-- the place of a key is its own
at_own_place : (probe asked : Option Probe) (key other : KeyShape) → same_key key other ≡ true → at_place probe key asked other ≡ same_probe probe asked
at_own_place None None key other same = same
at_own_place None (Some asked) key other same = refl
at_own_place (Some probe) None key other same = refl
at_own_place (Some probe) (Some asked) key other same = ap (λ (b : Bool). is_eq (path_cmp probe.0 asked.0) && b) (ap (λ (b : Bool). is_eq (tree_cmp probe.1 asked.1) && b) same ∙ last_true (is_eq (tree_cmp probe.1 asked.1)))

at_other_place : (probe asked : Option Probe) (key other : KeyShape) → same_key key other ≡ false → at_place probe key asked other ≡ false
at_other_place None None key other apart = apart
at_other_place None (Some asked) key other apart = refl
at_other_place (Some probe) None key other apart = refl
at_other_place (Some probe) (Some asked) key other apart =
    and_right (is_eq (path_cmp probe.0 asked.0)) (is_eq (tree_cmp probe.1 asked.1) && same_key key other) (and_right (is_eq (tree_cmp probe.1 asked.1)) (same_key key other) apart)

at_own : (key : KeyShape) (i : List ℕ × (Option Probe × KeyShape)) → same_key key i.1.1 ≡ true → at_spot (collection_of key) (probe_of_key key) key i ≡ is_own i
at_own key i same =
    ap (λ (b : Bool). is_eq (text_cmp (collection_of key) i.0) && b) (at_own_place (probe_of_key key) i.1.0 key i.1.1 same)
    ∙ ap (λ (k : KeyShape). is_eq (text_cmp (collection_of k) i.0) && same_probe (probe_of_key k) i.1.0) ((same_key-Decides key i.1.1).0 same)

at_other : (key : KeyShape) (i : List ℕ × (Option Probe × KeyShape)) → same_key key i.1.1 ≡ false → at_spot (collection_of key) (probe_of_key key) key i ≡ false
at_other key i apart = and_right (is_eq (text_cmp (collection_of key) i.0)) (at_place (probe_of_key key) key i.1.0 i.1.1) (at_other_place (probe_of_key key) i.1.0 key i.1.1 apart)

-- a key that is new, or is no more, changes its own spot alone
own_added : (now was here own old new same : Bool) → now ≡ (was || here) → was ≡ (old && own) → new ≡ (old || same) → (same ≡ true → here ≡ own) → (same ≡ false → here ≡ false) → now ≡ (new && own)
own_added now was here own old new true n w h at other = n ∙ ap (λ (b : Bool). b || here) w ∙ ap (λ (b : Bool). (old && own) || b) (at refl) ∙ by old own ∙ ap (λ (b : Bool). b && own) (sym h)
  where
    by : (old own : Bool) → ((old && own) || own) ≡ ((old || true) && own)
    by true true = refl
    by true false = refl
    by false true = refl
    by false false = refl
own_added now was here own old new false n w h at other = n ∙ ap (λ (b : Bool). b || here) w ∙ ap (λ (b : Bool). (old && own) || b) (other refl) ∙ by old own ∙ ap (λ (b : Bool). b && own) (sym h)
  where
    by : (old own : Bool) → ((old && own) || false) ≡ ((old || false) && own)
    by true true = refl
    by true false = refl
    by false true = refl
    by false false = refl

own_dropped : (now was here own old new same : Bool) → now ≡ (was && not here) → was ≡ (old && own) → new ≡ (old && not same) → (same ≡ true → here ≡ own) → (same ≡ false → here ≡ false) → now ≡ (new && own)
own_dropped now was here own old new true n w h at other = n ∙ ap (λ (b : Bool). b && not here) w ∙ ap (λ (b : Bool). (old && own) && not b) (at refl) ∙ by old own ∙ ap (λ (b : Bool). b && own) (sym h)
  where
    by : (old own : Bool) → ((old && own) && not own) ≡ ((old && false) && own)
    by true true = refl
    by true false = refl
    by false true = refl
    by false false = refl
own_dropped now was here own old new false n w h at other = n ∙ ap (λ (b : Bool). b && not here) w ∙ ap (λ (b : Bool). (old && own) && not b) (other refl) ∙ by old own ∙ ap (λ (b : Bool). b && own) (sym h)
  where
    by : (old own : Bool) → ((old && own) && true) ≡ ((old && true) && own)
    by true true = refl
    by true false = refl
    by false true = refl
    by false false = refl

pub held_pushed : (held : List KeyShape) (key other : KeyShape) → is_held (held ++ key ∷ []) other ≡ (is_held held other || same_key key other)
held_pushed held key other = list_any-append (same_key other) held (key ∷ []) ∙ ap (λ (b : Bool). is_held held other || b) (or_last (same_key other key) ∙ flip)
  where
    or_last : (b : Bool) → (b || false) ≡ b
    or_last true = refl
    or_last false = refl

    flip : same_key other key ≡ same_key key other
    flip = same_key_equiv.symm other key

-- a key is added
pub placed-added : (held new : List KeyShape) (old now : BTreeMap (List ℕ) Places) (key : KeyShape) → ArePlaced held old → is_query key ≡ true → new ≡ held ++ key ∷ [] → Adds (at_spot (collection_of key) (probe_of_key key) key) (has_spot old) (has_spot now)
    → ArePlaced new now
placed-added held new old now key placed query more adds = record {
  spots = λ i.
      own_added (has_spot now i) (has_spot old i) (at_spot (collection_of key) (probe_of_key key) key i) (is_own i) (is_held held i.1.1) (is_held new i.1.1) (same_key key i.1.1)
      (adds i) (placed.spots i) (held_now i.1.1) (at_own key i) (at_other key i);
  queries = λ other there. elim (cases_Bool (same_key key other)) [
    | inl same ↦ ap is_query (sym ((same_key-Decides key other).0 same)) ∙ query
    | inr apart ↦ placed.queries other (sym (or_false (is_held held other)) ∙ ap (λ (b : Bool). is_held held other || b) (sym apart) ∙ sym (held_now other) ∙ there)
  ];
}
  where
    held_now : (other : KeyShape) → is_held new other ≡ (is_held held other || same_key key other)
    held_now other = ap (λ (keys : List KeyShape). is_held keys other) more ∙ held_pushed held key other

    or_false : (b : Bool) → (b || false) ≡ b
    or_false true = refl
    or_false false = refl

-- nothing is changed
pub placed-same : (held new : List KeyShape) (old now : BTreeMap (List ℕ) Places) → ArePlaced held old → new ≡ held → Stays (has_spot old) (has_spot now) → ArePlaced new now
placed-same held new old now placed same stays = record {
  spots = λ i. stays i ∙ placed.spots i ∙ ap (λ (keys : List KeyShape). is_held keys i.1.1 && is_own i) (sym same);
  queries = λ other there. placed.queries other (ap (λ (keys : List KeyShape). is_held keys other) (sym same) ∙ there);
}

-- a key is taken out
pub placed-dropped : (held new : List KeyShape) (old now : BTreeMap (List ℕ) Places) (key : KeyShape) → ArePlaced held old → ((other : KeyShape) → is_held new other ≡ (is_held held other && not (same_key key other)))
    → Drops (at_spot (collection_of key) (probe_of_key key) key) (has_spot old) (has_spot now) → ArePlaced new now
placed-dropped held new old now key placed fewer drops = record {
  spots = λ i.
      own_dropped (has_spot now i) (has_spot old i) (at_spot (collection_of key) (probe_of_key key) key i) (is_own i) (is_held held i.1.1) (is_held new i.1.1) (same_key key i.1.1)
      (drops i) (placed.spots i) (fewer i.1.1) (at_own key i) (at_other key i);
  queries = λ other there. placed.queries other (was (is_held held other) (not (same_key key other)) (sym (fewer other) ∙ there));
}
  where
    was : (a b : Bool) → (a && b) ≡ true → a ≡ true
    was true b h = refl
    was false b h = absurd (cc)

-- a record's key is not held, so that none is taken out
pub placed-record : (held new : List KeyShape) (old now : BTreeMap (List ℕ) Places) (key : KeyShape) → ArePlaced held old → is_query key ≡ false → ((other : KeyShape) → is_held new other ≡ (is_held held other && not (same_key key other)))
    → Stays (has_spot old) (has_spot now) → ArePlaced new now
placed-record held new old now key placed record_key fewer stays = record {
  spots = λ i. stays i ∙ placed.spots i ∙ ap (λ (b : Bool). b && is_own i) (sym (held_now i.1.1));
  queries = λ other there. placed.queries other (sym (held_now other) ∙ there);
}
  where
    absent : (other : KeyShape) → same_key key other ≡ true → is_held held other ≡ false
    absent other same = elim (cases_Bool (is_held held other)) [
      | inl there ↦ absurd (
          let query : is_query other ≡ true = placed.queries other there in
          let wrong : true ≡ false = sym query ∙ ap is_query (sym ((same_key-Decides key other).0 same)) ∙ record_key in
          cc)
      | inr none ↦ none
    ]

    by : (was same : Bool) → (same ≡ true → was ≡ false) → (was && not same) ≡ was
    by true true none = absurd (let wrong : true ≡ false = none refl in cc)
    by true false none = refl
    by false true none = refl
    by false false none = refl

    held_now : (other : KeyShape) → is_held new other ≡ is_held held other
    held_now other = fewer other ∙ by (is_held held other) (same_key key other) (absent other)

-- nothing is held, and nothing is kept
pub placed-none : (held : List KeyShape) (collections : BTreeMap (List ℕ) Places) → held ≡ [] → collections.entries ≡ [] → ArePlaced held collections
placed-none held collections none empty = record {
  spots = λ i. no_entries text_cmp has_places collections empty i ∙ ap (λ (keys : List KeyShape). is_held keys i.1.1 && is_own i) (sym none);
  queries = λ other there. absurd (let wrong : true ≡ false = sym there ∙ ap (λ (keys : List KeyShape). is_held keys other) none in cc);
}

-- a call added a key, or failed
pub placed-after : {A E : Type 0} (r : Result A E) (held new : List KeyShape) (old now : BTreeMap (List ℕ) Places) (key : KeyShape) → ArePlaced held old → is_query key ≡ true → OnOk r (new ≡ held ++ key ∷ []) → OnOk r (Adds (at_spot (collection_of key) (probe_of_key key) key) (has_spot old) (has_spot now))
    → OnErr r (new ≡ held) → OnErr r (Stays (has_spot old) (has_spot now)) → ArePlaced new now
placed-after (Ok a) held new old now key placed query more adds same stays = placed-added held new old now key placed query more adds
placed-after (Err e) held new old now key placed query more adds same stays = placed-same held new old now placed same stays

-- a call took a key out, if it is that of a query
pub placed-less : (b : Bool) (held new : List KeyShape) (old now : BTreeMap (List ℕ) Places) (key : KeyShape) → is_query key ≡ b → ArePlaced held old → ((other : KeyShape) → is_held new other ≡ (is_held held other && not (same_key key other)))
    → (is_query key ≡ true → Drops (at_spot (collection_of key) (probe_of_key key) key) (has_spot old) (has_spot now)) → (is_query key ≡ false → Stays (has_spot old) (has_spot now)) → ArePlaced new now
placed-less true held new old now key is placed fewer drops stays = placed-dropped held new old now key placed fewer (drops is)
placed-less false held new old now key is placed fewer drops stays = placed-record held new old now key placed is fewer (stays is)

pub held_less : (key : KeyShape) (old new : List KeyShape) → ((q : KeyShape) → list_any (same_key q) new ≡ cond (same_key key q) false (list_any (same_key q) old)) → (other : KeyShape) → is_held new other ≡ (is_held old other && not (same_key key other))
held_less key old new updates other = updates other ∙ cond_dropped (same_key key other) (is_held old other)

-- ---- what follows where a call succeeded, or failed

pub on-ok : {A E P Q : Type 0} (r : Result A E) → (P → Q) → OnOk r P → OnOk r Q
on-ok (Ok a) to given = to given
on-ok (Err e) to given = tt

pub on-err : {A E P Q : Type 0} (r : Result A E) → (P → Q) → OnErr r P → OnErr r Q
on-err (Ok a) to given = tt
on-err (Err e) to given = to given

-- what holds anyway
pub on-any-err : {A E P : Type 0} (r : Result A E) → P → OnErr r P
on-any-err (Ok a) given = tt
on-any-err (Err e) given = given

pub either : {A E R : Type 0} (r : Result A E) → {P Q : Type 0} → OnOk r P → OnErr r Q → (P → R) → (Q → R) → R
either (Ok a) ok err p q = p ok
either (Err e) ok err p q = q err
