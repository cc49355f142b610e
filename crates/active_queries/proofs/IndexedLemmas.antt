-- The keys that the index has: those of queries that are there, and the one that may be added.
use Rattle.std.proofs.Common.{◌≡◌, ℕ, ◌≤◌, Bool, true, false, not, ◌&&◌, ◌||◌, List, [], ◌∷◌, ◌++◌, length, Option, Some, None, is_some, max, refl, sym, ap, ap₂, ◌∙◌, inl, inr, arith}
use Rattle.std.specs.List.{list_any}
use Rattle.std.specs.Map.{lookup, keys_of}
use Rattle.std.proofs.lemmas.Bool.{cases_Bool}
use Rattle.std.proofs.lemmas.List.Folds.{list_any-append}
use Rattle.query_normal.specs.declared.key.KeyShape.{KeyShape}
use Rattle.query_normal.specs.Keys.{same_key}
use Rattle.query_normal.specs.SameKey.{same_key-Decides, same_key_equiv}
use Rattle.match_index.specs.Candidates.{is_query}
use Rattle.match_index.specs.Places.{is_held, with_key}
use Rattle.active_queries.specs.Following.{Following}
use Rattle.active_queries.specs.Queries.{HaveSeen, is_ready, AreIndexed, all_forgotten}
use Rattle.active_queries.proofs.EntryLemmas.{keys-forgotten}

and-none : (b : Bool) → (b && false) ≡ false
and-none true = refl
and-none false = refl

and-all : (b : Bool) → (b && true) ≡ b
and-all true = refl
and-all false = refl

or-none : (b : Bool) → (b || false) ≡ b
or-none true = refl
or-none false = refl

or-all : (b : Bool) → (b || true) ≡ true
or-all true = refl
or-all false = refl

-- ---- the last commit that each has seen

pub seen-both : (n m : ℕ) (es : List (KeyShape × Following)) → HaveSeen n es → HaveSeen m es → HaveSeen (max n m) es
seen-both n m es one two k d within = let low = one k d within in let high = two k d within in omega (arith, low, high)

pub seen-less : (n m : ℕ) (es : List (KeyShape × Following)) → n ≤ m → HaveSeen m es → HaveSeen n es
seen-less n m es low all k d within = let high = all k d within in omega (arith, low, high)

pub seen-none : (n : ℕ) (es : List (KeyShape × Following)) → length es ≡ 0 → HaveSeen n es
seen-none n es none k d within = absurd (omega (arith, none, within))

-- ---- a key that was made ready

-- the same keys are found
pub same-lookup : (old new : List (KeyShape × Following)) → keys_of new ≡ keys_of old → (key : KeyShape) → is_some (lookup (same_key key) new) ≡ is_some (lookup (same_key key) old)
same-lookup [] [] is key = refl
same-lookup [] (n ∷ new) is key = absurd (let h = is in cc)
same-lookup (o ∷ old) [] is key = absurd (let h = is in cc)
same-lookup (o ∷ old) (n ∷ new) is key =
    let rest : keys_of new ≡ keys_of old = (let h = is in cc) in
    let first : n.0 ≡ o.0 = (let h = is in cc) in
    let one : same_key key n.0 ≡ same_key key o.0 = ap (same_key key) first in
    elim (cases_Bool (same_key key o.0)) [
      | inl hit ↦ rw (one, hit) refl
      | inr miss ↦ rw (one, miss) (same-lookup old new rest key)
    ]

pub indexed-same : (old new : List (KeyShape × Following)) (ready : Option KeyShape) (index : List KeyShape) → keys_of new ≡ keys_of old → AreIndexed old ready index → AreIndexed new ready index
indexed-same old new ready index is indexed key = indexed key ∙ ap (λ (b : Bool). is_query key && (b || is_ready ready key)) (sym (same-lookup old new is key))

pub indexed-forgotten : (to : ℕ) (es new : List (KeyShape × Following)) (ready : Option KeyShape) (index : List KeyShape) → new ≡ all_forgotten to es → AreIndexed es ready index → AreIndexed new ready index
indexed-forgotten to es new ready index is = indexed-same es new ready index (ap keys_of is ∙ keys-forgotten to es)

-- it has a query, so that it stays in the index
pub indexed-there : (es : List (KeyShape × Following)) (key : KeyShape) (index : List KeyShape) → is_some (lookup (same_key key) es) ≡ true → AreIndexed es (Some key) index → AreIndexed es None index
indexed-there es key index there indexed other = indexed other ∙ ap (λ (b : Bool). is_query other && b) (elim (cases_Bool (same_key other key)) [
  | inl hit ↦
      let same : other ≡ key = (same_key-Decides other key).0 hit in
      let found : is_some (lookup (same_key other) es) ≡ true = ap (λ (k : KeyShape). is_some (lookup (same_key k) es)) same ∙ there in
      rw found refl
  | inr miss ↦ rw miss refl
])

-- it has none, and is taken out
pub indexed-gone : (es : List (KeyShape × Following)) (key : KeyShape) (index left : List KeyShape) → is_some (lookup (same_key key) es) ≡ false → AreIndexed es (Some key) index
    → ((other : KeyShape) → list_any (same_key other) left ≡ (list_any (same_key other) index && not (same_key key other))) → AreIndexed es None left
indexed-gone es key index left none indexed less other = elim (cases_Bool (same_key key other)) [
  | inl hit ↦
      let same : key ≡ other = (same_key-Decides key other).0 hit in
      let absent : is_some (lookup (same_key other) es) ≡ false = ap (λ (k : KeyShape). is_some (lookup (same_key k) es)) (sym same) ∙ none in
      less other
      ∙ ap (λ (b : Bool). list_any (same_key other) index && not b) hit
      ∙ and-none (list_any (same_key other) index)
      ∙ sym (ap (λ (b : Bool). is_query other && (b || false)) absent ∙ and-none (is_query other))
  | inr miss ↦
      less other
      ∙ ap (λ (b : Bool). list_any (same_key other) index && not b) miss
      ∙ and-all (list_any (same_key other) index)
      ∙ indexed other
      ∙ ap (λ (b : Bool). is_query other && (is_some (lookup (same_key other) es) || b)) (same_key_equiv.symm other key ∙ miss)
]

-- a key that is put into the index
pub held-more : (key : KeyShape) (old new : List KeyShape) → is_query key ≡ true → new ≡ with_key key old → (other : KeyShape) → list_any (same_key other) new ≡ (list_any (same_key other) old || (is_query other && same_key key other))
held-more key old new query is other =
    ap (λ (ks : List KeyShape). list_any (same_key other) ks) is ∙ elim (cases_Bool (is_held old key)) [
      | inl there ↦ (elim (cases_Bool (same_key key other)) [
        | inl hit ↦
            let same : key ≡ other = (same_key-Decides key other).0 hit in
            let own : list_any (same_key other) old ≡ true = ap (λ (k : KeyShape). list_any (same_key k) old) (sym same) ∙ there in
            rw (there, own) refl
        | inr miss ↦ rw (there, miss, and-none (is_query other), or-none (list_any (same_key other) old)) refl
      ])
      | inr absent ↦ (rw absent (list_any-append (same_key other) old (key ∷ []) ∙ ap (λ (b : Bool). list_any (same_key other) old || b) own))
    ]
  where
    own : (same_key other key || false) ≡ (is_query other && same_key key other)
    own = or-none (same_key other key) ∙ elim (cases_Bool (same_key key other)) [
      | inl hit ↦
          let same : key ≡ other = (same_key-Decides key other).0 hit in
          let asks : is_query other ≡ true = ap is_query (sym same) ∙ query in
          rw (asks, hit) (same_key_equiv.symm other key ∙ hit)
      | inr miss ↦ rw miss (same_key_equiv.symm other key ∙ miss ∙ sym (and-none (is_query other)))
    ]

-- the key of a record is not
pub held-still : (key : KeyShape) (old : List KeyShape) → is_query key ≡ false → (other : KeyShape) → list_any (same_key other) old ≡ (list_any (same_key other) old || (is_query other && same_key key other))
held-still key old record_key other = elim (cases_Bool (same_key key other)) [
  | inl hit ↦
      let same : key ≡ other = (same_key-Decides key other).0 hit in
      let none : is_query other ≡ false = ap is_query (sym same) ∙ record_key in
      rw none (sym (or-none (list_any (same_key other) old)))
  | inr miss ↦ rw (miss, and-none (is_query other)) (sym (or-none (list_any (same_key other) old)))
]

-- the key is ready
pub indexed-more : (es : List (KeyShape × Following)) (key copy : KeyShape) (index more : List KeyShape) → copy ≡ key → AreIndexed es None index → ((other : KeyShape) → list_any (same_key other) more ≡ (list_any (same_key other) index || (is_query other && same_key key other)))
    → AreIndexed es (Some copy) more
indexed-more es key copy index more alike indexed put other =
    put other
    ∙ ap (λ (b : Bool). b || (is_query other && same_key key other)) (indexed other)
    ∙ by (is_query other) (is_some (lookup (same_key other) es)) (same_key key other)
    ∙ ap (λ (b : Bool). is_query other && (is_some (lookup (same_key other) es) || b)) (same_key_equiv.symm key other ∙ ap (same_key other) (sym alike))
  where
    by : (a b c : Bool) → ((a && (b || false)) || (a && c)) ≡ (a && (b || c))
    by false b c = refl
    by true true c = refl
    by true false c = refl

-- ---- its query is added

found-last : (key other : KeyShape) (query : Following) (es : List (KeyShape × Following)) → is_some (lookup (same_key other) (es ++ (key, query) ∷ [])) ≡ (is_some (lookup (same_key other) es) || same_key other key)
found-last key other query [] = elim (cases_Bool (same_key other key)) [
  | inl hit ↦ rw hit refl
  | inr miss ↦ rw miss refl
]
found-last key other query (e ∷ es) = elim (cases_Bool (same_key other e.0)) [
  | inl hit ↦ rw hit refl
  | inr miss ↦ rw miss (found-last key other query es)
]

pub indexed-added : (es new : List (KeyShape × Following)) (key : KeyShape) (query : Following) (ready : Option KeyShape) (index : List KeyShape) → ready ≡ Some key → new ≡ es ++ (key, query) ∷ [] → AreIndexed es ready index → AreIndexed new None index
indexed-added es new key query ready index own is indexed other =
    indexed other
    ∙ ap (λ (r : Option KeyShape). is_query other && (is_some (lookup (same_key other) es) || is_ready r other)) own
    ∙ ap (λ (b : Bool). is_query other && b) (sym (found-last key other query es) ∙ ap (λ (xs : List (KeyShape × Following)). is_some (lookup (same_key other) xs)) (sym is) ∙ sym (or-none (is_some (lookup (same_key other) new))))

-- ---- a query is removed

-- its key stays where it is ready
pub indexed-kept : (es new : List (KeyShape × Following)) (key : KeyShape) (ready : Option KeyShape) (index : List KeyShape) → is_ready ready key ≡ true → ((other : KeyShape) → same_key key other ≡ false → lookup (same_key other) new ≡ lookup (same_key other) es)
    → AreIndexed es ready index → AreIndexed new ready index
indexed-kept es new key ready index own others indexed other = indexed other ∙ ap (λ (b : Bool). is_query other && b) (elim (cases_Bool (same_key key other)) [
  | inl hit ↦
      let same : key ≡ other = (same_key-Decides key other).0 hit in
      let is : is_ready ready other ≡ true = ap (is_ready ready) (sym same) ∙ own in
      rw is (or-all (is_some (lookup (same_key other) es)) ∙ sym (or-all (is_some (lookup (same_key other) new))))
  | inr miss ↦ ap (λ (found : Option Following). is_some found || is_ready ready other) (sym (others other miss))
])

-- and else is taken out
pub indexed-less : (es new : List (KeyShape × Following)) (key : KeyShape) (ready : Option KeyShape) (index left : List KeyShape) → is_ready ready key ≡ false → lookup (same_key key) new ≡ None
    → ((other : KeyShape) → same_key key other ≡ false → lookup (same_key other) new ≡ lookup (same_key other) es) → ((other : KeyShape) → list_any (same_key other) left ≡ (list_any (same_key other) index && not (same_key key other)))
    → AreIndexed es ready index → AreIndexed new ready left
indexed-less es new key ready index left own gone others less indexed other = elim (cases_Bool (same_key key other)) [
  | inl hit ↦
      let same : key ≡ other = (same_key-Decides key other).0 hit in
      let none : (is_some (lookup (same_key other) new) || is_ready ready other) ≡ false =
      ap (λ (k : KeyShape). is_some (lookup (same_key k) new) || is_ready ready k) (sym same) ∙ ap₂ (λ (found : Option Following) (b : Bool). is_some found || b) gone own in
      less other
      ∙ ap (λ (b : Bool). list_any (same_key other) index && not b) hit
      ∙ and-none (list_any (same_key other) index)
      ∙ sym (ap (λ (b : Bool). is_query other && b) none ∙ and-none (is_query other))
  | inr miss ↦
      less other
      ∙ ap (λ (b : Bool). list_any (same_key other) index && not b) miss
      ∙ and-all (list_any (same_key other) index)
      ∙ indexed other
      ∙ ap (λ (found : Option Following). is_query other && (is_some found || is_ready ready other)) (sym (others other miss))
]
