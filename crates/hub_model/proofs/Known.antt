-- Which of the results that a caller knows is told.
use Rattle.std.proofs.Common.{◌≡◌, ◌≢◌, ◌↔◌, ℕ, ◌<◌, ◌≤◌, max, Bool, true, false, ◌&&◌, List, [], ◌∷◌, fold, filter, Option, Some, None, refl, sym, ap, ◌∙◌, subst, inl, inr, arith}
use Rattle.std.specs.Prelude.{nat_le, IfSome}
use Rattle.std.specs.List.{Contains, reduce}
use Rattle.std.proofs.lemmas.Bool.{cases_Bool, cases_lt, and_parts, and_from, and_left, leb-true, le-leb, lt-leb}
use Rattle.std.proofs.lemmas.List.Elements.{Contains-append_right, Contains-append_cases}
use Rattle.std.proofs.Math.Bool.{and-false}
use Rattle.q_doc.specs.Tree.{Tree}
use Rattle.query_normal.specs.declared.key.KeyShape.{KeyShape}
use Rattle.query_normal.specs.declared.key.KeyShape.TheVariants.{Record}
use Rattle.commit_book.specs.declared.change.Change.{Change}
use Rattle.commit_book.specs.Journal.{document_at}
use Rattle.hub_model.specs.declared.entry.Tags.{Tags}
use Rattle.hub_model.specs.declared.entry.Tags.TheVariants.{Any, Listed}
use Rattle.hub_model.specs.Journal.{present, document_finding, result_at, same_finding}
use Rattle.hub_model.specs.Known.{has_result_of, known_at}
use Rattle.hub_model.specs.KnownSince.{is_since, known_since, IsGreatestSame}
use Rattle.hub_model.proofs.Accepted.{stands}
use Rattle.hub_model.proofs.Changes.{version_at}
use Rattle.hub_model.proofs.Copies.{only, filter-parts, filter-from}
use Rattle.hub_model.proofs.Results.{same_finding-Decides}

-- ---- a record is the same from the version of its document on

-- a document that is found is not newer than its commit
not_newer : (o : Option (ℕ × Tree)) (d : ℕ × Tree) (t : ℕ) → IfSome o (λ x. x.0 ≤ t) → document_finding o ≡ present d.0 d.1 → d.0 ≤ t
not_newer None d t within is = absurd (let e = is in cc)
not_newer (Some x) d t within is = let same : x.0 ≡ d.0 = cc in omega (arith, within, same)

-- from the greater of two commits on is from both on
both_since : (a b at t : ℕ) → (nat_le a t && is_since b at t) ≡ is_since (max a b) at t
both_since a b at t = elim (cases_lt t a) [
  | inl before ↦ (
      and_left (nat_le a t) (is_since b at t) (lt-leb a t before)
      ∙ sym (and_left (nat_le (max a b) t) (nat_le t at) (lt-leb (max a b) t (omega (arith, before)))))
  | inr since ↦ elim (cases_lt t b) [
    | inl early ↦ (
        ap (λ (c : Bool). nat_le a t && c) (and_left (nat_le b t) (nat_le t at) (lt-leb b t early)) ∙ and-false (nat_le a t)
        ∙ sym (and_left (nat_le (max a b) t) (nat_le t at) (lt-leb (max a b) t (omega (arith, early)))))
    | inr late ↦ (
        ap (λ (c : Bool). c && is_since b at t) (le-leb a t since)
        ∙ ap (λ (c : Bool). c && nat_le t at) (le-leb b t late ∙ sym (le-leb (max a b) t (omega (arith, since, late)))))
  ]
]

-- of a record with a document at a commit
module _ (journal : List Change) (collection id : List ℕ) (horizon at : ℕ) (d : ℕ × Tree) (found : document_at journal at collection id ≡ Some d) where
  finds : result_at (Record collection id) journal at ≡ present d.0 d.1
  finds = ap document_finding found

  same-from : (t : ℕ) → d.0 ≤ t → t ≤ at → same_finding (result_at (Record collection id) journal t) (result_at (Record collection id) journal at) ≡ true
  same-from t since within =
      (same_finding-Decides (result_at (Record collection id) journal t) (result_at (Record collection id) journal at)).1
      (ap document_finding (stands journal collection id at t d found since within) ∙ sym finds)

  other-before : (t : ℕ) → t < d.0 → same_finding (result_at (Record collection id) journal t) (result_at (Record collection id) journal at) ≡ false
  other-before t before = elim (cases_Bool (same_finding (result_at (Record collection id) journal t) (result_at (Record collection id) journal at))) [
    | inl same ↦ absurd (
        let is = (same_finding-Decides (result_at (Record collection id) journal t) (result_at (Record collection id) journal at)).0 same in
        let late : d.0 ≤ t = not_newer (document_at journal t collection id) d t (version_at journal t collection id) (is ∙ finds) in
        omega (arith, late, before))
    | inr other ↦ other
  ]

  -- a commit finds the same exactly from the version on
  same-since : (t : ℕ) → (nat_le t at && same_finding (result_at (Record collection id) journal t) (result_at (Record collection id) journal at)) ≡ is_since d.0 at t
  same-since t = elim (cases_lt at t) [
    | inl past ↦ (
        let above : nat_le t at ≡ false = lt-leb t at past in
        ap (λ (b : Bool). b && same_finding (result_at (Record collection id) journal t) (result_at (Record collection id) journal at)) above
        ∙ sym (ap (λ (b : Bool). nat_le d.0 t && b) above ∙ and-false (nat_le d.0 t)))
    | inr within ↦ elim (cases_lt t d.0) [
      | inl before ↦ (
          ap (λ (b : Bool). nat_le t at && b) (other-before t before) ∙ and-false (nat_le t at)
          ∙ sym (and_left (nat_le d.0 t) (nat_le t at) (lt-leb d.0 t before)))
      | inr since ↦ (
          and_from (nat_le t at) (same_finding (result_at (Record collection id) journal t) (result_at (Record collection id) journal at)) (le-leb t at within) (same-from t since within)
          ∙ sym (and_from (nat_le d.0 t) (nat_le t at) (le-leb d.0 t since) (le-leb t at within)))
    ]
  ]

  -- and is known from the horizon on
  known-since : (t : ℕ) → has_result_of (Record collection id) journal horizon at t ≡ is_since (max horizon d.0) at t
  known-since t = ap (λ (b : Bool). nat_le horizon t && b) (same-since t) ∙ both_since horizon d.0 at t

  pub known-record : (tags : Tags) → known_at (Record collection id) journal horizon at tags ≡ known_since (max horizon d.0) at tags
  known-record Any = refl
  known-record (Listed tags) = ap (λ (test : ℕ → Bool). reduce max (filter test tags)) (λ i t. known-since t i)

-- ---- the greatest of some numbers

-- a number among these, which no other of them passes
abbrev Tops : List ℕ → ℕ → Type 0
Tops xs m = Contains xs m × ((u : ℕ) → Contains xs u → u ≤ m)

here : (x : ℕ) (xs : List ℕ) → Contains (x ∷ xs) x
here x xs = (0, omega arith, refl)

-- a further number before others that have a greatest one
tops-cons : (a y m : ℕ) (ys : List ℕ) → Tops (max a y ∷ ys) m → Tops (a ∷ y ∷ ys) m
tops-cons a y m ys t = (among, most)
  where
    among : Contains (a ∷ y ∷ ys) m
    among = elim (Contains-append_cases (max a y ∷ []) ys m t.0) [
      | inl first ↦ (
          let is : max a y ≡ m = only (max a y) m first in
          elim (cases_lt a y) [
            | inl less ↦ (let e : y ≡ m = omega (arith, is, less) in subst (λ (n : ℕ). Contains (a ∷ y ∷ ys) n) e (Contains-append_right (a ∷ []) (y ∷ ys) y (here y ys)))
            | inr more ↦ (let e : a ≡ m = omega (arith, is, more) in subst (λ (n : ℕ). Contains (a ∷ y ∷ ys) n) e (here a (y ∷ ys)))
          ])
      | inr later ↦ Contains-append_right (a ∷ y ∷ []) ys m later
    ]

    top : max a y ≤ m
    top = t.1 (max a y) (here (max a y) ys)

    most : (u : ℕ) → Contains (a ∷ y ∷ ys) u → u ≤ m
    most u c = elim (Contains-append_cases (a ∷ []) (y ∷ ys) u c) [
      | inl first ↦ (let is : a ≡ u = only a u first in omega (arith, is, top))
      | inr rest ↦ elim (Contains-append_cases (y ∷ []) ys u rest) [
        | inl second ↦ (let is : y ≡ u = only y u second in omega (arith, is, top))
        | inr later ↦ t.1 u (Contains-append_right (max a y ∷ []) ys u later)
      ]
    ]

fold-tops : (a : ℕ) (xs : List ℕ) → Tops (a ∷ xs) (fold max a xs)
fold-tops a [] = (here a [], λ u c. let is : a ≡ u = only a u c in omega (arith, is))
fold-tops a (y ∷ ys) = tops-cons a y (fold max (max a y) ys) ys (fold-tops (max a y) ys)

reduce-tops : (xs : List ℕ) (m : ℕ) → reduce max xs ≡ Some m → Tops xs m
reduce-tops [] m is = absurd (let e = is in cc)
reduce-tops (x ∷ xs) m is = let same : fold max x xs ≡ m = cc in subst (λ (n : ℕ). Tops (x ∷ xs) n) same (fold-tops x xs)

tops-reduce : (xs : List ℕ) (m : ℕ) → Tops xs m → reduce max xs ≡ Some m
tops-reduce [] m t = absurd (let k = t.0.1 in omega (arith, k))
tops-reduce (x ∷ xs) m t =
    let f = fold-tops x xs in
    let up = f.1 m t.0 in
    let down = t.1 (fold max x xs) f.0 in
    let same : fold max x xs ≡ m = omega (arith, up, down) in
    ap (λ (n : ℕ). Some n) same

-- none is there
none-there : (xs : List ℕ) → reduce max xs ≡ None → (u : ℕ) → Contains xs u → ⊥
none-there [] is u c = let k = c.1 in omega (arith, k)
none-there (x ∷ xs) is u c = cc

-- ---- the commit that is told

module _ (key : KeyShape) (journal : List Change) (horizon at : ℕ) (tags : List ℕ) where
  finds_same : (t : ℕ) → horizon ≤ t → t ≤ at → result_at key journal t ≡ result_at key journal at → has_result_of key journal horizon at t ≡ true
  finds_same t kept within is =
      and_from (nat_le horizon t) (nat_le t at && same_finding (result_at key journal t) (result_at key journal at)) (le-leb horizon t kept)
      (and_from (nat_le t at) (same_finding (result_at key journal t) (result_at key journal at)) (le-leb t at within) ((same_finding-Decides (result_at key journal t) (result_at key journal at)).1 is))

  -- what passes is kept, not above, and the same
  passes : (t : ℕ) → has_result_of key journal horizon at t ≡ true → (horizon ≤ t) × (t ≤ at) × (result_at key journal t ≡ result_at key journal at)
  passes t h =
      let parts = and_parts (nat_le horizon t) (nat_le t at && same_finding (result_at key journal t) (result_at key journal at)) h in
      let rest = and_parts (nat_le t at) (same_finding (result_at key journal t) (result_at key journal at)) parts.1 in
      (leb-true horizon t parts.0, leb-true t at rest.0, (same_finding-Decides (result_at key journal t) (result_at key journal at)).0 rest.1)

  greatest-told : (tag : ℕ) → known_at key journal horizon at (Listed tags) ≡ Some tag → IsGreatestSame key journal horizon at tags tag
  greatest-told tag told =
      let top = reduce-tops (filter (has_result_of key journal horizon at) tags) tag told in
      let among = filter-parts (has_result_of key journal horizon at) tags tag top.0 in
      let parts = passes tag among.1 in
      record {
        listed = among.0;
        kept = parts.0;
        within = parts.1;
        same = parts.2;
        greatest = λ t listed kept within same. top.1 t (filter-from (has_result_of key journal horizon at) tags t listed (finds_same t kept within same));
      }

  told-greatest : (tag : ℕ) → IsGreatestSame key journal horizon at tags tag → known_at key journal horizon at (Listed tags) ≡ Some tag
  told-greatest tag g =
      tops-reduce (filter (has_result_of key journal horizon at) tags) tag (
        filter-from (has_result_of key journal horizon at) tags tag g.listed (finds_same tag g.kept g.within g.same),
        λ u passing.
            let among = filter-parts (has_result_of key journal horizon at) tags u passing in
            let parts = passes u among.1 in
            g.greatest u among.0 parts.0 parts.1 parts.2,
      )

  pub known-greatest : (tag : ℕ) → (known_at key journal horizon at (Listed tags) ≡ Some tag) ↔ IsGreatestSame key journal horizon at tags tag
  known-greatest tag = (greatest-told tag, told-greatest tag)

  pub none-known : (known_at key journal horizon at (Listed tags) ≡ None) ↔ ((t : ℕ) → Contains tags t → horizon ≤ t → t ≤ at → result_at key journal t ≢ result_at key journal at)
  none-known = (
    (λ told t among kept within same. none-there (filter (has_result_of key journal horizon at) tags) told t (filter-from (has_result_of key journal horizon at) tags t among (finds_same t kept within same))),
    (λ none. by none (known_at key journal horizon at (Listed tags)) refl),
  )
    where
      by : ((t : ℕ) → Contains tags t → horizon ≤ t → t ≤ at → result_at key journal t ≢ result_at key journal at) → (told : Option ℕ) → known_at key journal horizon at (Listed tags) ≡ told → told ≡ None
      by none None is = refl
      by none (Some tag) is = (let g = greatest-told tag is in absurd (none tag g.listed g.kept g.within g.same))
