-- Entries at their places, in lists that grow.
use Rattle.std.proofs.Common.{◌≡◌, ◌≢◌, ℕ, zero, suc, ◌+◌, ◌<◌, ◌≤◌, List, [], ◌∷◌, ◌++◌, length, Some, slice_get, refl, sym, subst, arith, append_assoc, length-append}
use Rattle.std.specs.List.{enumerate_from}
use mathlib.Core.List.{IsPrefix}
use Rattle.turnstile.specs.Places.{AllOf, AreAt, Increasing, Distinct, Disjoint}
use Rattle.turnstile.proofs.Prefixes.{prefix_get}

pub all_map : {X : Type 0} (P Q : X → Type 0) → ((x : X) → P x → Q x) → (xs : List X) → AllOf P xs → AllOf Q xs
all_map P Q f [] a = tt
all_map P Q f (x ∷ xs) a = (f x a.0, all_map P Q f xs a.1)

pub all_append : {X : Type 0} (P : X → Type 0) (xs ys : List X) → AllOf P xs → AllOf P ys → AllOf P (xs ++ ys)
all_append P [] ys a b = b
all_append P (x ∷ xs) ys a b = (a.0, all_append P xs ys a.1 b)

pub all_left : {X : Type 0} (P : X → Type 0) (xs ys : List X) → AllOf P (xs ++ ys) → AllOf P xs
all_left P [] ys a = tt
all_left P (x ∷ xs) ys a = (a.0, all_left P xs ys a.1)

pub all_right : {X : Type 0} (P : X → Type 0) (xs ys : List X) → AllOf P (xs ++ ys) → AllOf P ys
all_right P [] ys a = a
all_right P (x ∷ xs) ys a = all_right P xs ys a.1

module _ {E : Type 0} where
  -- the history has this entry at its place
  abbrev pub At : List E → ℕ × E → Type 0
  At history p = slice_get history p.0 ≡ Some p.1

  abbrev pub Below : ℕ → ℕ × E → Type 0
  Below n p = p.0 < n

  abbrev pub From : ℕ → ℕ × E → Type 0
  From n p = n ≤ p.0

  abbrev pub Above : ℕ × E → ℕ × E → Type 0
  Above p q = p.0 < q.0

  abbrev pub Other : ℕ × E → ℕ × E → Type 0
  Other p q = p.0 ≢ q.0

  pub stand_longer : (h l : List E) (ps : List (ℕ × E)) → IsPrefix h l → AreAt h ps → AreAt l ps
  stand_longer h l ps grew = all_map (At h) (At l) (λ p at. prefix_get h l p.0 p.1 grew at) ps

  get_below : (h : List E) (n : ℕ) (e : E) → slice_get h n ≡ Some e → n < length h
  get_below [] n e at = absurd cc
  get_below (x ∷ h) zero e at = omega arith
  get_below (x ∷ h) (suc n) e at = omega (arith, get_below h n e at)

  -- the places of entries of a history are below its length
  pub stand_below : (h : List E) (ps : List (ℕ × E)) → AreAt h ps → AllOf (Below (length h)) ps
  stand_below h ps = all_map (At h) (Below (length h)) (λ p at. get_below h p.0 p.1 at) ps

  pub places_from : (n : ℕ) (es : List E) → AllOf (From n) (enumerate_from n es)
  places_from n [] = tt
  places_from n (e ∷ es) = (omega arith, all_map (From (n + 1)) (From n) (λ p at. omega arith) (enumerate_from (n + 1) es) (places_from (n + 1) es))

  pub places_rise : (n : ℕ) (es : List E) → Increasing (enumerate_from n es)
  places_rise n [] = tt
  places_rise n (e ∷ es) = (all_map (From (n + 1)) (Above (n, e)) (λ p at. omega arith) (enumerate_from (n + 1) es) (places_from (n + 1) es), places_rise (n + 1) es)

  below_above : (n : ℕ) (ps qs : List (ℕ × E)) → AllOf (Below n) ps → AllOf (From n) qs → AllOf (λ p. AllOf (Above p) qs) ps
  below_above n ps qs a b = all_map (Below n) (λ p. AllOf (Above p) qs) (λ p below. all_map (From n) (Above p) (λ q from. omega arith) qs b) ps a

  rises_append : (ps qs : List (ℕ × E)) → Increasing ps → Increasing qs → AllOf (λ p. AllOf (Above p) qs) ps → Increasing (ps ++ qs)
  rises_append [] qs a b c = b
  rises_append (p ∷ ps) qs a b c = (all_append (Above p) ps qs a.0 c.0, rises_append ps qs a.1 b c.1)

  -- places of a history and of what is appended to it increase
  pub rises_on : (h : List E) (ps : List (ℕ × E)) (es : List E) → AreAt h ps → Increasing ps → Increasing (ps ++ enumerate_from (length h) es)
  rises_on h ps es at rises =
      rises_append ps (enumerate_from (length h) es) rises (places_rise (length h) es) (below_above (length h) ps (enumerate_from (length h) es) (stand_below h ps at) (places_from (length h) es))

  pub away_back : (ps qs : List (ℕ × E)) → Disjoint ps qs → Disjoint qs ps
  away_back ps [] a = tt
  away_back ps (q ∷ qs) a = (
    all_map (λ p. AllOf (Other p) (q ∷ qs)) (Other q) (λ p at e. at.0 (sym e)) ps a,
    away_back ps qs (all_map (λ p. AllOf (Other p) (q ∷ qs)) (λ p. AllOf (Other p) qs) (λ p at. at.1) ps a),
  )

  pub away_none : (ps : List (ℕ × E)) → Disjoint ps []
  away_none [] = tt
  away_none (p ∷ ps) = (tt, away_none ps)

  pub away_left : (ps qs rs : List (ℕ × E)) → Disjoint ps rs → Disjoint qs rs → Disjoint (ps ++ qs) rs
  away_left ps qs rs = all_append (λ p. AllOf (Other p) rs) ps qs

  pub away_right : (ps qs rs : List (ℕ × E)) → Disjoint ps qs → Disjoint ps rs → Disjoint ps (qs ++ rs)
  away_right [] qs rs a b = tt
  away_right (p ∷ ps) qs rs a b = (all_append (Other p) qs rs a.0 b.0, away_right ps qs rs a.1 b.1)

  pub away_first : (ps qs rs : List (ℕ × E)) → Disjoint (ps ++ qs) rs → Disjoint ps rs
  away_first ps qs rs = all_left (λ p. AllOf (Other p) rs) ps qs

  pub away_second : (ps qs rs : List (ℕ × E)) → Disjoint (ps ++ qs) rs → Disjoint qs rs
  away_second ps qs rs = all_right (λ p. AllOf (Other p) rs) ps qs

  -- entries of a history have other places than what is appended
  pub away_behind : (h : List E) (ps : List (ℕ × E)) (es : List E) → AreAt h ps → Disjoint ps (enumerate_from (length h) es)
  away_behind h ps es at = let qs : List (ℕ × E) = enumerate_from (length h) es in
      all_map (λ p. AllOf (Above p) qs) (λ p. AllOf (Other p) qs) (λ p above. all_map (Above p) (Other p) (λ q less e. omega arith) qs above) ps
      (below_above (length h) ps qs (stand_below h ps at) (places_from (length h) es))

  pub once_append : (ps qs : List (ℕ × E)) → Distinct ps → Distinct qs → Disjoint ps qs → Distinct (ps ++ qs)
  once_append [] qs a b c = b
  once_append (p ∷ ps) qs a b c = (all_append (Other p) ps qs a.0 c.0, once_append ps qs a.1 b c.1)

  pub rises_once : (ps : List (ℕ × E)) → Increasing ps → Distinct ps
  rises_once [] a = tt
  rises_once (p ∷ ps) a = (all_map (Above p) (Other p) (λ q less e. omega arith) ps a.0, rises_once ps a.1)

  get_middle : (h : List E) (e : E) (es : List E) → slice_get (h ++ e ∷ es) (length h) ≡ Some e
  get_middle [] e es = refl
  get_middle (x ∷ h) e es = get_middle h e es

  -- what is appended to a history has the places from its length on
  pub places_stand : (h es : List E) → AreAt (h ++ es) (enumerate_from (length h) es)
  places_stand h [] = tt
  places_stand h (e ∷ es) = let whole : (h ++ e ∷ []) ++ es ≡ h ++ e ∷ es = append_assoc h (e ∷ []) es in
      let long : length (h ++ e ∷ []) ≡ length h + 1 = length-append h (e ∷ []) in (
        get_middle h e es,
        subst (λ l. AreAt l (enumerate_from (length h + 1) es)) whole (subst (λ n. AreAt ((h ++ e ∷ []) ++ es) (enumerate_from n es)) long (places_stand (h ++ e ∷ []) es)),
      )
