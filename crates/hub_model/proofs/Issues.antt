-- What a read leaves of the copies and their untils.
use Rattle.std.proofs.Common.{◌≡◌, ℕ, zero, suc, ◌+◌, ◌<◌, ◌≤◌, max, Bool, true, false, cond, ◌&&◌, List, [], ◌∷◌, ◌++◌, map, filter, refl, sym, ap, ◌∙◌, arith}
use Rattle.std.specs.Prelude.{nat_lt, if◌then◌else◌}
use Rattle.std.proofs.lemmas.Bool.{lt-ltb, ltb-true}
use Rattle.std.proofs.lemmas.List.Elements.{filter-append}
use Rattle.query_normal.specs.declared.key.KeyShape.{KeyShape}
use Rattle.query_normal.specs.Keys.{same_key}
use Rattle.hub_model.specs.Copies.{issues, is_live, live}
use Rattle.hub_model.specs.Lifetime.{ttl_of, kept_for}
use Rattle.hub_model.specs.Record.{is_outdated_in}
use Rattle.hub_model.specs.Setting.{Setting}
use Rattle.hub_model.specs.State.{IssuedCopy, State, until_of}
use Rattle.hub_model.specs.Step.{copy_of_read, has_read}
use Rattle.hub_model.specs.Until.{greatest, until_among, until_of_outdated}
use Rattle.hub_model.proofs.Recorded.{not_outdated}

-- some cache may keep a reply where its lifetime is above 0
pub kept-some : (g : Setting) (ttl : ℕ) → nat_lt 0 (kept_for g ttl) ≡ nat_lt 0 ttl
kept-some g zero = refl
kept-some g (suc n) = lt-ltb 0 (kept_for g (suc n)) (omega arith) ∙ sym (lt-ltb 0 (suc n) (omega arith))

-- a copy that is issued now is unexpired where it has a lifetime at all
live_one : (b : Bool) (clock : ℕ) (r : IssuedCopy) → nat_lt 0 r.ttl ≡ b → r.clock ≡ clock → filter (is_live clock) (cond b (r ∷ []) []) ≡ cond b (r ∷ []) []
live_one true clock r some now = (
    let above : clock < until_of r = (let t : 0 < r.ttl = ltb-true 0 r.ttl some in omega (arith, t, now)) in
    ap (λ (b : Bool). cond b (r ∷ []) []) (lt-ltb clock (until_of r) above))
live_one false clock r some now = refl

-- one copy more that is issued now
pub live-more : (s : State) (r : IssuedCopy) → r.clock ≡ s.clock → live (record s { copies = s.copies ++ r ∷ [] }) ≡ live s ++ (if nat_lt 0 r.ttl then r ∷ [] else [])
live-more s r now =
    ap (filter (is_live s.clock)) (filter-append (λ r. nat_lt 0 r.ttl) s.copies (r ∷ []))
    ∙ filter-append (is_live s.clock) (issues s) (filter (λ r. nat_lt 0 r.ttl) (r ∷ []))
    ∙ ap (λ (l : List IssuedCopy). live s ++ l) (live_one (nat_lt 0 r.ttl) s.clock r refl now)

-- a read issues one copy, behind those there were
pub live-read : (g : Setting) (s : State) (key : KeyShape) (at : ℕ) → live (has_read g key at s) ≡ live s ++ (if nat_lt 0 (ttl_of g s key at) then copy_of_read g s key at ∷ [] else [])
live-read g s key at =
    let r : IssuedCopy = copy_of_read g s key at in
    live-more s r refl
    ∙ ap (λ (b : Bool). live s ++ cond b (r ∷ []) []) (kept-some g (ttl_of g s key at))

greatest-append : (ns ms : List ℕ) → greatest (ns ++ ms) ≡ max (greatest ns) (greatest ms)
greatest-append [] ms = omega arith
greatest-append (n ∷ ns) ms = (let rest = greatest-append ns ms in omega (arith, rest))

map-append : {X Y : Type 0} (f : X → Y) (xs ys : List X) → map f (xs ++ ys) ≡ map f xs ++ map f ys
map-append f [] ys = refl
map-append f (x ∷ xs) ys = ap (λ l. f x ∷ l) (map-append f xs ys)

-- the greatest until of two lists of copies
until-append : (key : KeyShape) (test : IssuedCopy → Bool) (rs others : List IssuedCopy) → until_among key test (rs ++ others) ≡ max (until_among key test rs) (until_among key test others)
until-append key test rs others =
    let p : IssuedCopy → Bool = λ r. same_key key r.key && test r in
    ap (λ (l : List IssuedCopy). greatest (map until_of l)) (filter-append p rs others)
    ∙ ap greatest (map-append until_of (filter p rs) (filter p others))
    ∙ greatest-append (map until_of (filter p rs)) (map until_of (filter p others))

-- the until of the copy that a read issues, for a key and a test
one_until : (a b : Bool) (key : KeyShape) (test : IssuedCopy → Bool) (r : IssuedCopy) → (same_key key r.key && test r) ≡ b → until_among key test (if a then r ∷ [] else []) ≡ (if a && b then until_of r else 0)
one_until true true key test r passes = ap (λ (b : Bool). greatest (map until_of (cond b (r ∷ []) []))) passes ∙ (let h : max (until_of r) 0 ≡ until_of r = omega arith in h)
one_until true false key test r passes = ap (λ (b : Bool). greatest (map until_of (cond b (r ∷ []) []))) passes
one_until false b key test r passes = refl

-- a read raises the untils of the tests that its copy passes
pub until-read : (g : Setting) (s : State) (key : KeyShape) (at : ℕ) (other : KeyShape) (test : IssuedCopy → Bool) → until_among other test (live (has_read g key at s)) ≡ max (until_among other test (live s)) (if nat_lt 0 (ttl_of g s key at) && (same_key other key && test (copy_of_read g s key at)) then s.clock + kept_for g (ttl_of g s key at) else 0)
until-read g s key at other test =
    let r : IssuedCopy = copy_of_read g s key at in
    ap (until_among other test) (live-read g s key at)
    ∙ until-append other test (live s) (if nat_lt 0 (ttl_of g s key at) then r ∷ [] else [])
    ∙ ap (max (until_among other test (live s))) (one_until (nat_lt 0 (ttl_of g s key at)) (same_key other key && test r) other test r refl)

-- a read at the front or above it leaves how long each key stays in the record
pub outdated_until-read : (g : Setting) (s : State) (key : KeyShape) (at : ℕ) (other : KeyShape) → s.front ≤ at → until_of_outdated (has_read g key at s) other ≡ until_of_outdated s other
outdated_until-read g s key at other h =
    until-read g s key at other (is_outdated_in s)
    ∙ nothing (nat_lt 0 (ttl_of g s key at)) (same_key other key) (is_outdated_in s (copy_of_read g s key at)) (until_of_outdated s other) (s.clock + kept_for g (ttl_of g s key at)) (not_outdated key at s.journal s.front h)
  where
    nothing : (a b c : Bool) (old new : ℕ) → c ≡ false → max old (if a && (b && c) then new else 0) ≡ old
    nothing a b true old new e = cc
    nothing true true false old new e = omega arith
    nothing true false false old new e = omega arith
    nothing false b false old new e = omega arith
