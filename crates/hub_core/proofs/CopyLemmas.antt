-- The last copies of keys.
use Rattle.std.proofs.Common.{◌≡◌, ℕ, Bool, true, false, ◌&&◌, max, List, [], ◌∷◌, ◌++◌, Option, Some, None, if◌then◌else◌, refl, sym, ap, ◌∙◌, arith, inl, inr}
use Rattle.std.proofs.lemmas.Bool.{cases_Bool}
use Rattle.query_normal.specs.Keys.{same_key}
use Rattle.query_normal.specs.declared.key.KeyShape.{KeyShape}
use Rattle.issued_expiries.specs.Copies.{Copy, later_of, latest_where, SameCopies}

-- the later of two seconds, of which each may be missing
abbrev pub latest : Option ℕ → Option ℕ → Option ℕ
latest None other = other
latest (Some until) other = Some (later_of until other)

-- a copy's second, where the copy passes
abbrev pub passed : KeyShape → (ℕ → Bool) → Copy → Option ℕ
passed key test copy = if same_key key copy.0 && test copy.1 then Some copy.2 else None

-- one copy more
pub latest-cons : (key : KeyShape) (test : ℕ → Bool) (copy : Copy) (copies : List Copy) → latest_where key test (copy ∷ copies) ≡ latest (passed key test copy) (latest_where key test copies)
latest-cons key test copy copies =
    elim (cases_Bool (same_key key copy.0 && test copy.1)) [ inl hit ↦ rw hit refl | inr miss ↦ rw miss refl ]

-- a copy more, before others or behind them
turned : (o p : Option ℕ) → latest o p ≡ latest p o
turned None None = refl
turned None (Some n) = refl
turned (Some m) None = refl
turned (Some m) (Some n) = ap Some (let h : max m n ≡ max n m = omega arith in h)

regrouped : (o p q : Option ℕ) → latest (latest o p) q ≡ latest o (latest p q)
regrouped None p q = refl
regrouped (Some l) None q = refl
regrouped (Some l) (Some m) None = refl
regrouped (Some l) (Some m) (Some n) = ap Some (let h : max (max l m) n ≡ max l (max m n) = omega arith in h)

pub latest-append : (key : KeyShape) (test : ℕ → Bool) (some others : List Copy) → latest_where key test (some ++ others) ≡ latest (latest_where key test some) (latest_where key test others)
latest-append key test [] others = refl
latest-append key test (copy ∷ some) others =
    latest-cons key test copy (some ++ others)
    ∙ ap (latest (passed key test copy)) (latest-append key test some others)
    ∙ sym (regrouped (passed key test copy) (latest_where key test some) (latest_where key test others))
    ∙ ap (λ (o : Option ℕ). latest o (latest_where key test others)) (sym (latest-cons key test copy some))

pub same-more : (copy : Copy) (some others : List Copy) → SameCopies some others → SameCopies (copy ∷ some) (others ++ copy ∷ [])
same-more copy some others same key test =
    latest-cons key test copy some
    ∙ ap (latest (passed key test copy)) (same key test)
    ∙ turned (passed key test copy) (latest_where key test others)
    ∙ ap (latest (latest_where key test others)) (single (same_key key copy.0 && test copy.1))
    ∙ sym (latest-append key test others (copy ∷ []))
  where
    single : (b : Bool) → (if b then Some copy.2 else None) ≡ (if b then Some (later_of copy.2 None) else None)
    single true = refl
    single false = refl
