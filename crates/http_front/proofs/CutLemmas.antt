-- Texts cut at the first byte that passes a test.
use Rattle.std.proofs.Common.{◌≡◌, ℕ, ◌+◌, ◌<◌, ◌≤◌, Bool, true, false, List, [], ◌∷◌, length, take, drop, refl, sym, ◌∙◌, ap, arith, length-drop}
use Rattle.std.proofs.lemmas.Bool.{ltb-true, ltb-false}
use Rattle.std.proofs.lemmas.List.{take_all, drop_all}
use Rattle.std.proofs.lemmas.List.Elements.{All-from_get_or}
use Rattle.std.proofs.lemmas.List.Sums.{fails_before_first}
use Rattle.std.proofs.lemmas.List.Splits.{slice_split_first, slice_split_none}
use Rattle.std.proofs.lemmas.Option.{cond_some}
use Rattle.std.specs.List.{position, position_or_len, after_first, slice_split}
use Rattle.std.specs.Prelude.{◌==◌, nat_lt, cond, Option, Some, None, option_map}
use Rattle.http_front.specs.Target.{ahead_of, after, behind}

-- the first place that passes
pub offset_is : (p : ℕ → Bool) (xs : List ℕ) (i : ℕ) → position p xs ≡ Some i → (i < length xs) × (position_or_len p xs ≡ i)
offset_is p xs i e =
    let found = cond_some (nat_lt (position_or_len p xs) (length xs)) (position_or_len p xs) i e in
    let below = ltb-true (position_or_len p xs) (length xs) found.0 in
    (omega (arith, found.1), found.1)

none_some : (b : Bool) (x : ℕ) → ◌≡◌ {A = Option ℕ} (cond b (Some x) None) None → b ≡ false
none_some true x e = absurd (cc)
none_some false x e = refl

-- no place passes
pub no_offset : (p : ℕ → Bool) (xs : List ℕ) → position p xs ≡ None → length xs ≤ position_or_len p xs
no_offset p xs e =
    ltb-false (position_or_len p xs) (length xs) (none_some (nat_lt (position_or_len p xs) (length xs)) (position_or_len p xs) e)

-- a text with its first separator at an offset
pub ahead_at : (separator : ℕ) (xs : List ℕ) (i : ℕ) → position (λ byte. byte == separator) xs ≡ Some i
    → take i xs ≡ ahead_of separator xs
ahead_at separator xs i e =
    ap (λ k. take k xs) (sym (offset_is (λ byte. byte == separator) xs i e).1)

-- a text without the separator
pub ahead_of_none : (separator : ℕ) (xs : List ℕ) → position (λ byte. byte == separator) xs ≡ None → xs ≡ ahead_of separator xs
ahead_of_none separator xs e =
    sym (take_all (position_or_len (λ byte. byte == separator) xs) xs (no_offset (λ byte. byte == separator) xs e))

-- the parts of a text, by its first separator
pub record Parted (separator : ℕ) (xs others : List ℕ) : Type 0 where
  pub split : slice_split (λ byte. byte == separator) xs ≡ ahead_of separator xs ∷ slice_split (λ byte. byte == separator) others
  pub less : length others < length xs

parted_by : (separator : ℕ) (xs others : List ℕ) (o : Option ℕ) → position (λ byte. byte == separator) xs ≡ o
    → option_map (λ offset. drop (offset + 1) xs) o ≡ Some others → Parted separator xs others
parted_by separator xs others None e is = absurd (cc)
parted_by separator xs others (Some i) e is =
    let p : ℕ → Bool = λ byte. byte == separator in
    let found = offset_is p xs i e in
    let rest : drop (i + 1) xs ≡ others = cc in
    let behind_is : after_first p xs ≡ others = ap (λ k. drop (k + 1) xs) found.1 ∙ rest in
    let below : position_or_len p xs < length xs = omega (arith, found.0, found.1) in
    record {
      split = slice_split_first p xs 0 below ∙ ap (λ ys. ahead_of separator xs ∷ slice_split p ys) behind_is;
      less = rw (← rest) (omega (arith, length-drop (i + 1) xs, found.0));
    }

pub parted : (separator : ℕ) (xs others : List ℕ) → behind separator xs ≡ Some others → Parted separator xs others
parted separator xs others e = parted_by separator xs others (position (λ byte. byte == separator) xs) refl e

map_none : (f : ℕ → List ℕ) (o : Option ℕ) → option_map f o ≡ None → o ≡ None
map_none f None e = refl
map_none f (Some i) e = absurd (cc)

-- without a separator the text is one part
pub whole : (separator : ℕ) (xs : List ℕ) → behind separator xs ≡ None
    → slice_split (λ byte. byte == separator) xs ≡ ahead_of separator xs ∷ []
whole separator xs e =
    let p : ℕ → Bool = λ byte. byte == separator in
    let none = map_none (λ offset. drop (offset + 1) xs) (position p xs) e in
    let past = no_offset p xs none in
    slice_split_none p xs (All-from_get_or (λ x. p x ≡ false) xs 0 (λ k low. fails_before_first p xs k 0 (omega (arith, past))))
    ∙ ap (λ ys. ys ∷ []) (ahead_of_none separator xs none)

-- what follows the first separator at an offset
pub after_at : (separator : ℕ) (xs : List ℕ) (i : ℕ) → position (λ byte. byte == separator) xs ≡ Some i
    → drop (i + 1) xs ≡ after separator xs
after_at separator xs i e = ap (λ k. drop (k + 1) xs) (sym (offset_is (λ byte. byte == separator) xs i e).1)

-- nothing follows where there is no separator
pub after_none : (separator : ℕ) (xs : List ℕ) → position (λ byte. byte == separator) xs ≡ None → [] ≡ after separator xs
after_none separator xs e =
    let p : ℕ → Bool = λ byte. byte == separator in
    sym (drop_all (position_or_len p xs + 1) xs (omega (arith, no_offset p xs e)))
