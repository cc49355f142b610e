-- The value of a field, decoded piece by piece between its `+`.
use Rattle.std.proofs.Common.{◌≡◌, ℕ, suc, ◌+◌, ◌*◌, ◌<◌, ◌≤◌, Bool, false, List, [], ◌∷◌, ◌++◌, length, map, drop, refl, sym, ◌∙◌, ap, inl, inr, arith, add-one, append_assoc}
use Rattle.std.proofs.lemmas.Bool.{cases_Bool}
use Rattle.std.specs.Char.{digit_value, is_digit}
use Rattle.std.specs.List.{position, position_or_len, before_first, after_first}
use Rattle.std.specs.Prelude.{◌==◌, ◌&&◌, Option, Some, None, option_map}
use Rattle.percent_encoding.specs.Percent.{is_escape, percent_decode, percent_sign}
use Rattle.http_front.specs.Query.{decoded, spaced}
use Rattle.http_front.specs.Target.{ahead_of, behind}
use Rattle.http_front.proofs.CutLemmas.{no_offset, offset_is}

-- a space begins no escape, and ends what may be one
begins_none : (rest : List ℕ) → percent_decode (32 ∷ rest) ≡ 32 ∷ percent_decode rest
unfolding percent_decode
begins_none [] = refl
begins_none (high ∷ []) = refl
begins_none (high ∷ low ∷ rest) = refl

none_of_high : (b low : ℕ) → is_escape b 32 low ≡ false
none_of_high b low =
    elim (cases_Bool (b == percent_sign)) [
      | inl found ↦ rw found refl
      | inr other ↦ rw other refl
    ]

none_of_low : (b high : ℕ) → is_escape b high 32 ≡ false
none_of_low b high =
    elim (cases_Bool (b == percent_sign && is_digit high 16)) [
      | inl found ↦ rw found refl
      | inr other ↦ rw other refl
    ]

-- so what is around it is decoded apart
around_space : (xs ys : List ℕ) → percent_decode (xs ++ 32 ∷ ys) ≡ percent_decode xs ++ 32 ∷ percent_decode ys
unfolding percent_decode
around_space [] ys = begins_none ys
around_space (b ∷ []) [] = refl
around_space (b ∷ []) (low ∷ ys) = rw (none_of_high b low) (ap (λ l. b ∷ l) (begins_none (low ∷ ys)))
around_space (b ∷ high ∷ []) ys = rw (none_of_low b high) (ap (λ l. b ∷ l) (around_space (high ∷ []) ys))
around_space (b ∷ high ∷ low ∷ rest) ys =
    elim (cases_Bool (is_escape b high low)) [
      | inl found ↦ rw found (ap (λ l. (16 * digit_value high + digit_value low) ∷ l) (around_space rest ys))
      | inr other ↦ rw other (ap (λ l. b ∷ l) (around_space (high ∷ low ∷ rest) ys))
    ]

one_more : (n : ℕ) → 1 + n ≡ suc n
one_more n = omega arith

abbrev is_plus : ℕ → Bool
is_plus byte = byte == 43

-- a text with a `+`
spaces_at : (xs : List ℕ) → position_or_len is_plus xs < length xs
    → map spaced xs ≡ before_first is_plus xs ++ 32 ∷ map spaced (after_first is_plus xs)
spaces_at [] low = absurd (omega (arith, low))
spaces_at (b ∷ xs) low =
    elim (cases_Bool (b == 43)) [
      | inl found ↦ rw found refl
      | inr other ↦ (
          let place = position_or_len is_plus xs in
          let less : place < length xs = omega (arith, (rw other at low)) in
          rw (other, one_more place, add-one (suc place)) (ap (λ l. b ∷ l) (rw (add-one place) at (spaces_at xs less)))
          )
    ]

-- and one without
spaces_nowhere : (xs : List ℕ) → length xs ≤ position_or_len is_plus xs → map spaced xs ≡ before_first is_plus xs
spaces_nowhere [] past = refl
spaces_nowhere (b ∷ xs) past =
    elim (cases_Bool (b == 43)) [
      | inl found ↦ absurd (omega (arith, (rw found at past)))
      | inr other ↦ (
          let place = position_or_len is_plus xs in
          let others : length xs ≤ place = omega (arith, (rw other at past)) in
          rw (other, one_more place) (ap (λ l. b ∷ l) (spaces_nowhere xs others))
          )
    ]

next_by : (rest others : List ℕ) (o : Option ℕ) → position is_plus rest ≡ o
    → option_map (λ offset. drop (offset + 1) rest) o ≡ Some others
    → map spaced rest ≡ ahead_of 43 rest ++ 32 ∷ map spaced others
next_by rest others None e is = absurd (cc)
next_by rest others (Some i) e is =
    let found = offset_is is_plus rest i e in
    let behind_is : drop (i + 1) rest ≡ others = cc in
    spaces_at rest (omega (arith, found.0, found.1))
    ∙ ap (λ ys. ahead_of 43 rest ++ 32 ∷ map spaced ys) (ap (λ k. drop (k + 1) rest) found.1 ∙ behind_is)

last_by : (rest : List ℕ) (o : Option ℕ) → position is_plus rest ≡ o → option_map (λ offset. drop (offset + 1) rest) o ≡ None
    → map spaced rest ≡ ahead_of 43 rest
last_by rest None e is = spaces_nowhere rest (no_offset is_plus rest e)
last_by rest (Some i) e is = absurd (cc)

-- a value with a `+` is decoded up to it, and goes on with a space
pub value_next : (prefix rest others : List ℕ) → behind 43 rest ≡ Some others
    → prefix ++ decoded rest ≡ (prefix ++ percent_decode (ahead_of 43 rest) ++ 32 ∷ []) ++ decoded others
unfolding decoded
value_next prefix rest others e =
    let whole : percent_decode (map spaced rest) ≡ percent_decode (ahead_of 43 rest) ++ 32 ∷ percent_decode (map spaced others) =
    ap percent_decode (next_by rest others (position is_plus rest) refl e) ∙ around_space (ahead_of 43 rest) (map spaced others) in
    ap (λ l. prefix ++ l) whole ∙ simp append_assoc refl

-- and without one to its end
pub value_last : (prefix rest : List ℕ) → behind 43 rest ≡ None
    → prefix ++ percent_decode (ahead_of 43 rest) ≡ prefix ++ decoded rest
unfolding decoded
value_last prefix rest e = ap (λ l. prefix ++ percent_decode l) (sym (last_by rest (position is_plus rest) refl e))
