-- The values of fields are read as what they were printed of.
use Rattle.std.proofs.Common.{◌≡◌, ℕ, zero, suc, ◌+◌, ◌-◌, ◌/◌, ◌%◌, ◌<◌, ◌≤◌, ◌^◌, Bool, true, false, not, List, [], ◌∷◌, ◌++◌, length, take, get_or, map, reverse, refl, ◌∙◌, ap, arith, inl, inr, nat_lt, nat_le}
use Rattle.std.proofs.lemmas.Bool.{cases_Bool, and_parts, and_from, lt-ltb, le-leb, not-true}
use Rattle.std.proofs.lemmas.Bool.Decides.{nat_tests}
use Rattle.std.proofs.lemmas.Fmt.{decimal_nonempty, decimal_is_IsNumeral, length-decimal-le}
use Rattle.std.proofs.lemmas.List.{append_assoc, length-append, get_or-append_right, reverse-reverse, take_at}
use Rattle.std.proofs.lemmas.List.Elements.{All-head}
use Rattle.std.proofs.lemmas.List.Sums.{AllPass-from_list_all}
use Rattle.std.specs.Char.{is_ascii_digit}
use Rattle.std.specs.Fmt.{digits, digits_onto, digit_glyph}
use Rattle.std.specs.List.{list_all, slice_range}
use Rattle.std.specs.Prelude.{Option, Some, None, codes, decimal, option_map, option_and_then, ◌==◌, slice_index_or}
use Rattle.std.specs.Str.Parse.{digits_value}
use Rattle.httparse.specs.Grammar.{AllPass, is_ows, skip_ows, trim_ows}
use Rattle.httparse.proofs.TrimLemmas.{AllPass-reverse}
use Rattle.httpdate.specs.Date.{date_text, parse_secs, unix_secs, valid_secs}
use Rattle.httpdate.specs.Reader.{parse}
use Rattle.httpdate.specs.Text.{day_name, month_name, two_digits, four_digits, time_of_day}
use Rattle.httpdate.specs.Valid.{IsValid}
use Rattle.httpdate.specs.declared.date.HttpDate.{HttpDate}
use Rattle.httpdate.proofs.FormatLemmas.{parse_complete}
use Rattle.httpdate.proofs.ValidLemmas.{is_valid_complete}
use Rattle.http_front.specs.Date.{IsDateOf}
use Rattle.http_message.specs.Fields.{pieces_between}
use Rattle.client_wire.specs.Numbers.{is_number, number_within, number_in, length_in, date_in, tag_in, body_limit}
use Rattle.client_wire.specs.ReplyFields.{lifetime_by}

-- ---- numbers

glyph_digit : (d : ℕ) → d < 10 → is_ascii_digit (digit_glyph false d) ≡ true
glyph_digit d low =
    let small : nat_lt d 10 ≡ true = grind (arith, nat_tests) in
    rw small (grind (arith, nat_tests))

digits_pass : (k n : ℕ) (acc : List ℕ) → list_all is_ascii_digit acc ≡ true → list_all is_ascii_digit (digits_onto k 10 false n acc) ≡ true
digits_pass zero n acc e = e
digits_pass (suc k) n acc e =
    let first : list_all is_ascii_digit (digit_glyph false (n % 10) ∷ acc) ≡ true = and_from _ _ (glyph_digit (n % 10) (omega arith)) e in
    elim (cases_Bool (n / 10 == 0)) [
      | inl last ↦ rw last first
      | inr more ↦ rw more (digits_pass k (n / 10) (digit_glyph false (n % 10) ∷ acc) first)
    ]

-- a number is printed by digits
pub decimal_digits : (n : ℕ) → list_all is_ascii_digit (decimal n) ≡ true
unfolding digits
decimal_digits n = digits_pass 64 n [] refl

decimal_is_number : (n : ℕ) → n < 2 ^ 64 → is_number (decimal n) ≡ true
unfolding is_number
decimal_is_number n small = and_from _ _ (lt-ltb 0 (length (decimal n)) (decimal_nonempty n small)) (decimal_digits n)

-- and read as itself within a limit
pub decimal_within : (most n : ℕ) → n < 2 ^ 64 → n ≤ most → number_within most (decimal n) ≡ Some n
unfolding number_within
decimal_within most n small low =
    let number : is_number (decimal n) ≡ true = decimal_is_number n small in
    let value : digits_value 10 (decimal n) ≡ n = (decimal_is_IsNumeral n small).1 in
    let fits : nat_le n most ≡ true = le-leb n most low in
    rw (number, value, fits) refl

-- a number of 64 bits, where there is one
pub number_read : (o : Option ℕ) → ((n : ℕ) → o ≡ Some n → n < 2 ^ 64) → option_and_then number_in (option_map decimal o) ≡ o
number_read None small = refl
number_read (Some n) small = decimal_within 18446744073709551615 n (small n refl) (omega (arith, small n refl))

-- the length of a body
pub length_read : (n : ℕ) → n ≤ body_limit → length_in (decimal n) ≡ Some n
length_read n low =
    let short : nat_le (length (decimal n)) 19 ≡ true = le-leb (length (decimal n)) 19 (length-decimal-le 19 n (omega arith) (omega (arith, low)) (omega (arith, low))) in
    rw short (decimal_within body_limit n (omega (arith, low)) low)

-- ---- entity tags

quoted_read : (text : List ℕ) → tag_in (34 ∷ (text ++ 34 ∷ [])) ≡ number_in text
quoted_read text =
    let size : length (text ++ 34 ∷ []) ≡ length text + 1 = length-append text (34 ∷ []) in
    let long : nat_lt 1 (length (34 ∷ (text ++ 34 ∷ []))) ≡ true = lt-ltb 1 (length (34 ∷ (text ++ 34 ∷ []))) (omega (arith, size)) in
    let place : length (34 ∷ (text ++ 34 ∷ [])) - 1 ≡ length text + 1 = omega (arith, size) in
    let last : get_or (34 ∷ (text ++ 34 ∷ [])) (length text + 1) 0 ≡ 34 =
    get_or-append_right (34 ∷ text) (34 ∷ []) (length text + 1) (length text + 1) 0 (omega arith) (omega arith)
    ∙ (let none : length text + 1 - (length text + 1) ≡ 0 = omega arith in ap (λ i. get_or (34 ∷ []) i 0) none) in
    let between : slice_range (34 ∷ (text ++ 34 ∷ [])) 1 (length text + 1) ≡ text =
    (let count : length text + 1 - 1 ≡ length text = omega arith in ap (λ n. take n (text ++ 34 ∷ [])) count)
    ∙ take_at text (34 ∷ []) (length text) refl in
    rw (long, place, last, between) refl

-- a tag that names a commit, where there is one
pub tag_read : (n : ℕ) → n < 2 ^ 64 → tag_in (codes "\"" ++ (decimal n ++ codes "\"")) ≡ Some n
tag_read n small = quoted_read (decimal n) ∙ decimal_within 18446744073709551615 n small (omega (arith, small))

-- ---- dates

abbrev days : List (List ℕ)
days = codes "Mon" ∷ codes "Tue" ∷ codes "Wed" ∷ codes "Thu" ∷ codes "Fri" ∷ codes "Sat" ∷ codes "Sun" ∷ []

abbrev months : List (List ℕ)
months =
    codes "Jan" ∷ codes "Feb" ∷ codes "Mar" ∷ codes "Apr" ∷ codes "May" ∷ codes "Jun"
    ∷ codes "Jul" ∷ codes "Aug" ∷ codes "Sep" ∷ codes "Oct" ∷ codes "Nov" ∷ codes "Dec" ∷ []

day_length : (i : ℕ) → i < 7 → length (slice_index_or days i []) ≡ 3
day_length zero low = refl
day_length (suc zero) low = refl
day_length (suc (suc zero)) low = refl
day_length (suc (suc (suc zero))) low = refl
day_length (suc (suc (suc (suc zero)))) low = refl
day_length (suc (suc (suc (suc (suc zero))))) low = refl
day_length (suc (suc (suc (suc (suc (suc zero)))))) low = refl
day_length (suc (suc (suc (suc (suc (suc (suc i))))))) low = absurd (omega arith)

month_length : (i : ℕ) → i < 12 → length (slice_index_or months i []) ≡ 3
month_length zero low = refl
month_length (suc zero) low = refl
month_length (suc (suc zero)) low = refl
month_length (suc (suc (suc zero))) low = refl
month_length (suc (suc (suc (suc zero)))) low = refl
month_length (suc (suc (suc (suc (suc zero))))) low = refl
month_length (suc (suc (suc (suc (suc (suc zero)))))) low = refl
month_length (suc (suc (suc (suc (suc (suc (suc zero))))))) low = refl
month_length (suc (suc (suc (suc (suc (suc (suc (suc zero)))))))) low = refl
month_length (suc (suc (suc (suc (suc (suc (suc (suc (suc zero))))))))) low = refl
month_length (suc (suc (suc (suc (suc (suc (suc (suc (suc (suc zero)))))))))) low = refl
month_length (suc (suc (suc (suc (suc (suc (suc (suc (suc (suc (suc zero))))))))))) low = refl
month_length (suc (suc (suc (suc (suc (suc (suc (suc (suc (suc (suc (suc i)))))))))))) low = absurd (omega arith)

eight : (a b c d e f g h : List ℕ)
    → length (a ++ b ++ c ++ d ++ e ++ f ++ g ++ h) ≡ length a + length b + length c + length d + length e + length f + length g + length h
eight a b c d e f g h =
    omega (
      arith,
      length-append (a ++ b ++ c ++ d ++ e ++ f ++ g) h,
      length-append (a ++ b ++ c ++ d ++ e ++ f) g,
      length-append (a ++ b ++ c ++ d ++ e) f,
      length-append (a ++ b ++ c ++ d) e,
      length-append (a ++ b ++ c) d,
      length-append (a ++ b) c,
      length-append a b,
    )

-- the text of a date has 29 bytes
text_length : (d : HttpDate) → length (date_text d) ≡ 29
text_length d =
    let p = d.parts in
    let day : length (day_name p.wday) ≡ 3 = day_length (p.wday - 1) (omega (arith, d.right_day)) in
    let month : length (month_name p.mon) ≡ 3 = month_length (p.mon - 1) (omega (arith, d.civil.1.0, d.civil.1.1)) in
    let front = eight (day_name p.wday) (codes ", ") (two_digits p.day) (codes " ") (month_name p.mon) (codes " ") (four_digits p.year) (codes " ") in
    let whole = length-append (day_name p.wday ++ codes ", " ++ two_digits p.day ++ codes " " ++ month_name p.mon ++ codes " " ++ four_digits p.year ++ codes " " ++ time_of_day p) (codes " GMT") in
    let behind = length-append (day_name p.wday ++ codes ", " ++ two_digits p.day ++ codes " " ++ month_name p.mon ++ codes " " ++ four_digits p.year ++ codes " ") (time_of_day p) in
    omega (arith, day, month, front, behind, whole)

pub date_length : (seconds : ℕ) (date : List ℕ) → IsDateOf seconds date → length date ≡ 29
date_length seconds date is = ap length is.text_is ∙ text_length is.date

secs_read : (d : HttpDate) → parse_secs (date_text d) ≡ Some (unix_secs d)
secs_read d =
    let valid : IsValid d.parts = (d.civil, d.time, d.right_day) in
    let parsed : parse (date_text d) ≡ Some d.parts = parse_complete (date_text d) d.parts valid (inl refl) in
    let test = is_valid_complete d.parts valid in
    ap (option_and_then valid_secs) parsed ∙ rw test refl

-- and is read as its second
pub date_read : (seconds : ℕ) (date : List ℕ) → IsDateOf seconds date → date_in date ≡ Some seconds
date_read seconds date is =
    let long : (length date == 29) ≡ true = ap (λ (n : ℕ). n == 29) (date_length seconds date is) in
    rw long (ap parse_secs is.text_is ∙ secs_read is.date ∙ ap Some is.at)

-- ---- lifetimes

-- digits have no comma
one_piece : (text : List ℕ) → list_all is_ascii_digit text ≡ true → pieces_between 44 text ≡ text ∷ []
one_piece [] digit = refl
one_piece (b ∷ text) digit =
    let parts = and_parts (is_ascii_digit b) (list_all is_ascii_digit text) digit in
    let first = parts.0 in
    let other : (b == 44) ≡ false = grind (arith, nat_tests) in
    rw (other, one_piece text parts.1) refl

-- and are one piece ahead of one
piece_ahead : (text rest : List ℕ) → list_all is_ascii_digit text ≡ true → pieces_between 44 (text ++ (44 ∷ rest)) ≡ text ∷ pieces_between 44 rest
piece_ahead [] rest digit = refl
piece_ahead (b ∷ text) rest digit =
    let parts = and_parts (is_ascii_digit b) (list_all is_ascii_digit text) digit in
    let first = parts.0 in
    let other : (b == 44) ≡ false = grind (arith, nat_tests) in
    rw (other, piece_ahead text rest parts.1) refl

-- a byte of a directive that is printed
abbrev is_kept : ℕ → Bool
is_kept b = not (is_ows b)

digit_kept : (text : List ℕ) → list_all is_ascii_digit text ≡ true → list_all is_kept text ≡ true
digit_kept [] digit = refl
digit_kept (b ∷ text) digit =
    let parts = and_parts (is_ascii_digit b) (list_all is_ascii_digit text) digit in
    let first = parts.0 in
    let kept : is_kept b ≡ true = grind (arith, nat_tests) in
    and_from _ _ kept (digit_kept text parts.1)

skip_none : (text : List ℕ) → AllPass is_kept text → skip_ows text ≡ text
skip_none [] kept = refl
skip_none (b ∷ text) kept =
    let first : is_ows b ≡ false = not-true (is_ows b) (All-head (λ x. is_kept x ≡ true) b text kept) in
    rw first refl

trim_none : (text : List ℕ) → list_all is_kept text ≡ true → trim_ows text ≡ text
unfolding trim_ows
trim_none text kept =
    let all : AllPass is_kept text = AllPass-from_list_all is_kept text kept in
    let front : skip_ows text ≡ text = skip_none text all in
    let back : skip_ows (reverse text) ≡ reverse text = skip_none (reverse text) (AllPass-reverse is_kept text all) in
    rw (front, back) (reverse-reverse text)

-- the directives of a lifetime, as they are read
pub no_store_read : lifetime_by (map trim_ows (pieces_between 44 (codes "no-store") ++ [])) ≡ None
unfolding trim_ows
no_store_read = refl

seconds_read : (text : List ℕ) (n : ℕ) → number_within 4294967295 text ≡ Some n → lifetime_by ((codes "max-age=" ++ text) ∷ []) ≡ Some n
seconds_read text n is = rw is refl

pub max_age_read : (n : ℕ) → n < 2 ^ 32 → lifetime_by (map trim_ows (pieces_between 44 (codes "max-age=" ++ decimal n) ++ [])) ≡ Some n
max_age_read n small =
    let digits = decimal_digits n in
    let piece : pieces_between 44 (codes "max-age=" ++ decimal n) ≡ (codes "max-age=" ++ decimal n) ∷ [] = rw (one_piece (decimal n) digits) refl in
    let trimmed : trim_ows (codes "max-age=" ++ decimal n) ≡ codes "max-age=" ++ decimal n =
    trim_none (codes "max-age=" ++ decimal n) (digit_kept (decimal n) digits) in
    ap (λ (pieces : List (List ℕ)). lifetime_by (map trim_ows (pieces ++ []))) piece
    ∙ ap (λ (directive : List ℕ). lifetime_by (directive ∷ [])) trimmed
    ∙ seconds_read (decimal n) n (decimal_within 4294967295 n (omega (arith, small)) (omega (arith, small)))

shared_seconds : (text other : List ℕ) (n : ℕ) → number_within 4294967295 text ≡ Some n
    → lifetime_by (codes "public" ∷ (codes "max-age=" ++ text) ∷ (codes "s-maxage=" ++ other) ∷ []) ≡ Some n
shared_seconds text other n is = rw is refl

-- a lifetime beside one for shared caches
pub shared_read : (n m : ℕ) → n < 2 ^ 32
    → lifetime_by (map trim_ows (pieces_between 44 (((codes "public, max-age=" ++ decimal n) ++ codes ", ") ++ (codes "s-maxage=" ++ decimal m)) ++ [])) ≡ Some n
unfolding trim_ows
shared_read n m small =
    let first = decimal_digits n in
    let other = decimal_digits m in
    let parted : ((codes "public, max-age=" ++ decimal n) ++ codes ", ") ++ (codes "s-maxage=" ++ decimal m)
    ≡ codes "public, max-age=" ++ (decimal n ++ (44 ∷ (codes " s-maxage=" ++ decimal m))) =
    ap (λ (t : List ℕ). codes "public, max-age=" ++ t) (append_assoc (decimal n) (codes ", ") (codes "s-maxage=" ++ decimal m)) in
    let pieces : pieces_between 44 (codes "public, max-age=" ++ (decimal n ++ (44 ∷ (codes " s-maxage=" ++ decimal m))))
    ≡ codes "public" ∷ (codes " max-age=" ++ decimal n) ∷ (codes " s-maxage=" ++ decimal m) ∷ [] =
    rw (piece_ahead (decimal n) (codes " s-maxage=" ++ decimal m) first, one_piece (decimal m) other) refl in
    let age : trim_ows (codes " max-age=" ++ decimal n) ≡ codes "max-age=" ++ decimal n =
    trim_none (codes "max-age=" ++ decimal n) (digit_kept (decimal n) first) in
    let shared : trim_ows (codes " s-maxage=" ++ decimal m) ≡ codes "s-maxage=" ++ decimal m =
    trim_none (codes "s-maxage=" ++ decimal m) (digit_kept (decimal m) other) in
    ap (λ (text : List ℕ). lifetime_by (map trim_ows (pieces_between 44 text ++ []))) parted
    ∙ ap (λ (found : List (List ℕ)). lifetime_by (map trim_ows (found ++ []))) pieces
    ∙ ap (λ (directive : List ℕ). lifetime_by (codes "public" ∷ directive ∷ trim_ows (codes " s-maxage=" ++ decimal m) ∷ [])) age
    ∙ ap (λ (directive : List ℕ). lifetime_by (codes "public" ∷ (codes "max-age=" ++ decimal n) ∷ directive ∷ [])) shared
    ∙ shared_seconds (decimal n) (decimal m) n (decimal_within 4294967295 n (omega (arith, small)) (omega (arith, small)))
