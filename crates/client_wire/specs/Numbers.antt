-- Internal. Numbers, dates and entity tags in the fields of a reply.
use Rattle.std.specs.Prelude.{ℕ, ◌-◌, Bool, ◌&&◌, ◌==◌, nat_le, nat_lt, if◌then◌else◌, List, length, slice_index, Option, Some, None}
use Rattle.std.specs.Char.{is_ascii_digit}
use Rattle.std.specs.List.{list_all, slice_range}
use Rattle.std.specs.Str.Parse.{digits_value}
use Rattle.httpdate.specs.Date.{parse_secs}

-- the longest body that a client takes, in bytes
abbrev pub body_limit : ℕ
body_limit = 134217730

-- one digit or more
unfoldable pub is_number : List ℕ → Bool
is_number text = nat_lt 0 (length text) && list_all is_ascii_digit text

-- the decimal number that the text is, where it is at most this one; it may begin with zeros
unfoldable pub number_within : ℕ → List ℕ → Option ℕ
number_within most text =
    if is_number text && nat_le (digits_value 10 text) most then Some (digits_value 10 text) else None

-- a number of 64 bits
abbrev pub number_in : List ℕ → Option ℕ
number_in text = number_within 18446744073709551615 text

-- the length of a body: 1 to 19 digits, and within the limit
abbrev pub length_in : List ℕ → Option ℕ
length_in text = if nat_le (length text) 19 then number_within body_limit text else None

-- the second at which a date begins, where the text is an IMF-fixdate (RFC 9110, section 5.6.7): of the three
-- forms of a date it alone has 29 bytes
abbrev pub date_in : List ℕ → Option ℕ
date_in text = if length text == 29 then parse_secs text else None

-- the commit that an entity tag names: a number of 64 bits in double quotes
abbrev pub tag_in : List ℕ → Option ℕ
tag_in text =
    if nat_lt 1 (length text) && (slice_index text 0 == 34) && (slice_index text (length text - 1) == 34)
    then number_in (slice_range text 1 (length text - 1)) else None
