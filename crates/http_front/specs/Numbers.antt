-- Believed. Decimal numbers in requests.
use Rattle.std.specs.Prelude.{ℕ, Bool, not, ◌&&◌, ◌||◌, ◌==◌, nat_le, nat_lt, if◌then◌else◌, List, length, slice_index, Option, Some, None}
use Rattle.std.specs.Char.{is_ascii_digit}
use Rattle.std.specs.List.{list_all}
use Rattle.std.specs.Str.Parse.{digits_value}

-- digits, of which the first is no zero where there are others
abbrev pub is_decimal : List ℕ → Bool
is_decimal text =
    nat_lt 0 (length text) && (length text == 1 || not (slice_index text 0 == 48)) && list_all is_ascii_digit text

-- the decimal number that the text is, where it fits 64 bits
unfoldable pub number_of : List ℕ → Option ℕ
number_of text =
    if is_decimal text && nat_le (digits_value 10 text) 18446744073709551615
    then Some (digits_value 10 text) else None
