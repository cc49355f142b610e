-- Believed. The fields of one number.
use Rattle.std.specs.Prelude.{ℕ, ◌-◌, ◌&&◌, ◌||◌, ◌==◌, nat_le, if◌then◌else◌, List, length, slice_index, ℤ, pos, negsuc, Result, Ok, Err}
use Rattle.query_lang.specs.Bytes.{is_digit}
use Rattle.query_lang.specs.declared.refusal.QueryRefusal.{QueryRefusal}
use Rattle.query_lang.specs.declared.refusal.QueryRefusal.TheVariants.{Syntax, BadNumber}
use Rattle.query_lang.specs.Lexing.{number_at}
use Rattle.query_lang.specs.Tokens.{Token, word, name, quoted, number, bad_number, sign, Lexeme, ends, found, unfinished, bad_text, unknown}

-- a number from `low` to `high`, after which `left` bytes of a text of `total` bytes are left
abbrev pub number_within : ℕ → ℕ → ℕ → ℕ → ℕ → ℤ → Result ℕ QueryRefusal
number_within field low high total left (pos n) =
    if nat_le low n && nat_le n high then (if left == 0 then Ok n else Err (Syntax field (total - left))) else Err (BadNumber field 0)
number_within field low high total left (negsuc n) = Err (BadNumber field 0)

-- the number that a token is
abbrev pub number_of_token : ℕ → ℕ → ℕ → ℕ → ℕ → Token → Result ℕ QueryRefusal
number_of_token field low high total left (number z) = number_within field low high total left z
number_of_token field low high total left bad_number = Err (BadNumber field 0)
number_of_token field low high total left (word reserved) = Err (Syntax field 0)
number_of_token field low high total left (name s) = Err (Syntax field 0)
number_of_token field low high total left (quoted s) = Err (Syntax field 0)
number_of_token field low high total left (sign s) = Err (Syntax field 0)

-- the number that a text begins with, and nothing after it
abbrev pub number_of_lexeme : ℕ → ℕ → ℕ → ℕ → Lexeme → Result ℕ QueryRefusal
number_of_lexeme field low high total ends = Err (Syntax field 0)
number_of_lexeme field low high total (found t from span rest) = number_of_token field low high total (length rest) t
number_of_lexeme field low high total (unfinished what left) = Err (Syntax field total)
number_of_lexeme field low high total (bad_text left there) = Err (Syntax field 0)
number_of_lexeme field low high total (unknown left) = Err (Syntax field 0)

-- the number from `low` to `high` that a text is, without blanks
unfoldable pub read_number : ℕ → ℕ → ℕ → List ℕ → Result ℕ QueryRefusal
read_number field low high bytes =
    if is_digit (slice_index bytes 0) || slice_index bytes 0 == 45 then number_of_lexeme field low high (length bytes) (number_at bytes)
    else Err (Syntax field 0)
