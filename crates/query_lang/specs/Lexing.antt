-- Believed. What comes next in a text.
use Rattle.std.specs.Prelude.{ℕ, ◌+◌, ◌^◌, Bool, ◌&&◌, ◌||◌, ◌==◌, nat_lt, if◌then◌else◌, List, length, take, drop, slice_index, codes, Option, Some, None, ℤ, pos, negsuc}
use Rattle.std.specs.List.{prefix_len}
use Rattle.std.specs.Str.{bytes_eq}
use Rattle.std.specs.Str.Parse.{signed_digits_value}
use Rattle.query_core.specs.declared.operator.Op.TheVariants.{Equal, Unequal, Less, AtMost, Greater, AtLeast}
use Rattle.query_lang.specs.Bytes.{is_letter, is_digit, is_word_byte, after_blanks}
use Rattle.query_lang.specs.Quoted.{QuotedScan, closed, open_end, bad, scan, unescaped}
use Rattle.query_lang.specs.Tokens.{Token, word, name, quoted, number, bad_number, sign, Lexeme, ends, found, unfinished, bad_text, unknown}
use Rattle.query_lang.specs.declared.token.Reserved.{Reserved}
use Rattle.query_lang.specs.declared.token.Reserved.TheVariants.{And, Or, Not, In, Has, Exists, True, False, Null, Asc, Desc}
use Rattle.query_lang.specs.declared.token.Sign.{Sign}
use Rattle.query_lang.specs.declared.token.Sign.TheVariants.{Compare, Open, Close, OpenList, CloseList, Comma, Dot}
use Rattle.query_lang.specs.declared.token.Beginning.TheVariants.{Text, Number, Unequal as UnequalSign}

-- ---- words

-- the reserved word of these bytes, if one is
abbrev pub reserved_of : List ℕ → Option Reserved
reserved_of s =
    if bytes_eq s (codes "and") then Some And
    else (if bytes_eq s (codes "or") then Some Or
    else (if bytes_eq s (codes "not") then Some Not
    else (if bytes_eq s (codes "in") then Some In
    else (if bytes_eq s (codes "has") then Some Has
    else (if bytes_eq s (codes "exists") then Some Exists
    else (if bytes_eq s (codes "true") then Some True
    else (if bytes_eq s (codes "false") then Some False
    else (if bytes_eq s (codes "null") then Some Null
    else (if bytes_eq s (codes "asc") then Some Asc
    else (if bytes_eq s (codes "desc") then Some Desc else None))))))))))

-- the token of a word, given which reserved word it is
abbrev pub token_of_word : List ℕ → Option Reserved → Token
token_of_word s (Some reserved) = word reserved
token_of_word s None = name s

-- the token of a word
abbrev pub word_token : List ℕ → Token
word_token s = token_of_word s (reserved_of s)

-- ---- numbers

-- 1 where a text begins with `-`
abbrev pub minus_len : List ℕ → ℕ
minus_len bytes = if slice_index bytes 0 == 45 then 1 else 0

-- a number fits 64 bits with a sign
abbrev pub fits : ℤ → Bool
fits (pos n) = nat_lt n (2 ^ 63)
fits (negsuc n) = nat_lt n (2 ^ 63)

-- the token of a numeral: leading zeros and `-0` are refused, and what does not fit
abbrev pub number_token : List ℕ → Token
number_token span =
    if nat_lt 1 (length span) && slice_index span (minus_len span) == 48 then bad_number
    else (if fits (signed_digits_value 10 span) then number (signed_digits_value 10 span) else bad_number)

-- what begins with a digit or `-`, given the number of digits
abbrev pub number_of_digits : List ℕ → ℕ → Lexeme
number_of_digits bytes count =
    if nat_lt 0 count then found (number_token (take (minus_len bytes + count) bytes)) (length bytes) (take (minus_len bytes + count) bytes) (drop (minus_len bytes + count) bytes)
    else (if length (drop (minus_len bytes) bytes) == 0 then unfinished Number (length bytes) else unknown (length bytes))

-- what begins with a digit or `-`
abbrev pub number_at : List ℕ → Lexeme
number_at bytes = number_of_digits bytes (prefix_len is_digit (drop (minus_len bytes) bytes))

-- ---- texts in quotes

-- what begins with a quote, given how it continues after it
abbrev pub by_scan : List ℕ → QuotedScan → Lexeme
by_scan bytes (closed body) = found (quoted (unescaped 0 body)) (length bytes) (take (length body + 2) bytes) (drop (length body + 2) bytes)
by_scan bytes open_end = unfinished Text (length bytes)
by_scan bytes (bad at) = bad_text (length bytes) (length at)

-- what begins with a quote
abbrev pub quoted_at : List ℕ → Lexeme
quoted_at bytes = by_scan bytes (scan 0 (drop 1 bytes))

-- ---- signs

-- the sign that begins with this byte, which the next one follows, and its length
abbrev pub sign_at : ℕ → ℕ → Option (Sign × ℕ)
sign_at b next =
    if b == 61 then Some (Compare Equal, 1)
    else (if b == 33 && next == 61 then Some (Compare Unequal, 2)
    else (if b == 60 && next == 61 then Some (Compare AtMost, 2)
    else (if b == 60 then Some (Compare Less, 1)
    else (if b == 62 && next == 61 then Some (Compare AtLeast, 2)
    else (if b == 62 then Some (Compare Greater, 1)
    else (if b == 40 then Some (Open, 1)
    else (if b == 41 then Some (Close, 1)
    else (if b == 91 then Some (OpenList, 1)
    else (if b == 93 then Some (CloseList, 1)
    else (if b == 44 then Some (Comma, 1)
    else (if b == 46 then Some (Dot, 1) else None)))))))))))

-- what begins with another byte, given its sign
abbrev pub by_sign : List ℕ → Option (Sign × ℕ) → Lexeme
by_sign bytes (Some p) = found (sign p.0) (length bytes) (take p.1 bytes) (drop p.1 bytes)
by_sign bytes None = if slice_index bytes 0 == 33 && length bytes == 1 then unfinished UnequalSign 1 else unknown (length bytes)

-- what begins with another byte
abbrev pub sign_lexeme : List ℕ → Lexeme
sign_lexeme bytes = by_sign bytes (sign_at (slice_index bytes 0) (slice_index bytes 1))

-- ---- any of them

-- what a text that begins with no blank begins with
abbrev pub lexeme_at : List ℕ → Lexeme
lexeme_at bytes =
    if length bytes == 0 then ends
    else (if is_letter (slice_index bytes 0) then found (word_token (take (prefix_len is_word_byte bytes) bytes)) (length bytes) (take (prefix_len is_word_byte bytes) bytes) (drop (prefix_len is_word_byte bytes) bytes)
    else (if is_digit (slice_index bytes 0) || slice_index bytes 0 == 45 then number_at bytes
    else (if slice_index bytes 0 == 34 then quoted_at bytes
    else sign_lexeme bytes)))

-- what comes next in a text, past blanks
unfoldable pub lexeme : List ℕ → Lexeme
lexeme text = lexeme_at (after_blanks text)
