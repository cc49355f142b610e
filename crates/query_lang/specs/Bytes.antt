-- Believed. The bytes of the language.
use Rattle.std.specs.Prelude.{ℕ, Bool, ◌||◌, ◌&&◌, ◌==◌, nat_le, List, drop}
use Rattle.std.specs.List.{prefix_len}
use Rattle.query_lang.specs.declared.bytes.Class.{Class}
use Rattle.query_lang.specs.declared.bytes.Class.TheVariants.{Blank, Word, Digit}

-- space, tab, CR and LF
abbrev pub is_blank : ℕ → Bool
is_blank b = b == 32 || b == 9 || b == 13 || b == 10

-- a letter or `_`
abbrev pub is_letter : ℕ → Bool
is_letter b = nat_le 97 b && nat_le b 122 || nat_le 65 b && nat_le b 90 || b == 95

-- `0` to `9`
abbrev pub is_digit : ℕ → Bool
is_digit b = nat_le 48 b && nat_le b 57

-- what may follow the first letter of a word
abbrev pub is_word_byte : ℕ → Bool
is_word_byte b = is_letter b || is_digit b

-- which bytes a class has
abbrev pub class_test : Class → ℕ → Bool
class_test Blank = is_blank
class_test Word = is_word_byte
class_test Digit = is_digit

-- the text from its first byte on that is no blank
abbrev pub after_blanks : List ℕ → List ℕ
after_blanks text = drop (prefix_len is_blank text) text
