-- Internal. How tokens are written, and which texts are written with which tokens.
use Rattle.std.specs.Prelude.{◌≡◌, ℕ, Bool, true, not, ◌==◌, List, [], ◌∷◌, ◌++◌, slice_index, codes}
use Rattle.std.specs.List.{list_all}
use Rattle.std.specs.Fmt.{signed_decimal}
use Rattle.query_core.specs.Print.{is_bare, op_text, quoted as quoted_text}
use Rattle.query_core.specs.declared.operator.Op.TheVariants.{Less, Greater}
use Rattle.query_lang.specs.Bytes.{is_blank, is_digit, is_word_byte}
use Rattle.query_lang.specs.Lexing.{fits}
use Rattle.query_lang.specs.declared.token.Reserved.{Reserved}
use Rattle.query_lang.specs.declared.token.Reserved.TheVariants.{And, Or, Not, In, Has, Exists, True, False, Null, Asc, Desc}
use Rattle.query_lang.specs.declared.token.Sign.{Sign}
use Rattle.query_lang.specs.declared.token.Sign.TheVariants.{Compare, Open, Close, OpenList, CloseList, Comma, Dot}
use Rattle.query_lang.specs.Tokens.{Token, word, name, quoted, number, bad_number, sign}

-- a reserved word
abbrev pub word_text : Reserved → List ℕ
word_text And = codes "and"
word_text Or = codes "or"
word_text Not = codes "not"
word_text In = codes "in"
word_text Has = codes "has"
word_text Exists = codes "exists"
word_text True = codes "true"
word_text False = codes "false"
word_text Null = codes "null"
word_text Asc = codes "asc"
word_text Desc = codes "desc"

-- a sign
abbrev pub sign_text : Sign → List ℕ
sign_text (Compare op) = op_text op
sign_text Open = codes "("
sign_text Close = codes ")"
sign_text OpenList = codes "["
sign_text CloseList = codes "]"
sign_text Comma = codes ","
sign_text Dot = codes "."

-- The one spelling of a token. A number is in decimal without leading zeros; in quotes a quote, a backslash and each
-- control character are escaped, and all else is itself. A refused number is no token of the grammar.
abbrev pub spelled : Token → List ℕ
spelled (word reserved) = word_text reserved
spelled (name s) = s
spelled (quoted s) = quoted_text s
spelled (number z) = signed_decimal z
spelled bad_number = []
spelled (sign s) = sign_text s

-- A name is a word that is not reserved, and a number fits 64 bits with a sign.
abbrev pub IsToken : Token → Type 0
IsToken (word reserved) = Unit {0}
IsToken (name s) = is_bare s ≡ true
IsToken (quoted s) = Unit {0}
IsToken (number z) = fits z ≡ true
IsToken bad_number = ⊥
IsToken (sign s) = Unit {0}

-- A token is as long as possible: no letter, digit or `_` follows a word, no digit follows a number, and no `=` follows
-- `<` or `>`.
abbrev pub ends_before : Token → List ℕ → Bool
ends_before (word reserved) rest = not (is_word_byte (slice_index rest 0))
ends_before (name s) rest = not (is_word_byte (slice_index rest 0))
ends_before (quoted s) rest = true
ends_before (number z) rest = not (is_digit (slice_index rest 0))
ends_before bad_number rest = true
ends_before (sign (Compare Less)) rest = not (slice_index rest 0 == 61)
ends_before (sign (Compare Greater)) rest = not (slice_index rest 0 == 61)
ends_before (sign s) rest = true

-- a token after these blanks, before this rest
pub record Begins (text blanks rest : List ℕ) (t : Token) : Type 0 where
  pub blank : list_all is_blank blanks ≡ true
  pub parts : text ≡ blanks ++ (spelled t ++ rest)
  pub is_token : IsToken t
  pub longest : ends_before t rest ≡ true

-- the text is written with these tokens, and with blanks between them
abbrev pub Tokenizes : List ℕ → List Token → Type 0
Tokenizes text [] = list_all is_blank text ≡ true
Tokenizes text (t ∷ ts) = (blanks rest : List ℕ) × Begins text blanks rest t × Tokenizes rest ts
