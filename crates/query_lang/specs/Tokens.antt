-- Believed. The tokens of filters and orders.
use Rattle.std.specs.Prelude.{ℕ, ℤ, List}
use Rattle.query_lang.specs.declared.token.Reserved.{Reserved}
use Rattle.query_lang.specs.declared.token.Sign.{Sign}
use Rattle.query_lang.specs.declared.token.Beginning.{Beginning}

-- a reserved word, another word, a text that stood in quotes, a number that fits, one that is refused, or a sign
pub data Token : Type 0 where
  word : Reserved → Token
  name : List ℕ → Token
  quoted : List ℕ → Token
  number : ℤ → Token
  bad_number : Token
  sign : Sign → Token

-- what comes next in a text: nothing, a token with its offset, its span and the text after it, the beginning of a token
-- inside which the text ends, a text in quotes that cannot continue, or bytes with which no token begins. An offset
-- is given as the number of bytes from there to the end
pub data Lexeme : Type 0 where
  ends : Lexeme
  found : Token → ℕ → List ℕ → List ℕ → Lexeme
  unfinished : Beginning → ℕ → Lexeme
  bad_text : ℕ → ℕ → Lexeme
  unknown : ℕ → Lexeme
