-- Internal. The code's tokens as those of the definitions.
use Rattle.std.specs.Prelude.{ℕ, ◌<◌, List, length}
use Rattle.query_lang.specs.Quoted.{unescaped}
use Rattle.query_lang.specs.Tokens.{Token, word, name, quoted, number, bad_number, sign, Lexeme, ends, found, unfinished, bad_text, unknown}
use Rattle.query_lang.specs.declared.token.TokenKind.{TokenKind}
use Rattle.query_lang.specs.declared.token.TokenKind.TheVariants.{Word, Name, Quoted, Number, BadNumber, Sign}
use Rattle.query_lang.specs.declared.token.Lexeme.{Lexeme as code_lexeme}
use Rattle.query_lang.specs.declared.token.Lexeme.TheVariants.{End, Found, Unfinished, BadText, Unknown}

-- a token
abbrev pub seen_kind : TokenKind → Token
seen_kind (Word reserved) = word reserved
seen_kind (Name s) = name s.now
seen_kind (Quoted body) = quoted (unescaped 0 body.now)
seen_kind (Number z) = number z
seen_kind BadNumber = bad_number
seen_kind (Sign s) = sign s

-- what comes next in a text
abbrev pub seen_lexeme : code_lexeme → Lexeme
seen_lexeme End = ends
seen_lexeme (Found t) = found (seen_kind t.kind) t.left t.span.now t.rest.now
seen_lexeme (Unfinished what left) = unfinished what left
seen_lexeme (BadText left there) = bad_text left there
seen_lexeme (Unknown left) = unknown left

-- less text is left after a token
abbrev pub Shortens : code_lexeme → List ℕ → Type 0
Shortens End text = Unit {0}
Shortens (Found t) text = length t.rest.now < length text
Shortens (Unfinished what left) text = Unit {0}
Shortens (BadText left there) text = Unit {0}
Shortens (Unknown left) text = Unit {0}
