-- Believed. Texts, read token by token from the left.
use Rattle.std.specs.Prelude.{ℕ, zero, suc, ◌-◌, Bool, if◌then◌else◌, is_ok, List, [], length, pos, Result, Ok, Err}
use Rattle.query_core.specs.declared.operator.Op.TheVariants.{Unequal}
use Rattle.query_lang.specs.declared.refusal.Cause.{Cause}
use Rattle.query_lang.specs.declared.refusal.QueryRefusal.{QueryRefusal}
use Rattle.query_lang.specs.declared.refusal.QueryRefusal.TheVariants.{Syntax}
use Rattle.query_lang.specs.declared.token.Beginning.{Beginning}
use Rattle.query_lang.specs.declared.token.Beginning.TheVariants as beginning
use Rattle.query_lang.specs.declared.token.Sign.TheVariants.{Compare}
use Rattle.query_lang.specs.Lexing.{lexeme}
use Rattle.query_lang.specs.Refusals.{refused}
use Rattle.query_lang.specs.Tokens.{Token, quoted, number, sign, Lexeme, ends, found, unfinished, bad_text, unknown}

-- The tokens of a text from the left, and how it ends: after a token, inside one, or with bytes that are none. An
-- offset is given as the number of bytes from there to the end.
pub data Tokens : Type 0 where
  done : Tokens
  next : ℕ → Token → Tokens → Tokens
  inside : Beginning → ℕ → Tokens
  stuck : ℕ → ℕ → Tokens
  none : ℕ → Tokens

-- what comes next, and the tokens of the rest
abbrev pub by_lexeme : (List ℕ → Tokens) → Lexeme → Tokens
by_lexeme more ends = done
by_lexeme more (found t left span rest) = next left t (more rest)
by_lexeme more (unfinished what left) = inside what left
by_lexeme more (bad_text left there) = stuck left there
by_lexeme more (unknown left) = none left

-- the first n tokens of a text at most
abbrev pub tokens_in : ℕ → List ℕ → Tokens
tokens_in zero text = done
tokens_in (suc n) text = by_lexeme (tokens_in n) (lexeme text)

-- the tokens of a text, of which each has a byte at least
unfoldable pub tokens : List ℕ → Tokens
tokens text = tokens_in (suc (length text)) text

-- how the tokens of a field are read: its letter, what each token does to what was read before, and what a text of this
-- length gives at its end
pub record Rules (S A : Type 0) : Type 0 where
  pub field : ℕ
  pub takes : S → Token → Result S Cause
  pub ends : ℕ → S → Result A QueryRefusal

-- a token such as the text that ends inside one would have become
abbrev pub example : Beginning → Token
example beginning.Text = quoted []
example beginning.Number = number (pos 0)
example beginning.Unequal = sign (Compare Unequal)

-- such a token is allowed after what was read
abbrev pub is_allowed : {S A : Type 0} → Rules S A → S → Beginning → Bool
is_allowed rules s what = is_ok (rules.takes s (example what))

-- continues after a token, or is refused at its offset
abbrev pub after_token : {S A : Type 0} → (S → Result A QueryRefusal) → ℕ → ℕ → Result S Cause → Result A QueryRefusal
after_token more field place (Ok s) = more s
after_token more field place (Err cause) = Err (refused field place cause)

-- Reads the tokens of a text of this length, after what was read. What is not allowed is refused: a token
-- where it begins, a text that ends inside a token at its end, and a byte that a text in quotes cannot have at that byte;
-- where no such token is allowed, at its beginning.
abbrev pub run : {S A : Type 0} → Rules S A → ℕ → S → Tokens → Result A QueryRefusal
run rules total s done = rules.ends total s
run rules total s (next left t ts) = after_token (λ after. run rules total after ts) rules.field (total - left) (rules.takes s t)
run rules total s (inside what left) = Err (Syntax rules.field (total - (if is_allowed rules s what then 0 else left)))
run rules total s (stuck left there) = Err (Syntax rules.field (total - (if is_allowed rules s beginning.Text then there else left)))
run rules total s (none left) = Err (Syntax rules.field (total - left))
