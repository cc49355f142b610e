-- Believed. The dates of replies.
use Rattle.std.specs.Prelude.{◌≡◌, ℕ, List}
use Rattle.httpdate.specs.Date.{unix_secs, date_text}
use Rattle.httpdate.specs.declared.date.HttpDate.{HttpDate}

-- the text is that of the date this number of seconds after 1970 began (RFC 9110, section 5.6.7)
pub record IsDateOf (seconds : ℕ) (text : List ℕ) : Type 0 where
  pub date : HttpDate
  pub at : unix_secs date ≡ seconds
  pub text_is : text ≡ date_text date

-- a moment and the text of it
pub record Dated : Type 0 where
  pub at : ℕ
  pub text : List ℕ
