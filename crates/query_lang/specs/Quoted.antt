-- Believed. Texts in quotes, read from the left.
use Rattle.std.specs.Prelude.{ℕ, zero, suc, ◌+◌, ◌-◌, ◌||◌, ◌&&◌, ◌==◌, nat_le, nat_lt, if◌then◌else◌, List, [], ◌∷◌}
use Rattle.query_lang.specs.Bytes.{is_digit}
use Rattle.query_lang.specs.declared.quoted.Escape.{Escape as code_escape}
use Rattle.query_lang.specs.declared.quoted.Escape.TheVariants.{Byte, Cut, Wrong}
use Rattle.query_lang.specs.declared.quoted.QuotedScan.{QuotedScan as code_scan}
use Rattle.query_lang.specs.declared.quoted.QuotedScan.TheVariants.{Closed, Open, Bad}

-- what comes after a backslash: an escape for a byte with its number of bytes, one that the text cuts off, or none
pub data Escape : Type 0 where
  decodes : ℕ → ℕ → Escape
  cut : Escape
  wrong : Escape

-- the last of four digits, `0` to `9` or `a` to `f`
abbrev pub escape_low : ℕ → List ℕ → Escape
escape_low high [] = cut
escape_low high (b ∷ bs) =
    if is_digit b then decodes (high + (b - 48)) 5
    else (if nat_le 97 b && nat_le b 102 then decodes (high + (b - 97) + 10) 5 else wrong)

-- the third of four digits, `0` or `1`
abbrev pub escape_high : List ℕ → Escape
escape_high [] = cut
escape_high (b ∷ bs) = if b == 48 then escape_low 0 bs else (if b == 49 then escape_low 16 bs else wrong)

-- the second of four digits, `0`
abbrev pub escape_second : List ℕ → Escape
escape_second [] = cut
escape_second (b ∷ bs) = if b == 48 then escape_high bs else wrong

-- the first of four digits, `0`
abbrev pub escape_code : List ℕ → Escape
escape_code [] = cut
escape_code (b ∷ bs) = if b == 48 then escape_second bs else wrong

-- a quote, a backslash, or `u` and four digits
abbrev pub escape : List ℕ → Escape
escape [] = cut
escape (b ∷ bs) = if b == 34 || b == 92 then decodes b 1 else (if b == 117 then escape_code bs else wrong)

-- what a text in quotes is after its first quote: its bytes up to the last quote, cut off by the end, or such that it
-- cannot continue from some offset
pub data QuotedScan : Type 0 where
  closed : List ℕ → QuotedScan
  open_end : QuotedScan
  bad : List ℕ → QuotedScan

-- one more byte before
abbrev pub with_byte : ℕ → QuotedScan → QuotedScan
with_byte b (closed body) = closed (b ∷ body)
with_byte b open_end = open_end
with_byte b (bad at) = bad at

-- continues inside an escape, or ends
abbrev pub after_escape : (ℕ → QuotedScan) → List ℕ → Escape → QuotedScan
after_escape more at (decodes byte length) = more length
after_escape more at cut = open_end
after_escape more at wrong = bad at

-- a text in quotes after its first quote, of which `inside` bytes belong to an escape that was read
abbrev pub scan : ℕ → List ℕ → QuotedScan
scan inside [] = open_end
scan (suc inside) (b ∷ bs) = with_byte b (scan inside bs)
scan zero (b ∷ bs) =
    if b == 34 then closed []
    else (if b == 92 then with_byte b (after_escape (λ length. scan length bs) (b ∷ bs) (escape bs))
    else (if nat_lt b 32 then bad (b ∷ bs) else with_byte b (scan zero bs)))

-- the byte of an escape and its length, or the backslash alone where there is none
abbrev pub byte_of_escape : ℕ → Escape → ℕ × ℕ
byte_of_escape b (decodes byte length) = (byte, length)
byte_of_escape b cut = (b, 0)
byte_of_escape b wrong = (b, 0)

-- the byte that a byte decodes to before these others, and how many of those belong to it
abbrev pub unescaped_byte : ℕ → List ℕ → ℕ × ℕ
unescaped_byte b bs = if b == 92 then byte_of_escape b (escape bs) else (b, 0)

-- the text that the bytes between quotes decode to, of which the first `inside` belong to an escape that was read
abbrev pub unescaped : ℕ → List ℕ → List ℕ
unescaped inside [] = []
unescaped (suc inside) (b ∷ bs) = unescaped inside bs
unescaped zero (b ∷ bs) = (unescaped_byte b bs).0 ∷ unescaped (unescaped_byte b bs).1 bs

-- an escape of the code
abbrev pub seen_escape : code_escape → Escape
seen_escape (Byte byte length) = decodes byte length
seen_escape Cut = cut
seen_escape Wrong = wrong

-- an answer of the code
abbrev pub seen_scan : code_scan → QuotedScan
seen_scan (Closed body) = closed body.now
seen_scan Open = open_end
seen_scan (Bad at) = bad at.now
