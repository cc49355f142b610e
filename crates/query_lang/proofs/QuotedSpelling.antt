-- What is written in quotes is what is read there.
use Rattle.std.proofs.Common.{◌≡◌, ℕ, zero, suc, ◌+◌, ◌-◌, ◌/◌, ◌%◌, ◌<◌, ◌≤◌, true, false, ◌&&◌, ◌||◌, ◌==◌, nat_le, nat_lt, List, [], ◌∷◌, ◌++◌, length, take, drop, refl, sym, ap, ◌∙◌, subst, ◌⊎◌, inl, inr, arith, append_assoc, eqb-true, ltb-true, take_at}
use Rattle.std.proofs.lemmas.Bool.{cases_lt, lt-ltb, le-ltb, ne_eqb}
use Rattle.std.proofs.lemmas.Bool.Decides.{nat_tests}
use Rattle.std.proofs.lemmas.List.{take-append-drop}
use Rattle.std.specs.List.{flat_map}
use Rattle.query_core.specs.Print.{quoted_byte, hex_digit}
use Rattle.query_lang.specs.Bytes.{is_digit}
use Rattle.query_lang.specs.Quoted.{Escape, decodes, cut, wrong, escape, escape_code, escape_second, escape_high, escape_low, QuotedScan, closed, open_end, bad, scan, with_byte, after_escape, unescaped, byte_of_escape}
use Rattle.query_lang.proofs.Utf8Lemmas.{tested}

-- ---- the four digits of a control character

low_digit : (high n : ℕ) (rest : List ℕ) → n < 16 → escape_low high (hex_digit n ∷ rest) ≡ decodes (high + n) 5
low_digit high n rest small =
    elim (cases_lt n 10) [
      | inl digit ↦ (
          let shown : hex_digit n ≡ 48 + n = rw (lt-ltb n 10 digit) refl in
          let is : is_digit (48 + n) ≡ true = grind (arith, nat_tests) in
          let value : high + (48 + n - 48) ≡ high + n = omega arith in
          ap (λ d. escape_low high (d ∷ rest)) shown ∙ rw is (ap (λ b. decodes b 5) value))
      | inr letter ↦ (
          let shown : hex_digit n ≡ 87 + n = rw (le-ltb n 10 letter) refl in
          let no : is_digit (87 + n) ≡ false = grind (arith, nat_tests) in
          let is : (nat_le 97 (87 + n) && nat_le (87 + n) 102) ≡ true = grind (arith, nat_tests) in
          let value : high + (87 + n - 97) + 10 ≡ high + n = omega arith in
          ap (λ d. escape_low high (d ∷ rest)) shown ∙ rw (no, is) (ap (λ b. decodes b 5) value))
    ]

-- a control character is read from its escape
pub control_escape : (b : ℕ) (rest : List ℕ) → b < 32 → escape (117 ∷ 48 ∷ 48 ∷ hex_digit (b / 16) ∷ hex_digit (b % 16) ∷ rest) ≡ decodes b 5
control_escape b rest small =
    elim (cases_lt b 16) [
      | inl low ↦ (
          let high : b / 16 ≡ 0 = omega arith in
          let same : 0 + b % 16 ≡ b = omega arith in
          ap (λ h. escape (117 ∷ 48 ∷ 48 ∷ hex_digit h ∷ hex_digit (b % 16) ∷ rest)) high ∙ low_digit 0 (b % 16) rest (omega arith) ∙ ap (λ x. decodes x 5) same)
      | inr upper ↦ (
          let high : b / 16 ≡ 1 = omega arith in
          let same : 16 + b % 16 ≡ b = omega arith in
          ap (λ h. escape (117 ∷ 48 ∷ 48 ∷ hex_digit h ∷ hex_digit (b % 16) ∷ rest)) high ∙ low_digit 16 (b % 16) rest (omega arith) ∙ ap (λ x. decodes x 5) same)
    ]

-- ---- one byte

-- with these bytes before
abbrev pub with_bytes : List ℕ → QuotedScan → QuotedScan
with_bytes [] s = s
with_bytes (b ∷ bs) s = with_byte b (with_bytes bs s)

-- a byte is passed over in its spelling
scan_byte : (b : ℕ) (rest : List ℕ) → scan 0 (quoted_byte b ++ rest) ≡ with_bytes (quoted_byte b) (scan 0 rest)
scan_byte b rest =
    elim (tested (b == 34)) [
      | inl quote ↦ rw quote refl
      | inr no_quote ↦ elim (tested (b == 92)) [
        | inl backslash ↦ rw (no_quote, backslash) refl
        | inr no_backslash ↦ elim (tested (nat_lt b 32)) [
          | inl control ↦ rw (no_quote, no_backslash, control)
              (ap (λ x. with_byte 92 (after_escape (λ n. scan n (117 ∷ 48 ∷ 48 ∷ hex_digit (b / 16) ∷ hex_digit (b % 16) ∷ rest)) (92 ∷ 117 ∷ 48 ∷ 48 ∷ hex_digit (b / 16) ∷ hex_digit (b % 16) ∷ rest) x))
              (control_escape b rest (ltb-true b 32 control)))
          | inr plain ↦ rw (no_quote, no_backslash, plain) (rw (no_quote, no_backslash, plain) refl)
        ]
      ]
    ]

-- and is itself
unescape_byte : (b : ℕ) (rest : List ℕ) → unescaped 0 (quoted_byte b ++ rest) ≡ b ∷ unescaped 0 rest
unescape_byte b rest =
    elim (tested (b == 34)) [
      | inl quote ↦ rw quote (ap (λ x. x ∷ unescaped 0 rest) (sym (eqb-true b 34 quote)))
      | inr no_quote ↦ elim (tested (b == 92)) [
        | inl backslash ↦ rw (no_quote, backslash) (ap (λ x. x ∷ unescaped 0 rest) (sym (eqb-true b 92 backslash)))
        | inr no_backslash ↦ elim (tested (nat_lt b 32)) [
          | inl control ↦ rw (no_quote, no_backslash, control)
              (ap (λ x. (byte_of_escape 92 x).0 ∷ unescaped (byte_of_escape 92 x).1 (117 ∷ 48 ∷ 48 ∷ hex_digit (b / 16) ∷ hex_digit (b % 16) ∷ rest)) (control_escape b rest (ltb-true b 32 control)))
          | inr plain ↦ rw (no_quote, no_backslash, plain) (rw no_backslash refl)
        ]
      ]
    ]

with_bytes_closed : (bs body : List ℕ) → with_bytes bs (closed body) ≡ closed (bs ++ body)
with_bytes_closed [] body = refl
with_bytes_closed (b ∷ bs) body = ap (with_byte b) (with_bytes_closed bs body)

-- ---- a whole text

pub scan_spelled : (s rest : List ℕ) → scan 0 (flat_map quoted_byte s ++ 34 ∷ rest) ≡ closed (flat_map quoted_byte s)
scan_spelled [] rest = refl
scan_spelled (b ∷ s) rest =
    ap (scan 0) (append_assoc (quoted_byte b) (flat_map quoted_byte s) (34 ∷ rest))
    ∙ scan_byte b (flat_map quoted_byte s ++ 34 ∷ rest) ∙ ap (with_bytes (quoted_byte b)) (scan_spelled s rest) ∙ with_bytes_closed (quoted_byte b) (flat_map quoted_byte s)

pub unescape_spelled : (s : List ℕ) → unescaped 0 (flat_map quoted_byte s) ≡ s
unescape_spelled [] = refl
unescape_spelled (b ∷ s) = unescape_byte b (flat_map quoted_byte s) ∙ ap (λ r. b ∷ r) (unescape_spelled s)

-- ---- and back: what is read is written so

-- an escape is the spelling of its byte, whatever follows it
pub record Spelled (bs : List ℕ) (byte n : ℕ) : Type 0 where
  pub prefix : List ℕ
  pub rest : List ℕ
  pub parts : bs ≡ prefix ++ rest
  pub len : length prefix ≡ n
  pub spelling : quoted_byte byte ≡ 92 ∷ prefix
  pub again : (more : List ℕ) → escape (prefix ++ more) ≡ decodes byte n

control_spelling : (c h l : ℕ) → c < 32 → hex_digit (c / 16) ≡ h → hex_digit (c % 16) ≡ l → quoted_byte c ≡ 92 ∷ 117 ∷ 48 ∷ 48 ∷ h ∷ l ∷ []
control_spelling c h l small high low =
    rw (ne_eqb c 34 (λ e. omega arith), ne_eqb c 92 (λ e. omega arith), lt-ltb c 32 small)
    (ap (λ x. 92 ∷ 117 ∷ 48 ∷ 48 ∷ x ∷ hex_digit (c % 16) ∷ []) high ∙ ap (λ x. 92 ∷ 117 ∷ 48 ∷ 48 ∷ h ∷ x ∷ []) low)

-- the value of a last digit
low_value : (high l byte n : ℕ) (bs : List ℕ) → escape_low high (l ∷ bs) ≡ decodes byte n → (v : ℕ) × (v < 16) × (hex_digit v ≡ l) × (byte ≡ high + v) × (n ≡ 5)
low_value high l byte n bs e =
    elim (tested (is_digit l)) [
      | inl digit ↦ (
          let got : decodes (high + (l - 48)) 5 ≡ decodes byte n = rw digit at e in
          let low : 48 ≤ l = grind (arith, nat_tests) in
          let top : l ≤ 57 = grind (arith, nat_tests) in
          let small : l - 48 < 10 = omega arith in
          let shown : hex_digit (l - 48) ≡ l = rw (lt-ltb (l - 48) 10 small) (omega arith) in
          (l - 48, omega arith, shown, (let b : high + (l - 48) ≡ byte = cc in sym b), (let b : 5 ≡ n = cc in sym b)))
      | inr other ↦ elim (tested (nat_le 97 l && nat_le l 102)) [
        | inl letter ↦ (
            let got : decodes (high + (l - 97) + 10) 5 ≡ decodes byte n = rw (other, letter) at e in
            let low : 97 ≤ l = grind (arith, nat_tests) in
            let top : l ≤ 102 = grind (arith, nat_tests) in
            let shown : hex_digit (l - 87) ≡ l = rw (le-ltb (l - 87) 10 (omega arith)) (omega arith) in
            let byte_is : high + (l - 97) + 10 ≡ byte = cc in
            (l - 87, omega arith, shown, omega arith, (let b : 5 ≡ n = cc in sym b)))
        | inr none ↦ (let no = rw (other, none) at e in cc)
      ]
    ]

-- the escape of a control character
control_spelled : (high h : ℕ) (bs : List ℕ) (byte n : ℕ) → (h ≡ 48) × (high ≡ 0) ⊎ (h ≡ 49) × (high ≡ 16) → escape_low high bs ≡ decodes byte n
    → ((l : ℕ) (more : List ℕ) → escape (117 ∷ 48 ∷ 48 ∷ h ∷ l ∷ more) ≡ escape_low high (l ∷ more)) → Spelled (117 ∷ 48 ∷ 48 ∷ h ∷ bs) byte n
control_spelled high h [] byte n which e reads = cc
control_spelled high h (l ∷ bs) byte n which e reads =
    let (v, small, shown, value, five) = low_value high l byte n bs e in
    let bounded : (byte < 32) × (hex_digit (byte / 16) ≡ h) × (byte % 16 ≡ v) = parts_of high h v byte which small value in
    record {
      prefix = 117 ∷ 48 ∷ 48 ∷ h ∷ l ∷ [];
      rest = bs;
      parts = refl;
      len = sym five;
      spelling = control_spelling byte h l bounded.0 bounded.1 (ap hex_digit bounded.2 ∙ shown);
      again = λ more. reads l more ∙ low_again high l byte n bs more e;
    }
  where
    parts_of : (high h v byte : ℕ) → (h ≡ 48) × (high ≡ 0) ⊎ (h ≡ 49) × (high ≡ 16) → v < 16 → byte ≡ high + v → (byte < 32) × (hex_digit (byte / 16) ≡ h) × (byte % 16 ≡ v)
    parts_of high h v byte (inl (digit, none)) small value =
        let zero_is : byte / 16 ≡ 0 = omega arith in
        (omega arith, ap hex_digit zero_is ∙ sym digit, omega arith)
    parts_of high h v byte (inr (digit, some)) small value =
        let one_is : byte / 16 ≡ 1 = omega arith in
        (omega arith, ap hex_digit one_is ∙ sym digit, omega arith)

    low_again : (high l byte n : ℕ) (bs more : List ℕ) → escape_low high (l ∷ bs) ≡ decodes byte n → escape_low high (l ∷ more) ≡ decodes byte n
    low_again high l byte n bs more e = e

pub escape_spelled : (bs : List ℕ) (byte n : ℕ) → escape bs ≡ decodes byte n → Spelled bs byte n
escape_spelled [] byte n e = cc
escape_spelled (b ∷ bs) byte n e =
    elim (tested (b == 34 || b == 92)) [
      | inl itself ↦ (
          let got : decodes b 1 ≡ decodes byte n = rw itself at e in
          let byte_is : b ≡ byte = cc in
          let len_is : 1 ≡ n = cc in
          record {
            prefix = b ∷ [];
            rest = bs;
            parts = refl;
            len = len_is;
            spelling = subst (λ x. quoted_byte x ≡ 92 ∷ b ∷ []) byte_is (itself_spelling b itself);
            again = λ more. rw itself got;
          })
      | inr other ↦ elim (tested (b == 117)) [
        | inl u ↦ subst (λ x. Spelled (x ∷ bs) byte n) (sym (eqb-true b 117 u)) (code_spelled bs byte n (rw (other, u) at e))
        | inr none ↦ (let no = rw (other, none) at e in cc)
      ]
    ]
  where
    itself_spelling : (b : ℕ) → (b == 34 || b == 92) ≡ true → quoted_byte b ≡ 92 ∷ b ∷ []
    itself_spelling b itself =
        elim (tested (b == 34)) [
          | inl quote ↦ rw quote (ap (λ x. 92 ∷ x ∷ []) (sym (eqb-true b 34 quote)))
          | inr no_quote ↦ (let backslash : (b == 92) ≡ true = rw no_quote at itself in rw (no_quote, backslash) (ap (λ x. 92 ∷ x ∷ []) (sym (eqb-true b 92 backslash))))
        ]

    high_spelled : (bs : List ℕ) (byte n : ℕ) → escape_high bs ≡ decodes byte n → Spelled (117 ∷ 48 ∷ 48 ∷ bs) byte n
    high_spelled [] byte n e = cc
    high_spelled (h ∷ bs) byte n e =
        elim (tested (h == 48)) [
          | inl zero_digit ↦ control_spelled 0 h bs byte n (inl (eqb-true h 48 zero_digit, refl)) (rw zero_digit at e) (λ l more. rw zero_digit refl)
          | inr other ↦ elim (tested (h == 49)) [
            | inl one_digit ↦ control_spelled 16 h bs byte n (inr (eqb-true h 49 one_digit, refl)) (rw (other, one_digit) at e) (λ l more. rw (other, one_digit) refl)
            | inr none ↦ (let no = rw (other, none) at e in cc)
          ]
        ]

    second_spelled : (bs : List ℕ) (byte n : ℕ) → escape_second bs ≡ decodes byte n → Spelled (117 ∷ 48 ∷ bs) byte n
    second_spelled [] byte n e = cc
    second_spelled (b ∷ bs) byte n e =
        elim (tested (b == 48)) [
          | inl zero_digit ↦ subst (λ x. Spelled (117 ∷ 48 ∷ x ∷ bs) byte n) (sym (eqb-true b 48 zero_digit)) (high_spelled bs byte n (rw zero_digit at e))
          | inr none ↦ (let no = rw none at e in cc)
        ]

    code_spelled : (bs : List ℕ) (byte n : ℕ) → escape_code bs ≡ decodes byte n → Spelled (117 ∷ bs) byte n
    code_spelled [] byte n e = cc
    code_spelled (b ∷ bs) byte n e =
        elim (tested (b == 48)) [
          | inl zero_digit ↦ subst (λ x. Spelled (117 ∷ x ∷ bs) byte n) (sym (eqb-true b 48 zero_digit)) (second_spelled bs byte n (rw zero_digit at e))
          | inr none ↦ (let no = rw none at e in cc)
        ]

-- what closes is written so, after the bytes of an escape that was read
pub record Written (n : ℕ) (bs body : List ℕ) : Type 0 where
  pub below : n ≤ length body
  pub prefix : take n body ≡ take n bs
  pub rest : drop n body ≡ flat_map quoted_byte (unescaped n body)

written_byte : (n b : ℕ) (s : QuotedScan) (bs body : List ℕ) → with_byte b s ≡ closed body → ((inner : List ℕ) → s ≡ closed inner → Written n bs inner) → (inner : List ℕ) × (body ≡ b ∷ inner) × Written n bs inner
written_byte n b (closed inner) bs body e more = (inner, (let same : b ∷ inner ≡ body = cc in sym same), more inner refl)
written_byte n b open_end bs body e more = cc
written_byte n b (bad at) bs body e more = cc

written_escape : (b : ℕ) (bs : List ℕ) (x : Escape) → escape bs ≡ x → (body : List ℕ) → (b == 92) ≡ true → with_byte b (after_escape (λ length. scan length bs) (b ∷ bs) x) ≡ closed body
    → ((n : ℕ) (inner : List ℕ) → scan n bs ≡ closed inner → Written n bs inner) → body ≡ flat_map quoted_byte (unescaped 0 body)
written_escape b bs (decodes byte n) found body backslash e more =
    let (inner, body_is, w) = written_byte n b (scan n bs) bs body e (more n) in
    let s = escape_spelled bs byte n found in
    let prefix_is : take n inner ≡ s.prefix = w.prefix ∙ ap (take n) s.parts ∙ take_at s.prefix s.rest n s.len in
    let inner_is : inner ≡ s.prefix ++ drop n inner = sym (take-append-drop n inner) ∙ ap (λ f. f ++ drop n inner) prefix_is in
    let reads : escape inner ≡ decodes byte n = ap escape inner_is ∙ s.again (drop n inner) in
    let decoded : unescaped 0 (b ∷ inner) ≡ byte ∷ unescaped n inner = rw (backslash, reads) refl in
    body_is ∙ ap (λ x. x ∷ inner) (eqb-true b 92 backslash) ∙ ap (λ r. 92 ∷ r) inner_is ∙ ap (λ r. 92 ∷ (s.prefix ++ r)) w.rest
    ∙ ap (λ q. q ++ flat_map quoted_byte (unescaped n inner)) (sym s.spelling) ∙ ap (flat_map quoted_byte) (sym decoded) ∙ ap (λ x. flat_map quoted_byte (unescaped 0 x)) (sym body_is)
written_escape b bs cut found body backslash e more = cc
written_escape b bs wrong found body backslash e more = cc

plain_scan : (b : ℕ) (bs : List ℕ) → (b == 34) ≡ false → (b == 92) ≡ false → nat_lt b 32 ≡ false → scan 0 (b ∷ bs) ≡ with_byte b (scan 0 bs)
plain_scan b bs no_quote no_backslash shown = rw (no_quote, no_backslash, shown) refl

plain_spelling : (b : ℕ) → (b == 34) ≡ false → (b == 92) ≡ false → nat_lt b 32 ≡ false → quoted_byte b ≡ b ∷ []
plain_spelling b no_quote no_backslash shown = rw (no_quote, no_backslash, shown) refl

plain_decoded : (b : ℕ) (inner : List ℕ) → (b == 92) ≡ false → unescaped 0 (b ∷ inner) ≡ b ∷ unescaped 0 inner
plain_decoded b inner no_backslash = rw no_backslash refl

pub scan_written : (n : ℕ) (bs body : List ℕ) → scan n bs ≡ closed body → Written n bs body
scan_written n [] body e = cc
scan_written (suc n) (b ∷ bs) body e =
    let (inner, body_is, w) = written_byte n b (scan n bs) bs body e (λ inner found. scan_written n bs inner found) in
    subst (Written (suc n) (b ∷ bs)) (sym body_is) (record { below = omega (arith, w.below); prefix = ap (λ r. b ∷ r) w.prefix; rest = w.rest })
scan_written zero (b ∷ bs) body e =
    record {
      below = omega arith;
      prefix = refl;
      rest = elim (tested (b == 34)) [
        | inl quote ↦ (let ends : closed [] ≡ closed body = rw quote at e in let none : [] ≡ body = cc in subst (λ x. x ≡ flat_map quoted_byte (unescaped 0 x)) none refl)
        | inr no_quote ↦ elim (tested (b == 92)) [
          | inl backslash ↦ written_escape b bs (escape bs) refl body backslash (rw (no_quote, backslash) at e) (λ n inner found. scan_written n bs inner found)
          | inr no_backslash ↦ elim (tested (nat_lt b 32)) [
            | inl control ↦ (let no = rw (no_quote, no_backslash, control) at e in cc)
            | inr shown ↦ (
                let (inner, body_is, w) = written_byte 0 b (scan 0 bs) bs body (sym (plain_scan b bs no_quote no_backslash shown) ∙ e) (λ inner found. scan_written 0 bs inner found) in
                let itself = plain_spelling b no_quote no_backslash shown in
                let decoded = plain_decoded b inner no_backslash in
                body_is ∙ ap (λ r. b ∷ r) w.rest ∙ ap (λ q. q ++ flat_map quoted_byte (unescaped 0 inner)) (sym itself) ∙ ap (flat_map quoted_byte) (sym decoded) ∙ ap (λ x. flat_map quoted_byte (unescaped 0 x)) (sym body_is))
          ]
        ]
      ];
    }
