-- Reading texts in quotes, byte by byte.
use Rattle.std.proofs.Common.{◌≡◌, ℕ, zero, suc, ◌+◌, ◌-◌, ◌<◌, ◌≤◌, ◌≢◌, ◌==◌, nat_lt, inl, inr, eqb-true, List, [], ◌∷◌, ◌++◌, length, get_or, take, drop, refl, sym, ap, ◌∙◌, arith, append_assoc, sub-one, length-drop, get_or-drop}
use Rattle.std.proofs.lemmas.List.{drop_more, take_more, take_all}
use Rattle.std.proofs.Math.Seq.{get_or-append_seam}
use Rattle.query_lang.proofs.Utf8Lemmas.{tested}
use Rattle.std.proofs.lemmas.Bool.{le-ltb, ne_eqb}
use Rattle.query_lang.specs.Quoted.{QuotedScan, closed, open_end, bad, with_byte, scan, Escape, decodes, cut, wrong, escape, after_escape}

-- with these bytes before
abbrev pub with_prefix : List ℕ → QuotedScan → QuotedScan
with_prefix prefix (closed body) = closed (prefix ++ body)
with_prefix prefix open_end = open_end
with_prefix prefix (bad at) = bad at

-- with no bytes before
pub with_prefix_nil : (s : QuotedScan) → with_prefix [] s ≡ s
with_prefix_nil (closed body) = refl
with_prefix_nil open_end = refl
with_prefix_nil (bad at) = refl

-- one more byte before
pub with_prefix_byte : (prefix : List ℕ) (b : ℕ) (s : QuotedScan) → with_prefix prefix (with_byte b s) ≡ with_prefix (prefix ++ b ∷ []) s
with_prefix_byte prefix b (closed body) = ap closed (sym (append_assoc prefix (b ∷ []) body))
with_prefix_byte prefix b open_end = refl
with_prefix_byte prefix b (bad at) = refl

-- a byte inside an escape
pub scan_inside : (n b : ℕ) (bs : List ℕ) → 0 < n → scan n (b ∷ bs) ≡ with_byte b (scan (n - 1) bs)
scan_inside zero b bs h = absurd (omega arith)
scan_inside (suc n) b bs h = rw sub-one refl

-- the scan at an offset, with its byte written out
pub scan_at : (whole : QuotedScan) (xs : List ℕ) (i n : ℕ) → i < length xs
    → whole ≡ with_prefix (take i xs) (scan n (drop i xs))
    → whole ≡ with_prefix (take i xs) (scan n (get_or xs i 0 ∷ drop (i + 1) xs))
scan_at whole xs i n h before = before ∙ ap (λ r. with_prefix (take i xs) (scan n r)) (drop_more xs i 0 h)

-- a turn of the scan, at an offset where n bytes of an escape are left, and m after it
module _ (whole : QuotedScan) (xs : List ℕ) (i n m : ℕ) (h : i < length xs) (before : whole ≡ with_prefix (take i xs) (scan n (drop i xs))) where
  -- the scan one byte further
  scan_turn : scan n (get_or xs i 0 ∷ drop (i + 1) xs) ≡ with_byte (get_or xs i 0) (scan m (drop (i + 1) xs)) → whole ≡ with_prefix (take (i + 1) xs) (scan m (drop (i + 1) xs))
  scan_turn step =
      scan_at whole xs i n h before ∙ ap (with_prefix (take i xs)) step ∙ with_prefix_byte (take i xs) (get_or xs i 0) (scan m (drop (i + 1) xs))
      ∙ ap (λ prefix. with_prefix prefix (scan m (drop (i + 1) xs))) (sym (take_more xs i 0 h))

  -- inside an escape
  pub turn_inside : 0 < n → m ≡ n - 1 → whole ≡ with_prefix (take (i + 1) xs) (scan m (drop (i + 1) xs))
  turn_inside some less = scan_turn (scan_inside n (get_or xs i 0) (drop (i + 1) xs) some ∙ ap (λ k. with_byte (get_or xs i 0) (scan k (drop (i + 1) xs))) (sym less))

  -- at the backslash of an escape
  pub turn_escape : (byte : ℕ) → n ≡ 0 → get_or xs i 0 ≡ 92 → decodes byte m ≡ escape (drop (i + 1) xs) → whole ≡ with_prefix (take (i + 1) xs) (scan m (drop (i + 1) xs))
  turn_escape byte none at found = scan_turn (rw (none, at, ← found) refl)

  -- at a byte that is itself
  pub turn_plain : n ≡ 0 → m ≡ n → get_or xs i 0 ≢ 34 → get_or xs i 0 ≢ 92 → 32 ≤ get_or xs i 0 → whole ≡ with_prefix (take (i + 1) xs) (scan m (drop (i + 1) xs))
  turn_plain none same quote backslash control = scan_turn (rw (same, none, ne_eqb _ _ quote, ne_eqb _ _ backslash, le-ltb _ _ control) refl)

-- a slice up to the end is what is left
pub slice_to_end : (ys xs : List ℕ) (i : ℕ) → i ≤ length xs → ys ≡ xs → take (length ys - i) (drop i ys) ≡ drop i xs
slice_to_end ys xs i h same = rw same (take_all _ (drop i xs) (omega (arith, length-drop i xs)))

-- what closes after a byte
behind_byte : (b : ℕ) (s : QuotedScan) (bs body : List ℕ) → with_byte b s ≡ closed body
    → ((inner : List ℕ) → s ≡ closed inner → (rest : List ℕ) × (bs ≡ inner ++ 34 ∷ rest))
    → (rest : List ℕ) × (b ∷ bs ≡ body ++ 34 ∷ rest)
behind_byte b (closed inner) bs body e more =
    let (rest, parts) = more inner refl in
    let same : b ∷ inner ≡ body = cc in
    (rest, ap (λ r. b ∷ r) parts ∙ ap (λ prefix. prefix ++ 34 ∷ rest) same)
behind_byte b open_end bs body e more = cc
behind_byte b (bad at) bs body e more = cc

-- what closes after an escape
behind_escape : (b : ℕ) (bs : List ℕ) (x : Escape) (body : List ℕ) → with_byte b (after_escape (λ length. scan length bs) (b ∷ bs) x) ≡ closed body
    → ((n : ℕ) (inner : List ℕ) → scan n bs ≡ closed inner → (rest : List ℕ) × (bs ≡ inner ++ 34 ∷ rest))
    → (rest : List ℕ) × (b ∷ bs ≡ body ++ 34 ∷ rest)
behind_escape b bs (decodes byte n) body e more = behind_byte b (scan n bs) bs body e (λ inner found. more n inner found)
behind_escape b bs cut body e more = cc
behind_escape b bs wrong body e more = cc

-- a text that closes has a quote after its bytes
pub scan_parts : (n : ℕ) (bs body : List ℕ) → scan n bs ≡ closed body → (rest : List ℕ) × (bs ≡ body ++ 34 ∷ rest)
scan_parts n [] body e = cc
scan_parts (suc n) (b ∷ bs) body e = behind_byte b (scan n bs) bs body e (λ inner found. scan_parts n bs inner found)
scan_parts zero (b ∷ bs) body e =
    elim (tested (b == 34)) [
      | inl quote ↦ (let ends : closed [] ≡ closed body = rw quote at e in
          (bs, ap (λ k. k ∷ bs) (eqb-true b 34 quote) ∙ ap (λ prefix. prefix ++ 34 ∷ bs) (let same : [] ≡ body = cc in same)))
      | inr other ↦ elim (tested (b == 92)) [
        | inl escaped ↦ behind_escape b bs (escape bs) body (rw (other, escaped) at e) (λ n inner found. scan_parts n bs inner found)
        | inr plain ↦ elim (tested (nat_lt b 32)) [
          | inl control ↦ (let no = rw (other, plain, control) at e in cc)
          | inr shown ↦ behind_byte b (scan zero bs) bs body (rw (other, plain, shown) at e) (λ inner found. scan_parts zero bs inner found)
        ]
      ]
    ]

-- there a text in quotes ends
pub closing_quote : (bytes body : List ℕ) → closed body ≡ scan 0 (drop 1 bytes) → get_or bytes (length body + 2 - 1) 0 ≡ 34
closing_quote bytes body found =
    let (rest, parts) = scan_parts 0 (drop 1 bytes) body (sym found) in
    let place : 1 + length body ≡ length body + 2 - 1 = omega arith in
    ap (λ k. get_or bytes k 0) (sym place) ∙ sym (get_or-drop 1 bytes (length body) 0) ∙ ap (λ r. get_or r (length body) 0) parts ∙ get_or-append_seam body 34 rest 0
