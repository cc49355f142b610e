-- Texts as strings of JSON.
use Rattle.std.proofs.Common.{◌≡◌, ℕ, ◌+◌, ◌<◌, ◌≤◌, List, [], ◌∷◌, ◌++◌, length, take, drop, get_or, sym, ap, ap₂, ◌∙◌, arith, length-append}
use Rattle.std.proofs.lemmas.List.{append-nil, drop_more, take_all, take_more}
use Rattle.std.proofs.lemmas.List.Concat.{flat_map-append}
use Rattle.json.specs.Print.{escape, escape_byte, quoted}

-- what is left of a text, with one byte less
pub escape_left : (text : List ℕ) (i : ℕ) → i < length text → length (escape (drop i text)) ≡ length (escape_byte (get_or text i 0)) + length (escape (drop (i + 1) text))
escape_left text i inside =
    ap (λ bytes. length (escape bytes)) (drop_more text i 0 inside)
    ∙ length-append (escape_byte (get_or text i 0)) (escape (drop (i + 1) text))

-- a text in quotes is longer by two
pub quoted_length : (text : List ℕ) → length (quoted text) ≡ 2 + length (escape text)
quoted_length text = let same = length-append (escape text) (34 ∷ []) in omega arith

-- one byte more needs no escape
pub plain_more : (text : List ℕ) (i : ℕ) → i < length text → escape_byte (get_or text i 0) ≡ get_or text i 0 ∷ []
    → escape (take i text) ≡ take i text → escape (take (i + 1) text) ≡ take (i + 1) text
plain_more text i inside plain before =
    ap escape (take_more text i 0 inside) ∙ flat_map-append escape_byte (take i text) (get_or text i 0 ∷ [])
    ∙ ap₂ (λ xs ys. xs ++ ys) before (append-nil (escape_byte (get_or text i 0)) ∙ plain) ∙ sym (take_more text i 0 inside)

-- the first bytes need no escape, and others come behind them
pub escape_behind : (text plain behind : List ℕ) → text ≡ plain ++ behind → escape plain ≡ plain → escape text ≡ plain ++ escape behind
escape_behind text plain behind is same =
    ap escape is ∙ flat_map-append escape_byte plain behind ∙ ap (λ t. t ++ escape behind) same

-- the first of these is escaped, and then come others
pub escape_next : (text plain behind others piece : List ℕ) (byte : ℕ) → text ≡ plain ++ behind → escape plain ≡ plain → behind ≡ byte ∷ others → piece ≡ escape_byte byte
    → escape text ≡ plain ++ (piece ++ escape others)
escape_next text plain behind others piece byte is same first piece_is =
    escape_behind text plain behind is same ∙ ap (λ t. plain ++ escape t) first ∙ ap (λ t. plain ++ (t ++ escape others)) (sym piece_is)

-- nothing comes behind them
pub escape_plain : (text plain behind : List ℕ) → text ≡ plain ++ behind → escape plain ≡ plain → length behind ≡ 0 → escape text ≡ plain
escape_plain text plain [] is same none = escape_behind text plain [] is same ∙ append-nil plain
escape_plain text plain (byte ∷ behind) is same none = absurd (omega arith)

-- no byte needs an escape
pub plain_whole : (text : List ℕ) (i : ℕ) → length text ≤ i → escape (take i text) ≡ take i text → escape (take (length text) text) ≡ take (length text) text
plain_whole text i past plain =
    let all = take_all (length text) text (omega arith) in
    ap escape (all ∙ sym (take_all i text past)) ∙ plain ∙ take_all i text past ∙ sym all
