-- Each page has one encoding.
use Rattle.std.proofs.Common.{◌≡◌, ℕ, ◌+◌, ◌/◌, ◌^◌, ◌<◌, ◌≤◌, Bool, List, [], ◌∷◌, ◌++◌, length, take, drop, get_or, All, Ok, codes, refl, sym, ap, ap₂, ◌∙◌, arith, length-drop, lit<, inl, inr, drop-cons}
use Rattle.std.specs.Int.{w64, to_be_bytes, from_be_bytes}
use Rattle.std.proofs.lemmas.List.{take-append-drop, length-take-le, length-take, get_or-take, get_or-drop, get_or_past}
use Rattle.std.proofs.Math.Seq.{take-add}
use Rattle.std.proofs.lemmas.Slice.Eq.{bytes_eq-Decides}
use Rattle.std.proofs.lemmas.List.Elements.{All-drop}
use Rattle.std.proofs.lemmas.Bool.{cases_lt}
use Rattle.std.proofs.lemmas.Nat.{be_bytes_8, from_be_bytes-to_be_bytes_8}
use Rattle.query_normal.specs.Bits.{flat_bits}
use Rattle.query_normal.specs.Pages.{Page}
use Rattle.flat_snapshot.specs.PageText.{IsPage, head_text, bytes_of, page_text}
use Rattle.flat_snapshot.specs.Reading.{word_at, page_in, read_page, first_bad_field}
use Rattle.flat_snapshot.proofs.ByteLemmas.{bytes_of-flat_bits, flat_bits-bytes_of}
use Rattle.flat_snapshot.proofs.ReadLemmas.{IsTaken, within-from_none, none-from_within, read_page-taken, is_page}
use Rattle.flat_snapshot.proofs.WriteLemmas.{length-page_text, eights}

-- a byte, read anywhere
read_small : (bytes : List ℕ) → All (λ b. b < 2 ^ 8) bytes → (i : ℕ) → get_or bytes i 0 < 2 ^ 8
read_small bytes small i =
    elim (cases_lt i (length bytes)) [
      | inl within ↦ small i 0 within
      | inr past ↦ rw (get_or_past bytes i 0 past) (lit< tt)
    ]

-- one of eight bytes, read anywhere
eight_small : (bytes : List ℕ) (offset : ℕ) → All (λ b. b < 2 ^ 8) bytes → (i : ℕ) → get_or (take 8 (drop offset bytes)) i 0 < 2 ^ 8
eight_small bytes offset small i =
    elim (cases_lt i 8) [
      | inl within ↦ rw (get_or-take 8 (drop offset bytes) i 0 within ∙ get_or-drop offset bytes i 0) (read_small bytes small (offset + i))
      | inr past ↦ (
          let long = length-take 8 (drop offset bytes) in
          rw (get_or_past (take 8 (drop offset bytes)) i 0 (omega (arith, long))) (lit< tt))
    ]

-- eight bytes as a number
word_small : (eight : List ℕ) → ((i : ℕ) → get_or eight i 0 < 2 ^ 8) → from_be_bytes w64 eight < 2 ^ 64
word_small eight small = omega (arith, small 0, small 1, small 2, small 3, small 4, small 5, small 6, small 7)

-- eight bytes that were read as a number are the bytes of that number
word_again : (bytes : List ℕ) (offset : ℕ) → All (λ b. b < 2 ^ 8) bytes → offset + 8 ≤ length bytes → to_be_bytes w64 (word_at bytes offset) ≡ take 8 (drop offset bytes)
word_again bytes offset small within =
    let rest = length-drop offset bytes in
    be_bytes_8 (take 8 (drop offset bytes)) (word_at bytes offset) (length-take-le 8 (drop offset bytes) (omega (arith, rest))) (eight_small bytes offset small) refl

-- two pieces in turn
pieces : (n m : ℕ) (xs : List ℕ) → take n xs ++ take m (drop n xs) ≡ take (n + m) xs
pieces n m xs = sym (take-add n m xs)

-- two bytes
pair_again : (bytes : List ℕ) → 6 ≤ length bytes → get_or bytes 4 0 ∷ get_or bytes 5 0 ∷ [] ≡ take 2 (drop 4 bytes)
pair_again bytes within =
    let four : 4 < length bytes = omega arith in
    let five : 5 < length bytes = omega arith in
    sym (ap (λ (xs : List ℕ). take 2 xs) (drop-cons bytes 4 0 four) ∙ ap (λ (xs : List ℕ). get_or bytes 4 0 ∷ take 1 xs) (drop-cons bytes 5 0 five))

-- the head of the page that bytes are read as is their beginning
head_in : (bytes : List ℕ) → All (λ b. b < 2 ^ 8) bytes → IsTaken bytes →
    head_text (get_or bytes 5 0) (get_or bytes 4 0) (word_at bytes 6) (word_at bytes 14) (word_at bytes 22) ≡ take 30 bytes
unfolding head_text
head_in bytes small t =
    let mark : codes "QSF1" ≡ take 4 bytes = sym ((bytes_eq-Decides (take 4 bytes) (codes "QSF1")).0 t.mark) in
    let six : codes "QSF1" ++ (get_or bytes 4 0 ∷ get_or bytes 5 0 ∷ []) ≡ take 6 bytes =
    ap₂ (λ (xs ys : List ℕ). xs ++ ys) mark (pair_again bytes (omega (arith, t.long))) ∙ pieces 4 2 bytes in
    let front : codes "QSF1" ++ (get_or bytes 4 0 ∷ get_or bytes 5 0 ∷ []) ++ to_be_bytes w64 (word_at bytes 6) ≡ take 14 bytes =
    ap₂ (λ (xs ys : List ℕ). xs ++ ys) six (word_again bytes 6 small (omega (arith, t.long))) ∙ pieces 6 8 bytes in
    let commits : codes "QSF1" ++ (get_or bytes 4 0 ∷ get_or bytes 5 0 ∷ []) ++ to_be_bytes w64 (word_at bytes 6) ++ to_be_bytes w64 (word_at bytes 14) ≡ take 22 bytes =
    ap₂ (λ (xs ys : List ℕ). xs ++ ys) front (word_again bytes 14 small (omega (arith, t.long))) ∙ pieces 14 8 bytes in
    ap₂ (λ (xs ys : List ℕ). xs ++ ys) commits (word_again bytes 22 small (omega (arith, t.long))) ∙ pieces 22 8 bytes

-- the text of the page that bytes are read as is the bytes
pub text_again : (bytes : List ℕ) → All (λ b. b < 2 ^ 8) bytes → IsTaken bytes → page_text (page_in bytes) ≡ bytes
text_again bytes small t =
    let rest : All (λ b. b < 2 ^ 8) (drop 30 bytes) = All-drop (λ b. b < 2 ^ 8) 30 bytes small in
    ap₂ (λ (xs ys : List ℕ). xs ++ ys) (head_in bytes small t) (bytes_of-flat_bits (drop 30 bytes) rest) ∙ take-append-drop 30 bytes

-- a page that was read is within its limits
pub read_is_page : (bytes : List ℕ) → All (λ b. b < 2 ^ 8) bytes → IsTaken bytes → IsPage (page_in bytes)
read_is_page bytes small t =
    let cut = length-drop 30 bytes in
    is_page _ _ _ _ _ (drop 30 bytes) (within-from_none _ _ _ _ _ t.fields) (word_small (take 8 (drop 14 bytes)) (eight_small bytes 14 small)) (omega (arith, cut, t.size, t.long))

-- the numbers of a page's text
front_again : (page : Page) → IsPage page → word_at (page_text page) 6 ≡ page.front
unfolding head_text
front_again page p = from_be_bytes-to_be_bytes_8 page.front (omega (arith, p.covered, p.commits))

commits_again : (page : Page) → IsPage page → word_at (page_text page) 14 ≡ page.commits
unfolding head_text
commits_again page p = from_be_bytes-to_be_bytes_8 page.commits p.commits

moment_again : (page : Page) → IsPage page → word_at (page_text page) 22 ≡ page.moment
unfolding head_text
moment_again page p = from_be_bytes-to_be_bytes_8 page.moment (omega (arith, p.moment))

-- the page of a page's text
again : (page : Page) → IsPage page → page_in (page_text page) ≡ page
unfolding head_text
again page p =
    let whole = p.bits ∙ sym (eights page.log2_bits (omega (arith, p.least_bits))) in
    let build : ℕ → ℕ → ℕ → List Bool → Page = λ f c m b. record {
      log2_bits = page.log2_bits;
      hashes = page.hashes;
      front = f;
      commits = c;
      moment = m;
      bits = b;
    } in
    ap₂ (λ f c. build f c (word_at (page_text page) 22) (flat_bits (bytes_of page.bits))) (front_again page p) (commits_again page p)
    ∙ ap₂ (λ m b. build page.front page.commits m b) (moment_again page p) (flat_bits-bytes_of page.bits (2 ^ page.log2_bits / 8) whole)

-- a page's text is taken
text_taken : (page : Page) → IsPage page → IsTaken (page_text page)
unfolding head_text
text_taken page p =
    let whole = p.bits ∙ sym (eights page.log2_bits (omega (arith, p.least_bits))) in
    let size = length-page_text page (2 ^ page.log2_bits / 8) whole in
    record {
      long = omega (arith, size);
      mark = refl;
      fields =
          ap₂ (λ f c. first_bad_field page.log2_bits page.hashes f c (word_at (page_text page) 22)) (front_again page p) (commits_again page p)
          ∙ ap (λ m. first_bad_field page.log2_bits page.hashes page.front page.commits m) (moment_again page p)
          ∙ none-from_within _ _ _ _ _ (record {
            hashed = p.hashed;
            few_hashes = p.few_hashes;
            least_bits = p.least_bits;
            most_bits = p.most_bits;
            covered = p.covered;
            early = p.moment;
          });
      size = size;
    }

-- a page's text is read as the page
pub page_again : (page : Page) → IsPage page → read_page (page_text page) ≡ Ok page
page_again page p = read_page-taken (page_text page) (text_taken page p) ∙ ap Ok (again page p)
