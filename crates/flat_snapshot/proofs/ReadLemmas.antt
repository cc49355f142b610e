-- What is read of a page's text.
use Rattle.std.proofs.Common.{◌≡◌, ℕ, ◌+◌, ◌-◌, ◌*◌, ◌/◌, ◌%◌, ◌^◌, ◌<◌, ◌≤◌, Bool, ◌==◌, true, false, not, ◌&&◌, if◌then◌else◌, nat_lt, nat_le, List, [], ◌∷◌, length, take, drop, get_or, All, Option, Some, None, Result, Ok, Err, IsErr, codes, bytes_eq, refl, sym, ap, ap₂, ◌∙◌, subst, arith, suc, min, length-drop}
use Rattle.std.proofs.Math.Seq.{take-length}
use Rattle.std.specs.List.{list_all}
use Rattle.std.proofs.lemmas.Bool.{cond-true, cond-false, and_parts, not-false, leb-true, ltb-false, le-leb, le-ltb, eq-eqb, eqb-true, and_from, not_from_true}
use Rattle.query_normal.specs.Bits.{is_bit_set, flat_bits}
use Rattle.query_normal.specs.Pages.{Page, is_set}
use Rattle.query_normal.proofs.BitLemmas.{length-flat_bits, get_or-flat_bits}
use Rattle.flat_snapshot.specs.declared.read.PageRefusal.{PageRefusal}
use Rattle.flat_snapshot.proofs.WriteLemmas.{eights, size_shifted}
use Rattle.q_base.specs.Moment.{greatest_moment}
use Rattle.flat_snapshot.specs.PageText.{IsPage, page_with}
use Rattle.flat_snapshot.specs.Reading.{word_at, page_in, first_bad_field, bad_field_in, size_of, read_sized, read_page}

-- positions below the number of bits are within the bytes
pub places_within : (bytes positions : List ℕ) (size : ℕ) → length (flat_bits bytes) ≡ size → All (λ p. p < size) positions → All (λ p. p / 8 < length bytes) positions
places_within bytes positions size long within k d low =
    let count = length-flat_bits bytes in
    let small = within k d low in
    omega (arith, count, long, small)

-- tests that agree on each element agree on all
list_all_same : (p q : ℕ → Bool) (xs : List ℕ) → All (λ x. p x ≡ q x) xs → list_all p xs ≡ list_all q xs
list_all_same p q [] same = refl
list_all_same p q (x ∷ xs) same =
    ap₂ (λ a b. a && b) (same 0 0 (omega arith)) (list_all_same p q xs (λ k d low. same (suc k) d (omega arith)))

-- the bits of the bytes are the bits of the page
pub all_bits_set : (page : Page) (bytes positions : List ℕ) (size : ℕ) → page.bits ≡ flat_bits bytes → length (flat_bits bytes) ≡ size → All (λ p. p < size) positions →
    list_all (is_bit_set bytes) positions ≡ list_all (is_set page) positions
all_bits_set page bytes positions size bits long within =
    list_all_same (is_bit_set bytes) (is_set page) positions
    (λ k d low.
    let count = length-flat_bits bytes in
    let small = within k d low in
    sym (get_or-flat_bits bytes _ false (omega (arith, count, long, small)))
    ∙ ap (λ (xs : List Bool). get_or xs (get_or positions k d) false) (sym bits))

-- where the last of four choices is taken, no test passed
all_false : (a b c d : Bool) → if◌then◌else◌ {A = Option ℕ} a (Some 4) (if b then Some 5 else (if c then Some 6 else (if d then Some 22 else None))) ≡ None →
    (a ≡ false) × (b ≡ false) × (c ≡ false) × (d ≡ false)
all_false true b c d h = absurd (let e = h in cc)
all_false false true c d h = absurd (let e = h in cc)
all_false false false true d h = absurd (let e = h in cc)
all_false false false false true h = absurd (let e = h in cc)
all_false false false false false h = (refl, refl, refl, refl)

-- where neither of two refusals comes
no_refusal : (a b : Bool) (x y : PageRefusal) (r : Result Page PageRefusal) (page : Page) → (if a then Err x else (if b then Err y else r)) ≡ Ok page →
    (a ≡ false) × (b ≡ false) × (r ≡ Ok page)
no_refusal true b x y r page h = absurd (let e = h in cc)
no_refusal false true x y r page h = absurd (let e = h in cc)
no_refusal false false x y r page h = (refl, refl, h)

-- where the size is right
right_size : (fits : Bool) (x : Page) (y : PageRefusal) (page : Page) → (if fits then Ok x else Err y) ≡ Ok page → (fits ≡ true) × (x ≡ page)
right_size true x y page h = (refl, let e : x ≡ page = cc in e)
right_size false x y page h = absurd (let e = h in cc)

-- the fields are within their limits
pub record IsWithin (log2_bits hashes front commits moment : ℕ) : Type 0 where
  pub hashed : 1 ≤ hashes
  pub few_hashes : hashes ≤ 16
  pub least_bits : 10 ≤ log2_bits
  pub most_bits : log2_bits ≤ 22
  pub covered : front ≤ commits
  pub early : moment ≤ greatest_moment

-- a test of two bounds, passed
both_bounds : (low n high : ℕ) → not (nat_le low n && nat_le n high) ≡ false → (low ≤ n) × (n ≤ high)
both_bounds low n high h =
    let parts = and_parts (nat_le low n) (nat_le n high) (not-false _ h) in
    (leb-true low n parts.0, leb-true n high parts.1)

-- two bounds, tested
bounds_pass : (low n high : ℕ) → low ≤ n → n ≤ high → not (nat_le low n && nat_le n high) ≡ false
bounds_pass low n high p q = not_from_true _ (and_from _ _ (le-leb low n p) (le-leb n high q))

-- no field is bad exactly where all are within their limits
pub within-from_none : (l h f c m : ℕ) → first_bad_field l h f c m ≡ None → IsWithin l h f c m
within-from_none l h f c m none =
    let passed = all_false (not (nat_le 1 h && nat_le h 16)) (not (nat_le 10 l && nat_le l 22)) (nat_lt c f) (nat_lt greatest_moment m) none in
    record {
      hashed = (both_bounds 1 h 16 passed.0).0;
      few_hashes = (both_bounds 1 h 16 passed.0).1;
      least_bits = (both_bounds 10 l 22 passed.1).0;
      most_bits = (both_bounds 10 l 22 passed.1).1;
      covered = ltb-false c f passed.2;
      early = ltb-false greatest_moment m passed.3;
    }

pub none-from_within : (l h f c m : ℕ) → IsWithin l h f c m → first_bad_field l h f c m ≡ None
none-from_within l h f c m w =
    cond-false _ _ _ (bounds_pass 1 h 16 w.hashed w.few_hashes)
    ∙ cond-false _ _ _ (bounds_pass 10 l 22 w.least_bits w.most_bits)
    ∙ cond-false _ _ _ (le-ltb c f w.covered)
    ∙ cond-false _ _ _ (le-ltb greatest_moment m w.early)

-- what bytes have that are read as a page
pub record IsTaken (bytes : List ℕ) : Type 0 where
  pub long : 30 ≤ length bytes
  pub mark : bytes_eq (take 4 bytes) (codes "QSF1") ≡ true
  pub fields : bad_field_in bytes ≡ None
  pub size : length bytes ≡ size_of (get_or bytes 5 0)

pub read_page-taken : (bytes : List ℕ) → IsTaken bytes → read_page bytes ≡ Ok (page_in bytes)
read_page-taken bytes t =
    cond-false _ _ _ (le-ltb (length bytes) 30 t.long)
    ∙ cond-false _ _ _ (not_from_true _ t.mark)
    ∙ ap (read_sized bytes) t.fields
    ∙ cond-true _ _ _ (eq-eqb _ _ t.size)

-- the last step of reading
sized_ok : (bytes : List ℕ) (page : Page) (field : Option ℕ) → read_sized bytes field ≡ Ok page →
    (field ≡ None) × (length bytes ≡ size_of (get_or bytes 5 0)) × (page_in bytes ≡ page)
sized_ok bytes page (Some offset) h = absurd (let e = h in cc)
sized_ok bytes page None h =
    let right = right_size (length bytes == size_of (get_or bytes 5 0)) (page_in bytes) _ page h in
    (refl, eqb-true _ _ right.0, right.1)

pub taken-from_read : (bytes : List ℕ) (page : Page) → read_page bytes ≡ Ok page → IsTaken bytes × (page_in bytes ≡ page)
taken-from_read bytes page h =
    let taken = no_refusal (nat_lt (length bytes) 30) (not (bytes_eq (take 4 bytes) (codes "QSF1"))) _ _ (read_sized bytes (bad_field_in bytes)) page h in
    let sized = sized_ok bytes page (bad_field_in bytes) taken.2 in (
      record {
        long = ltb-false (length bytes) 30 taken.0;
        mark = not-false _ taken.1;
        fields = sized.0;
        size = sized.1;
      },
      sized.2,
    )

-- what is within its limits is a page
pub is_page : (l h f c m : ℕ) (bytes : List ℕ) → IsWithin l h f c m → c < 2 ^ 64 → 30 + length bytes ≡ size_of l → IsPage (page_with l h f c m bytes)
is_page l h f c m bytes w small size =
    let count = length-flat_bits bytes in
    let whole = eights l (omega (arith, w.least_bits)) in
    record {
      hashed = w.hashed;
      few_hashes = w.few_hashes;
      least_bits = w.least_bits;
      most_bits = w.most_bits;
      covered = w.covered;
      commits = small;
      moment = w.early;
      bits = omega (arith, count, whole, size);
    }

-- what the code tested of the bytes
pub record Tested (bytes : List ℕ) (front commits seconds : ℕ) : Type 0 where
  pub long : 30 ≤ length bytes
  pub mark : bytes_eq (take 4 bytes) (codes "QSF1") ≡ true
  pub fields : None ≡ first_bad_field (get_or bytes 5 0) (get_or bytes 4 0) front commits seconds
  pub front_is : front ≡ word_at bytes 6
  pub commits_is : commits ≡ word_at bytes 14
  pub seconds_is : seconds ≡ word_at bytes 22
  pub size : length bytes ≡ 30 + 1 * 2 ^ get_or bytes 5 0 % 2 ^ 64 / 8

pub tested_taken : (bytes : List ℕ) (front commits seconds : ℕ) → Tested bytes front commits seconds → IsTaken bytes
tested_taken bytes front commits seconds t =
    let within = within-from_none (get_or bytes 5 0) (get_or bytes 4 0) front commits seconds (sym t.fields) in
    record {
      long = t.long;
      mark = t.mark;
      fields =
          ap (λ n. first_bad_field (get_or bytes 5 0) (get_or bytes 4 0) n (word_at bytes 14) (word_at bytes 22)) (sym t.front_is)
          ∙ ap₂ (λ m n. first_bad_field (get_or bytes 5 0) (get_or bytes 4 0) front m n) (sym t.commits_is) (sym t.seconds_is)
          ∙ sym t.fields;
      size = t.size ∙ ap (λ n. 30 + n / 8) (size_shifted (get_or bytes 5 0) within.most_bits);
    }

-- they are a page, and no reason to refuse them is left
pub none_left : (bytes : List ℕ) (front commits seconds : ℕ) (r : Result Page PageRefusal) → Tested bytes front commits seconds → IsErr (read_page bytes) → r ≡ read_page bytes
none_left bytes front commits seconds r t wrong =
    absurd (let never = subst (λ (o : Result Page PageRefusal). IsErr o) (read_page-taken bytes (tested_taken bytes front commits seconds t)) wrong in cc)

-- what the code knows of the parts that it read
pub record Parsed (bytes bits : List ℕ) (front commits seconds moment : ℕ) : Type 0 where
  pub tested : Tested bytes front commits seconds
  pub small : commits < 2 ^ 64
  pub bits_is : bits ≡ take (length bytes - 30) (drop 30 bytes)
  pub moment_is : moment ≡ min seconds greatest_moment

-- the parts make the page that the bytes are
pub parsed_page : (bytes bits : List ℕ) (front commits seconds moment : ℕ) → Parsed bytes bits front commits seconds moment →
    IsPage (page_with (get_or bytes 5 0) (get_or bytes 4 0) front commits moment bits)
    × (Ok (page_with (get_or bytes 5 0) (get_or bytes 4 0) front commits moment bits) ≡ read_page bytes)
parsed_page bytes bits front commits seconds moment p =
    let t = p.tested in
    let within = within-from_none (get_or bytes 5 0) (get_or bytes 4 0) front commits seconds (sym t.fields) in
    let taken = tested_taken bytes front commits seconds t in
    let size = taken.size in
    let cut = length-drop 30 bytes in
    let rest : bits ≡ drop 30 bytes =
    p.bits_is ∙ ap (λ n. take n (drop 30 bytes)) (sym cut) ∙ take-length (drop 30 bytes) in
    let early : moment ≡ seconds = omega (arith, p.moment_is, within.early) in
    let placed : IsWithin (get_or bytes 5 0) (get_or bytes 4 0) front commits moment = rw early within in
    let count : 30 + length bits ≡ size_of (get_or bytes 5 0) =
    (let bits_long : length bits ≡ length (drop 30 bytes) = ap length rest in omega (arith, bits_long, cut, size, t.long)) in
    let same : page_with (get_or bytes 5 0) (get_or bytes 4 0) front commits moment bits ≡ page_in bytes =
    ap (λ n. page_with (get_or bytes 5 0) (get_or bytes 4 0) n commits moment bits) t.front_is
    ∙ ap₂ (λ m n. page_with (get_or bytes 5 0) (get_or bytes 4 0) (word_at bytes 6) m n bits) t.commits_is (early ∙ t.seconds_is)
    ∙ ap (λ (xs : List ℕ). page_with (get_or bytes 5 0) (get_or bytes 4 0) (word_at bytes 6) (word_at bytes 14) (word_at bytes 22) xs) rest in
    (is_page _ _ _ _ _ bits placed p.small count, ap Ok same ∙ sym (read_page-taken bytes taken))

-- the bytes from an index on, as a slice of them is written
pub rest_is : (n : ℕ) (bytes : List ℕ) → take (length bytes - n) (drop n bytes) ≡ drop n bytes
rest_is n bytes = ap (λ m. take m (drop n bytes)) (sym (length-drop n bytes)) ∙ take-length (drop n bytes)

-- the bits as they were copied and the moment as it was made are those that were read
pub read_again : (bytes bits : List ℕ) (l h f c m n : ℕ) → IsPage (page_with l h f c m (drop 30 bytes)) → bits ≡ take (length bytes - 30) (drop 30 bytes) → n ≡ min m greatest_moment →
    page_with l h f c n bits ≡ page_with l h f c m (drop 30 bytes)
read_again bytes bits l h f c m n is copied made =
    let early : n ≡ m = omega (arith, made, is.moment) in
    ap₂ (λ (k : ℕ) (xs : List ℕ). page_with l h f c k xs) early (copied ∙ rest_is 30 bytes)
