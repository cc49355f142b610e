-- A page of which every bit is set, in its buffer.
use Rattle.std.proofs.Common.{◌≡◌, ℕ, zero, suc, ◌+◌, ◌-◌, ◌*◌, ◌/◌, ◌%◌, ◌^◌, ◌<◌, ◌≤◌, ◌==◌, Bool, true, false, List, [], ◌++◌, length, take, drop, replicate, All, Option, Some, None, option_map, refl, sym, ap, ap₂, ◌∙◌, subst, arith, lit<, length-append, length-drop}
use Rattle.std.specs.Prelude.{IfSome}
use Rattle.std.specs.Int.{bit_at}
use Rattle.std.proofs.Math.ListN.{drop_of_length-le}
use Rattle.std.proofs.lemmas.List.{ext_get_or, length-replicate, get_or-replicate, length-take-le, append-nil}
use Rattle.std.proofs.lemmas.List.Elements.{All-replicate}
use borrow.Rule.Slice.PartMut.{put_mid}
use Rattle.query_normal.specs.Bits.{flat_bits}
use Rattle.query_normal.specs.Pages.{Page}
use Rattle.query_normal.proofs.BitLemmas.{length-flat_bits, get_or-flat_bits}
use Rattle.flat_snapshot.specs.PageText.{page_text, page_with, head_text, bytes_of}
use Rattle.flat_snapshot.proofs.ByteLemmas.{bytes_of-flat_bits}
use Rattle.flat_snapshot.proofs.WriteLemmas.{length-head_text, after_head, head_again}
use Rattle.hub_core.specs.declared.page_room.Numbers.{Numbers}
use Rattle.hub_core.specs.PageRoom.{IsKept, all_set, page_in}
use Rattle.hub_core.proofs.PageRoomLemmas.{filled}

-- each of the eight bits of 255 is set
ones_bit : (i : ℕ) → i < 8 → ◌≡◌ {A = Bool} (bit_at 255 i == 1) true
ones_bit zero h = refl
ones_bit (suc zero) h = refl
ones_bit (suc (suc zero)) h = refl
ones_bit (suc (suc (suc zero))) h = refl
ones_bit (suc (suc (suc (suc zero)))) h = refl
ones_bit (suc (suc (suc (suc (suc zero))))) h = refl
ones_bit (suc (suc (suc (suc (suc (suc zero)))))) h = refl
ones_bit (suc (suc (suc (suc (suc (suc (suc zero))))))) h = refl
ones_bit (suc (suc (suc (suc (suc (suc (suc (suc i)))))))) h = absurd (omega (arith, h))

-- the bits of bytes of which each is 255
flat_bits-ones : (n : ℕ) → flat_bits (replicate n 255) ≡ replicate (8 * n) true
flat_bits-ones n =
    let size = length-flat_bits (replicate n 255) in
    let long = length-replicate {A = ℕ} n 255 in
    ext_get_or false (flat_bits (replicate n 255)) (replicate (8 * n) true)
    (size ∙ ap (λ m. 8 * m) long ∙ sym (length-replicate (8 * n) true))
    (λ j low.
    get_or-flat_bits (replicate n 255) j false (omega (arith, size))
    ∙ ap (λ m. bit_at m (j % 8) == 1) (get_or-replicate n (j / 8) 255 0 (omega (arith, size, long)))
    ∙ ones_bit (j % 8) (omega arith)
    ∙ sym (get_or-replicate (8 * n) j true false (omega (arith, size, long))))

-- a buffer whose bytes behind the head were all set
module _ (log2_bits hashes : ℕ) (bytes after : List ℕ) (after_is : after ≡ take 30 bytes ++ replicate (length bytes - 30) 255) (least : 30 ≤ length bytes) where
  head_long : length (take 30 bytes) ≡ 30
  head_long = length-take-le 30 bytes least

  behind : drop 30 after ≡ replicate (length bytes - 30) 255
  behind = ap (drop 30) after_is ∙ after_head (take 30 bytes) (replicate (length bytes - 30) 255) 30 head_long

  bits_are : flat_bits (drop 30 after) ≡ replicate (length (flat_bits (drop 30 bytes))) true
  bits_are =
      let same : 8 * (length bytes - 30) ≡ length (flat_bits (drop 30 bytes)) = sym (length-flat_bits (drop 30 bytes) ∙ ap (λ (n : ℕ). 8 * n) (length-drop 30 bytes)) in
      ap flat_bits behind ∙ flat_bits-ones (length bytes - 30) ∙ ap (λ (n : ℕ). replicate n true) same

  -- the page is the one that was there, with every bit set
  page_again : (numbers : Numbers) → page_in log2_bits hashes after numbers ≡ all_set (page_in log2_bits hashes bytes numbers)
  page_again numbers =
      ap (λ (bits : List Bool). record { log2_bits = log2_bits; hashes = hashes; front = numbers.front; commits = numbers.commits; moment = numbers.moment; bits = bits }) bits_are

  small : All (λ b. b < 2 ^ 8) (drop 30 after)
  small = subst (λ (xs : List ℕ). All (λ b. b < 2 ^ 8) xs) (sym behind) (All-replicate (λ b. b < 2 ^ 8) (length bytes - 30) 255 (lit< tt))

  text_again : (numbers : Numbers) → bytes ≡ page_text (page_in log2_bits hashes bytes numbers) → after ≡ page_text (page_in log2_bits hashes after numbers)
  text_again numbers was =
      let head : take 30 bytes ≡ head_text log2_bits hashes numbers.front numbers.commits numbers.moment =
      ap (take 30) was ∙ head_again (head_text log2_bits hashes numbers.front numbers.commits numbers.moment) (bytes_of (flat_bits (drop 30 bytes))) 30 (length-head_text log2_bits hashes numbers.front numbers.commits numbers.moment) in
      let tail : replicate (length bytes - 30) 255 ≡ bytes_of (flat_bits (drop 30 after)) = sym behind ∙ sym (bytes_of-flat_bits (drop 30 after) small) in
      after_is ∙ ap₂ (λ (xs ys : List ℕ). xs ++ ys) head tail

  text_kept : (fetched : Option Numbers) → IfSome fetched (λ numbers. bytes ≡ page_text (page_in log2_bits hashes bytes numbers)) → IfSome fetched (λ numbers. after ≡ page_text (page_in log2_bits hashes after numbers))
  text_kept None was = was
  text_kept (Some numbers) was = text_again numbers was

  pub kept-all_set : (fetched : Option Numbers) → IsKept log2_bits hashes fetched bytes → IsKept log2_bits hashes fetched after
  kept-all_set fetched kept =
      let size : length after ≡ length (take 30 bytes) + (length bytes - 30) = ap length after_is ∙ length-append (take 30 bytes) (replicate (length bytes - 30) 255) ∙ ap (λ (n : ℕ). length (take 30 bytes) + n) (length-replicate (length bytes - 30) 255) in
      record {
        least = kept.least;
        most = kept.most;
        sized = omega (arith, size, head_long, least, kept.sized);
        text = text_kept fetched kept.text;
      }

  pub page-all_set : (fetched : Option Numbers) → option_map (page_in log2_bits hashes after) fetched ≡ option_map all_set (option_map (page_in log2_bits hashes bytes) fetched)
  page-all_set None = refl
  page-all_set (Some numbers) = ap Some (page_again numbers)

-- the bytes of the buffer, lent and given back
pub set_behind : (lent room filling : List ℕ) (len : ℕ) → lent ≡ room → length lent ≡ len → 30 ≤ length room → filling ≡ replicate (length (take (length lent - 30) (drop 30 lent))) 255 →
    take len (put_mid 30 (length lent - 30) lent filling ++ drop (length (put_mid 30 (length lent - 30) lent filling)) room) ≡ take 30 room ++ replicate (length room - 30) 255
set_behind lent room filling len value long least is =
    let whole : length lent ≡ length room = ap length value in
    let rest = length-drop 30 lent in
    let cut : length (take (length lent - 30) (drop 30 lent)) ≡ length lent - 30 = length-take-le (length lent - 30) (drop 30 lent) (omega (arith, rest)) in
    let ones : filling ≡ replicate (length room - 30) 255 = is ∙ ap (λ (n : ℕ). replicate n 255) (cut ∙ ap (λ (n : ℕ). n - 30) whole) in
    let none : drop (length lent - 30) (drop 30 lent) ≡ [] = drop_of_length-le (drop 30 lent) (omega (arith, rest)) in
    let made : put_mid 30 (length lent - 30) lent filling ≡ take 30 room ++ replicate (length room - 30) 255 =
    ap₂ (λ (xs ys : List ℕ). take 30 lent ++ (xs ++ ys)) ones none ∙ ap (λ (xs : List ℕ). take 30 lent ++ xs) (append-nil (replicate (length room - 30) 255)) ∙ ap (λ (xs : List ℕ). take 30 xs ++ replicate (length room - 30) 255) value in
    let head = length-take-le 30 room least in
    let sum = length-append (take 30 room) (replicate (length room - 30) 255) in
    let tail = length-replicate {A = ℕ} (length room - 30) 255 in
    let size : length (put_mid 30 (length lent - 30) lent filling) ≡ length lent = ap length made ∙ omega (arith, sum, head, tail, least, whole) in
    filled lent room (put_mid 30 (length lent - 30) lent filling) (take 30 room ++ replicate (length room - 30) 255) len (length room) value long size (omega arith)
    (made ∙ sym (ap (λ (xs : List ℕ). (take 30 room ++ replicate (length room - 30) 255) ++ xs) (drop_of_length-le lent (omega (arith, whole))) ∙ append-nil (take 30 room ++ replicate (length room - 30) 255)))
