-- The positions of a mark, tested in turn.
use Rattle.std.proofs.Common.{◌≡◌, ℕ, suc, ◌+◌, ◌-◌, ◌*◌, ◌%◌, ◌^◌, ◌<◌, ◌≤◌, Bool, ◌&&◌, List, ◌∷◌, map, bit_and, false, true, length, Result, Ok, refl, sym, ap, ◌∙◌, arith, pow_pos}
use Rattle.std.proofs.Math.Nat.{mod-lt, mod-add-mod}
use Rattle.std.specs.List.{list_all, range_with_len}
use Rattle.q_base.specs.Positions.{position, positions_of}
use Rattle.q_base.proofs.PositionLemmas.{low_bits, all_within}
use Rattle.query_normal.specs.Bits.{is_bit_set, flat_bits}
use Rattle.query_normal.specs.Pages.{Page, is_set}
use Rattle.flat_snapshot.specs.declared.read.PageRefusal.{PageRefusal}
use Rattle.flat_snapshot.specs.declared.sight.KeyMark.{KeyMark}
use Rattle.flat_snapshot.specs.declared.sight.Sight.{Sight}
use Rattle.flat_snapshot.specs.Reading.{read_page}
use Rattle.flat_snapshot.specs.Sight.{mark_of, sight_of, sight_in, marked_sight, marked_positions}
use Rattle.flat_snapshot.proofs.ReadLemmas.{all_bits_set}

-- the positions from i on are position i and those after it
pub all_from : (p : ℕ → Bool) (f : ℕ → ℕ) (i n : ℕ) → i < n →
    list_all p (map f (range_with_len i (n - i))) ≡ (p (f i) && list_all p (map f (range_with_len (i + 1) (n - (i + 1)))))
all_from p f i n low =
    let next : n - i ≡ suc (n - (i + 1)) = omega arith in
    ap (λ m. list_all p (map f (range_with_len i m))) next

-- sums and products that wrap are a position
pub wrapped_position : (log2_bits h1 h2 i : ℕ) → log2_bits ≤ 32 →
    bit_and ((h1 + (i * h2) % 2 ^ 64) % 2 ^ 64) (1 * 2 ^ log2_bits % 2 ^ 64 - 1) ≡ position log2_bits h1 h2 i
wrapped_position log2_bits h1 h2 i few =
    let turned : h1 + (i * h2) % 2 ^ 64 ≡ (i * h2) % 2 ^ 64 + h1 = omega arith in
    let back : i * h2 + h1 ≡ h1 + i * h2 = omega arith in
    let sum : (h1 + (i * h2) % 2 ^ 64) % 2 ^ 64 ≡ (h1 + i * h2) % 2 ^ 64 =
    ap (λ n. n % 2 ^ 64) turned ∙ mod-add-mod (i * h2) (2 ^ 64) h1 ∙ ap (λ n. n % 2 ^ 64) back in
    low_bits ((h1 + (i * h2) % 2 ^ 64) % 2 ^ 64) log2_bits few ∙ ap (λ n. n % 2 ^ log2_bits) sum

-- a position is within the bits
pub position-lt : (log2_bits h1 h2 i : ℕ) → position log2_bits h1 h2 i < 2 ^ log2_bits
position-lt log2_bits h1 h2 i = mod-lt _ (pow_pos log2_bits)

-- a page says of a text what it says of the text's mark
pub marked_again : (page : Page) (mark : KeyMark) (text : List ℕ) → mark ≡ mark_of text → marked_sight page mark ≡ sight_of page text
unfolding positions_of
marked_again page mark text is = ap (marked_sight page) is

-- where one position is not set, not all are
pub settled : (b rest all : Bool) → b ≡ false → all ≡ (b && rest) → false ≡ all
settled b rest all none is = sym (is ∙ ap (λ (t : Bool). t && rest) none)

-- where one position is set, the rest decide
pub left_over : (b rest all : Bool) → b ≡ true → all ≡ (b && rest) → all ≡ rest
left_over b rest all set is = is ∙ ap (λ (t : Bool). t && rest) set

-- what bytes that are a page say of a text
pub looked : (bytes text : List ℕ) (page : Page) (held : Bool) → Ok page ≡ read_page bytes → held ≡ (sight_of page text).is_held →
    Ok (record { front = page.front; moment = page.moment; is_held = held }) ≡ sight_in text (read_page bytes)
looked bytes text page held was is =
    let make : Bool → Result Sight PageRefusal = λ b. Ok (record { front = page.front; moment = page.moment; is_held = b }) in
    let e : make held ≡ sight_in text (Ok page) = ap make is in
    e ∙ ap (sight_in text) was

-- the bits of the bytes at the positions of a mark are those of the page
pub marked_held : (page : Page) (bytes : List ℕ) (mark : KeyMark) → page.bits ≡ flat_bits bytes → length (flat_bits bytes) ≡ 2 ^ page.log2_bits →
    list_all (is_bit_set bytes) (marked_positions mark page.log2_bits page.hashes) ≡ (marked_sight page mark).is_held
marked_held page bytes mark bits long =
    all_bits_set page bytes (marked_positions mark page.log2_bits page.hashes) (2 ^ page.log2_bits) bits long (all_within page.log2_bits mark.first mark.second (range_with_len 0 page.hashes))
