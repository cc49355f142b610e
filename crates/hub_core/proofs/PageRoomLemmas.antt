-- A page written into its buffer.
use Rattle.std.proofs.Common.{◌≡◌, ℕ, ◌*◌, ◌^◌, ◌<◌, ◌≤◌, Bool, true, false, if◌then◌else◌, nat_lt, List, ◌++◌, length, take, drop, All, Option, Some, None, option_map, refl, sym, ap, ◌∙◌, arith, append-nil}
use Rattle.std.specs.Prelude.{unwrap_or}
use Rattle.std.proofs.lemmas.Bool.{lt-ltb, le-ltb}
use Rattle.std.proofs.Math.ListN.{drop_of_length-le}
use Rattle.query_normal.specs.Bits.{flat_bits}
use Rattle.query_normal.specs.Pages.{Page}
use Rattle.query_normal.proofs.BitLemmas.{length-flat_bits}
use Rattle.flat_snapshot.specs.PageText.{page_text, page_with, head_text, bytes_of}
use Rattle.flat_snapshot.proofs.ByteLemmas.{bytes_of-flat_bits}
use Rattle.flat_snapshot.proofs.WriteLemmas.{length-head_text, after_head, length-page_text}
use Rattle.expiring_filter.proofs.CountLemmas.{whole_written}
use Rattle.hub_core.specs.declared.page_room.Numbers.{Numbers}
use Rattle.hub_core.specs.PageRoom.{IsKept, PageRoomView, all_set, moment_in, page_in, set_below}

-- a page that fills its buffer
pub filled : (lent room after text : List ℕ) (len n : ℕ) → lent ≡ room → length lent ≡ len → length after ≡ length lent → length room ≤ n → after ≡ text ++ drop n lent →
    take len (after ++ drop (length after) room) ≡ text
filled lent room after text len n value long same full written =
    whole_written room lent after len value long same
    ∙ written
    ∙ ap (λ (xs : List ℕ). text ++ xs) (drop_of_length-le lent (let size = ap length value in omega (arith, size, full)))
    ∙ append-nil text

-- the page's bits are behind its head
page_again : (log2_bits hashes : ℕ) (numbers : Numbers) (bits bytes : List ℕ) → All (λ b. b < 2 ^ 8) bits → bytes ≡ page_text (page_with log2_bits hashes numbers.front numbers.commits numbers.moment bits) →
    page_in log2_bits hashes bytes numbers ≡ page_with log2_bits hashes numbers.front numbers.commits numbers.moment bits
page_again log2_bits hashes numbers bits bytes small text =
    let head = head_text log2_bits hashes numbers.front numbers.commits numbers.moment in
    let behind : drop 30 bytes ≡ bits =
    ap (drop 30) text ∙ after_head head (bytes_of (flat_bits bits)) 30 (length-head_text log2_bits hashes numbers.front numbers.commits numbers.moment) ∙ bytes_of-flat_bits bits small in
    ap (page_with log2_bits hashes numbers.front numbers.commits numbers.moment) behind

-- the buffer keeps the page that was written
pub kept-written : (log2_bits hashes : ℕ) (fetched : Option Numbers) (numbers : Numbers) (room bits bytes : List ℕ) → IsKept log2_bits hashes fetched room → All (λ b. b < 2 ^ 8) bits → 8 * length bits ≡ 2 ^ log2_bits →
    bytes ≡ page_text (page_with log2_bits hashes numbers.front numbers.commits numbers.moment bits) →
    IsKept log2_bits hashes (Some numbers) bytes × (page_in log2_bits hashes bytes numbers ≡ page_with log2_bits hashes numbers.front numbers.commits numbers.moment bits)
kept-written log2_bits hashes fetched numbers room bits bytes kept small size text =
    let long = ap length text ∙ length-page_text (page_with log2_bits hashes numbers.front numbers.commits numbers.moment bits) (length bits) (length-flat_bits bits) in
    let again = page_again log2_bits hashes numbers bits bytes small text in (
      record {
        least = kept.least;
        most = kept.most;
        sized = omega (arith, long, size);
        text = text ∙ ap page_text (sym again);
      },
      again,
    )

-- what is set where the moment of a page is below a second
by_moment : (guard : ℕ) (fetched : Option Page) (b : Bool) → nat_lt (unwrap_or (option_map (λ (page : Page). page.moment) fetched) 0) guard ≡ b → (if b then option_map all_set fetched else fetched) ≡ option_map (set_below guard) fetched
by_moment guard None true h = refl
by_moment guard None false h = refl
by_moment guard (Some page) true h = ap (λ (b : Bool). Some (if b then all_set page else page)) (sym h)
by_moment guard (Some page) false h = ap (λ (b : Bool). Some (if b then all_set page else page)) (sym h)

-- below it every bit is, and else none
pub all_below : (room : PageRoomView) (moment guard : ℕ) → moment ≡ moment_in room → moment < guard → record room { page = option_map all_set room.page } ≡ record room { page = option_map (set_below guard) room.page }
all_below room moment guard is early =
    let test : nat_lt (moment_in room) guard ≡ true = ap (λ (n : ℕ). nat_lt n guard) (sym is) ∙ lt-ltb moment guard early in
    ap (λ (page : Option Page). record { log2_bits = room.log2_bits; hashes = room.hashes; page = page }) (by_moment guard room.page true test)

pub none_behind : (room : PageRoomView) (moment guard : ℕ) → moment ≡ moment_in room → guard ≤ moment → room ≡ record room { page = option_map (set_below guard) room.page }
none_behind room moment guard is late =
    let test : nat_lt (moment_in room) guard ≡ false = ap (λ (n : ℕ). nat_lt n guard) (sym is) ∙ le-ltb moment guard late in
    ap (λ (page : Option Page). record { log2_bits = room.log2_bits; hashes = room.hashes; page = page }) (by_moment guard room.page false test)
