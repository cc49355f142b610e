-- Believed. What contracts see of the buffer for a page.
use Rattle.std.specs.Prelude.{◌≡◌, ℕ, ◌+◌, ◌/◌, ◌^◌, ◌≤◌, true, if◌then◌else◌, nat_lt, List, length, drop, replicate, Option, option_map, unwrap_or, IfSome}
use Rattle.flat_snapshot.specs.PageText.{page_text, page_with}
use Rattle.hub_model.specs.Setting.{Setting}
use Rattle.query_normal.specs.Pages.{Page}
use Rattle.hub_core.specs.declared.page_room.Numbers.{Numbers}

-- the sizes for which it was made, and the last fetched page
pub record PageRoomView : Type 0 where
  pub log2_bits : ℕ
  pub hashes : ℕ
  pub page : Option Page

-- the buffer was made for a hub of this configuration
pub record IsRoomFor (g : Setting) (room : PageRoomView) : Type 0 where
  pub log2_bits : room.log2_bits ≡ g.log2_bits
  pub hashes : room.hashes ≡ g.hashes

-- the moment of the last fetched page, or 0 before the first
abbrev pub moment_in : PageRoomView → ℕ
moment_in room = unwrap_or (option_map (λ (page : Page). page.moment) room.page) 0

-- the page with every bit set
abbrev pub all_set : Page → Page
all_set page = record page { bits = replicate (length page.bits) true }

-- the page, or where its moment is below this one the page with every bit set
abbrev pub set_below : ℕ → Page → Page
set_below guard page = if nat_lt page.moment guard then all_set page else page

-- the page whose bits come after its header
abbrev pub page_in : ℕ → ℕ → List ℕ → Numbers → Page
page_in log2_bits hashes bytes numbers = page_with log2_bits hashes numbers.front numbers.commits numbers.moment (drop 30 bytes)

-- the bytes have the size of a page, and are the text of the one that was fetched
pub record IsKept (log2_bits hashes : ℕ) (fetched : Option Numbers) (bytes : List ℕ) : Type 0 where
  pub least : 3 ≤ log2_bits
  pub most : log2_bits ≤ 22
  pub sized : length bytes ≡ 30 + 2 ^ log2_bits / 8
  pub text : IfSome fetched (λ numbers. bytes ≡ page_text (page_in log2_bits hashes bytes numbers))
