-- Believed. What a page is, and whether it holds a key: a Bloom filter (Bloom 1970) of the keys with an outdated
-- copy, as in Quaestor (Gessert et al., VLDB 2017).
use Rattle.std.specs.Prelude.{ℕ, Bool, false, List, get_or}
use Rattle.std.specs.List.{list_all}
use Rattle.q_base.specs.Positions.{positions_of}
use Rattle.query_normal.specs.declared.key.KeyShape.{KeyShape}
use Rattle.query_normal.specs.Keys.{key_text}

-- the least exponent of a page's size: a page has 2 ^ exponent bits
abbrev pub least_log2_bits : ℕ
least_log2_bits = 10

-- the greatest exponent of a page's size
abbrev pub most_log2_bits : ℕ
most_log2_bits = 22

-- the fewest hashes of a page
abbrev pub fewest_hashes : ℕ
fewest_hashes = 1

-- the most hashes of a page
abbrev pub most_hashes : ℕ
most_hashes = 16

-- the exponent of its size, the number of hashes, the commit up to which all were matched, the number
-- of commits, the moment, and 2 ^ log2_bits bits
pub record Page : Type 0 where
  pub log2_bits : ℕ
  pub hashes : ℕ
  pub front : ℕ
  pub commits : ℕ
  pub moment : ℕ
  pub bits : List Bool

-- the positions of a key: the bits that its text is hashed to
abbrev pub positions : KeyShape → ℕ → ℕ → List ℕ
positions key log2_bits hashes = positions_of (key_text key) log2_bits hashes

-- whether bit j is set
abbrev pub is_set : Page → ℕ → Bool
is_set page j = get_or page.bits j false

-- whether all bits of the key are set
abbrev pub page_holds : Page → KeyShape → Bool
page_holds page key = list_all (is_set page) (positions key page.log2_bits page.hashes)
