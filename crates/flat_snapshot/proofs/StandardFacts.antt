-- Worked rows, computed from the definitions.
use Rattle.std.proofs.Common.{◌≡◌, [], ◌∷◌, ◌++◌, replicate, refl}
use Rattle.flat_snapshot.specs.PageText.{page_text, head_text, bytes_of, blank_page}

-- the page without any bit of 1,024 bits and 8 hashes at moment 100: 158 bytes
pub empty_page : page_text (blank_page 10 8 0 0 100) ≡ 0x51 ∷ 0x53 ∷ 0x46 ∷ 0x31 ∷ 0x08 ∷ 0x0a ∷ [] ++ replicate 23 0 ++ 0x64 ∷ [] ++ replicate 128 0
unfolding head_text bytes_of
empty_page = refl
