-- Worked rows, computed from the definitions.
use Rattle.std.proofs.Common.{◌≡◌, [], ◌∷◌, codes, refl}
use Rattle.sha2.specs.Sha256.{sha256, digest_bytes, hash_after, compress, rounds, schedule, first_words}
use Rattle.q_base.specs.Positions.{positions_of}

-- the positions of `abc`, whose digest FIPS 180-4 gives as an example
pub abc : positions_of (codes "abc") 10 8 ≡ 1002 ∷ 525 ∷ 48 ∷ 595 ∷ 118 ∷ 665 ∷ 188 ∷ 735 ∷ []
unfolding positions_of sha256 digest_bytes hash_after compress rounds schedule first_words
abc = refl
