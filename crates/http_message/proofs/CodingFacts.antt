-- Rules of RFC 9112, section 7.1, and of the limits, said of the specs, so that a slip does not check.
use Rattle.std.proofs.Common.{◌≡◌, [], Some, None, refl, codes, true, false}
use Rattle.http_message.specs.Coding.{line_length, trailers_length, capacity_behind, overlong_at, fits, line_at, trailers_at, Whole, Overlong, Short}
use Rattle.http_message.specs.Limits.{body_limit, line_limit, coding_limit}
use Rattle.http_message.specs.declared.refusal.FramingRefusal.TheVariants.{BadLength, BodyTooLarge}

-- a line ends with its first LF
pub lines : (line_length (codes "5\r\nhello\r\n") ≡ Some 3) × (line_length (codes "5;a=b\n") ≡ Some 6)
    × (line_length (codes "5\r") ≡ None) × (line_length [] ≡ None)
lines = (refl, refl, refl, refl)

-- trailers end with their empty line, which may be all of them
pub trailers : (trailers_length (codes "\r\nx") ≡ Some 2) × (trailers_length (codes "\nx") ≡ Some 1)
    × (trailers_length (codes "a: b\r\n\r\nx") ≡ Some 8) × (trailers_length (codes "a: b\r\n") ≡ None)
    × (trailers_length (codes "\r") ≡ None) × (trailers_length [] ≡ None)
trailers = (refl, refl, refl, refl, refl, refl)

-- a body has at most 65,536 bytes, and its coding, with CR LF behind each chunk, at most 524,288
pub sizes : (fits 0 65526 4 10 ≡ true) × (fits 0 65526 4 11 ≡ false) × (fits 0 0 7 body_limit ≡ true)
    × (fits 524270 0 4 12 ≡ true) × (fits 524270 0 4 13 ≡ false)
sizes = (refl, refl, refl, refl, refl)

-- a line has at most 4,096 bytes, and less where the coding may have less
pub rooms : (capacity_behind 0 ≡ line_limit) × (capacity_behind 520192 ≡ line_limit) × (capacity_behind 520193 ≡ 4095) × (capacity_behind coding_limit ≡ 0)
    × (overlong_at 520192 ≡ BadLength) × (overlong_at 520193 ≡ BodyTooLarge)
rooms = (refl, refl, refl, refl, refl, refl)

-- so a line that would pass the coding's limit is none
pub beginnings : (line_at 524285 (codes "0\r\n\r\n") ≡ Whole (codes "0\r\n")) × (line_at 524286 (codes "0\r\n\r\n") ≡ Overlong)
    × (line_at 524286 (codes "0") ≡ Short) × (trailers_at 524286 (codes "\r\nx") ≡ Whole (codes "\r\n"))
    × (trailers_at 524287 (codes "\r\nx") ≡ Overlong) × (trailers_at coding_limit [] ≡ Overlong)
unfolding line_at trailers_at
beginnings = (refl, refl, refl, refl, refl, refl)
