-- Definitions of replies, tried on worked examples.
use Rattle.std.proofs.Common.{◌≡◌, [], ◌∷◌, refl}
use Rattle.std.specs.Prelude.{Some, None, codes}
use Rattle.client_wire.specs.Numbers.{is_number, number_within, number_in, length_in, tag_in}
use Rattle.client_wire.specs.ReplyFields.{first_refused, lifetime_by, value_place}

-- numbers may begin with zeros, and a length has 19 digits at most
pub numbers :
    (number_in (codes "007") ≡ Some 7)
    × (number_in (codes "18446744073709551616") ≡ None)
    × (number_in (codes "+7") ≡ None)
    × (length_in (codes "0000000000000000007") ≡ Some 7)
    × (length_in (codes "00000000000000000007") ≡ None)
    × (length_in (codes "134217731") ≡ None)
unfolding number_within is_number
numbers = (refl, refl, refl, refl, refl, refl)

-- a strong tag that names a commit (RFC 9110, section 8.8.3)
pub tags : (tag_in (codes "\"7\"") ≡ Some 7) × (tag_in (codes "W/\"7\"") ≡ None) × (tag_in (codes "\"") ≡ None)
unfolding number_within is_number
tags = (refl, refl, refl)

-- where values begin: behind the colon and white space, or at the end of a line that has none
pub places :
    (value_place (codes "HTTP/1.1 200 OK\r\nA: b\r\nDate:  x\r\n\r\n") 0 ≡ 20)
    × (value_place (codes "HTTP/1.1 200 OK\r\nA: b\r\nDate:  x\r\n\r\n") 1 ≡ 30)
    × (value_place (codes "HTTP/1.1 200 OK\nA: \nB:\n\n") 0 ≡ 19)
unfolding value_place
places = (refl, refl, refl)

-- a second length is refused, but where there is no body
pub refused :
    (first_refused 200 [] ((codes "Content-Length", codes "1") ∷ (codes "content-length", codes "1") ∷ []) ≡ Some 1)
    × (first_refused 304 [] ((codes "Content-Length", codes "1") ∷ (codes "content-length", codes "1") ∷ []) ≡ None)
    × (first_refused 304 [] ((codes "Age", codes "x") ∷ (codes "Transfer-Encoding", codes "chunked") ∷ []) ≡ Some 1)
unfolding number_within is_number
refused = (refl, refl, refl)

-- the first lifetime that is a number counts, and none beside `no-store` (RFC 9111, section 5.2.2)
pub lifetimes :
    (lifetime_by (codes "public" ∷ codes "max-age=x" ∷ codes "Max-Age=60" ∷ codes "max-age=1" ∷ []) ≡ Some 60)
    × (lifetime_by (codes "max-age=60" ∷ codes "No-Store" ∷ []) ≡ None)
unfolding number_within is_number
lifetimes = (refl, refl)
