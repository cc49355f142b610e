-- What a crash may leave of a disk that was at rest, after a write behind a place and after a write at one place.
use Rattle.std.proofs.Common.{◌≡◌, ℕ, suc, ◌+◌, ◌<◌, ◌≤◌, false, List, [], ◌∷◌, ◌++◌, length, take, drop, slice_index, refl, ap, sym, ◌∙◌, append_assoc, arith, length-append}
use Rattle.std.proofs.lemmas.List.{ext_get_or, get_or-take, get_or_append_left, get_or-drop, get_or-append-add, length-take-le, length-drop, take-append-drop, take_at, drop_at, drop-drop}
use Rattle.std.proofs.lemmas.Bool.Decides.{nat_tests}
use Rattle.std.specs.List.{list_any}
use Rattle.disks.specs.Ranges.{is_in}
use Rattle.disks.specs.Devices.{MayLeave, at_rest, over}

-- an image that agrees with bytes at their places begins with them
pub begins_as : (a image : List ℕ) → length a ≤ length image → ((i : ℕ) → i < length a → slice_index image i ≡ slice_index a i) → image ≡ a ++ drop (length a) image
begins_as a image size same =
    let long : length (take (length a) image) ≡ length a = length-take-le (length a) image size in
    let front : take (length a) image ≡ a =
    ext_get_or 0 (take (length a) image) a long (λ i h. let below : i < length a = omega (arith, h, long) in get_or-take (length a) image i 0 below ∙ same i below) in
    sym (take-append-drop (length a) image) ∙ ap (λ (x : List ℕ). x ++ drop (length a) image) front

-- at rest a crash leaves what reads give
pub rest_image : (bytes image : List ℕ) → MayLeave (at_rest bytes) image → image ≡ bytes
rest_image bytes image m =
    let size : length image ≡ length bytes = omega (arith, m.no_shorter, m.no_longer) in
    ext_get_or 0 image bytes size (λ i h. m.same i (omega (arith, h, size)) refl)

-- a place before a range is not in it
pub before_range : (i start size : ℕ) → i < start → list_any (is_in i) (record { start = start; size = size } ∷ []) ≡ false
before_range i start size h = grind (arith, nat_tests)

-- nor is one behind it
pub behind_range : (i start size : ℕ) → start + size ≤ i → list_any (is_in i) (record { start = start; size = size } ∷ []) ≡ false
behind_range i start size h = grind (arith, nat_tests)

-- bytes with one more, and others behind it
pub one_more : (front : List ℕ) (byte : ℕ) (behind : List ℕ) → front ++ byte ∷ behind ≡ (front ++ byte ∷ []) ++ behind
one_more front byte behind = sym (append_assoc front (byte ∷ []) behind)

-- a write behind a byte leaves all up to that byte
pub behind_image : (front behind seen : List ℕ) (byte size limit : ℕ) (image : List ℕ)
    → MayLeave (record { seen = seen; synced = front ++ byte ∷ behind; ranges = record { start = length front + 1; size = size } ∷ []; limit = limit }) image
    → (rest : List ℕ) × (image ≡ front ++ byte ∷ rest)
behind_image front behind seen byte size limit image m =
    let whole : length (front ++ byte ∷ behind) ≡ length front + suc (length behind) = length-append front (byte ∷ behind) in
    let part : length (front ++ byte ∷ []) ≡ length front + 1 = length-append front (byte ∷ []) in
    let split : front ++ byte ∷ behind ≡ (front ++ byte ∷ []) ++ behind = one_more front byte behind in
    let long : length front + suc (length behind) ≤ length image = omega (arith, m.no_shorter, whole) in
    let begins = begins_as (front ++ byte ∷ []) image (omega (arith, long, part))
    (λ i h. m.same i (omega (arith, h, whole, part)) (before_range i (length front + 1) size (omega (arith, h, part)))
    ∙ ap (λ (x : List ℕ). slice_index x i) split ∙ get_or_append_left (front ++ byte ∷ []) behind 0 i h) in
    (drop (length (front ++ byte ∷ [])) image, begins ∙ append_assoc front (byte ∷ []) (drop (length (front ++ byte ∷ [])) image))

-- bytes of which all but the first agree with others
pub but_first : (tail r : List ℕ) → suc (length tail) ≤ length r → ((i : ℕ) → i < length tail → slice_index r (suc i) ≡ slice_index tail i)
    → (byte : ℕ) × (rest : List ℕ) × (r ≡ byte ∷ (tail ++ rest))
but_first tail [] size same = absurd (omega (arith, size))
but_first tail (byte ∷ r) size same =
    (byte, drop (length tail) r, ap (λ (x : List ℕ). byte ∷ x) (begins_as tail r (omega (arith, size)) (λ i h. same i h)))

-- a write of one byte leaves all but that byte
pub one_image : (front tail seen : List ℕ) (old limit : ℕ) (image : List ℕ)
    → MayLeave (record { seen = seen; synced = front ++ old ∷ tail; ranges = record { start = length front; size = 1 } ∷ []; limit = limit }) image
    → (byte : ℕ) × (rest : List ℕ) × (image ≡ front ++ byte ∷ (tail ++ rest))
one_image front tail seen old limit image m =
    let whole : length (front ++ old ∷ tail) ≡ length front + suc (length tail) = length-append front (old ∷ tail) in
    let long : length front + suc (length tail) ≤ length image = omega (arith, m.no_shorter, whole) in
    let size : length (drop (length front) image) + length front ≡ length image = omega (arith, length-drop (length front) image, long) in
    let begins : image ≡ front ++ drop (length front) image = begins_as front image (omega (arith, long))
    (λ i h. m.same i (omega (arith, h, whole)) (before_range i (length front) 1 h) ∙ get_or_append_left front (old ∷ tail) 0 i h) in
    let found = but_first tail (drop (length front) image) (omega (arith, size, long))
    (λ i h. get_or-drop (length front) image (suc i) 0
    ∙ m.same (length front + suc i) (omega (arith, h, whole)) (behind_range (length front + suc i) (length front) 1 (omega (arith, h)))
    ∙ get_or-append-add front (old ∷ tail) (suc i) 0) in
    (found.0, found.1, begins ∙ ap (λ (x : List ℕ). front ++ x) found.2)

-- what reads give after a write behind a byte
pub wrote_behind : (front behind text : List ℕ) (byte : ℕ) → over (front ++ byte ∷ behind) (length front + 1) text ≡ front ++ byte ∷ (text ++ drop (length text) behind)
wrote_behind front behind text byte =
    let part : length (front ++ byte ∷ []) ≡ length front + 1 = length-append front (byte ∷ []) in
    let split : front ++ byte ∷ behind ≡ (front ++ byte ∷ []) ++ behind = one_more front byte behind in
    let first : take (length front + 1) (front ++ byte ∷ behind) ≡ front ++ byte ∷ [] =
    ap (λ (x : List ℕ). take (length front + 1) x) split ∙ take_at (front ++ byte ∷ []) behind (length front + 1) part in
    let second : drop (length front + 1) (front ++ byte ∷ behind) ≡ behind =
    ap (λ (x : List ℕ). drop (length front + 1) x) split ∙ drop_at (front ++ byte ∷ []) behind (length front + 1) part in
    let third : drop (length front + 1 + length text) (front ++ byte ∷ behind) ≡ drop (length text) behind =
    sym (drop-drop (length text) (length front + 1) (front ++ byte ∷ behind)) ∙ ap (λ (x : List ℕ). drop (length text) x) second in
    ap (λ (x : List ℕ). x ++ text ++ drop (length front + 1 + length text) (front ++ byte ∷ behind)) first
    ∙ ap (λ (x : List ℕ). (front ++ byte ∷ []) ++ text ++ x) third
    ∙ append_assoc (front ++ byte ∷ []) text (drop (length text) behind)
    ∙ append_assoc front (byte ∷ []) (text ++ drop (length text) behind)

-- what reads give after a write of one byte
pub wrote_one : (front tail : List ℕ) (old byte : ℕ) → over (front ++ old ∷ tail) (length front) (byte ∷ []) ≡ front ++ byte ∷ tail
wrote_one front tail old byte =
    let part : length (front ++ old ∷ []) ≡ length front + 1 = length-append front (old ∷ []) in
    let first : take (length front) (front ++ old ∷ tail) ≡ front = take_at front (old ∷ tail) (length front) refl in
    let second : drop (length front + 1) (front ++ old ∷ tail) ≡ tail =
    ap (λ (x : List ℕ). drop (length front + 1) x) (one_more front old tail) ∙ drop_at (front ++ old ∷ []) tail (length front + 1) part in
    ap (λ (x : List ℕ). x ++ byte ∷ [] ++ drop (length front + 1) (front ++ old ∷ tail)) first
    ∙ ap (λ (x : List ℕ). front ++ byte ∷ [] ++ x) second
    ∙ append_assoc front (byte ∷ []) tail
