-- What was read ahead is what the disk has there.
use Rattle.std.proofs.Common.{◌≡◌, ◌⊎◌, ℕ, ◌+◌, ◌-◌, ◌≤◌, min, List, [], ◌++◌, length, take, drop, Option, Some, None, Result, Ok, Err, OnOk, OnErr, refl, ap, sym, ◌∙◌, subst, inl, inr, arith, length-take, length-drop}
use Rattle.std.proofs.lemmas.List.{take_all, take-append-drop, drop-drop, drop-append-le}
use Rattle.disks.specs.Histories.{History, device_of, HasLength, Goes}
use Rattle.store_base.specs.Windows.{IsAhead, IsFilled, AreTaken}

-- nothing was read
pub ahead_none : (history : Option History) (place : ℕ) (bytes : List ℕ) → bytes ≡ [] → IsAhead history place bytes
ahead_none None place bytes e = tt
ahead_none (Some h) place bytes e = (drop place (device_of h).seen, rw e refl)

-- some of what was read is behind the place
pub ahead_skip : (history : Option History) (place used count : ℕ) (items : List ℕ) → count ≤ length items - used → IsAhead history place (drop used items) → IsAhead history (place + count) (drop (used + count) items)
ahead_skip None place used count items within a = tt
ahead_skip (Some h) place used count items within a =
    let low : count ≤ length (drop used items) = omega (arith, within, length-drop used items) in (
      a.0,
      sym (drop-drop count place (device_of h).seen) ∙ ap (drop count) a.1 ∙ drop-append-le count (drop used items) a.0 low
          ∙ ap (λ (l : List ℕ). l ++ a.0) (drop-drop count used items),
    )

-- a read leaves what the disk shows
pub stays : (before after : Option History) → Goes before after [] → after ≡ before
stays None after g = g
stays (Some h) after g = g

taken_size : (history : Option History) (place size : ℕ) (bytes : List ℕ) → AreTaken history place size bytes → length bytes ≤ size
taken_size None place size bytes t = t
taken_size (Some h) place size bytes t = omega (arith, ap (λ (l : List ℕ). length l) t, length-take size (drop place (device_of h).seen))

taken_ahead : (history : Option History) (place size : ℕ) (bytes : List ℕ) → AreTaken history place size bytes → IsAhead history place bytes
taken_ahead None place size bytes t = tt
taken_ahead (Some h) place size bytes t =
    (drop size (drop place (device_of h).seen), sym (take-append-drop size (drop place (device_of h).seen)) ∙ ap (λ (l : List ℕ). l ++ drop size (drop place (device_of h).seen)) (sym t))

-- what was read is ahead, or nothing was
pub ahead_read : {E : Type 0} (r : Result (Unit {0}) E) (before after : Option History) (place size : ℕ) (bytes : List ℕ) → OnOk r (AreTaken before place size bytes) → OnErr r (bytes ≡ []) → Goes before after [] → IsAhead after place bytes
ahead_read (Ok done) before after place size bytes t n g =
    let P : Option History → Type 0 = λ m. IsAhead m place bytes in subst P (sym (stays before after g)) (taken_ahead before place size bytes t)
ahead_read (Err e) before after place size bytes t n g = ahead_none after place bytes n

pub size_read : {E : Type 0} (r : Result (Unit {0}) E) (before : Option History) (place size : ℕ) (bytes : List ℕ) → OnOk r (AreTaken before place size bytes) → OnErr r (bytes ≡ []) → length bytes ≤ size
size_read (Ok done) before place size bytes t n = taken_size before place size bytes t
size_read (Err e) before place size bytes t n = omega (arith, ap (λ (l : List ℕ). length l) n)

-- as much was read as there is, or as is asked for
filled_read : (before : Option History) (place len room count size : ℕ) (bytes : List ℕ) → HasLength before len → size ≡ min (len - place) room → count ≤ room → AreTaken before place size bytes → IsFilled before place bytes count
filled_read None place len room count size bytes l s c t = tt
filled_read (Some h) place len room count size bytes l s c t =
    by (size_cases (len - place) room)
  where
    size_cases : (m n : ℕ) → (m ≤ n) ⊎ (n ≤ m)
    size_cases m n = grind arith

    by : (len - place ≤ room) ⊎ (room ≤ len - place) → (count ≤ length bytes) ⊎ (drop place (device_of h).seen ≡ bytes)
    by (inl all) =
        let whole : length (drop place (device_of h).seen) ≤ size = omega (arith, length-drop place (device_of h).seen, l, s, all) in
        inr (sym (t ∙ take_all size (drop place (device_of h).seen) whole))
    by (inr more) =
        let size_is : length bytes ≡ min size (length (drop place (device_of h).seen)) = ap (λ (l : List ℕ). length l) t ∙ length-take size (drop place (device_of h).seen) in
        inl (omega (arith, size_is, length-drop place (device_of h).seen, l, s, more, c))

pub filled_after : {E : Type 0} (r : Result (Unit {0}) E) (before after : Option History) (place len room count size : ℕ) (bytes : List ℕ) → HasLength before len → size ≡ min (len - place) room → count ≤ room
    → OnOk r (AreTaken before place size bytes) → Goes before after [] → OnOk r (IsFilled after place bytes count)
filled_after (Ok done) before after place len room count size bytes l s c t g =
    let P : Option History → Type 0 = λ m. IsFilled m place bytes count in subst P (sym (stays before after g)) (filled_read before place len room count size bytes l s c t)
filled_after (Err e) before after place len room count size bytes l s c t g = tt
