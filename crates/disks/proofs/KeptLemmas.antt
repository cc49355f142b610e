-- What a disk in memory keeps, after a call and after a crash.
use Rattle.std.proofs.Common.{◌≡◌, ◌⊎◌, ℕ, suc, ◌+◌, ◌-◌, ◌<◌, ◌≤◌, Bool, true, false, cond, List, [], ◌∷◌, ◌++◌, zero, length, get_or, take, drop, slice_index, refl, ap, sym, ◌∙◌, subst, inl, inr, arith, length-append, length-drop}
use Rattle.std.proofs.lemmas.List.{get_or-take, get_or_append_left, get_or-append_right, get_or-drop, length-take-le}
use Rattle.std.proofs.lemmas.Bool.{cases_lt, or_parts}
use Rattle.std.proofs.lemmas.Bool.Decides.{nat_tests}
use Rattle.std.specs.List.{list_any}
use Rattle.disks.specs.declared.range.ByteRange.{ByteRange}
use Rattle.disks.specs.Ranges.{is_in}
use Rattle.disks.specs.Devices.{Wrote, Tore, Device, after_call, over, is_open_by, is_open, MayLeave, IsTorn, drawn, crashed}
use Rattle.disks.specs.MemoryDisks.{IsSound, IsKept}

-- a place that is not in a range is before it or behind it
outside : (i start size : ℕ) → is_in i (record { start = start; size = size }) ≡ false → (i < start) ⊎ (start + size ≤ i)
outside i start size e =
    elim (cases_lt i start) [
      | inl below ↦ inl below
      | inr from ↦ elim (cases_lt i (start + size)) [
        | inl within ↦ absurd (let k : is_in i (record { start = start; size = size }) ≡ true = grind (arith, nat_tests) in cc)
        | inr behind ↦ inr behind
      ]
    ]

-- the length after a write
over_length : (old : List ℕ) (place : ℕ) (text : List ℕ) → place ≤ length old → length (over old place text) ≡ place + length text + (length old - (place + length text))
over_length old place text h =
    let front : length (take place old) ≡ place = length-take-le place old h in
    let first : length (take place old ++ text) ≡ length (take place old) + length text = length-append (take place old) text in
    let all : length (take place old ++ text ++ drop (place + length text) old) ≡ length (take place old ++ text) + length (drop (place + length text) old)
    = length-append (take place old ++ text) (drop (place + length text) old) in
    let rest : length (drop (place + length text) old) ≡ length old - (place + length text) = length-drop (place + length text) old in
    omega (arith, front, first, all, rest)

-- a write leaves what is outside its range
over_same : (old : List ℕ) (place : ℕ) (text : List ℕ) (i : ℕ) → place ≤ length old → i < length old → is_in i (record { start = place; size = length text }) ≡ false
    → slice_index (over old place text) i ≡ slice_index old i
over_same old place text i h k e =
    let front : length (take place old) ≡ place = length-take-le place old h in
    let first : length (take place old ++ text) ≡ place + length text = length-append (take place old) text ∙ ap (λ (n : ℕ). n + length text) front in
    elim (outside i place (length text) e) [
      | inl below ↦
          get_or_append_left (take place old ++ text) (drop (place + length text) old) 0 i (omega (arith, first, below))
          ∙ get_or_append_left (take place old) text 0 i (omega (arith, front, below))
          ∙ get_or-take place old i 0 below
      | inr behind ↦
          get_or-append_right (take place old ++ text) (drop (place + length text) old) (place + length text) i 0 first behind
          ∙ get_or-drop (place + length text) old (i - (place + length text)) 0
          ∙ ap (λ (n : ℕ). get_or old n 0) (let q : place + length text + (i - (place + length text)) ≡ i = omega (arith, behind) in q)
    ]

-- a disk that was written stays sound
write_sound : (d : Device) (place : ℕ) (text : List ℕ) → place ≤ length d.seen → IsSound d → IsSound (after_call (Wrote place text) d)
write_sound d place text h s =
    let size = over_length d.seen place text h in
    record {
      grown = omega (arith, size, s.grown);
      limit = omega (arith, size, s.limit);
      same = λ i below e.
          let parts = or_parts (is_in i (record { start = place; size = length text })) (list_any (is_in i) d.ranges) e in
          over_same d.seen place text i h (omega (arith, below, s.grown)) parts.0 ∙ s.same i below parts.1;
    }

-- and so does one where a write tore
tear_sound : (d : Device) (place : ℕ) (text left : List ℕ) → IsTorn place text d.seen left → IsSound d → IsSound (after_call (Tore place text left) d)
tear_sound d place text left t s =
    record {
      grown = omega (arith, t.no_shorter, s.grown);
      limit = omega (arith, t.no_longer, s.limit);
      same = λ i below e.
          let parts = or_parts (is_in i (record { start = place; size = length text })) (list_any (is_in i) d.ranges) e in
          t.same i (omega (arith, below, s.grown)) parts.0 ∙ s.same i below parts.1;
    }

-- the same, for what is kept
pub kept_write : (d : Device) (bytes new : List ℕ) (size : ℕ) (ranges written : List ByteRange) (place : ℕ) (text : List ℕ)
    → IsKept d bytes size ranges → place ≤ length bytes → new ≡ over bytes place text → written ≡ record { start = place; size = length text } ∷ ranges
    → IsKept (after_call (Wrote place text) d) new size written
kept_write d bytes new size ranges written place text k h e w =
    record {
      seen = ap (λ (x : List ℕ). over x place text) k.seen ∙ sym e;
      synced = k.synced;
      ranges = ap (λ (x : List ByteRange). record { start = place; size = length text } ∷ x) k.ranges ∙ sym w;
      sound = write_sound d place text (let q : place ≤ length d.seen = omega (arith, h, ap (λ (x : List ℕ). length x) k.seen) in q) k.sound;
    }

pub kept_tear : (d : Device) (bytes left : List ℕ) (size : ℕ) (ranges written : List ByteRange) (place : ℕ) (text : List ℕ)
    → IsKept d bytes size ranges → IsTorn place text bytes left → written ≡ record { start = place; size = length text } ∷ ranges
    → IsKept (after_call (Tore place text left) d) left size written
kept_tear d bytes left size ranges written place text k t w =
    record {
      seen = refl;
      synced = k.synced;
      ranges = ap (λ (x : List ByteRange). record { start = place; size = length text } ∷ x) k.ranges ∙ sym w;
      sound = tear_sound d place text left (let P : List ℕ → Type 0 = λ x. IsTorn place text x left in subst P (sym k.seen) t) k.sound;
    }

-- writing only the beginning of a text tears it
pub half_torn : (old : List ℕ) (place : ℕ) (text half : List ℕ) → place ≤ length old → length half ≤ length text → IsTorn place text old (over old place half)
half_torn old place text half h less =
    let size = over_length old place half h in
    record {
      no_shorter = omega (arith, size);
      no_longer = omega (arith, size, less);
      same = λ i below e. over_same old place half i h below (
          elim (outside i place (length text) e) [
            | inl before ↦ grind (arith, nat_tests)
            | inr behind ↦ grind (arith, nat_tests)
          ]);
    }

-- draws change no length
drawn_length : (opens : ℕ → Bool) (place : ℕ) (bytes draws : List ℕ) → length (drawn opens place bytes draws) ≡ length bytes
drawn_length opens place [] draws = refl
drawn_length opens place (byte ∷ bytes) [] = refl
drawn_length opens place (byte ∷ bytes) (draw ∷ draws) =
    elim (opens place) as (λ t. length (cond t (draw ∷ drawn opens (place + 1) bytes draws) (byte ∷ drawn opens (place + 1) bytes (draw ∷ draws))) ≡ suc (length bytes)) [
      | true ↦ ap (λ (n : ℕ). suc n) (drawn_length opens (place + 1) bytes draws)
      | false ↦ ap (λ (n : ℕ). suc n) (drawn_length opens (place + 1) bytes (draw ∷ draws))
    ]

-- nor a byte at a place that is not open
drawn_same : (opens : ℕ → Bool) (place i : ℕ) (bytes draws : List ℕ) → opens (place + i) ≡ false → get_or (drawn opens place bytes draws) i 0 ≡ get_or bytes i 0
drawn_same opens place i [] draws e = refl
drawn_same opens place i (byte ∷ bytes) [] e = refl
drawn_same opens place zero (byte ∷ bytes) (draw ∷ draws) e =
    let shut : opens place ≡ false = ap (λ (n : ℕ). opens n) (let q : place ≡ place + 0 = omega arith in q) ∙ e in
    let P : Bool → Type 0 = λ t. get_or (cond t (draw ∷ drawn opens (place + 1) bytes draws) (byte ∷ drawn opens (place + 1) bytes (draw ∷ draws))) 0 0 ≡ byte in
    subst P (sym shut) refl
drawn_same opens place (suc i) (byte ∷ bytes) (draw ∷ draws) e =
    let next : opens (place + 1 + i) ≡ false = ap (λ (n : ℕ). opens n) (let q : place + 1 + i ≡ place + suc i = omega arith in q) ∙ e in
    elim (opens place) as (λ t. get_or (cond t (draw ∷ drawn opens (place + 1) bytes draws) (byte ∷ drawn opens (place + 1) bytes (draw ∷ draws))) (suc i) 0 ≡ get_or bytes i 0) [
      | true ↦ drawn_same opens (place + 1) i bytes draws next
      | false ↦ drawn_same opens (place + 1) i bytes (draw ∷ draws) next
    ]

-- a crash may leave the present bytes with draws where any may be
pub crash_leaves : (d : Device) (draws : List ℕ) → IsSound d → MayLeave d (crashed d draws)
crash_leaves d draws s =
    let size = drawn_length (is_open d) 0 d.seen draws in
    record {
      no_shorter = omega (arith, size, s.grown);
      no_longer = omega (arith, size, s.limit);
      same = λ i below e.
          let shut : is_open d (0 + i) ≡ false = grind (arith, nat_tests) in
          drawn_same (is_open d) 0 i d.seen draws shut ∙ s.same i below e;
    }

-- and these are what a disk in memory draws
pub crashed_is : (d : Device) (bytes : List ℕ) (size : ℕ) (ranges : List ByteRange) (draws : List ℕ) → IsKept d bytes size ranges
    → drawn (is_open_by size ranges) 0 bytes draws ≡ crashed d draws
crashed_is d bytes size ranges draws k =
    ap (λ (x : List ℕ). drawn (is_open_by size ranges) 0 x draws) (sym k.seen)
    ∙ ap (λ (n : ℕ). drawn (is_open_by n ranges) 0 d.seen draws) (sym k.synced)
    ∙ ap (λ (x : List ByteRange). drawn (is_open_by (length d.synced) x) 0 d.seen draws) (sym k.ranges)
