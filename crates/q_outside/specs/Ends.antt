-- Believed. What contracts see of a source or a sink before a call and after it.
use Rattle.std.specs.Prelude.{◌≡◌, ℕ, ◌<◌, ◌≤◌, List, [], ◌∷◌, ◌++◌, length, take, Option, Some, None, Result, Ok, Err}

-- What contracts see of a source or a sink.
pub record End : Type 0 where
  -- the bytes that a source has left or a sink holds, where it shows them
  pub bytes : Option (List ℕ)
  -- the number of its faults so far
  pub faults : ℕ

-- these were taken from what was left before, and the rest is left after; of a source that shows nothing it claims nothing
abbrev pub Takes : {A : Type 0} → Option (List A) → Option (List A) → List A → Type 0
Takes None after taken = Unit {0}
Takes {A} (Some left) after taken = (rest : List A) × (after ≡ Some rest) × (left ≡ taken ++ rest)

-- nothing is left, where the source shows it
abbrev pub IsEnded : {A : Type 0} → Option (List A) → Type 0
IsEnded None = Unit {0}
IsEnded (Some left) = left ≡ []

-- what is held after is what was held before and these; of a sink that shows nothing it claims nothing
abbrev pub Gives : {A : Type 0} → Option (List A) → Option (List A) → List A → Type 0
Gives None after given = Unit {0}
Gives (Some held) after given = after ≡ Some (held ++ given)

-- These bytes were taken from a source, and its count of faults has not fallen.
pub record TookBytes (before after : End) (bytes : List ℕ) : Type 0 where
  pub taken : Takes before.bytes after.bytes bytes
  pub count : before.faults ≤ after.faults

-- These bytes were given to a sink, and its count of faults has not fallen.
pub record GaveBytes (before after : End) (bytes : List ℕ) : Type 0 where
  pub given : Gives before.bytes after.bytes bytes
  pub count : before.faults ≤ after.faults

-- The beginning of a text was given to a sink, and its count of faults rose.
pub record GavePart (before after : End) (text : List ℕ) : Type 0 where
  pub size : ℕ
  pub part : size ≤ length text
  pub given : Gives before.bytes after.bytes (take size text)
  pub rises : before.faults < after.faults

-- a call of a source: the first `count` bytes of the buffer were taken, and 0 only at the end; or none, and the count of faults rose
abbrev pub Took : {E : Type 0} → (before after : End) → (into : List ℕ) → Result ℕ E → Type 0
Took before after into (Ok count) =
    (count ≤ length into) × TookBytes before after (take count into) × (count ≡ 0 → IsEnded after.bytes)
Took before after into (Err failed) = TookBytes before after [] × (before.faults < after.faults)

-- the same call, of the bytes that the source has in a buffer of its own: where it has some, it gave the first of these and keeps the others
abbrev pub GaveFromBuffer : {E : Type 0} → (before after : List ℕ) → (into : List ℕ) → Result ℕ E → Type 0
GaveFromBuffer [] after into result = Unit {0}
GaveFromBuffer (b ∷ bytes) after into (Ok count) = b ∷ bytes ≡ take count into ++ after
GaveFromBuffer (b ∷ bytes) after into (Err failed) = after ≡ b ∷ bytes

-- a call of a sink: the first `count` bytes were given, at least one; or none, and the count of faults rose
abbrev pub GaveSome : {E : Type 0} → (before after : End) → (bytes : List ℕ) → Result ℕ E → Type 0
GaveSome before after bytes (Ok count) =
    (0 < count) × (count ≤ length bytes) × GaveBytes before after (take count bytes)
GaveSome before after bytes (Err failed) = GaveBytes before after [] × (before.faults < after.faults)

-- a text was given whole; or the beginning of it, and the count of faults rose
abbrev pub Gave : {T E : Type 0} → (before after : End) → (text : List ℕ) → Result T E → Type 0
Gave before after text (Ok given) = GaveBytes before after text
Gave before after text (Err failed) = GavePart before after text

-- what a sink showed of its bytes when it was ended last; none where it never was ended
abbrev pub LastEnd : Type 0
LastEnd = Option (Option (List ℕ))

-- a sink was ended, and nothing was given behind that: what it showed when it was ended last is what it shows now
abbrev pub HasEnded : LastEnd → (bytes : Option (List ℕ)) → Type 0
HasEnded ended bytes = ended ≡ Some bytes

-- a clock gave these moments in order, from its first state to its last
abbrev pub Ticks : {C : Type 0} → (C → ℕ → C → Type 0) → C → List ℕ → C → Type 0
Ticks tick first [] last = first ≡ last
Ticks {C} tick first (moment ∷ moments) last = (next : C) × tick first moment next × Ticks tick next moments last
