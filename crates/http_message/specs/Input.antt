-- Internal. What a call does with the bytes that are held and those of a source, and why no more came.
use Rattle.std.specs.Prelude.{◌≡◌, ◌⊎◌, ℕ, ◌<◌, List, [], ◌++◌, length, Result, Ok, Err}
use Rattle.q_outside.specs.Ends.{End, IsEnded, TookBytes}
use Rattle.http_message.specs.declared.incomplete.Incomplete.{Incomplete}
use Rattle.http_message.specs.declared.incomplete.Incomplete.TheVariants.{InputEnd, Truncated, ReadFault, WriteFault}

-- why no more bytes came from a source
abbrev pub NoMoreBytes : (source source' : End) → Incomplete → Type 0
NoMoreBytes source source' InputEnd = ⊥
NoMoreBytes source source' Truncated = IsEnded source'.bytes
NoMoreBytes source source' ReadFault = source.faults < source'.faults
NoMoreBytes source source' WriteFault = ⊥

-- Nothing was taken from the source.
pub record IsIdle (source source' : End) (got : List ℕ) : Type 0 where
  pub same : source' ≡ source
  pub none : got ≡ []

-- Bytes were taken and added to those that are held; some were taken only where those were short.
pub record Grows (source source' : End) (short : List ℕ → Type 0) (held held' : List ℕ) : Type 0 where
  pub got : List ℕ
  pub took : TookBytes source source' got
  pub adds : held' ≡ held ++ got
  pub waits : IsIdle source source' got ⊎ short held

-- Bytes were taken, at least one, and added to those that are held.
pub record Adds (source source' : End) (held held' : List ℕ) : Type 0 where
  pub got : List ℕ
  pub took : TookBytes source source' got
  pub adds : held' ≡ held ++ got
  pub some : 0 < length got

-- No more bytes came.
pub record AddsNone (source source' : End) (held held' : List ℕ) (incomplete : Incomplete) : Type 0 where
  pub took : TookBytes source source' []
  pub same : held' ≡ held
  pub is : NoMoreBytes source source' incomplete

-- how a call for more bytes came out
abbrev pub Fills : {T : Type 0} → (source source' : End) → (held held' : List ℕ) → Result T Incomplete → Type 0
Fills source source' held held' (Ok filled) = Adds source source' held held'
Fills source source' held held' (Err incomplete) = AddsNone source source' held held' incomplete

-- Fewer bytes were taken, and then no more came.
pub record TookFewer (source source' : End) (size : ℕ) (incomplete : Incomplete) : Type 0 where
  pub got : List ℕ
  pub took : TookBytes source source' got
  pub fewer : length got < size
  pub is : NoMoreBytes source source' incomplete

-- whether a buffer was filled from the source
abbrev pub IsFull : {T : Type 0} → (source source' : End) → List ℕ → Result T Incomplete → Type 0
IsFull source source' into (Ok filled) = TookBytes source source' into
IsFull source source' into (Err incomplete) = TookFewer source source' (length into) incomplete

-- Of all the bytes, these are used, and the others are held.
pub record Consumes (all held' : List ℕ) (is : List ℕ → Type 0) : Type 0 where
  pub used : List ℕ
  pub splits : all ≡ used ++ held'
  pub says : is used

-- Of all the bytes, those that are used are what the answer says; or all are short, and no more came.
abbrev pub IsRead : {T : Type 0} → (source source' : End) → (all held' : List ℕ) → (short : List ℕ → Type 0) → (is : T → List ℕ → Type 0) → Result T Incomplete → Type 0
IsRead source source' all held' short is (Ok answer) = Consumes all held' (is answer)
IsRead source source' all held' short is (Err incomplete) = short all × NoMoreBytes source source' incomplete

-- A call used some of the bytes that were held and of those that it took; it took some only where those
-- that were held were short.
pub record Reads {T : Type 0}
    (source source' : End) (held held' : List ℕ) (short : List ℕ → Type 0) (is : T → List ℕ → Type 0)
    (answer : Result T Incomplete) : Type 0 where
  pub got : List ℕ
  pub took : TookBytes source source' got
  pub waits : IsIdle source source' got ⊎ short held
  pub came : IsRead source source' (held ++ got) held' short is answer
