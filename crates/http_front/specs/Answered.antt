-- Believed. Answers one after the other.
use Rattle.std.specs.Prelude.{◌≡◌, ◌⊎◌, Bool, true, false, Result, Ok, Err}
use Rattle.http_front.specs.declared.refused.Refused.{Refused}
use Rattle.http_front.specs.declared.tags.TagRefusal.{TagRefusal}
use Rattle.http_front.specs.declared.tags.TagRefusal.TheVariants.{Memory}

-- there was no memory, or it is this answer
abbrev pub Answers : {A : Type 0} → Result A TagRefusal → Result A TagRefusal → Type 0
Answers wanted answer = (answer ≡ Err Memory) ⊎ (answer ≡ wanted)

-- what follows of an answer, unless it is a refusal
abbrev pub and_then : {A B : Type 0} → Result A Refused → (A → Result B Refused) → Result B Refused
and_then (Ok found) next = next found
and_then (Err refused) next = Err refused

-- the answer, unless this is refused
abbrev pub unless : {A : Type 0} → Bool → Refused → Result A Refused → Result A Refused
unless true refused answer = Err refused
unless false refused answer = answer
