-- Believed. What contracts see of doors before a call and after it.
use Rattle.std.specs.Prelude.{◌≡◌, ℕ, ◌+◌, ◌<◌, ◌≤◌, List, [], ◌∷◌, length, Option, Some, None, IfSome, Result, Ok, Err}
use Rattle.q_outside.specs.declared.connections.Back.{Back}
use Rattle.q_outside.specs.declared.connections.Next.{Next}
use Rattle.q_outside.specs.declared.connections.Next.TheVariants.{Connection, Closed}
use Rattle.q_outside.specs.declared.served.Served.{Served}
use Rattle.q_outside.specs.Ends.{Takes, Gives}

-- What contracts see of doors.
pub record DoorsView (S K : Type 0) : Type 0 where
  -- the connections that are left to give, where the doors show them
  pub left : Option (List (S × K))
  -- how many they gave so far, where they count them
  pub given : Option ℕ
  -- those that were handed back, where the doors show them
  pub handed : Option (List (Back S K))
  -- the number of those given and not yet handed back, where the doors keep memory for each
  pub away : Option ℕ
  -- how often the doors were closed so far
  pub closings : ℕ
  -- the number of their faults so far
  pub faults : ℕ

-- a count of doors rose by the connections given and fell by those handed back; doors that keep no such count still keep none
abbrev pub Counts : Option ℕ → Option ℕ → (given handed : ℕ) → Type 0
Counts None after given handed = after ≡ None
Counts (Some before) after given handed = (now : ℕ) × (after ≡ Some now) × (now + handed ≡ before + given)

-- Between two states doors gave these connections, took those back and were closed a number of times. Their count of faults has not fallen.
pub record Passes {S K : Type 0} (before after : DoorsView S K) (given : List (S × K)) (handed : List (Back S K)) (closed : ℕ) : Type 0 where
  pub left : Takes before.left after.left given
  pub counted : Counts before.given after.given (length given) 0
  pub handed_back : Gives before.handed after.handed handed
  pub away : Counts before.away after.away (length given) (length handed)
  pub closings : after.closings ≡ before.closings + closed
  pub count : before.faults ≤ after.faults

-- doors gave a connection, or were closed; or neither, and the count of faults rose
abbrev pub GaveNext : {S K E : Type 0} → (before after : DoorsView S K) → Result (Next S K) E → Type 0
GaveNext before after (Ok (Connection source sink)) = Passes before after ((source, sink) ∷ []) [] 0
GaveNext before after (Ok Closed) = Passes before after [] [] 1
GaveNext before after (Err failed) = Passes before after [] [] 0 × (before.faults < after.faults)

-- doors took back a connection, noted with how many they had given; of doors that do not count them this holds with any number
abbrev pub TookBack : {S K : Type 0} → (before after : DoorsView S K) → (source : S) → (sink : K) → Option Served → Type 0
TookBack before after source sink served =
    (n : ℕ) → IfSome before.given (λ given. n ≡ given) → Passes before after [] (record { source = source; sink = sink; served = served; after = n } ∷ []) 0
