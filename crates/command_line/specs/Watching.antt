-- Believed. How a server is to be watched.
use Rattle.std.specs.Prelude.{ℕ, Bool, List, Option, option_map}
use Rattle.command_line.specs.declared.watching.Watching.{Watching}

-- How a server is to be watched: the address of its metrics, its log, and whether that is JSON.
pub record WatchAsk : Type 0 where
  pub metrics : Option (List ℕ)
  pub log : Option (List ℕ)
  pub json : Bool

-- the same, of what is asked of places
abbrev pub watch_of : Watching → WatchAsk
watch_of w = record { metrics = option_map (λ s. s.now) w.metrics; log = option_map (λ s. s.now) w.log; json = w.json }
