-- Internal. What the seats of a shared log know.
use Rattle.std.specs.Prelude.{ℕ, ◌≤◌, List, Result, Ok, Err}
use Rattle.std.specs.declared.option.Option.{Option}
use Rattle.std.specs.declared.option.Option.TheVariants.{None, Some}
use mathlib.Core.List.{IsPrefix}
use Rattle.q_outside.specs.declared.environment.Failed.{Failed}
use Rattle.record_log.specs.Frames.{Frame}
use Rattle.record_log.specs.Logs.{LogView}
use Rattle.shared_log.specs.declared.mark.Mark.{Mark as AMark}
use Rattle.atomic_table.specs.declared.shared.Seat.{Seat}
use Rattle.turnstile.specs.declared.gate.Turnstile.{Turnstile}
use Rattle.turnstile.specs.declared.view.View.{View}
use Rattle.turnstile.specs.Seats.{IsIdle, IsSeatOf, seen, setting_of}
use Rattle.shared_log.specs.declared.steps.Found.{Found}
use Rattle.shared_log.specs.declared.steps.Found.TheVariants.{Stored, Work}
use Rattle.shared_log.specs.LogValues.{LogValueView, Mark, HoldsWork, HoldsStored, HoldsLost, mark_of, opened_of}
use Rattle.shared_log.specs.Notes.{LogNote, Opened, IsQueuedAs, commits_stored, moment_stored}

-- the seat is one of the shared log, and has no turn
abbrev pub IsSeated : Turnstile LogValueView LogNote Opened → Seat (Option LogValueView) (View LogNote Opened) → Type 0
IsSeated t s = IsSeatOf opened_of t s × IsIdle s

-- so many commits are stored, and this moment is kept, in a history
abbrev pub AreStored : Opened → List LogNote → (commits moment : ℕ) → Type 0
AreStored o notes commits moment = (commits ≤ commits_stored o notes) × (moment ≤ moment_stored o notes)

-- so many commits are stored, and this moment is kept, as far as the seat knows
abbrev pub Knows : Turnstile LogValueView LogNote Opened → Seat (Option LogValueView) (View LogNote Opened) → (commits moment : ℕ) → Type 0
Knows t s commits moment = AreStored (setting_of opened_of t) (seen s) commits moment

-- A seat has seen all that it had seen before, and so no less of what is stored.
pub record KnowsStill (t : Turnstile LogValueView LogNote Opened) (old new : Seat (Option LogValueView) (View LogNote Opened)) : Type 0 where
  pub more : IsPrefix (seen old) (seen new)
  pub commits : commits_stored (setting_of opened_of t) (seen old) ≤ commits_stored (setting_of opened_of t) (seen new)
  pub moment : moment_stored (setting_of opened_of t) (seen old) ≤ moment_stored (setting_of opened_of t) (seen new)

-- a record was queued as the commit of a number, as far as the seat knows
abbrev pub KnowsQueued : Turnstile LogValueView LogNote Opened → Seat (Option LogValueView) (View LogNote Opened) → ℕ → Frame → Type 0
KnowsQueued t s commit f = IsQueuedAs (setting_of opened_of t) (seen s) commit f

-- the record of a body that was prepared was queued as this commit; where none was prepared it was not
abbrev pub KnowsHandedIn : Turnstile LogValueView LogNote Opened → Seat (Option LogValueView) (View LogNote Opened) → (prepared : Option (List ℕ)) → (commit clock : ℕ) → Type 0
KnowsHandedIn t s None commit clock = ⊥
KnowsHandedIn t s (Some body) commit clock = KnowsQueued t s commit (record { kind = 1; clock = clock; body = body })

-- what one finds who waits for so many commits and a moment, by a history: they are stored, or there is work to do
abbrev pub FindsIn : {K : Type 0} → Opened → List LogNote → (commits moment : ℕ) → Found K → Type 0
FindsIn o notes commits moment (Stored mark) = AreStored o notes mark.commits mark.moment × (commits ≤ mark.commits) × (moment ≤ mark.moment)
FindsIn o notes commits moment (Work work) = HoldsWork o notes work.log work.batch (mark_of work.from) (mark_of work.to)
FindsIn o notes commits moment found = Unit {0}

-- What one finds who waits for so many commits and a moment: where they are stored its seat knows that, and what is stored beside.
pub record Finds {K : Type 0} (t : Turnstile LogValueView LogNote Opened) (s : Seat (Option LogValueView) (View LogNote Opened)) (commits moment : ℕ) (found : Found K) : Type 0 where
  pub finds : FindsIn (setting_of opened_of t) (seen s) commits moment found

-- one who stored has the log with what it took, or has lost it, and the history has all that was queued when it took it
abbrev pub HasDoneIn : Opened → List LogNote → LogView → (from to : Mark) → Result (Unit {0}) Failed → Type 0
HasDoneIn o notes log from to (Ok done) = HoldsStored o notes log from to
HasDoneIn o notes log from to (Err failed) = HoldsLost o notes log from

-- the same as far as its seat knows
abbrev pub HasDone : Turnstile LogValueView LogNote Opened → Seat (Option LogValueView) (View LogNote Opened) → LogView → (from to : AMark) → Result (Unit {0}) Failed → Type 0
HasDone t s log from to stored = HasDoneIn (setting_of opened_of t) (seen s) log (mark_of from) (mark_of to) stored
