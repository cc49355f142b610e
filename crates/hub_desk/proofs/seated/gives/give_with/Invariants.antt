use Rattle.turnstile.specs.Seats.{setting_of}
use Rattle.turnstile.specs.Turns.{turn_seen}
use Rattle.hub_desk.specs.HubValue.{hub_setting, entries_for}
use Rattle.hub_desk.proofs.seated.gives.give_with.Given as goal

-- the entries of a call for the entry
abbrev pub ghosts-give_made : goal.ghosts-give_made
ghosts-give_made a = record { made = entries_for (setting_of hub_setting a.turn.turnstile.now) (turn_seen a.turn) a.entry }
