-- Internal. The shared log of a keeper.
use Rattle.std.specs.declared.option.Option.{Option}
use Rattle.std.specs.declared.option.Option.TheVariants.{None, Some}
use Rattle.std.specs.Arc.{arc_value}
use Rattle.kept_desk.specs.declared.main_log.Main.{Main}
use Rattle.shared_log.specs.LogValues.{LogValueView}
use Rattle.shared_log.specs.Notes.{LogNote, Opened}
use Rattle.turnstile.specs.declared.gate.Turnstile.{Turnstile}

-- where the log of a store is
abbrev pub LogTurnstile : Type 0
LogTurnstile = Turnstile LogValueView LogNote Opened

-- where that of a keeper is, once it is shared
abbrev pub log_in : {K : Type 0} → Option (Main K) → Option LogTurnstile
log_in None = None
log_in (Some main) = Some (arc_value main.shared).turnstile
