-- Believed. The steps of a run, as a number draws them.
use Rattle.std.specs.Prelude.{ℕ, zero, suc, ◌+◌, min, nat_lt, if◌then◌else◌, unwrap_or, List, [], ◌∷◌}
use Rattle.std.specs.declared.option.Option.{Option}
use Rattle.std.specs.declared.option.Option.TheVariants.{None, Some}
use Rattle.crash_core.specs.declared.step.CrashStep.{CrashStep}
use Rattle.crash_core.specs.declared.step.CrashStep.TheVariants as step
use Rattle.crash_core.specs.declared.step.QuietStep.TheVariants as quiet
use Rattle.durable_book.specs.Moments.{moment_to_keep}
use Rattle.q_base.specs.Moment.{greatest_moment}
use Rattle.world_core.specs.Draws.{after, draw, drawn, next_number}

-- a put: its product and price
abbrev pub put_from : ℕ → CrashStep × ℕ
put_from number = (step.Quiet (quiet.Put (draw 1 100 number) (draw 2 1000 number)), after 2 number)

-- a put that is stopped: its product and price, and after how many calls of the disk
abbrev pub crash_from : ℕ → CrashStep × ℕ
crash_from number = (step.Crash (record { product = draw 1 100 number; price = draw 2 1000 number; calls = draw 3 4 number }), after 3 number)

-- a step by its draw below 100, with the number after it
abbrev pub step_from : ℕ → ℕ → CrashStep × ℕ
step_from kind number =
    if nat_lt kind 50 then put_from number
    else (if nat_lt kind 70 then (step.Quiet (quiet.Read (draw 1 100 number)), after 1 number)
    else (if nat_lt kind 80 then (step.Quiet quiet.Fetch, number)
    else (if nat_lt kind 90 then (step.Quiet (quiet.Advance (1 + draw 1 30 number)), after 1 number)
    else (if nat_lt kind 98 then (step.Quiet quiet.Match, number)
    else crash_from number))))

-- the step that is drawn from a number on, with the number after it
unfoldable pub next_step : ℕ → CrashStep × ℕ
next_step number = step_from (draw 1 100 number) (after 1 number)

-- the moment of a call at a clock
abbrev pub moment_at : ℕ → ℕ
moment_at clock = min clock greatest_moment

-- the later of two kept moments, where there is a later one
abbrev pub or_kept : Option ℕ → Option ℕ → Option ℕ
or_kept None kept = kept
or_kept (Some later) kept = Some later

-- the last kept moment behind a read at a moment, by the one before it
abbrev pub kept_by : ℕ → Option ℕ → Option ℕ
kept_by moment kept = or_kept (moment_to_keep moment (unwrap_or kept 0)) kept

-- so many bytes that are drawn from a number on
abbrev pub bytes_from : ℕ → ℕ → List ℕ
bytes_from zero number = []
bytes_from (suc count) number = drawn 256 (next_number number) ∷ bytes_from count (next_number number)
