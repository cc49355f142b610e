use Rattle.std.proofs.Common.{◌≡◌, ℕ, ◌<◌, length}
use denote.Text.{Utf8}
use denote.Shadow.{shadow}
use Rattle.query_lang.specs.FilterReading.{read_filter, filter_rules, seen}
use Rattle.query_lang.specs.Reading.{run, tokens_in}
use Rattle.query_lang.proofs.reading.read_filter.Given as goal

abbrev pub invariant-tokens : goal.invariant-tokens
invariant-tokens l =
    shadow (Utf8 l.rest) × (l.total ≡ length l.text)
    × ((m : ℕ) × (length l.rest < m) × (read_filter l.text ≡ run filter_rules l.total (seen l.reader) (tokens_in m l.rest)))

abbrev pub decreases-tokens : goal.decreases-tokens
decreases-tokens l = length l.rest
