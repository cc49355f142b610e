-- Believed. The text of a run: the lines of its openings, and its numbers.
use Rattle.std.specs.Prelude.{ℕ, List, [], ◌∷◌, ◌++◌, codes}
use Rattle.crash_core.specs.declared.lines.OpenLine.{OpenLine}
use Rattle.world_core.specs.Text.{count_text, word_and}

-- the line of an opening
abbrev pub line_text : OpenLine → List ℕ
line_text line = word_and (codes "open") line.step ++ (word_and [] line.commits ++ (word_and [] line.guard ++ codes "\n"))

-- the lines of openings
abbrev pub lines_text : List OpenLine → List ℕ
lines_text [] = []
lines_text (line ∷ lines) = line_text line ++ lines_text lines

-- the numbers of a run: its steps, its commits at the end, and its crashes
abbrev pub numbers_text : (steps commits crashes : ℕ) → List ℕ
numbers_text steps commits crashes = count_text (codes "steps") steps ++ (count_text (codes "commits") commits ++ count_text (codes "crashes") crashes)
