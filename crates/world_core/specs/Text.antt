-- Internal. The text of a run: the lines of its reads, and its numbers.
use Rattle.std.specs.Prelude.{◌≡◌, ℕ, ◌-◌, Bool, true, false, List, [], ◌∷◌, ◌++◌, length, codes, decimal, count_by}
use Rattle.query_normal.specs.Keys.{key_text}
use Rattle.client_core.specs.declared.choice.Why.TheVariants as why
use Rattle.client_session.specs.declared.read_out.Way.{Way}
use Rattle.client_session.specs.declared.read_out.Way.TheVariants as way
use Rattle.world_core.specs.declared.line.ReadLine.{ReadLine}
use Rattle.world_core.specs.declared.step.Step.{Step}
use Rattle.world_core.specs.Steps.{steps_of}
use Rattle.world_core.specs.World.{WorldView, IsNew, IsRun, commits_of, record_of_world}

-- the word for the way of a read
abbrev pub way_word : Way → List ℕ
way_word way.Cached = codes "cached"
way_word (way.Direct why.Strong) = codes "strong"
way_word (way.Direct why.Flagged) = codes "flagged"
way_word (way.Direct why.Older) = codes "older"
way_word (way.Direct why.Expired) = codes "expired"
way_word (way.Direct why.BelowFloor) = codes "below_floor"

-- a word, a blank and a number
abbrev pub word_and : List ℕ → ℕ → List ℕ
word_and word number = word ++ (codes " " ++ decimal number)

-- a blank and a text
abbrev pub blank_and : List ℕ → List ℕ
blank_and text = codes " " ++ text

-- the line of a read up to its way
abbrev pub start_text : ReadLine → List ℕ
start_text line = word_and (codes "read") line.step ++ (word_and [] line.client ++ (word_and [] line.commit ++ blank_and (way_word line.way)))

-- the line of a read from its length on
abbrev pub rest_text : ReadLine → List ℕ
rest_text line = word_and [] line.length ++ (blank_and line.digest ++ (blank_and (key_text line.key) ++ codes "\n"))

-- the line of a read
abbrev pub line_text : ReadLine → List ℕ
line_text line = start_text line ++ rest_text line

-- the lines of reads
abbrev pub lines_text : List ReadLine → List ℕ
lines_text [] = []
lines_text (line ∷ lines) = line_text line ++ lines_text lines

-- whether a way is that of an accepted copy
abbrev pub is_cached_way : Way → Bool
is_cached_way way.Cached = true
is_cached_way (way.Direct cause) = false

-- the same of a line
abbrev pub is_cached : ReadLine → Bool
is_cached line = is_cached_way line.way

-- the line of a number
abbrev pub count_text : List ℕ → ℕ → List ℕ
count_text word number = word_and word number ++ codes "\n"

-- the numbers of a run: its steps and commits, its reads, how many of them a copy answered and how many the store, and the size of the record
abbrev pub numbers_text : ℕ → ℕ → List ReadLine → ℕ → List ℕ
numbers_text steps commits lines recorded =
    count_text (codes "steps") steps ++ (count_text (codes "commits") commits ++ (count_text (codes "reads") (length lines)
    ++ (count_text (codes "cached") (count_by is_cached lines) ++ (count_text (codes "direct") (length lines - count_by is_cached lines)
    ++ count_text (codes "record") recorded))))

-- The text of a run of these steps.
pub record IsRunText (count : ℕ) (steps : List Step) (old new : WorldView) (text : List ℕ) : Type 0 where
  pub lines : List ReadLine
  pub run : IsRun 1 steps old new lines
  pub text_is : text ≡ lines_text lines ++ numbers_text count (commits_of new) lines (record_of_world new)

-- The text of the run of a seed: that of the steps which it draws, in a new world.
pub record IsWorldText (seed count : ℕ) (text : List ℕ) : Type 0 where
  pub new : WorldView
  pub last : WorldView
  pub lines : List ReadLine
  pub is_new : IsNew new
  pub run : IsRun 1 (steps_of count seed) new last lines
  pub text_is : text ≡ lines_text lines ++ numbers_text count (commits_of last) lines (record_of_world last)
