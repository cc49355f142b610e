-- Internal. Texts that a sink is given by way of a buffer.
use Rattle.std.specs.Prelude.{◌≡◌, ℕ, ◌≤◌, List, [], ◌++◌, length, take, Result, Ok, Err}
use Rattle.q_outside.specs.Ends.{End, GaveBytes, GavePart}

-- Of a text a first part was given to a sink, the next one waits in a buffer, and the rest is to come.
pub record IsBuffered (before after : End) (text waiting rest : List ℕ) : Type 0 where
  pub given : List ℕ
  pub gave : GaveBytes before after given
  pub text_is : text ≡ given ++ (waiting ++ rest)

-- a piece behind what waits: both are given or wait in the first bytes of the buffer; or the sink failed inside them
abbrev pub Adds : {E : Type 0} → (before after : End) → (waiting piece buffer : List ℕ) → Result ℕ E → Type 0
Adds before after waiting piece buffer (Ok end) =
    (end ≤ length buffer) × IsBuffered before after (waiting ++ piece) (take end buffer) []
Adds before after waiting piece buffer (Err failed) = GavePart before after (waiting ++ piece)
