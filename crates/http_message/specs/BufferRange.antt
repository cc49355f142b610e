-- Internal. Where the bytes that are held are in their buffer.
use Rattle.std.specs.Prelude.{◌≡◌, ℕ, ◌≤◌, List, length}
use Rattle.http_message.specs.Limits.{head_limit}

-- the ends are in order and within the buffer, which is as long as the longest head
pub record IsBufferRange (buffer : List ℕ) (first last : ℕ) : Type 0 where
  pub ordered : first ≤ last
  pub within : last ≤ length buffer
  pub size : length buffer ≡ head_limit
