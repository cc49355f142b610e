-- Internal. The buffers into which the items of a connection are taken.
use Rattle.std.specs.Prelude.{◌≡◌, ℕ, List, length}
use Rattle.httparse.specs.declared.spans.HeaderSpan.{HeaderSpan}
use Rattle.http_message.specs.Limits.{head_limit, field_capacity, trailer_capacity, body_limit}

-- What contracts see of them.
pub record Contents : Type 0 where
  -- the bytes that were taken and are not used yet
  pub bytes : List ℕ
  -- begins with the text of the last head
  pub text : List ℕ
  -- begins with the offsets of its fields
  pub spans : List HeaderSpan
  -- begins with the last body
  pub body : List ℕ

-- the buffers have their sizes
pub record IsSized (text : List ℕ) (spans trailer_spans : List HeaderSpan) (body : List ℕ) : Type 0 where
  pub text_size : length text ≡ head_limit
  pub spans_size : length spans ≡ field_capacity
  pub trailer_spans_size : length trailer_spans ≡ trailer_capacity
  pub body_size : length body ≡ body_limit
