-- Believed. Which texts are the head of a request.
use Rattle.std.specs.Prelude.{◌≤◌, ℕ, List, [], length}
use Rattle.httparse.specs.Grammar.{RequestHead, ReadsRequest}
use Rattle.httparse.specs.Spans.{IsRequestWithin, IsRequestAt}
use Rattle.httparse.specs.declared.spans.HeaderSpan.{HeaderSpan}
use Rattle.httparse.specs.declared.spans.RequestSpans.{RequestSpans}
use Rattle.http_message.specs.Limits.{field_capacity}

-- the whole text is this head, and its fields fit into the buffer for them
pub record IsHead (text : List ℕ) (head : RequestHead) : Type 0 where
  pub reads : ReadsRequest text head []
  pub few : length head.fields ≤ field_capacity

-- the whole text is no head
pub record IsNoHead (text : List ℕ) : Type 0 where
  pub none : (head : RequestHead) → ¬ (IsHead text head)

-- the spans say where the parts of this head are in the text
pub record IsHeadAt
    (text : List ℕ) (spans : List HeaderSpan) (parts : RequestSpans) (head : RequestHead) : Type 0 where
  pub is : IsHead text head
  pub within : IsRequestWithin text spans parts
  pub at : IsRequestAt text spans parts head
