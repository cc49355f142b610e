-- Internal. Which texts are the head of a reply.
use Rattle.std.specs.Prelude.{◌≡◌, ◌≤◌, ℕ, List, [], length, map}
use Rattle.httparse.specs.Grammar.{ResponseHead, ReadsResponse, status_code}
use Rattle.httparse.specs.Spans.{name_and_value}
use Rattle.http_message.specs.Fields.{Pair}
use Rattle.http_message.specs.Limits.{field_capacity}

-- The whole text is the head of a reply with this status and these fields.
pub record IsReplyHead (text : List ℕ) (status : ℕ) (fields : List Pair) : Type 0 where
  pub head : ResponseHead
  pub reads : ReadsResponse text head []
  pub few : length head.fields ≤ field_capacity
  pub status_is : status_code head ≡ status
  pub fields_are : map name_and_value head.fields ≡ fields

-- The whole text is the head of no reply.
pub record IsNoReplyHead (text : List ℕ) : Type 0 where
  pub none : (status : ℕ) (fields : List Pair) → ¬ (IsReplyHead text status fields)
