-- Internal. The bodies of replies, as they are kept until they are given.
use Rattle.std.specs.Prelude.{ℕ, ◌-◌, ◌^◌, Bool, true, false, List, ◌++◌, min, codes, decimal}
use Rattle.std.specs.List.{flat_map, join_by}
use Rattle.json.specs.Print.{quoted}
use Rattle.hub_model.specs.Reply.{told_of}
use Rattle.hub_model.specs.declared.entry.PurgeReply.{PurgeReply}
use Rattle.query_normal.specs.Keys.{key_text}
use Rattle.query_normal.specs.declared.key.KeyShape.{KeyShape}
use Rattle.http_front.specs.ReplyText.{purges_body}
use Rattle.http_front.specs.declared.body.ReplyBody.{ReplyBody}
use Rattle.http_front.specs.declared.body.ReplyBody.TheVariants.{Piece, Result, Purges}
use Rattle.http_front.specs.declared.told.Told.{Told}
use Rattle.http_front.specs.declared.told.Told.TheVariants as told

-- the text of a key as JSON
abbrev pub key_json : KeyShape → List ℕ
key_json key = quoted (key_text key)

-- the texts of keys, with a comma before each
abbrev pub keys_behind : List KeyShape → List ℕ
keys_behind keys = flat_map (λ key. codes "," ++ key_json key) keys

-- the texts of keys, with commas between them
abbrev pub keys_json : List KeyShape → List ℕ
keys_json keys = join_by key_json (codes ",") keys

-- a list of purges up to its first key
abbrev pub purges_start : PurgeReply → List ℕ
purges_start p = codes "{\"from\":" ++ decimal p.from ++ codes ",\"front\":" ++ decimal p.front ++ codes ",\"keys\":["

-- what follows the last one
abbrev pub purges_end : PurgeReply → List ℕ
purges_end p = codes "],\"last\":" ++ decimal p.last ++ codes "}"

-- the bytes of a body
abbrev pub body_text : ReplyBody → List ℕ
body_text (Piece piece) = piece.now
body_text (Result text) = text.now
body_text (Purges reply) = purges_body (told_of reply.now)

-- whether a body is one whose length 64 bits hold
abbrev pub is_counted : ReplyBody → Bool
is_counted (Piece piece) = true
is_counted (Result text) = true
is_counted (Purges reply) = false

-- whether the body of what is told is: all are but a list of purges
abbrev pub is_counted_in : Told → Bool
is_counted_in (told.Write written) = true
is_counted_in (told.Read answer) = true
is_counted_in (told.Match matched) = true
is_counted_in (told.Dropped dropped) = true
is_counted_in (told.Page clock) = true
is_counted_in (told.Count stats) = true
is_counted_in (told.Purges reply) = false
is_counted_in (told.Refusal refused clock) = true
is_counted_in told.Memory = true
is_counted_in told.Unkept = true

-- a length, or the greatest number of 64 bits where that is less
abbrev pub up_to_greatest : ℕ → ℕ
up_to_greatest size = min size (2 ^ 64 - 1)
