-- Believed. The items of a stream of bytes: its requests, and those whose end cannot be determined.
use Rattle.std.specs.Prelude.{◌≡◌, ℕ, ◌+◌, ◌<◌, Bool, true, false, nat_lt, ◌||◌, List, [], ◌++◌, length, drop, Ok, Err, codes}
use Rattle.std.specs.Str.{bytes_eq}
use Rattle.httparse.specs.Grammar.{RequestHead}
use Rattle.http_message.specs.Coding.{Decodes, Decoded, Broken, Unfinished}
use Rattle.http_message.specs.Framing.{framing_of, expects_continue}
use Rattle.http_message.specs.Head.{IsHead, IsNoHead}
use Rattle.http_message.specs.Limits.{head_limit}
use Rattle.http_message.specs.Message.{Message, message_of, is_coded, is_continue_expected, asks_to_close}
use Rattle.http_message.specs.Text.{Beginning, BareCr, Text, TooLarge, Unfinished as Undecided, beginning_of, empty_lines_before_head}
use Rattle.http_message.specs.declared.framing.Framing.{Framing}
use Rattle.http_message.specs.declared.framing.Framing.TheVariants.{Sized, Chunked}
use Rattle.http_message.specs.declared.refusal.FramingRefusal.{FramingRefusal}
use Rattle.http_message.specs.declared.refusal.FramingRefusal.TheVariants.{BadHead, HeadTooLarge}

-- What the bytes of an item are.
pub data Item : Type 0 where
  -- a request, with all of its body
  request : (message : Message) → Item
  -- A request whose end cannot be determined. Its head was not refused and expects `100 Continue` where
  -- `expected` says so, and was not refused and has the method HEAD where `is_head` says so.
  unframed : (refused : FramingRefusal) (expected is_head : Bool) → Item

-- `100 Continue` begins the item's text
abbrev pub continues : Item → Bool
continues (request m) = is_continue_expected m.minor m.fields (is_coded m.fields || nat_lt 0 (length m.body))
continues (unframed refused expected is_head) = expected

-- the connection ends after the item
abbrev pub closes : Item → Bool
closes (request m) = asks_to_close m
closes (unframed refused expected is_head) = true

-- the method is HEAD
abbrev pub is_head_request : RequestHead → Bool
is_head_request head = bytes_eq head.method (codes "HEAD")

-- The bytes after a head are the body that it frames so, and with the head they are this item.
pub data IsFramed (head : RequestHead) : Framing → (coded : List ℕ) → Item → Type 0 where
  sized : (size : ℕ) (body : List ℕ) → length body ≡ size → IsFramed head (Sized size) body (request (message_of head body))
  chunked : (coded body : List ℕ) → Decodes 0 0 coded (Decoded body)
      → IsFramed head Chunked coded (request (message_of head body))
  broken : (coded : List ℕ) (refused : FramingRefusal) → Decodes 0 0 coded (Broken refused)
      → IsFramed head Chunked coded (unframed refused (expects_continue head Chunked) (is_head_request head))

-- The text of a head and the bytes after it are this item.
pub data IsItemOf (text coded : List ℕ) (item : Item) : Type 0 where
  -- no head is just this text
  no_head : IsNoHead text → coded ≡ [] → item ≡ unframed BadHead false false → IsItemOf text coded item
  -- one is, and it is refused
  bad_head : (head : RequestHead) (refused : FramingRefusal) → IsHead text head → framing_of head ≡ Err refused
      → coded ≡ [] → item ≡ unframed refused false false → IsItemOf text coded item
  -- one is, and it frames the bytes after it
  framed : (head : RequestHead) (framing : Framing) → IsHead text head → framing_of head ≡ Ok framing
      → IsFramed head framing coded item → IsItemOf text coded item

-- the bytes are this item, by what they begin with
abbrev pub IsItemBy : Beginning → List ℕ → Item → Type 0
IsItemBy BareCr piece item = (length piece ≡ empty_lines_before_head piece + 2) × (item ≡ unframed BadHead false false)
IsItemBy (Text text) piece item =
    (coded : List ℕ) × (drop (empty_lines_before_head piece) piece ≡ text ++ coded) × IsItemOf text coded item
IsItemBy TooLarge piece item = (length piece ≡ head_limit) × (item ≡ unframed HeadTooLarge false false)
IsItemBy Undecided piece item = ⊥

-- The bytes are one item, whole and no more.
pub record IsItem (piece : List ℕ) (item : Item) : Type 0 where
  pub is : IsItemBy (beginning_of piece) piece item

-- The bytes after a head are not yet all of the body that it frames so.
pub data IsCut : Framing → (coded : List ℕ) → Type 0 where
  sized : (size : ℕ) (coded : List ℕ) → length coded < size → IsCut (Sized size) coded
  chunked : (coded : List ℕ) → Decodes 0 0 coded Unfinished → IsCut Chunked coded

-- No item is whole in the bytes, and more bytes may make one. Its head has come and expects
-- `100 Continue` where `expected` says so.
pub data IsOpen (rest : List ℕ) (expected : Bool) : Type 0 where
  -- no head is complete
  no_text : beginning_of rest ≡ Undecided → expected ≡ false → IsOpen rest expected
  -- one is, and its body is cut short
  cut_short : (text coded : List ℕ) (head : RequestHead) (framing : Framing) → beginning_of rest ≡ Text text
      → drop (empty_lines_before_head rest) rest ≡ text ++ coded → IsHead text head → framing_of head ≡ Ok framing
      → IsCut framing coded → expected ≡ expects_continue head framing → IsOpen rest expected

-- The bytes begin with a head that expects `100 Continue`.
pub record ExpectsContinue (bytes : List ℕ) : Type 0 where
  pub text : List ℕ
  pub head : RequestHead
  pub framing : Framing
  pub beginning : beginning_of bytes ≡ Text text
  pub is : IsHead text head
  pub framed : framing_of head ≡ Ok framing
  pub expected : expects_continue head framing ≡ true
