-- Internal. What comes of the head of the next item.
use Rattle.std.specs.Prelude.{◌≡◌, ◌⊎◌, ℕ, ◌<◌, ◌≤◌, true, false, List, ◌++◌, length, take, drop, Result, Ok, Err}
use Rattle.httparse.specs.Grammar.{RequestHead}
use Rattle.httparse.specs.declared.spans.HeaderSpan.{HeaderSpan}
use Rattle.q_outside.specs.Ends.{End, IsEnded, TookBytes}
use Rattle.http_message.specs.Framing.{framing_of, expects_continue}
use Rattle.http_message.specs.Head.{IsHeadAt}
use Rattle.http_message.specs.Input.{IsIdle}
use Rattle.http_message.specs.Item.{unframed, is_head_request, IsItem}
use Rattle.http_message.specs.Limits.{head_limit, body_limit}
use Rattle.http_message.specs.Text.{Text, Unfinished, beginning_of, empty_lines_before_head, is_blank}
use Rattle.http_message.specs.declared.framing.Framing.{Framing}
use Rattle.http_message.specs.declared.framing.Framing.TheVariants.{Sized, Chunked}
use Rattle.http_message.specs.declared.headed.Framed.{Framed as FramedHead}
use Rattle.http_message.specs.declared.headed.Headed.{Headed}
use Rattle.http_message.specs.declared.headed.Headed.TheVariants.{Framed, Bad}
use Rattle.http_message.specs.declared.refusal.FramingRefusal.{FramingRefusal}
use Rattle.http_message.specs.declared.incomplete.Incomplete.{Incomplete}
use Rattle.http_message.specs.declared.incomplete.Incomplete.TheVariants.{InputEnd, Truncated, ReadFault, WriteFault}

-- a body of this framing fits into the buffer for it
abbrev pub FitsBuffer : Framing → Type 0
FitsBuffer (Sized size) = size ≤ body_limit
FitsBuffer Chunked = Unit {0}

-- Of all the bytes, the first are a head with the empty lines before it, whatever follows them, and its
-- text is in the buffer for it.
pub record BeginsFramed
    (all rest text : List ℕ) (spans : List HeaderSpan) (framed : FramedHead) : Type 0 where
  pub first : List ℕ
  pub head : RequestHead
  pub splits : all ≡ first ++ rest
  pub size_is : length first ≡ framed.used
  pub some : 0 < framed.used
  pub limit : framed.used ≤ head_limit
  pub text_within : framed.text ≤ length text
  pub at : IsHeadAt (take framed.text text) spans framed.parts head
  pub framing_is : framing_of head ≡ Ok framed.framing
  pub fits : FitsBuffer framed.framing
  pub expects_is : framed.expects_continue ≡ expects_continue head framed.framing
  pub head_is : framed.is_head_request ≡ is_head_request head
  pub beginning : (more : List ℕ) → beginning_of (first ++ more) ≡ Text (take framed.text text)
  pub behind : (more : List ℕ)
      → drop (empty_lines_before_head (first ++ more)) (first ++ more) ≡ take framed.text text ++ more

-- Of all the bytes, the first are an item that has no body.
pub record BeginsBad (all rest : List ℕ) (refused : FramingRefusal) (used : ℕ) : Type 0 where
  pub first : List ℕ
  pub splits : all ≡ first ++ rest
  pub is : IsItem first (unframed refused false false)
  pub size_is : length first ≡ used
  pub some : 0 < used
  pub limit : used ≤ head_limit

-- what the first of all the bytes are
abbrev pub IsHeadOf : (all rest text : List ℕ) → List HeaderSpan → Headed → Type 0
IsHeadOf all rest text spans (Framed framed) = BeginsFramed all rest text spans framed
IsHeadOf all rest text spans (Bad refused used) = BeginsBad all rest refused used

-- why no head follows all the bytes
abbrev pub HasNoHead : (source source' : End) → (all : List ℕ) → Incomplete → Type 0
HasNoHead source source' all InputEnd = IsEnded source'.bytes × (is_blank all ≡ true)
HasNoHead source source' all Truncated = IsEnded source'.bytes × (is_blank all ≡ false)
HasNoHead source source' all ReadFault = source.faults < source'.faults
HasNoHead source source' all WriteFault = ⊥

-- what the first of all the bytes are, or why no more came
abbrev pub IsHeaded : (source source' : End) → (all rest text : List ℕ) → List HeaderSpan → Result Headed Incomplete → Type 0
IsHeaded source source' all rest text spans (Ok headed) = IsHeadOf all rest text spans headed
IsHeaded source source' all rest text spans (Err incomplete) =
    (beginning_of all ≡ Unfinished) × HasNoHead source source' all incomplete

-- Bytes were taken, and with those that were held this came of them; some were taken only where no head
-- was complete.
pub record Heads
    (source source' : End) (held rest text : List ℕ) (spans : List HeaderSpan) (answer : Result Headed Incomplete) : Type 0 where
  pub got : List ℕ
  pub took : TookBytes source source' got
  pub waits : IsIdle source source' got ⊎ (beginning_of held ≡ Unfinished)
  pub is : IsHeaded source source' (held ++ got) rest text spans answer
