-- What the parts of a head in its text say of the head.
use Rattle.std.proofs.Common.{◌≡◌, ℕ, List, map, take, refl}
use Rattle.std.specs.Prelude.{codes}
use Rattle.std.specs.Str.{bytes_eq}
use Rattle.httparse.specs.Grammar.{RequestHead}
use Rattle.httparse.specs.Spans.{header_bytes, span_bytes}
use Rattle.httparse.specs.declared.spans.HeaderSpan.{HeaderSpan}
use Rattle.httparse.specs.declared.spans.RequestSpans.{RequestSpans}
use Rattle.http_message.specs.Framing.{framing_of, framing_in, expects_continue, has_body}
use Rattle.http_message.specs.Head.{IsHeadAt}
use Rattle.http_message.specs.Item.{is_head_request}
use Rattle.http_message.specs.Message.{message_in, message_of, is_continue_expected}
use Rattle.http_message.specs.declared.framing.Framing.{Framing}

-- the request at these offsets of the text is that of the head
pub message_at : (text : List ℕ) (spans : List HeaderSpan) (parts : RequestSpans) (head : RequestHead) (body : List ℕ)
    → IsHeadAt text spans parts head → message_in text spans parts body ≡ message_of head body
message_at text spans parts head body is = rw (is.at.method, is.at.path, is.at.version, is.at.fields) refl

-- the framing
pub framing_at : (text : List ℕ) (spans : List HeaderSpan) (parts : RequestSpans) (head : RequestHead)
    → IsHeadAt text spans parts head
    → framing_of head ≡ framing_in parts.version (map (header_bytes text) (take parts.headers spans))
unfolding framing_of
framing_at text spans parts head is = rw (is.at.version, is.at.fields) refl

-- whether it expects `100 Continue`
pub expects_at : (text : List ℕ) (spans : List HeaderSpan) (parts : RequestSpans) (head : RequestHead) (framing : Framing)
    → IsHeadAt text spans parts head
    → expects_continue head framing
    ≡ is_continue_expected parts.version (map (header_bytes text) (take parts.headers spans)) (has_body framing)
unfolding expects_continue
expects_at text spans parts head framing is = rw (is.at.version, is.at.fields) refl

-- whether the method is HEAD
pub head_at : (text : List ℕ) (spans : List HeaderSpan) (parts : RequestSpans) (head : RequestHead)
    → IsHeadAt text spans parts head → is_head_request head ≡ bytes_eq (span_bytes text parts.method) (codes "HEAD")
head_at text spans parts head is = rw is.at.method refl
