-- Internal. What the whole text of a head is.
use Rattle.std.specs.Prelude.{◌≡◌, ◌⊎◌, ℕ, List, Result, Ok, Err}
use Rattle.httparse.specs.Grammar.{RequestHead}
use Rattle.httparse.specs.declared.spans.HeaderSpan.{HeaderSpan}
use Rattle.http_message.specs.Framing.{framing_of, expects_continue}
use Rattle.http_message.specs.Head.{IsHead, IsHeadAt, IsNoHead}
use Rattle.http_message.specs.Item.{is_head_request}
use Rattle.http_message.specs.declared.judge.Judged.{Judged}
use Rattle.http_message.specs.declared.refusal.FramingRefusal.{FramingRefusal}
use Rattle.http_message.specs.declared.refusal.FramingRefusal.TheVariants.{BadHead}

-- the text is a head that is refused
pub record IsRefusedHead (text : List ℕ) (refused : FramingRefusal) : Type 0 where
  pub head : RequestHead
  pub is : IsHead text head
  pub framing_is : framing_of head ≡ Err refused

-- the text is a head that frames a body, and this is it
pub record IsFramedHead (text : List ℕ) (spans : List HeaderSpan) (judged : Judged) : Type 0 where
  pub head : RequestHead
  pub at : IsHeadAt text spans judged.parts head
  pub framing_is : framing_of head ≡ Ok judged.framing
  pub expected_is : judged.expects_continue ≡ expects_continue head judged.framing
  pub heads_is : judged.is_head_request ≡ is_head_request head

-- what the text is; a refusal says that it is no head, or a head that is refused
abbrev pub IsJudged : List ℕ → List HeaderSpan → Result Judged FramingRefusal → Type 0
IsJudged text spans (Ok judged) = IsFramedHead text spans judged
IsJudged text spans (Err refused) = (IsNoHead text × (refused ≡ BadHead)) ⊎ IsRefusedHead text refused
