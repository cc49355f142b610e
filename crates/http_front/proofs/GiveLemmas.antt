-- The text of a reply that was given.
use Rattle.std.proofs.Common.{◌≡◌, ℕ, ◌-◌, ◌<◌, ◌^◌, min, Bool, true, List, ◌++◌, Result, length, refl, ap, ap₂, subst, ◌∙◌, arith}
use Rattle.q_outside.specs.Ends.{End, Gave}
use Rattle.http_front.specs.Bodies.{body_text, is_counted, is_counted_in, up_to_greatest}
use Rattle.http_front.specs.Date.{IsDateOf}
use Rattle.http_front.specs.Reply.{head_text, head_fields}
use Rattle.http_front.specs.ReplyText.{IsHeadText, IsReplyText, body_of, clock_of, given_body, head_of, json_head}
use Rattle.http_front.specs.declared.body.ReplyBody.{ReplyBody}
use Rattle.http_front.specs.declared.head.Head.{Head}
use Rattle.http_front.specs.declared.shape.Shape.{Shape}
use Rattle.http_front.specs.declared.told.Told.{Told}
use Rattle.http_front.specs.declared.told.Told.TheVariants.{Write, Read, Match, Dropped, Page, Count, Purges, Refusal, Memory, Unkept}

fitting : (size : ℕ) → size < 2 ^ 64 → up_to_greatest size ≡ size
fitting size fits = omega arith

-- the head is that of the whole length, which 64 bits hold where the body is one whose length they hold
head_up_to : (shape : Shape) (told : Told) (size : ℕ) (close : Bool) → (is_counted_in told ≡ true → size < 2 ^ 64)
    → head_of shape told (up_to_greatest size) close ≡ head_of shape told size close
head_up_to shape (Write written) size close fits = ap (λ n. head_of shape (Write written) n close) (fitting size (fits refl))
head_up_to shape (Read answer) size close fits = ap (λ n. head_of shape (Read answer) n close) (fitting size (fits refl))
head_up_to shape (Match matched) size close fits = ap (λ n. head_of shape (Match matched) n close) (fitting size (fits refl))
head_up_to shape (Dropped dropped) size close fits = ap (λ n. head_of shape (Dropped dropped) n close) (fitting size (fits refl))
head_up_to shape (Page clock) size close fits = ap (λ n. head_of shape (Page clock) n close) (fitting size (fits refl))
head_up_to shape (Count stats) size close fits = ap (λ n. head_of shape (Count stats) n close) (fitting size (fits refl))
head_up_to shape (Purges reply) size close fits =
    let same : min (up_to_greatest size) (2 ^ 64 - 1) ≡ min size (2 ^ 64 - 1) = omega arith in
    ap (λ n. record (json_head 200 n close) { leave = shape.leave }) same
head_up_to shape (Refusal refused clock) size close fits = ap (λ n. head_of shape (Refusal refused clock) n close) (fitting size (fits refl))
head_up_to shape Memory size close fits = ap (λ n. head_of shape Memory n close) (fitting size (fits refl))
head_up_to shape Unkept size close fits = ap (λ n. head_of shape Unkept n close) (fitting size (fits refl))

-- the head of what is told, of the length of its body as it is kept
pub head_is_of : (shape : Shape) (told : Told) (page : List ℕ) (close : Bool) (body : ReplyBody) (size : ℕ) (head : Head)
    → body_text body ≡ body_of told page → is_counted body ≡ is_counted_in told
    → size ≡ up_to_greatest (length (body_text body)) → (is_counted body ≡ true → length (body_text body) < 2 ^ 64) → head ≡ head_of shape told size close
    → head ≡ head_of shape told (length (body_of told page)) close
head_is_of shape told page close body size head text_is counted_is size_is fits head_is =
    head_is ∙ ap (λ n. head_of shape told n close) size_is
    ∙ head_up_to shape told (length (body_text body)) close (λ one. fits (counted_is ∙ one))
    ∙ ap (λ t. head_of shape told (length t) close) text_is

-- a head and what is given of a body, one behind the other
pub reply_given : {T E : Type 0} (before after : End) (shape : Shape) (told : Told) (page : List ℕ) (close : Bool) (clock : ℕ) (head : Head) (written behind : List ℕ) (result : Result T E)
    → head ≡ head_of shape told (length (body_of told page)) close → clock ≡ clock_of told
    → IsHeadText head clock written → behind ≡ given_body shape told (body_of told page)
    → Gave before after (written ++ behind) result
    → (text : List ℕ) × IsReplyText shape told page close text × Gave before after text result
reply_given before after shape told page close clock head written behind result head_is clock_is h behind_is gave = (
  written ++ behind,
  record {
    date = h.date;
    dated = subst (λ seconds. IsDateOf seconds h.date) clock_is h.dated;
    text_is =
        ap₂ (λ xs ys. xs ++ ys) (h.text_is ∙ ap (λ (k : Head). head_text k.status (head_fields k h.date)) head_is) behind_is;
  },
  gave,
)
