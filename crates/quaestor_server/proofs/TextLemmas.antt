-- The text of a reply is a function of its head, its body and its clock.
use Rattle.std.proofs.Common.{◌≡◌, ℕ, Bool, ◌||◌, if◌then◌else◌, List, [], length, refl, sym, ap, ◌∙◌, subst}
use Rattle.hub_model.specs.declared.entry.PurgeReply.{PurgeReply}
use Rattle.hub_model.specs.Reply.{PurgesTold, told_of}
use Rattle.http_front.specs.Date.{IsDateOf}
use Rattle.http_front.specs.ReadBack.{RepliesHaveOneText}
use Rattle.http_front.specs.Reply.{Reply, head_fields, reply_text}
use Rattle.http_front.specs.ReplyText.{IsReplyText, body_of, clock_of, head_of, is_asked, purges_body}
use Rattle.http_front.specs.declared.head.Head.{Head}
use Rattle.http_front.specs.declared.shape.Shape.{Shape}
use Rattle.http_front.specs.declared.told.Told.{Told}
use Rattle.http_front.specs.declared.told.Told.TheVariants.{Purges}

-- Two replies look alike to the client.
pub record AreAlike (told again : Told) (page other : List ℕ) : Type 0 where
  pub heads : (shape : Shape) (size : ℕ) (close : Bool) → head_of shape told size close ≡ head_of shape again size close
  pub asked : (shape : Shape) → is_asked shape told ≡ is_asked shape again
  pub bodies : body_of told page ≡ body_of again other
  pub clocks : clock_of told ≡ clock_of again

-- equal replies do, where their bodies are the same
pub alike : (told again is : Told) (page other : List ℕ) → told ≡ is → again ≡ is → body_of is page ≡ body_of is other → AreAlike told again page other
alike told again is page other p q bodies =
    subst (λ (t : Told). AreAlike told t page other) (sym q)
    (subst (λ (t : Told). AreAlike t is page other) (sym p) (record { heads = λ shape size close. refl; asked = λ shape. refl; bodies = bodies; clocks = refl }))

-- so do lists of purges that tell the same
pub purges_alike : (told again : Told) (page other : List ℕ) (x y : PurgeReply) → told ≡ Purges x → again ≡ Purges y → told_of x ≡ told_of y → AreAlike told again page other
purges_alike told again page other x y p q same =
    subst (λ (t : Told). AreAlike told t page other) (sym q)
    (subst (λ (t : Told). AreAlike t (Purges y) page other) (sym p) (record { heads = λ shape size close. refl; asked = λ shape. refl; bodies = ap purges_body same; clocks = ap (λ (t : PurgesTold). t.clock) same }))

-- the reply with this head and this body, to a page that asks or to another
abbrev reply_with : Shape → List ℕ → Bool → Head → List ℕ → Reply
reply_with shape date asked head body = record { status = head.status; fields = head_fields head date; body = if asked || shape.head then [] else body }

-- the text of a reply is that of one that looks alike
other_reply : (shape : Shape) (told again : Told) (page other : List ℕ) (close : Bool) (text : List ℕ) → AreAlike told again page other → IsReplyText shape again other close text → IsReplyText shape told page close text
other_reply shape told again page other close text same is =
    let size : ℕ = length (body_of told page) in
    let bodies : reply_with shape is.date (is_asked shape again) (head_of shape again (length (body_of again other)) close) (body_of again other) ≡ reply_with shape is.date (is_asked shape again) (head_of shape again size close) (body_of told page) = ap (λ (b : List ℕ). reply_with shape is.date (is_asked shape again) (head_of shape again (length b) close) b) (sym same.bodies) in
    let heads : reply_with shape is.date (is_asked shape again) (head_of shape again size close) (body_of told page) ≡ reply_with shape is.date (is_asked shape again) (head_of shape told size close) (body_of told page) = ap (λ (h : Head). reply_with shape is.date (is_asked shape again) h (body_of told page)) (sym (same.heads shape size close)) in
    let asks : reply_with shape is.date (is_asked shape again) (head_of shape told size close) (body_of told page) ≡ reply_with shape is.date (is_asked shape told) (head_of shape told size close) (body_of told page) = ap (λ (b : Bool). reply_with shape is.date b (head_of shape told size close) (body_of told page)) (sym (same.asked shape)) in
    record { date = is.date; dated = subst (λ (n : ℕ). IsDateOf n is.date) (sym same.clocks) is.dated; text_is = is.text_is ∙ ap reply_text (bodies ∙ heads ∙ asks) }

-- replies that look alike have one text
pub same_text : RepliesHaveOneText → (shape : Shape) (told again : Told) (page other : List ℕ) (close : Bool) (text more : List ℕ) → AreAlike told again page other → IsReplyText shape told page close text → IsReplyText shape again other close more → text ≡ more
same_text one shape told again page other close text more same p q = one shape told page close text more p (other_reply shape told again page other close more same q)
