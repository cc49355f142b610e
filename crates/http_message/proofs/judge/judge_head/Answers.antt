use Rattle.std.proofs.Common.{sym, ◌∙◌, ap, codes, ℕ, List, inr}
use Rattle.std.specs.Str.{bytes_eq}
use Rattle.http_message.proofs.HeadLemmas.{framing_at, expects_at, head_at}
use Rattle.http_message.proofs.judge.judge_head.Goals as goal

pub returns-in-Ok : goal.returns-in-Ok
returns-in-Ok c =
    let text = c.args.text.now in
    let spans = c.args.spans.now in
    let parts = c.args.parts in
    let head = c.requires.0 in
    let at = c.requires.1 in
    record {
      head = head;
      at = at;
      framing_is = framing_at text spans parts head at ∙ sym c.framing_in.ensures ∙ c.in-Ok.is;
      expected_is = c.expects_continue.ensures ∙ sym (expects_at text spans parts head c.in-Ok.framing at);
      heads_is = c.is_head_request.ensures ∙ ap (λ (method : List ℕ). bytes_eq method (codes "HEAD")) c.of.ensures
          ∙ sym (head_at text spans parts head at);
    }

pub returns-in-Err : goal.returns-in-Err
returns-in-Err c =
    let head = c.requires.0 in
    let at = c.requires.1 in
    inr (record {
      head = head;
      is = at.is;
      framing_is = framing_at c.args.text.now c.args.spans.now c.args.parts head at ∙ sym c.framing_in.ensures ∙ c.in-Err.is;
    })
