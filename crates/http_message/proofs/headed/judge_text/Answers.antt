use Rattle.std.proofs.Common.{List, ℕ, drop, subst, ◌≡◌, ◌⊎◌}
use Rattle.http_message.specs.Head.{IsNoHead}
use Rattle.http_message.specs.Judged.{IsRefusedHead, IsFramedHead}
use Rattle.http_message.specs.declared.refusal.FramingRefusal.TheVariants.{BadHead}
use Rattle.http_message.proofs.ItemLemmas.{headed_bad, bad_head_of, framed_first, text_copied}
use Rattle.http_message.proofs.headed.judge_text.Goals as goal

pub returns-in-Err : goal.returns-in-Err
returns-in-Err c =
    let copied = text_copied c.requires.at c.bytes.result.now c.copy_from_slice.new.self (drop c.args.size c.args.text.now)
    c.bytes.ensures c.copy_from_slice.ensures.after in
    let P : List ℕ → Type 0 = λ text. (IsNoHead text × (c.in-Err.refused ≡ BadHead)) ⊎ IsRefusedHead text c.in-Err.refused in
    headed_bad _ _ _ _ c.refuse.result _ _ c.refuse.ensures.is
    (bad_head_of c.requires.at c.refuse.new.input c.in-Err.refused
    (subst P copied.0 c.in-Err.ensures) c.refuse.ensures.skips)

pub returns-in-Ok : goal.returns-in-Ok
returns-in-Ok c =
    let copied = text_copied c.requires.at c.bytes.result.now c.copy_from_slice.new.self (drop c.args.size c.args.text.now)
    c.bytes.ensures c.copy_from_slice.ensures.after in
    let P : List ℕ → Type 0 = λ text. IsFramedHead text c.judge.new.spans c.in-Ok.judged in
    framed_first c.requires.at c.skip.new.self _ c.judge.new.spans c.in-Ok.judged copied.0 copied.1 c.skip.ensures (subst P copied.0 c.in-Ok.ensures)
