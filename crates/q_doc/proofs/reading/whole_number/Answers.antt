use Rattle.std.proofs.Common.{◌≡◌, ℤ, drop, get_or, true, false, ◌==◌, Option, Some, IfSome, option_and_then, sym, ap, ◌∙◌, subst, arith, take_all, length-drop}
use Rattle.fast_float.specs.Text.{scan}
use Rattle.serde_json.specs.Find.{as_i64}
use Rattle.serde_json.specs.Read.{number_of, number_from}
use Rattle.serde_json.specs.Data.{Num}
use Rattle.q_doc.proofs.reading.whole_number.Goals as goal

-- the same number, in other words
whole_of_same : (o : Option ℤ) (m n : Option Num) → m ≡ n → IfSome o (λ z. option_and_then as_i64 m ≡ Some z) → IfSome o (λ z. option_and_then as_i64 n ≡ Some z)
whole_of_same o m n e h = subst (λ k. IfSome o (λ z. option_and_then as_i64 k ≡ Some z)) e h

pub returns-then-has_minus : goal.returns-then-has_minus
unfolding number_of
returns-then-has_minus c =
    let s = c.args.text.now in
    let signed : (get_or s 0 0 == 45) ≡ true = sym c.if-has_minus.ensures.value in
    let parts : c.scan.result ≡ scan (drop 1 s) = c.scan.ensures.parts ∙ ap scan (take_all _ (drop 1 s) (omega (arith, length-drop 1 s))) in
    let read : number_from true (scan (drop 1 s)) ≡ number_of s = rw signed in
    whole_of_same c.negative.result (number_from true c.scan.result) (number_of s) (ap (number_from true) parts ∙ read) c.negative.ensures

pub returns-else-has_minus : goal.returns-else-has_minus
unfolding number_of
returns-else-has_minus c =
    let s = c.args.text.now in
    let unsigned : (get_or s 0 0 == 45) ≡ false = sym c.if-has_minus.ensures.value in
    let read : number_from false (scan s) ≡ number_of s = rw unsigned in
    whole_of_same c.positive.result (number_from false c.scan-else-has_minus.result) (number_of s) (ap (number_from false) c.scan-else-has_minus.ensures.parts ∙ read) c.positive.ensures
