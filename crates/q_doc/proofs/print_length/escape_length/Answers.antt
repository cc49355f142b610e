use Rattle.std.proofs.Common.{◌≡◌, ℕ, Bool, cond, nat_lt, sym, ap, ◌∙◌, lt-ltb}
use Rattle.std.proofs.lemmas.Bool.{le-ltb}
use Rattle.q_doc.proofs.NodeLength.{escape_length_is}
use Rattle.q_doc.proofs.print_length.escape_length.Goals as goal

pub returns-then-has_letter : goal.returns-then-has_letter
returns-then-has_letter c =
    sym (escape_length_is c.args.byte ∙ ap (λ (b : Bool). cond b 2 (cond (nat_lt c.args.byte 32) 6 1)) (sym c.has_letter.ensures ∙ c.if-has_letter.true))

pub returns-then-byte-lt32 : goal.returns-then-byte-lt32
returns-then-byte-lt32 c =
    sym (
    escape_length_is c.args.byte
    ∙ ap (λ (b : Bool). cond b 2 (cond (nat_lt c.args.byte 32) 6 1)) (sym c.has_letter.ensures ∙ c.if-has_letter.false)
    ∙ ap (λ (b : Bool). cond b 6 1) (lt-ltb c.args.byte 32 c.if-byte-lt32.true)
    )

pub returns-else-byte-lt32 : goal.returns-else-byte-lt32
returns-else-byte-lt32 c =
    sym (
    escape_length_is c.args.byte
    ∙ ap (λ (b : Bool). cond b 2 (cond (nat_lt c.args.byte 32) 6 1)) (sym c.has_letter.ensures ∙ c.if-has_letter.false)
    ∙ ap (λ (b : Bool). cond b 6 1) (le-ltb c.args.byte 32 c.if-byte-lt32.false)
    )
