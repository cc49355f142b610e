use Rattle.std.proofs.Common.{◌≡◌, ◌+◌, length, drop, refl, sym, ◌∙◌, subst, ℕ, arith, get_or}
use Rattle.std.proofs.lemmas.Bool.{eqb-true}
use Rattle.std.proofs.lemmas.List.{take_rest, length-drop, get_or-drop}
use Rattle.http_message.specs.Line.{PassesLine}
use Rattle.http_message.proofs.LineLemmas.{passes_line_run, passes_line_all, line_ends}
use Rattle.http_message.proofs.line.line_end.Goals as goal

pub returns-in-None : goal.returns-in-None
returns-in-None c =
    let bytes = c.args.bytes.now in
    let at = c.args.passed in
    let whole : at + length (drop at bytes) ≡ length bytes = omega (arith, length-drop at bytes, c.requires.fits) in
    let passes : PassesLine bytes (length bytes) =
    subst (λ (n : ℕ). PassesLine bytes n) whole
    (passes_line_run bytes (drop at bytes) at (length (drop at bytes)) refl (omega arith)
    (rw take_rest at c.in-None.ensures) c.requires) in
    (passes_line_all bytes passes, passes)

pub returns-in-Some : goal.returns-in-Some
returns-in-Some c =
    let bytes = c.args.bytes.now in
    let at = c.args.passed in
    let found = rw take_rest at c.in-Some.ensures in
    line_ends bytes (at + c.in-Some.offset)
    (passes_line_run bytes (drop at bytes) at c.in-Some.offset refl (omega (arith, found.0.high)) found.0.before c.requires)
    (omega (arith, found.0.high, length-drop at bytes))
    (sym (get_or-drop at bytes c.in-Some.offset 0) ∙ eqb-true (get_or (drop at bytes) c.in-Some.offset 0) 10 found.1)
