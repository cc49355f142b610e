use Rattle.std.proofs.Common.{◌≡◌, ◌+◌, length, drop, refl, sym, ◌∙◌, subst, ℕ, arith, get_or}
use Rattle.std.proofs.lemmas.List.{take_rest, length-drop, get_or-drop}
use Rattle.std.proofs.lemmas.Bool.{eqb-true}
use Rattle.http_message.proofs.ScanLemmas.{passes_run}
use Rattle.http_message.specs.HeadScan.{Passes}
use Rattle.http_message.proofs.scan.next_line_feed.Goals as goal

pub returns-in-None-clause-none : goal.returns-in-None-clause-none
returns-in-None-clause-none c =
    let rest = c.args.rest.now in
    let at = c.args.passed in
    let whole : at + length (drop at rest) ≡ length rest = omega (arith, length-drop at rest, c.requires.fits) in
    subst (λ (n : ℕ). Passes rest n) whole
    (passes_run rest (drop at rest) at (length (drop at rest)) refl (omega arith)
    (rw take_rest at c.in-None.ensures) c.requires)

pub returns-in-Some-clause-some : goal.returns-in-Some-clause-some
returns-in-Some-clause-some c =
    let rest = c.args.rest.now in
    let at = c.args.passed in
    let found = rw take_rest at c.in-Some.ensures in (
      record {
        passes = passes_run rest (drop at rest) at c.in-Some.offset refl (omega (arith, found.0.high)) found.0.before c.requires;
        below = omega (arith, found.0.high, length-drop at rest);
        is = sym (get_or-drop at rest c.in-Some.offset 0) ∙ eqb-true (get_or (drop at rest) c.in-Some.offset 0) 10 found.1;
      },
      omega arith,
    )
