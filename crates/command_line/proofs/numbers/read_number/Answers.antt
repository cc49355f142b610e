-- the text of a number is read as that number, and no other text shows it
use Rattle.std.proofs.Common.{◌≡◌, Ok, decimal, ap, ◌∙◌, false, true}
use Rattle.std.proofs.lemmas.Fmt.{parse-decimal}
use Rattle.command_line.proofs.numbers.read_number.Goals as goal

pub returns-else-shows-clause-none : goal.returns-else-shows-clause-none
returns-else-shows-clause-none c = λ n small is.
    let read : c.parse.result ≡ Ok n = parse-decimal 64 n _ _ small small is c.parse.ensures.value.0 in
    let was : c.parse.result ≡ Ok c.in-Ok.number = c.in-Ok.is in
    let same : n ≡ c.in-Ok.number = cc in
    let shown : false ≡ true = c.if-shows.ensures.1 (is ∙ ap decimal same) in
    cc

pub returns-in-Err-clause-none : goal.returns-in-Err-clause-none
returns-in-Err-clause-none c = λ n small is.
    let read : c.parse.result ≡ Ok n = parse-decimal 64 n _ _ small small is c.parse.ensures.value.0 in
    let was = c.in-Err.is in
    cc
