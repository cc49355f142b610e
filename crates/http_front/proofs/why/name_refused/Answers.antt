use Rattle.std.proofs.Common.{sym, ◌∙◌, ap}
use Rattle.std.specs.Option.{option_copied}
use Rattle.http_front.proofs.CutLemmas.{parted}
use Rattle.http_front.proofs.why.name_refused.Goals as goal

pub loop-field-smaller : goal.loop-field-smaller
loop-field-smaller c =
    let next = sym c.cut_at.ensures.behind ∙ ap option_copied c.in-Some-behind.is in
    (parted 38 c.loop-field.rest.now c.in-Some-behind.others.now next).less
