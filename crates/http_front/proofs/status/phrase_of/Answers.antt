use Rattle.std.proofs.Common.{◌∙◌, ap, arith, length}
use Rattle.std.specs.Prelude.{is_none}
use Rattle.http_front.proofs.StatusLemmas.{found_phrase, no_phrase, phrase_is_short}
use Rattle.http_front.proofs.status.phrase_of.Goals as goal

pub returns-in-Some-clause-phrase : goal.returns-in-Some-clause-phrase
returns-in-Some-clause-phrase c =
    c.as_bytes.ensures.value ∙ found_phrase c.args.status c.canonical_reason.result c.in-Some.phrase c.canonical_reason.ensures.value c.in-Some.is

pub returns-in-Some-clause-short : goal.returns-in-Some-clause-short
returns-in-Some-clause-short c =
    let same = c.as_bytes.ensures.value ∙ found_phrase c.args.status c.canonical_reason.result c.in-Some.phrase c.canonical_reason.ensures.value c.in-Some.is in
    omega (arith, phrase_is_short c.args.status c.requires, ap length same)

pub returns-in-None-clause-phrase : goal.returns-in-None-clause-phrase
returns-in-None-clause-phrase c =
    no_phrase c.args.status c.canonical_reason.result c.canonical_reason.ensures.value (ap is_none c.in-None.is)
