use Rattle.std.proofs.Common.{◌≡◌, take, drop}
use Rattle.query_lang.specs.Quoted.{scan}
use Rattle.query_lang.proofs.QuotedLemmas.{with_prefix}
use Rattle.query_lang.proofs.quoted.find_end.Given as goal

abbrev pub invariant-bytes : goal.invariant-bytes
invariant-bytes l =
    scan 0 l.text ≡ with_prefix (take l.index l.text) (scan l.inside (drop l.index l.text))
