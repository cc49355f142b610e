-- the text may be cut after an ASCII byte
use Rattle.std.proofs.Common.{◌≡◌, ◌+◌, ◌-◌, subst, arith}
use Rattle.std.proofs.lemmas.Str.{IsCharBoundary-after_ascii}
use Rattle.std.specs.Str.{IsCharBoundary}
use Rattle.query_lang.proofs.ByteLemmas.{within_from_byte}
use Rattle.query_lang.proofs.bytes.skip.Goals as goal

pub range_from-requires : goal.range_from-requires
range_from-requires c _ =
    let s = c.args.text.now in
    let i = c.args.count - 1 in
    let more : i + 1 ≡ c.args.count = omega (arith, c.requires.some) in
    subst (IsCharBoundary s) more (IsCharBoundary-after_ascii s i c.utf8.text (within_from_byte s i c.requires.there) c.requires.ascii)
