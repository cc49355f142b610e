-- The pieces of a text, as a loop gives them.
use Rattle.std.proofs.Common.{◌≡◌, ℕ, ◌+◌, List, ◌++◌, Result, Ok, Err, take, drop, sym, subst}
use Rattle.std.proofs.Math.Seq.{take-add}
use Rattle.q_outside.specs.Ends.{End, GaveBytes, Gave}
use Rattle.q_outside.proofs.Chain.{gave_both, part_behind}

-- the next bytes of a piece
pub given_more : (before mid after : End) (bytes : List ℕ) (at count : ℕ) → GaveBytes before mid (take at bytes) → GaveBytes mid after (take count (drop at bytes)) → GaveBytes before after (take (at + count) bytes)
given_more before mid after bytes at count g h =
    let text : take (at + count) bytes ≡ take at bytes ++ take count (drop at bytes) = take-add at count bytes in
    subst (λ (t : List ℕ). GaveBytes before after t) (sym text) (gave_both before mid after (take at bytes) (take count (drop at bytes)) g h)

-- a first piece whole, and then what came of a second
pub gave_behind : {T E : Type 0} (before mid after : End) (first second : List ℕ) (result : Result T E) → GaveBytes before mid first → Gave mid after second result → Gave before after (first ++ second) result
gave_behind before mid after first second (Ok x) g h = gave_both before mid after first second g h
gave_behind before mid after first second (Err e) g h = part_behind before mid after first second g h
