-- A piece that was copied, and what follows it.
use Rattle.std.proofs.Common.{◌≡◌, ℕ, ◌+◌, ◌-◌, List, ◌++◌, length, take, drop, arith, sym, ◌∙◌, ap}
use Rattle.std.proofs.lemmas.List.{take-append-drop, drop-drop}
use Rattle.std.proofs.Math.Seq.{take-append_seam}

-- the bytes from an offset on are those copied and the bytes after them
pub piece_copied : (bytes piece others : List ℕ) (at count : ℕ) → piece ≡ take (at + count - at) (drop at bytes) → length piece ≡ count → drop at bytes ≡ take count (piece ++ others) ++ drop (at + count) bytes
piece_copied bytes piece others at count copied size =
    let number : at + count - at ≡ count = omega arith in
    let first : piece ≡ take count (drop at bytes) = copied ∙ ap (λ n. take n (drop at bytes)) number in
    let seam : take (length piece) (piece ++ others) ≡ piece = take-append_seam piece others in
    let taken : take count (piece ++ others) ≡ piece = ap (λ n. take n (piece ++ others)) (sym size) ∙ seam in
    let behind : drop count (drop at bytes) ≡ drop (at + count) bytes = drop-drop count at bytes in
    let whole : take count (drop at bytes) ++ drop count (drop at bytes) ≡ drop at bytes = take-append-drop count (drop at bytes) in
    cc
