-- What is drawn, a place on and at the end.
use Rattle.std.proofs.Common.{◌≡◌, ℕ, ◌+◌, ◌<◌, ◌≤◌, Bool, true, false, List, [], ◌∷◌, ◌++◌, length, get_or, take, drop, set, refl, sym, ◌∙◌, append_assoc, arith}
use Rattle.std.proofs.lemmas.List.{drop_more, drop_all, take_more, take_more_set, drop-set-lt, take-append-drop, take_all, append-nil}
use Rattle.disks.specs.Devices.{drawn}

-- without a draw the bytes stay
pub drawn_none : (opens : ℕ → Bool) (place : ℕ) (bytes : List ℕ) → drawn opens place bytes [] ≡ bytes
drawn_none opens place [] = refl
drawn_none opens place (byte ∷ bytes) = refl

-- an open place takes a draw
pub drawn_open : (opens : ℕ → Bool) (place used : ℕ) (bytes draws : List ℕ) → place < length bytes → used < length draws → opens place ≡ true
    → drawn opens place (drop place bytes) (drop used draws) ≡ get_or draws used 0 ∷ drawn opens (place + 1) (drop (place + 1) bytes) (drop (used + 1) draws)
drawn_open opens place used bytes draws h k e = rw (drop_more bytes place 0 h, drop_more draws used 0 k, e) refl

-- any other place keeps its byte
pub drawn_kept : (opens : ℕ → Bool) (place used : ℕ) (bytes draws : List ℕ) → place < length bytes → used < length draws → opens place ≡ false
    → drawn opens place (drop place bytes) (drop used draws) ≡ get_or bytes place 0 ∷ drawn opens (place + 1) (drop (place + 1) bytes) (drop used draws)
drawn_kept opens place used bytes draws h k e = rw (drop_more bytes place 0 h, drop_more draws used 0 k, e) refl

-- the bytes so far and the rest, after an open place took a draw
pub opened_more : (opens : ℕ → Bool) (place used : ℕ) (bytes draws all : List ℕ) → place < length bytes → used < length draws → opens place ≡ true
    → all ≡ take place bytes ++ drawn opens place (drop place bytes) (drop used draws)
    → all ≡ take (place + 1) (set bytes place (get_or draws used 0)) ++ drawn opens (place + 1) (drop (place + 1) (set bytes place (get_or draws used 0))) (drop (used + 1) draws)
opened_more opens place used bytes draws all h k e so =
    so ∙ rw (drawn_open opens place used bytes draws h k e, take_more_set bytes place (get_or draws used 0) h, drop-set-lt (place + 1) bytes place (get_or draws used 0) (omega arith))
    (sym (append_assoc (take place bytes) (get_or draws used 0 ∷ []) (drawn opens (place + 1) (drop (place + 1) bytes) (drop (used + 1) draws))))

-- the same after a place kept its byte
pub kept_more : (opens : ℕ → Bool) (place used : ℕ) (bytes draws all : List ℕ) → place < length bytes → used < length draws → opens place ≡ false
    → all ≡ take place bytes ++ drawn opens place (drop place bytes) (drop used draws)
    → all ≡ take (place + 1) bytes ++ drawn opens (place + 1) (drop (place + 1) bytes) (drop used draws)
kept_more opens place used bytes draws all h k e so =
    so ∙ rw (drawn_kept opens place used bytes draws h k e, take_more bytes place 0 h)
    (sym (append_assoc (take place bytes) (get_or bytes place 0 ∷ []) (drawn opens (place + 1) (drop (place + 1) bytes) (drop used draws))))

-- once no draw is left, the bytes are what is drawn
pub drawn_all : (opens : ℕ → Bool) (place used : ℕ) (bytes draws all : List ℕ) → length draws ≤ used
    → all ≡ take place bytes ++ drawn opens place (drop place bytes) (drop used draws) → bytes ≡ all
drawn_all opens place used bytes draws all k so =
    sym (so ∙ rw (drop_all used draws k, drawn_none opens place (drop place bytes)) (take-append-drop place bytes))

-- and so at the last place
pub drawn_end : (opens : ℕ → Bool) (place used : ℕ) (bytes draws all : List ℕ) → length bytes ≤ place
    → all ≡ take place bytes ++ drawn opens place (drop place bytes) (drop used draws) → bytes ≡ all
drawn_end opens place used bytes draws all k so =
    sym (so ∙ rw (drop_all place bytes k, take_all place bytes k) (append-nil bytes))
