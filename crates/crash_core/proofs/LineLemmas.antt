-- The text of a run, line by line, and its drawn bytes.
use Rattle.std.proofs.Common.{◌≡◌, ℕ, suc, ◌+◌, ◌<◌, List, [], ◌∷◌, ◌++◌, length, drop, get_or, sym, ap, ◌∙◌, append_assoc}
use Rattle.std.proofs.lemmas.List.{drop_more}
use Rattle.crash_core.specs.declared.lines.OpenLine.{OpenLine}
use Rattle.crash_core.specs.Lines.{line_text, lines_text}
use Rattle.crash_core.specs.Steps.{bytes_from}
use Rattle.world_core.specs.Draws.{after, drawn, next_number}

-- the line at an index was appended
pub lines_on : (lines : List OpenLine) (index : ℕ) (line : OpenLine) (old new whole : List ℕ) → index < length lines → line ≡ get_or lines index line → new ≡ old ++ line_text line
    → old ++ lines_text (drop index lines) ≡ whole → new ++ lines_text (drop (index + 1) lines) ≡ whole
lines_on lines index line old new whole within is e h =
    let left : drop index lines ≡ line ∷ drop (index + 1) lines = drop_more lines index line within ∙ ap (λ (x : OpenLine). x ∷ drop (index + 1) lines) (sym is) in
    ap (λ (xs : List ℕ). xs ++ lines_text (drop (index + 1) lines)) e ∙ append_assoc old (line_text line) (lines_text (drop (index + 1) lines))
    ∙ ap (λ (xs : List OpenLine). old ++ lines_text xs) (sym left) ∙ h

-- one byte more is drawn
pub bytes_on : (bytes : List ℕ) (byte number next left rest : ℕ) → left ≡ suc rest → next ≡ next_number number → byte ≡ drawn 256 next → (bytes ++ byte ∷ []) ++ bytes_from rest next ≡ bytes ++ bytes_from left number
bytes_on bytes byte number next left rest one step is =
    append_assoc bytes (byte ∷ []) (bytes_from rest next)
    ∙ ap (λ (b : ℕ). bytes ++ b ∷ bytes_from rest next) (is ∙ ap (drawn 256) step)
    ∙ ap (λ (n : ℕ). bytes ++ drawn 256 (next_number number) ∷ bytes_from rest n) step
    ∙ ap (λ (n : ℕ). bytes ++ bytes_from n number) (sym one)

pub after_on : (number next left rest : ℕ) → left ≡ suc rest → next ≡ next_number number → after rest next ≡ after left number
after_on number next left rest one step = ap (after rest) step ∙ ap (λ (n : ℕ). after n number) (sym one)
