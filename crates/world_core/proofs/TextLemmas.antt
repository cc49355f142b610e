-- Pieces of a text, appended one after another.
use Rattle.std.proofs.Common.{◌≡◌, ℕ, ◌+◌, ◌<◌, List, [], ◌++◌, ◌∷◌, length, drop, get_or, ap, sym, ◌∙◌, append_assoc}
use Rattle.std.proofs.lemmas.List.{drop_more}
use Rattle.world_core.specs.declared.line.ReadLine.{ReadLine}
use Rattle.world_core.specs.Text.{line_text, lines_text, numbers_text}

-- a piece, and then what follows it
pub followed : (old mid new x y : List ℕ) → mid ≡ old ++ x → new ≡ mid ++ y → new ≡ old ++ (x ++ y)
followed old mid new x y e f = f ∙ ap (λ (xs : List ℕ). xs ++ y) e ∙ append_assoc old x y

-- the line at an index was appended
pub lines_on : (lines : List ReadLine) (index : ℕ) (line : ReadLine) (old new whole : List ℕ) → index < length lines → line ≡ get_or lines index line → new ≡ old ++ line_text line
    → old ++ lines_text (drop index lines) ≡ whole → new ++ lines_text (drop (index + 1) lines) ≡ whole
lines_on lines index line old new whole within is e h =
    let left : drop index lines ≡ line ∷ drop (index + 1) lines = drop_more lines index line within ∙ ap (λ (x : ReadLine). x ∷ drop (index + 1) lines) (sym is) in
    ap (λ (xs : List ℕ). xs ++ lines_text (drop (index + 1) lines)) e ∙ append_assoc old (line_text line) (lines_text (drop (index + 1) lines))
    ∙ ap (λ (xs : List ReadLine). old ++ lines_text xs) (sym left) ∙ h

-- two pieces behind nothing
pub whole : (none mid new x y : List ℕ) → none ≡ [] → mid ≡ none ++ x → new ≡ mid ++ y → new ≡ x ++ y
whole none mid new x y nothing e f = f ∙ ap (λ (xs : List ℕ). xs ++ y) (e ∙ ap (λ (xs : List ℕ). xs ++ x) nothing)

-- the text of a slice of lines is that of the lines
pub told_of_lines : (text : List ℕ) (count commits recorded : ℕ) (slice lines : List ReadLine) → slice ≡ lines → text ≡ lines_text slice ++ numbers_text count commits slice recorded → text ≡ lines_text lines ++ numbers_text count commits lines recorded
told_of_lines text count commits recorded slice lines same e = e ∙ ap (λ (ls : List ReadLine). lines_text ls ++ numbers_text count commits ls recorded) same
