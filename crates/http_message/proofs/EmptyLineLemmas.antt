-- A head's text begins with another byte than CR and LF.
use Rattle.std.proofs.Common.{◌≡◌, ℕ, ◌+◌, ◌<◌, ◌≤◌, List, [], ◌∷◌, length, drop, get_or, Some, true, false, nat_eq, nat_lt, refl, sym, ◌∙◌, ap, arith, inl, inr}
use Rattle.std.proofs.lemmas.Bool.{cases_Bool, cases_lt, true≢false, lt-ltb}
use Rattle.std.proofs.lemmas.List.{get_or-drop, get_or-take, length-drop}
use Rattle.std.proofs.lemmas.List.Folds.{list_all_at}
use Rattle.http_message.specs.Text.{empty_line, empty_lines_at_start, begins_bare_cr, head_length, window, behind_empty_lines, beginning_of, BareCr, Text, TooLarge, Unfinished, is_line_end, is_blank}
use Rattle.http_message.specs.Limits.{head_limit}
use Rattle.http_message.proofs.BeginningLemmas.{reading, bare, complete, incomplete, head_bounds, window_is, window_fits, beginning_bare_cr, beginning_large, beginning_open}

-- behind the empty lines there is none
pub none_behind : (bytes : List ℕ) → empty_line (drop (empty_lines_at_start bytes) bytes) ≡ 0
none_behind [] = refl
none_behind (byte ∷ bytes) =
    elim (cases_Bool (nat_lt 0 (empty_line (byte ∷ bytes)))) [
      | inl empty ↦ rw empty (none_behind bytes)
      | inr none ↦
          elim (cases_lt 0 (empty_line (byte ∷ bytes))) [
            | inl some ↦ absurd (true≢false (sym (lt-ltb 0 (empty_line (byte ∷ bytes)) some) ∙ none))
            | inr few ↦ let e : empty_line (byte ∷ bytes) ≡ 0 = omega arith in rw none e
          ]
    ]

pub one_none : ◌≡◌ {A = ℕ} 1 0 → ⊥
one_none e = omega arith

pub two_none : ◌≡◌ {A = ℕ} 2 0 → ⊥
two_none e = omega arith

-- the first of two bytes that are no line end and no bare CR
pub first_visible : (bytes : List ℕ) → empty_line bytes ≡ 0 → begins_bare_cr bytes ≡ false → 2 ≤ length bytes
    → is_line_end (get_or bytes 0 0) ≡ false
first_visible [] none other two = absurd (omega arith)
first_visible (a ∷ []) none other two = absurd (omega arith)
first_visible (a ∷ b ∷ bytes) none other two =
    elim (cases_Bool (nat_eq a 10)) [
      | inl feed ↦ absurd (one_none (rw feed at none))
      | inr no_feed ↦ elim (cases_Bool (nat_eq a 13)) [
        | inl return ↦ elim (cases_Bool (nat_eq b 10)) [
          | inl feed ↦ absurd (two_none (rw (no_feed, return, feed) at none))
          | inr no_other ↦ let e : true ≡ false = rw (return, no_other) at other in absurd (true≢false e)
        ]
        | inr no_bare_cr ↦ rw (no_bare_cr, no_feed) refl
      ]
    ]

pub visible_behind : (bytes : List ℕ) (n : ℕ) → begins_bare_cr (behind_empty_lines bytes) ≡ false
    → head_length (behind_empty_lines bytes) ≡ Some n → is_blank bytes ≡ false
visible_behind bytes n other at =
    let w = window bytes in
    let empty_lines = empty_lines_at_start w in
    let bounds = head_bounds (behind_empty_lines bytes) n at in
    let below : empty_lines < length w = omega (arith, bounds.0, bounds.1, length-drop empty_lines w) in
    let fits = window_fits bytes in
    let small : empty_lines < head_limit = omega (arith, below, fits.0) in
    let visible : is_line_end (get_or (drop empty_lines w) 0 0) ≡ false =
    first_visible (drop empty_lines w) (none_behind w) other (omega (arith, bounds.0, bounds.1)) in
    let same : get_or (drop empty_lines w) 0 0 ≡ get_or bytes empty_lines 0 =
    get_or-drop empty_lines w 0 0 ∙ ap (λ xs. get_or xs (empty_lines + 0) 0) (window_is bytes)
    ∙ get_or-take head_limit bytes (empty_lines + 0) 0 (omega (arith, small))
    ∙ (let e : empty_lines + 0 ≡ empty_lines = omega arith in ap (λ i. get_or bytes i 0) e) in
    list_all_at is_line_end bytes empty_lines 0 (omega (arith, below, fits.1)) (ap is_line_end (sym same) ∙ visible)

-- where a stream begins with a head's text, there is more than CR and LF
pub text_not_blank : (bytes text : List ℕ) → beginning_of bytes ≡ Text text → is_blank bytes ≡ false
text_not_blank bytes text beginning =
    elim (reading bytes) [
      | bare is ↦ let clash : BareCr ≡ Text text = sym (beginning_bare_cr bytes is) ∙ beginning in absurd (cc)
      | complete n other at ↦ visible_behind bytes n other at
      | incomplete other none ↦
          elim (cases_lt (length bytes) head_limit) [
            | inl space ↦ let clash : Unfinished ≡ Text text = sym (beginning_open bytes other none space) ∙ beginning in absurd (cc)
            | inr full ↦ let clash : TooLarge ≡ Text text = sym (beginning_large bytes other none full) ∙ beginning in absurd (cc)
          ]
    ]
