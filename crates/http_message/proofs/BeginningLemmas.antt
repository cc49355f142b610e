-- Which bytes decide what a stream begins with: those of the item alone.
use Rattle.std.proofs.Common.{◌≡◌, ℕ, zero, suc, ◌+◌, ◌-◌, ◌<◌, ◌≤◌, List, [], ◌∷◌, ◌++◌, length, take, drop, Option, Some, None, option_map, true, false, ◌&&◌, nat_eq, nat_lt, nat_le, refl, sym, ◌∙◌, ap, subst, arith, inl, inr, lit≤}
use Rattle.std.proofs.Math.Seq.{take-append-add}
use Rattle.std.proofs.lemmas.List.{append_assoc, take-append-drop, take-take, take_at, drop-append-le, drop-take, length-take, length-take-le, length-drop, length-append}
use Rattle.std.proofs.lemmas.Bool.{cases_Bool, cases_lt, lt-ltb, ltb-true, le-leb, lt-leb, true≢false, and_parts}
use Rattle.http_message.specs.Limits.{head_limit}
use Rattle.http_message.specs.Text.{empty_line, empty_lines_at_start, head_length, begins_bare_cr, window, empty_lines_before_head, beginning_of, behind_empty_lines, Beginning, BareCr, Text, TooLarge, Unfinished}

-- two bytes decide whether the bytes begin with an empty line
pub line_beginning : (bytes : List ℕ) (n : ℕ) (more : List ℕ) → 2 ≤ n → 2 ≤ length bytes
    → empty_line (take n bytes ++ more) ≡ empty_line bytes
line_beginning [] n more two some = absurd (omega arith)
line_beginning (a ∷ []) n more two some = absurd (omega arith)
line_beginning (a ∷ b ∷ bytes) zero more two some = absurd (omega arith)
line_beginning (a ∷ b ∷ bytes) (suc zero) more two some = absurd (omega arith)
line_beginning (a ∷ b ∷ bytes) (suc (suc n)) more two some = refl

-- two bytes decide whether a bare CR does
pub bare_cr_beginning : (bytes : List ℕ) (n : ℕ) (more : List ℕ) → 2 ≤ n → 2 ≤ length bytes
    → begins_bare_cr (take n bytes ++ more) ≡ begins_bare_cr bytes
bare_cr_beginning [] n more two some = absurd (omega arith)
bare_cr_beginning (a ∷ []) n more two some = absurd (omega arith)
bare_cr_beginning (a ∷ b ∷ bytes) zero more two some = absurd (omega arith)
bare_cr_beginning (a ∷ b ∷ bytes) (suc zero) more two some = absurd (omega arith)
bare_cr_beginning (a ∷ b ∷ bytes) (suc (suc n)) more two some = refl

-- a bare CR is two bytes
pub bare_cr_two : (bytes : List ℕ) → begins_bare_cr bytes ≡ true → 2 ≤ length bytes
bare_cr_two [] bare = absurd (true≢false (sym bare))
bare_cr_two (a ∷ []) bare = absurd (true≢false (sym bare))
bare_cr_two (a ∷ b ∷ bytes) bare = omega arith

-- the bytes of an empty line decide it
pub line_cut : (bytes more : List ℕ) → 0 < empty_line bytes
    → empty_line (take (empty_line bytes) bytes ++ more) ≡ empty_line bytes
line_cut [] more some = absurd (omega arith)
line_cut (a ∷ []) more some =
    elim (cases_Bool (nat_eq a 10)) [
      | inl feed ↦ rw (feed, feed) refl
      | inr other ↦ elim (cases_Bool (nat_eq a 13)) [
        | inl return ↦ let none : 0 < 0 = rw (other, return) at some in absurd (omega arith)
        | inr neither ↦ let none : 0 < 0 = rw (other, neither) at some in absurd (omega arith)
      ]
    ]
line_cut (a ∷ b ∷ bytes) more some =
    elim (cases_Bool (nat_eq a 10)) [
      | inl feed ↦ rw (feed, feed) refl
      | inr other ↦ elim (cases_Bool (nat_eq a 13)) [
        | inl return ↦ elim (cases_Bool (nat_eq b 10)) [
          | inl feed ↦ rw (other, return, feed) (rw (other, return, feed) refl)
          | inr bare ↦ let none : 0 < 0 = rw (other, return, bare) at some in absurd (omega arith)
        ]
        | inr neither ↦ let none : 0 < 0 = rw (other, neither) at some in absurd (omega arith)
      ]
    ]

-- an empty line lies in the bytes
pub line_fits : (bytes : List ℕ) → empty_line bytes ≤ length bytes
line_fits [] = omega arith
line_fits (a ∷ []) =
    elim (cases_Bool (nat_eq a 10)) [
      | inl feed ↦ rw feed (let e : 1 ≤ 1 = lit≤ tt in e)
      | inr other ↦ elim (cases_Bool (nat_eq a 13)) [
        | inl return ↦ rw (other, return) (let e : 0 ≤ 1 = lit≤ tt in e)
        | inr neither ↦ rw (other, neither) (let e : 0 ≤ 1 = lit≤ tt in e)
      ]
    ]
line_fits (a ∷ b ∷ bytes) =
    elim (cases_Bool (nat_eq a 10)) [
      | inl feed ↦ rw feed (omega arith)
      | inr other ↦ elim (cases_Bool (nat_eq a 13 && nat_eq b 10)) [
        | inl return ↦ rw (other, return) (omega arith)
        | inr neither ↦ rw (other, neither) (omega arith)
      ]
    ]

-- a line feed that an empty line follows ends a head
pub head_at : (x : ℕ) (rest : List ℕ) (size : ℕ) → nat_eq x 10 ≡ true → empty_line rest ≡ size → 0 < size
    → head_length (x ∷ rest) ≡ Some (suc size)
head_at x rest size feed is some = let more : nat_lt 0 size ≡ true = lt-ltb 0 size some in rw (feed, is, more) refl

-- the empty lines at the start, and two bytes after them, decide how long they are
pub empty_lines_cut : (bytes : List ℕ) (b n : ℕ) (more : List ℕ) → empty_lines_at_start bytes ≡ b → b + 2 ≤ n
    → b + 2 ≤ length bytes → empty_lines_at_start (take n bytes ++ more) ≡ b
empty_lines_cut [] b n more is two some = absurd (omega arith)
empty_lines_cut (x ∷ []) b n more is two some = absurd (omega arith)
empty_lines_cut (x ∷ y ∷ bytes) b zero more is two some = absurd (omega arith)
empty_lines_cut (x ∷ y ∷ bytes) b (suc zero) more is two some = absurd (omega arith)
empty_lines_cut (x ∷ y ∷ bytes) b (suc (suc n)) more is two some =
    elim (cases_Bool (nat_lt 0 (empty_line (x ∷ y ∷ bytes)))) [
      | inl empty ↦
          let longer : suc (empty_lines_at_start (y ∷ bytes)) ≡ b = rw empty at is in
          let rest : empty_lines_at_start (y ∷ (take n bytes ++ more)) ≡ empty_lines_at_start (y ∷ bytes) =
          empty_lines_cut (y ∷ bytes) (empty_lines_at_start (y ∷ bytes)) (suc n) more refl (omega arith) (omega arith) in
          rw empty (ap suc rest ∙ longer)
      | inr none ↦ rw none (rw none at is)
    ]

-- what an answer's successor was
pub suc_inv : (o : Option ℕ) (n : ℕ) → option_map suc o ≡ Some n → (m : ℕ) × (o ≡ Some m) × (n ≡ suc m)
suc_inv None n is = absurd (cc)
suc_inv (Some m) n is = (m, refl, cc)

-- a head has at least the two line ends, and lies in the bytes
pub head_bounds : (bytes : List ℕ) (n : ℕ) → head_length bytes ≡ Some n → (2 ≤ n) × (n ≤ length bytes)
head_bounds [] n is = absurd (cc)
head_bounds (x ∷ bytes) n is =
    elim (cases_Bool (nat_eq x 10 && nat_lt 0 (empty_line bytes))) [
      | inl ends ↦
          let here : Some (suc (empty_line bytes)) ≡ Some n = rw ends at is in
          let size : suc (empty_line bytes) ≡ n = cc in
          let some : 0 < empty_line bytes = ltb-true 0 (empty_line bytes) (and_parts (nat_eq x 10) (nat_lt 0 (empty_line bytes)) ends).1 in
          (omega arith, omega (arith, line_fits bytes))
      | inr further ↦
          let later : option_map suc (head_length bytes) ≡ Some n = rw further at is in
          let (m, at, size) = suc_inv (head_length bytes) n later in
          let rest = head_bounds bytes m at in
          (omega (arith, rest.0), omega (arith, rest.1))
    ]

-- the bytes of a head's text decide where it ends
pub head_cut : (bytes : List ℕ) (n : ℕ) (more : List ℕ) → head_length bytes ≡ Some n
    → head_length (take n bytes ++ more) ≡ Some n
head_cut [] n more is = absurd (cc)
head_cut (x ∷ bytes) n more is =
    elim (cases_Bool (nat_eq x 10 && nat_lt 0 (empty_line bytes))) [
      | inl ends ↦
          let here : Some (suc (empty_line bytes)) ≡ Some n = rw ends at is in
          let size : n ≡ suc (empty_line bytes) = cc in
          let parts = and_parts (nat_eq x 10) (nat_lt 0 (empty_line bytes)) ends in
          let some : 0 < empty_line bytes = ltb-true 0 (empty_line bytes) parts.1 in
          rw size (head_at x (take (empty_line bytes) bytes ++ more) (empty_line bytes) parts.0 (line_cut bytes more some) some)
      | inr further ↦
          let later : option_map suc (head_length bytes) ≡ Some n = rw further at is in
          let (m, at, size) = suc_inv (head_length bytes) n later in
          let bounds = head_bounds bytes m at in
          let same : empty_line (take m bytes ++ more) ≡ empty_line bytes =
          line_beginning bytes m more bounds.0 (omega (arith, bounds.0, bounds.1)) in
          rw (size, same, further) (ap (option_map suc) (head_cut bytes m more at))
    ]

-- the window, its length, and that of bytes that were cut
pub window_is : (bytes : List ℕ) → window bytes ≡ take head_limit bytes
unfolding window
window_is bytes = refl

pub window_fits : (bytes : List ℕ) → (length (window bytes) ≤ head_limit) × (length (window bytes) ≤ length bytes)
window_fits bytes =
    let size : length (window bytes) ≡ length (take head_limit bytes) = ap length (window_is bytes) in
    (omega (arith, size, length-take head_limit bytes), omega (arith, size, length-take head_limit bytes))

pub take_past : (n : ℕ) (xs ys : List ℕ) → length xs ≤ n → take n (xs ++ ys) ≡ xs ++ take (n - length xs) ys
take_past n xs ys past =
    let e : n ≡ length xs + (n - length xs) = omega arith in
    ap (λ m. take m (xs ++ ys)) e ∙ take-append-add xs ys (n - length xs)

pub window_cut : (bytes : List ℕ) (d : ℕ) (more : List ℕ) → d ≤ length (window bytes)
    → window (take d bytes ++ more) ≡ take d (window bytes) ++ take (head_limit - d) more
window_cut bytes d more fits =
    let bounds = window_fits bytes in
    let size : length (take d bytes) ≡ d = length-take-le d bytes (omega (arith, bounds.1)) in
    let same : take d bytes ≡ take d (window bytes) =
    sym (take-take d head_limit bytes (omega (arith, bounds.0))) ∙ ap (take d) (sym (window_is bytes)) in
    window_is (take d bytes ++ more) ∙ take_past head_limit (take d bytes) more (omega (arith, size, bounds.0))
    ∙ ap (λ n. take d bytes ++ take (head_limit - n) more) size
    ∙ ap (λ xs. xs ++ take (head_limit - d) more) same

-- what the bytes begin with, by what follows the empty lines
pub empty_lines_is : (bytes : List ℕ) → empty_lines_before_head bytes ≡ empty_lines_at_start (window bytes)
unfolding empty_lines_before_head
empty_lines_is bytes = refl

pub beginning_bare_cr : (bytes : List ℕ) → begins_bare_cr (behind_empty_lines bytes) ≡ true → beginning_of bytes ≡ BareCr
unfolding beginning_of
beginning_bare_cr bytes bare = rw bare refl

pub beginning_text : (bytes : List ℕ) (n : ℕ) → begins_bare_cr (behind_empty_lines bytes) ≡ false
    → head_length (behind_empty_lines bytes) ≡ Some n → beginning_of bytes ≡ Text (take n (behind_empty_lines bytes))
unfolding beginning_of
beginning_text bytes n other at = rw (other, at) refl

pub beginning_large : (bytes : List ℕ) → begins_bare_cr (behind_empty_lines bytes) ≡ false
    → head_length (behind_empty_lines bytes) ≡ None → head_limit ≤ length bytes → beginning_of bytes ≡ TooLarge
unfolding beginning_of
beginning_large bytes other none full =
    let yes_full : nat_le head_limit (length bytes) ≡ true = le-leb head_limit (length bytes) full in
    rw (other, none, yes_full) refl

pub beginning_open : (bytes : List ℕ) → begins_bare_cr (behind_empty_lines bytes) ≡ false
    → head_length (behind_empty_lines bytes) ≡ None → length bytes < head_limit → beginning_of bytes ≡ Unfinished
unfolding beginning_of
beginning_open bytes other none space =
    let not_full : nat_le head_limit (length bytes) ≡ false = lt-leb head_limit (length bytes) space in
    rw (other, none, not_full) refl

-- the first `d` bytes decide what the stream begins with
pub record Settles (bytes : List ℕ) (d : ℕ) (beginning : Beginning) : Type 0 where
  pub all : (more : List ℕ) → beginning_of (take d bytes ++ more) ≡ beginning
  pub empty_lines_same : (more : List ℕ) → empty_lines_before_head (take d bytes ++ more) ≡ empty_lines_before_head bytes

-- what is behind the empty lines, where these and n bytes more were cut
pub empty_lines_grow : (bytes : List ℕ) (n : ℕ) (more : List ℕ) → 2 ≤ n → n ≤ length (behind_empty_lines bytes)
    → empty_lines_at_start (window (take (empty_lines_at_start (window bytes) + n) bytes ++ more)) ≡ empty_lines_at_start (window bytes)
empty_lines_grow bytes n more two fits =
    let w = window bytes in
    let b = empty_lines_at_start w in
    let whole : b + n ≤ length w = omega (arith, length-drop b w, two) in
    ap empty_lines_at_start (window_cut bytes (b + n) more whole)
    ∙ empty_lines_cut w b (b + n) (take (head_limit - (b + n)) more) refl (omega arith) (omega arith)

pub behind_cut : (bytes : List ℕ) (n : ℕ) (more : List ℕ) → 2 ≤ n → n ≤ length (behind_empty_lines bytes)
    → behind_empty_lines (take (empty_lines_at_start (window bytes) + n) bytes ++ more)
    ≡ take n (behind_empty_lines bytes) ++ take (head_limit - (empty_lines_at_start (window bytes) + n)) more
behind_cut bytes n more two fits =
    let w = window bytes in
    let b = empty_lines_at_start w in
    let cut = take (b + n) bytes ++ more in
    let rest = take (head_limit - (b + n)) more in
    let whole : b + n ≤ length w = omega (arith, length-drop b w, two) in
    let size : length (take (b + n) w) ≡ b + n = length-take-le (b + n) w whole in
    ap (λ m. drop m (window cut)) (empty_lines_grow bytes n more two fits)
    ∙ ap (drop b) (window_cut bytes (b + n) more whole)
    ∙ drop-append-le b (take (b + n) w) rest (omega (arith, size))
    ∙ ap (λ xs. xs ++ rest) (drop-take b n w)

-- the text of a head decides
pub settles_text : (bytes : List ℕ) (n : ℕ) → begins_bare_cr (behind_empty_lines bytes) ≡ false
    → head_length (behind_empty_lines bytes) ≡ Some n
    → Settles bytes (empty_lines_before_head bytes + n) (Text (take n (behind_empty_lines bytes)))
unfolding empty_lines_before_head
settles_text bytes n other at =
    let b = empty_lines_at_start (window bytes) in
    let behind = behind_empty_lines bytes in
    let bounds = head_bounds behind n at in
    let cut : List ℕ → List ℕ = λ more. take (b + n) bytes ++ more in
    let rest : List ℕ → List ℕ = λ more. take (head_limit - (b + n)) more in
    record {
      all = λ more.
          let is : behind_empty_lines (cut more) ≡ take n behind ++ rest more = behind_cut bytes n more bounds.0 bounds.1 in
          let still : begins_bare_cr (behind_empty_lines (cut more)) ≡ false =
          ap begins_bare_cr is ∙ bare_cr_beginning behind n (rest more) bounds.0 (omega (arith, bounds.0, bounds.1)) ∙ other in
          let ends : head_length (behind_empty_lines (cut more)) ≡ Some n = ap head_length is ∙ head_cut behind n (rest more) at in
          let text : take n (behind_empty_lines (cut more)) ≡ take n behind =
          ap (take n) is ∙ take_at (take n behind) (rest more) n (length-take-le n behind bounds.1) in
          beginning_text (cut more) n still ends ∙ ap Text text;
      empty_lines_same = λ more. empty_lines_grow bytes n more bounds.0 bounds.1;
    }

-- a bare CR and the byte behind it decide
pub settles_bare_cr : (bytes : List ℕ) → begins_bare_cr (behind_empty_lines bytes) ≡ true
    → Settles bytes (empty_lines_before_head bytes + 2) BareCr
unfolding empty_lines_before_head
settles_bare_cr bytes bare =
    let b = empty_lines_at_start (window bytes) in
    let behind = behind_empty_lines bytes in
    let fits = bare_cr_two behind bare in
    let two : 2 ≤ 2 = lit≤ tt in
    record {
      all = λ more.
          let is = behind_cut bytes 2 more two fits in
          beginning_bare_cr (take (b + 2) bytes ++ more)
          (ap begins_bare_cr is ∙ bare_cr_beginning behind 2 (take (head_limit - (b + 2)) more) two fits ∙ bare);
      empty_lines_same = λ more. empty_lines_grow bytes 2 more two fits;
    }

-- a full window decides
pub settles_large : (bytes : List ℕ) → begins_bare_cr (behind_empty_lines bytes) ≡ false
    → head_length (behind_empty_lines bytes) ≡ None → head_limit ≤ length bytes → Settles bytes head_limit TooLarge
unfolding empty_lines_before_head
settles_large bytes other none full =
    let same : (more : List ℕ) → window (take head_limit bytes ++ more) ≡ window bytes = λ more.
    window_is (take head_limit bytes ++ more)
    ∙ take_at (take head_limit bytes) more head_limit (length-take-le head_limit bytes full) ∙ sym (window_is bytes) in
    let behind : (more : List ℕ) → behind_empty_lines (take head_limit bytes ++ more) ≡ behind_empty_lines bytes = λ more.
    ap (λ xs. drop (empty_lines_at_start xs) xs) (same more) in
    record {
      all = λ more. beginning_large (take head_limit bytes ++ more) (ap begins_bare_cr (behind more) ∙ other)
          (ap head_length (behind more) ∙ none)
          (omega (arith, length-append (take head_limit bytes) more, length-take-le head_limit bytes full));
      empty_lines_same = λ more. ap empty_lines_at_start (same more);
    }

-- what decides the first bytes decides all, and more, and others of them
pub settles_grow : (bytes : List ℕ) (d : ℕ) (beginning : Beginning) (more : List ℕ) → Settles bytes d beginning
    → (beginning_of (bytes ++ more) ≡ beginning) × (empty_lines_before_head (bytes ++ more) ≡ empty_lines_before_head bytes)
settles_grow bytes d beginning more settles =
    let whole : take d bytes ++ (drop d bytes ++ more) ≡ bytes ++ more =
    sym (append_assoc (take d bytes) (drop d bytes) more) ∙ ap (λ xs. xs ++ more) (take-append-drop d bytes) in (
      ap beginning_of (sym whole) ∙ settles.all (drop d bytes ++ more),
      ap empty_lines_before_head (sym whole) ∙ settles.empty_lines_same (drop d bytes ++ more),
    )

pub settles_take : (bytes : List ℕ) (d n : ℕ) (beginning : Beginning) → d ≤ n → Settles bytes d beginning
    → (beginning_of (take n bytes) ≡ beginning) × (empty_lines_before_head (take n bytes) ≡ empty_lines_before_head bytes)
settles_take bytes d n beginning below settles =
    let whole : take d bytes ++ drop d (take n bytes) ≡ take n bytes =
    ap (λ xs. xs ++ drop d (take n bytes)) (sym (take-take d n bytes below)) ∙ take-append-drop d (take n bytes) in (
      ap beginning_of (sym whole) ∙ settles.all (drop d (take n bytes)),
      ap empty_lines_before_head (sym whole) ∙ settles.empty_lines_same (drop d (take n bytes)),
    )

-- what follows the empty lines, as one of three
pub data Reading (bytes : List ℕ) : Type 0 where
  bare : begins_bare_cr (behind_empty_lines bytes) ≡ true → Reading bytes
  complete : (n : ℕ) → begins_bare_cr (behind_empty_lines bytes) ≡ false
      → head_length (behind_empty_lines bytes) ≡ Some n → Reading bytes
  incomplete : begins_bare_cr (behind_empty_lines bytes) ≡ false
      → head_length (behind_empty_lines bytes) ≡ None → Reading bytes

pub reading_by : (bytes : List ℕ) (o : Option ℕ) → begins_bare_cr (behind_empty_lines bytes) ≡ false
    → head_length (behind_empty_lines bytes) ≡ o → Reading bytes
reading_by bytes None other is = incomplete other is
reading_by bytes (Some n) other is = complete n other is

pub reading : (bytes : List ℕ) → Reading bytes
reading bytes =
    elim (cases_Bool (begins_bare_cr (behind_empty_lines bytes))) [
      | inl yes_bare ↦ bare yes_bare
      | inr other ↦ reading_by bytes (head_length (behind_empty_lines bytes)) other refl
    ]

-- a part of the window is that part of all the bytes
pub part_of_window : (bytes : List ℕ) (b n : ℕ) → b + n ≤ head_limit
    → take n (drop b (window bytes)) ≡ take n (drop b bytes)
part_of_window bytes b n fits =
    ap (λ xs. take n (drop b xs)) (window_is bytes)
    ∙ sym (drop-take b n (take head_limit bytes)) ∙ ap (drop b) (take-take (b + n) head_limit bytes fits)
    ∙ drop-take b n bytes

-- a beginning that is known is decided by the first bytes
pub record SettlesText (bytes text : List ℕ) : Type 0 where
  pub settles : Settles bytes (empty_lines_before_head bytes + length text) (Text text)
  pub is : text ≡ take (length text) (drop (empty_lines_before_head bytes) bytes)
  pub some : 2 ≤ length text
  pub within : empty_lines_before_head bytes + length text ≤ length bytes
  pub limit : empty_lines_before_head bytes + length text ≤ head_limit

pub text_settles : (bytes : List ℕ) (n : ℕ) → begins_bare_cr (behind_empty_lines bytes) ≡ false
    → head_length (behind_empty_lines bytes) ≡ Some n → SettlesText bytes (take n (behind_empty_lines bytes))
unfolding empty_lines_before_head
text_settles bytes n other at =
    let w = window bytes in
    let b = empty_lines_at_start w in
    let behind = behind_empty_lines bytes in
    let bounds = head_bounds behind n at in
    let size : length (take n behind) ≡ n = length-take-le n behind bounds.1 in
    let fits = window_fits bytes in
    let whole : b + n ≤ length w = omega (arith, bounds.0, bounds.1, length-drop b w) in
    let limit : b + n ≤ head_limit = omega (arith, whole, fits.0) in
    record {
      settles = rw size (settles_text bytes n other at);
      is = part_of_window bytes b n limit ∙ ap (λ m. take m (drop b bytes)) (sym size);
      some = rw size bounds.0;
      within = rw size (omega (arith, whole, fits.1));
      limit = rw size limit;
    }

pub settled_text : (bytes text : List ℕ) → beginning_of bytes ≡ Text text → SettlesText bytes text
settled_text bytes text beginning =
    elim (reading bytes) [
      | bare is ↦ let clash : BareCr ≡ Text text = sym (beginning_bare_cr bytes is) ∙ beginning in absurd (cc)
      | complete n other at ↦
          let same : Text (take n (behind_empty_lines bytes)) ≡ Text text = sym (beginning_text bytes n other at) ∙ beginning in
          let P : List ℕ → Type 0 = λ t. SettlesText bytes t in
          let e : take n (behind_empty_lines bytes) ≡ text = cc in
          subst P e (text_settles bytes n other at)
      | incomplete other none ↦
          elim (cases_lt (length bytes) head_limit) [
            | inl space ↦ let clash : Unfinished ≡ Text text = sym (beginning_open bytes other none space) ∙ beginning in absurd (cc)
            | inr full ↦ let clash : TooLarge ≡ Text text = sym (beginning_large bytes other none full) ∙ beginning in absurd (cc)
          ]
    ]

pub settled_bare_cr : (bytes : List ℕ) → beginning_of bytes ≡ BareCr → Settles bytes (empty_lines_before_head bytes + 2) BareCr
settled_bare_cr bytes beginning =
    elim (reading bytes) [
      | bare is ↦ settles_bare_cr bytes is
      | complete n other at ↦
          let clash : Text (take n (behind_empty_lines bytes)) ≡ BareCr = sym (beginning_text bytes n other at) ∙ beginning in absurd (cc)
      | incomplete other none ↦
          elim (cases_lt (length bytes) head_limit) [
            | inl space ↦ let clash : Unfinished ≡ BareCr = sym (beginning_open bytes other none space) ∙ beginning in absurd (cc)
            | inr full ↦ let clash : TooLarge ≡ BareCr = sym (beginning_large bytes other none full) ∙ beginning in absurd (cc)
          ]
    ]

pub settled_large : (bytes : List ℕ) → beginning_of bytes ≡ TooLarge → Settles bytes head_limit TooLarge
settled_large bytes beginning =
    elim (reading bytes) [
      | bare is ↦ let clash : BareCr ≡ TooLarge = sym (beginning_bare_cr bytes is) ∙ beginning in absurd (cc)
      | complete n other at ↦
          let clash : Text (take n (behind_empty_lines bytes)) ≡ TooLarge = sym (beginning_text bytes n other at) ∙ beginning in absurd (cc)
      | incomplete other none ↦
          elim (cases_lt (length bytes) head_limit) [
            | inl space ↦ let clash : Unfinished ≡ TooLarge = sym (beginning_open bytes other none space) ∙ beginning in absurd (cc)
            | inr full ↦ settles_large bytes other none full
          ]
    ]
