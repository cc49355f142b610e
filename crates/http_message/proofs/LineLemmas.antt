-- Where a line and trailers end, and which bytes decide it.
use Rattle.std.proofs.Common.{◌≡◌, ℕ, zero, suc, ◌+◌, ◌-◌, ◌<◌, ◌≤◌, Bool, List, [], ◌∷◌, ◌++◌, length, take, drop, get_or, Option, Some, None, option_map, true, false, nat_eq, nat_lt, nat_le, refl, sym, ◌∙◌, ap, subst, arith, inl, inr}
use Rattle.std.proofs.lemmas.Bool.{cases_Bool, cases_lt, ne_eqb, eq-eqb, le-leb, lt-leb, lt-ltb}
use Rattle.std.proofs.lemmas.List.{append_assoc, append-nil, get_or_append_left, drop-append-le, drop_more, drop-drop, drop_all, take_at, take_all, take-take, length-append, length-drop, length-take, length-take-le}
use Rattle.memchr.specs.Find.{Nowhere, is_byte, Passes as PassesTest}
use Rattle.http_message.specs.Coding.{Whole, Overlong, Short, cut_by, line_length, trailers_length}
use Rattle.http_message.specs.Line.{length_of, text_at, PassesLine, IsPassed, IsEndOf, EndsIn, Overruns, IsOpenIn}
use Rattle.http_message.specs.HeadScan.{IsLine, IsEnd}
use Rattle.http_message.specs.Text.{empty_line, head_length}
use Rattle.http_message.specs.declared.line.Sought.{Sought}
use Rattle.http_message.specs.declared.line.Sought.TheVariants.{Line, Trailers}
use Rattle.http_message.specs.declared.scan.TextEnd.{TextEnd}
use Rattle.http_message.specs.declared.scan.TextEnd.TheVariants.{At, Behind}
use Rattle.http_message.proofs.BeginningLemmas.{line_beginning, line_cut, line_fits, head_bounds, head_cut, suc_inv, take_past}
use Rattle.http_message.proofs.LookLemmas.{passes_append}
use Rattle.http_message.proofs.ScanLemmas.{step_step, suc_step, no_step}

-- nothing was passed yet
pub passes_line_none : (bytes : List ℕ) → PassesLine bytes 0
passes_line_none bytes = record { all = λ more. sym (no_step (line_length (bytes ++ more))); fits = omega arith }

-- a run without line feed
pub line_run : (bytes : List ℕ) (k : ℕ) → k ≤ length bytes → ((j : ℕ) → j < k → get_or bytes j 0 ≡ 10 → ⊥)
    → line_length bytes ≡ option_map (λ n. k + n) (line_length (drop k bytes))
line_run bytes zero fits apart = sym (no_step (line_length bytes))
line_run [] (suc k) fits apart = absurd (omega arith)
line_run (byte ∷ bytes) (suc k) fits apart =
    let other : nat_eq byte 10 ≡ false = ne_eqb byte 10 (apart 0 (omega arith)) in
    let later : line_length bytes ≡ option_map (λ n. k + n) (line_length (drop k bytes)) =
    line_run bytes k (omega arith) (λ j below. apart (suc j) (omega arith)) in
    rw (other, later) (suc_step k (line_length (drop k bytes)))

-- is passed
pub passes_line_run : (bytes ys : List ℕ) (at k : ℕ) → ys ≡ drop at bytes → k ≤ length ys
    → Nowhere (PassesTest (is_byte 10) ys) 0 k → PassesLine bytes at → PassesLine bytes (at + k)
passes_line_run bytes ys at k is fits apart passes = record {
  all = λ more.
      let other : (j : ℕ) → j < k → get_or (ys ++ more) j 0 ≡ 10 → ⊥ =
      λ j below feed. apart j (omega arith) below
      (eq-eqb (get_or ys j 0) 10 (sym (get_or_append_left ys more 0 j (omega arith)) ∙ feed)) in
      let run : line_length (ys ++ more) ≡ option_map (λ n. k + n) (line_length (drop k (ys ++ more))) =
      line_run (ys ++ more) k (omega (arith, length-append ys more)) other in
      let rest : drop k (ys ++ more) ≡ drop (at + k) bytes ++ more =
      drop-append-le k ys more fits ∙ ap (λ xs. drop k xs ++ more) is
      ∙ ap (λ xs. xs ++ more) (drop-drop k at bytes) in
      passes.all more ∙ ap (λ xs. option_map (λ n. at + n) (line_length (xs ++ more))) (sym is)
      ∙ ap (option_map (λ n. at + n)) (run ∙ ap (λ xs. option_map (λ n. k + n) (line_length xs)) rest)
      ∙ step_step at k (line_length (drop (at + k) bytes ++ more));
  fits = omega (arith, passes.fits, fits, ap length is, length-drop at bytes);
}

-- a line feed ends the line
pub line_ends : (bytes : List ℕ) (feed : ℕ) → PassesLine bytes feed → feed < length bytes → get_or bytes feed 0 ≡ 10
    → line_length bytes ≡ Some (feed + 1)
line_ends bytes feed passes below is =
    let cons : drop feed bytes ++ [] ≡ 10 ∷ (drop (feed + 1) bytes ++ []) =
    ap (λ xs. xs ++ []) (drop_more bytes feed 0 below ∙ ap (λ byte. byte ∷ drop (feed + 1) bytes) is) in
    ap line_length (sym (append-nil bytes)) ∙ passes.all []
    ∙ ap (λ xs. option_map (λ n. feed + n) (line_length xs)) cons

-- no line ends in bytes that were passed whole
pub passes_line_all : (bytes : List ℕ) → PassesLine bytes (length bytes) → line_length bytes ≡ None
passes_line_all bytes passes =
    let here : drop (length bytes) bytes ++ [] ≡ [] = ap (λ xs. xs ++ []) (drop_all (length bytes) bytes (omega arith)) in
    ap line_length (sym (append-nil bytes)) ∙ passes.all []
    ∙ ap (λ xs. option_map (λ n. length bytes + n) (line_length xs)) here

-- what was passed is passed still where more bytes have come
pub passed_append : (sought : Sought) (bytes got : List ℕ) (n : ℕ) → IsPassed sought bytes n → IsPassed sought (bytes ++ got) n
passed_append Line bytes got n passes = record {
  all = λ more.
      ap line_length (append_assoc bytes got more) ∙ passes.all (got ++ more)
      ∙ ap (λ xs. option_map (λ m. n + m) (line_length xs))
      (sym (append_assoc (drop n bytes) got more) ∙ ap (λ xs. xs ++ more) (sym (drop-append-le n bytes got passes.fits)));
  fits = omega (arith, passes.fits, length-append bytes got);
}
passed_append Trailers bytes got n passes = passes_append bytes got n passes

pub passed_more : (sought : Sought) (most : ℕ) (before after got : List ℕ) (n : ℕ) → length before < most
    → after ≡ before ++ got → IsPassed sought (take most before) n → IsPassed sought (take most after) n
passed_more sought most before after got n space adds passed =
    let more : take most before ++ take (most - length before) got ≡ take most after =
    ap (λ xs. xs ++ take (most - length before) got) (take_all most before (omega (arith, space)))
    ∙ sym (take_past most before got (omega (arith, space))) ∙ ap (take most) (sym adds) in
    let P : List ℕ → Type 0 = λ xs. IsPassed sought xs n in
    subst P more (passed_append sought (take most before) (take (most - length before) got) n passed)

-- a line has its line feed, and lies in the bytes
pub line_bounds : (bytes : List ℕ) (n : ℕ) → line_length bytes ≡ Some n → (1 ≤ n) × (n ≤ length bytes)
line_bounds [] n is = absurd (cc)
line_bounds (x ∷ bytes) n is =
    elim (cases_Bool (nat_eq x 10)) [
      | inl feed ↦
          let here : Some 1 ≡ Some n = rw feed at is in
          let size : 1 ≡ n = cc in
          (omega arith, omega arith)
      | inr other ↦
          let later : option_map suc (line_length bytes) ≡ Some n = rw other at is in
          let (m, at, size) = suc_inv (line_length bytes) n later in
          let rest = line_bounds bytes m at in
          (omega (arith, rest.0), omega (arith, rest.1))
    ]

-- and its bytes decide it
pub line_decides : (bytes : List ℕ) (n : ℕ) (more : List ℕ) → line_length bytes ≡ Some n
    → line_length (take n bytes ++ more) ≡ Some n
line_decides [] n more is = absurd (cc)
line_decides (x ∷ bytes) n more is =
    elim (cases_Bool (nat_eq x 10)) [
      | inl feed ↦
          let here : Some 1 ≡ Some n = rw feed at is in
          let size : n ≡ 1 = cc in
          rw (size, feed) refl
      | inr other ↦
          let later : option_map suc (line_length bytes) ≡ Some n = rw other at is in
          let (m, at, size) = suc_inv (line_length bytes) n later in
          rw (size, other) (ap (option_map suc) (line_decides bytes m more at))
    ]

-- trailers by whether they begin with an empty line
pub trailers_empty : (bytes : List ℕ) (size : ℕ) → empty_line bytes ≡ size → 0 < size → trailers_length bytes ≡ Some size
trailers_empty bytes size is some = let more : nat_lt 0 size ≡ true = lt-ltb 0 size some in rw (is, more) refl

pub trailers_filled : (bytes : List ℕ) → empty_line bytes ≡ 0 → trailers_length bytes ≡ head_length bytes
trailers_filled bytes none = rw none refl

-- trailers lie in the bytes, and theirs decide them
pub trailers_bounds : (bytes : List ℕ) (n : ℕ) → trailers_length bytes ≡ Some n → (1 ≤ n) × (n ≤ length bytes)
trailers_bounds bytes n is =
    elim (cases_lt 0 (empty_line bytes)) [
      | inl some ↦
          let same : Some (empty_line bytes) ≡ Some n = sym (trailers_empty bytes (empty_line bytes) refl some) ∙ is in
          let size : empty_line bytes ≡ n = cc in
          (omega (arith, some, size), omega (arith, line_fits bytes, size))
      | inr none ↦
          let bounds = head_bounds bytes n (sym (trailers_filled bytes (omega (arith, none))) ∙ is) in
          (omega (arith, bounds.0), bounds.1)
    ]

pub trailers_decide : (bytes : List ℕ) (n : ℕ) (more : List ℕ) → trailers_length bytes ≡ Some n
    → trailers_length (take n bytes ++ more) ≡ Some n
trailers_decide bytes n more is =
    elim (cases_lt 0 (empty_line bytes)) [
      | inl some ↦
          let same : Some (empty_line bytes) ≡ Some n = sym (trailers_empty bytes (empty_line bytes) refl some) ∙ is in
          let size : empty_line bytes ≡ n = cc in
          trailers_empty (take n bytes ++ more) n
          (ap (λ m. empty_line (take m bytes ++ more)) (sym size) ∙ line_cut bytes more some ∙ size)
          (omega (arith, some, size))
      | inr none ↦
          let no_line : empty_line bytes ≡ 0 = omega (arith, none) in
          let head : head_length bytes ≡ Some n = sym (trailers_filled bytes no_line) ∙ is in
          let bounds = head_bounds bytes n head in
          trailers_filled (take n bytes ++ more)
          (line_beginning bytes n more bounds.0 (omega (arith, bounds.0, bounds.1)) ∙ no_line) ∙ head_cut bytes n more head
    ]

-- both of either
pub bounds_of : (sought : Sought) (bytes : List ℕ) (n : ℕ) → length_of sought bytes ≡ Some n → (1 ≤ n) × (n ≤ length bytes)
bounds_of Line bytes n is = line_bounds bytes n is
bounds_of Trailers bytes n is = trailers_bounds bytes n is

pub decides : (sought : Sought) (bytes : List ℕ) (n : ℕ) (more : List ℕ) → length_of sought bytes ≡ Some n
    → length_of sought (take n bytes ++ more) ≡ Some n
decides Line bytes n more is = line_decides bytes n more is
decides Trailers bytes n more is = trailers_decide bytes n more is

-- where a text ends, by what the bytes begin with
pub cut_whole : (o : Option ℕ) (full : Bool) (bytes text : List ℕ) → cut_by o full bytes ≡ Whole text
    → (n : ℕ) × (o ≡ Some n) × (take n bytes ≡ text)
cut_whole (Some n) full bytes text is = (n, refl, cc)
cut_whole None true bytes text is = absurd (cc)
cut_whole None false bytes text is = absurd (cc)

pub cut_overlong : (o : Option ℕ) (full : Bool) (bytes : List ℕ) → cut_by o full bytes ≡ Overlong
    → (o ≡ None) × (full ≡ true)
cut_overlong (Some n) full bytes is = absurd (cc)
cut_overlong None true bytes is = (refl, refl)
cut_overlong None false bytes is = absurd (cc)

pub cut_short : (o : Option ℕ) (full : Bool) (bytes : List ℕ) → cut_by o full bytes ≡ Short
    → (o ≡ None) × (full ≡ false)
cut_short (Some n) full bytes is = absurd (cc)
cut_short None true bytes is = absurd (cc)
cut_short None false bytes is = (refl, refl)

-- the bytes of a whole text decide it
pub record IsHere (sought : Sought) (most : ℕ) (text : List ℕ) : Type 0 where
  pub all : (more : List ℕ) → text_at sought most (text ++ more) ≡ Whole text
  pub some : 0 < length text
  pub limit : length text ≤ most

module _ (sought : Sought) (most : ℕ) where
  -- what the bytes begin with, by where it ends
  pub text_whole : (bytes : List ℕ) (n : ℕ) → EndsIn sought most bytes n → text_at sought most bytes ≡ Whole (take n bytes)
  text_whole bytes n ends = ap (λ o. cut_by o (nat_le most (length bytes)) bytes) ends.at

  pub text_overlong : (bytes : List ℕ) → Overruns sought most bytes → text_at sought most bytes ≡ Overlong
  text_overlong bytes over =
      ap (λ o. cut_by o (nat_le most (length bytes)) bytes) over.none
      ∙ ap (λ b. cut_by None b bytes) (le-leb most (length bytes) over.full)

  pub text_short : (bytes : List ℕ) → IsOpenIn sought most bytes → text_at sought most bytes ≡ Short
  text_short bytes cut =
      ap (λ o. cut_by o (nat_le most (length bytes)) bytes) cut.none
      ∙ ap (λ b. cut_by None b bytes) (lt-leb most (length bytes) cut.short)

  module _ (bytes : List ℕ) where
    pub ends_within : (n : ℕ) → EndsIn sought most bytes n → (1 ≤ n) × (n ≤ length bytes) × (n ≤ most)
    ends_within n ends =
        let bounds = bounds_of sought (take most bytes) n ends.at in (
          bounds.0,
          omega (arith, bounds.1, length-take most bytes),
          omega (arith, bounds.1, length-take most bytes),
        )

    pub ends_here : (n : ℕ) → EndsIn sought most bytes n → IsHere sought most (take n bytes)
    ends_here n ends =
        let within = ends_within n ends in
        let size : length (take n bytes) ≡ n = length-take-le n bytes within.1 in
        record {
          all = λ more.
              let cut : take most (take n bytes ++ more) ≡ take n (take most bytes) ++ take (most - n) more =
              take_past most (take n bytes) more (omega (arith, size, within.2))
              ∙ ap (λ m. take n bytes ++ take (most - m) more) size
              ∙ ap (λ xs. xs ++ take (most - n) more) (sym (take-take n most bytes within.2)) in
              text_whole (take n bytes ++ more) n
              (record { at = ap (length_of sought) cut ∙ decides sought (take most bytes) n (take (most - n) more) ends.at })
              ∙ ap Whole (take_at (take n bytes) more n size);
          some = omega (arith, within.0, size);
          limit = omega (arith, within.2, size);
        }

    -- bytes that reach the limit decide that no text ends within it
    pub overruns_here : (more : List ℕ) → Overruns sought most bytes → Overruns sought most (take most bytes ++ more)
    overruns_here more over =
        let size : length (take most bytes) ≡ most = length-take-le most bytes over.full in
        record {
          none = ap (length_of sought) (take_at (take most bytes) more most size) ∙ over.none;
          full = omega (arith, size, length-append (take most bytes) more);
        }

    pub whole_here : (text : List ℕ) → text_at sought most bytes ≡ Whole text → IsHere sought most text
    whole_here text is =
        let (n, at, same) = cut_whole (length_of sought (take most bytes)) (nat_le most (length bytes)) bytes text is in
        let P : List ℕ → Type 0 = λ xs. IsHere sought most xs in
        subst P same (ends_here n (record { at = at }))

    pub overlong_here : (more : List ℕ) → text_at sought most bytes ≡ Overlong → length bytes ≡ most
        → text_at sought most (bytes ++ more) ≡ Overlong
    overlong_here more is size =
        let cut = cut_overlong (length_of sought (take most bytes)) (nat_le most (length bytes)) bytes is in
        let whole : take most bytes ≡ bytes = take_all most bytes (omega (arith, size)) in
        text_overlong (bytes ++ more)
        (subst (λ (xs : List ℕ). Overruns sought most (xs ++ more)) whole
        (overruns_here more (record { none = cut.0; full = omega (arith, size) })))

-- behind no empty line, trailers end where a head would
pub line_here : (bytes : List ℕ) (size : ℕ) → IsLine bytes size → empty_line bytes ≡ size
line_here bytes size line = ap empty_line (sym (append-nil bytes)) ∙ line.all []

pub end_filled : (bytes : List ℕ) (end : TextEnd) → IsLine bytes 0 → IsEnd bytes end → IsEndOf Trailers bytes end
end_filled bytes (At size) line is = trailers_filled bytes (line_here bytes 0 line) ∙ is
end_filled bytes (Behind passed) line is = (trailers_filled bytes (line_here bytes 0 line) ∙ is.0, is.1)
