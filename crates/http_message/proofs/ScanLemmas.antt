-- How a search for the end of a head goes on: one line, one run of bytes, and the end.
use Rattle.std.proofs.Common.{◌≡◌, ℕ, zero, suc, ◌+◌, ◌<◌, ◌≤◌, List, [], ◌∷◌, ◌++◌, length, drop, get_or, Option, Some, None, option_map, true, false, nat_eq, nat_lt, refl, sym, ◌∙◌, ap, arith, inl, inr}
use Rattle.std.proofs.lemmas.List.{append-nil, get_or_append_left, drop-append-le, drop_more, drop-drop, length-drop, length-append, drop_all}
use Rattle.std.proofs.lemmas.Bool.{cases_Bool, ne_eqb, eq-eqb, lt-ltb}
use Rattle.memchr.specs.Find.{Nowhere, is_byte, Passes as PassesTest}
use Rattle.http_message.specs.Text.{empty_line, empty_lines_at_start, head_length}
use Rattle.http_message.specs.HeadScan.{IsLine, IsCut, Skips, Passes, IsFeed}

-- one step after another, at an answer of a search
pub step_step : (a b : ℕ) (o : Option ℕ)
    → option_map (λ n. a + n) (option_map (λ n. b + n) o) ≡ option_map (λ n. (a + b) + n) o
step_step a b None = refl
step_step a b (Some n) = let e : a + (b + n) ≡ (a + b) + n = omega arith in ap Some e

pub suc_step : (a : ℕ) (o : Option ℕ)
    → option_map suc (option_map (λ n. a + n) o) ≡ option_map (λ n. suc a + n) o
suc_step a None = refl
suc_step a (Some n) = let e : suc (a + n) ≡ suc a + n = omega arith in ap Some e

pub step_suc : (a : ℕ) (o : Option ℕ)
    → option_map (λ n. a + n) (option_map suc o) ≡ option_map (λ n. (a + 1) + n) o
step_suc a None = refl
step_suc a (Some n) = let e : a + suc n ≡ (a + 1) + n = omega arith in ap Some e

pub no_step : (o : Option ℕ) → option_map (λ n. 0 + n) o ≡ o
no_step None = refl
no_step (Some n) = let e : 0 + n ≡ n = omega arith in ap Some e

-- an empty line at the start is passed over as one
pub empty_lines_more : (bytes : List ℕ) → 0 < empty_line bytes
    → empty_lines_at_start bytes ≡ empty_line bytes + empty_lines_at_start (drop (empty_line bytes) bytes)
empty_lines_more [] some = absurd (omega arith)
empty_lines_more (byte ∷ []) some =
    elim (cases_Bool (nat_eq byte 10)) [
      | inl feed ↦ rw feed refl
      | inr other ↦ elim (cases_Bool (nat_eq byte 13)) [
        | inl return ↦ let none : 0 < 0 = rw (other, return) at some in absurd (omega arith)
        | inr neither ↦ let none : 0 < 0 = rw (other, neither) at some in absurd (omega arith)
      ]
    ]
empty_lines_more (byte ∷ next ∷ bytes) some =
    elim (cases_Bool (nat_eq byte 10)) [
      | inl feed ↦ rw feed (let e : suc (empty_lines_at_start (next ∷ bytes)) ≡ 1 + empty_lines_at_start (next ∷ bytes) = omega arith in e)
      | inr other ↦ elim (cases_Bool (nat_eq byte 13)) [
        | inl return ↦ elim (cases_Bool (nat_eq next 10)) [
          | inl feed ↦ rw (other, return, feed) (let e : suc (suc (empty_lines_at_start bytes)) ≡ 2 + empty_lines_at_start bytes = omega arith in e)
          | inr bare ↦ let none : 0 < 0 = rw (other, return, bare) at some in absurd (omega arith)
        ]
        | inr neither ↦ let none : 0 < 0 = rw (other, neither) at some in absurd (omega arith)
      ]
    ]

-- without one nothing is passed over
pub no_empty_line : (bytes : List ℕ) → empty_line bytes ≡ 0 → empty_lines_at_start bytes ≡ 0
no_empty_line [] none = refl
no_empty_line (byte ∷ bytes) none = rw none refl

-- a run without line feed
pub head_run : (bytes : List ℕ) (k : ℕ) → k ≤ length bytes
    → ((j : ℕ) → j < k → get_or bytes j 0 ≡ 10 → ⊥)
    → head_length bytes ≡ option_map (λ n. k + n) (head_length (drop k bytes))
head_run bytes zero fits apart = sym (no_step (head_length bytes))
head_run [] (suc k) fits apart = absurd (omega arith)
head_run (byte ∷ bytes) (suc k) fits apart =
    let other : nat_eq byte 10 ≡ false = ne_eqb byte 10 (apart 0 (omega arith)) in
    let later : head_length bytes ≡ option_map (λ n. k + n) (head_length (drop k bytes)) =
    head_run bytes k (omega arith) (λ j below. apart (suc j) (omega arith)) in
    rw (other, later) (suc_step k (head_length (drop k bytes)))

-- a line feed that no empty line follows, and one that one follows
pub head_line : (rest : List ℕ) → empty_line rest ≡ 0
    → head_length (10 ∷ rest) ≡ option_map suc (head_length rest)
head_line rest none = rw none refl

pub head_end : (rest : List ℕ) (n : ℕ) → empty_line rest ≡ n → 0 < n
    → head_length (10 ∷ rest) ≡ Some (suc n)
head_end rest n is some = let more : nat_lt 0 n ≡ true = lt-ltb 0 n some in rw (is, more) refl

-- one more empty line is passed over
pub skips_more : (bytes : List ℕ) (at size : ℕ) → Skips bytes at → IsLine (drop at bytes) size → 0 < size
    → Skips bytes (at + size)
skips_more bytes at size skips line some = record {
  all = λ more.
      let ys : List ℕ = drop at bytes ++ more in
      let is : empty_line ys ≡ size = line.all more in
      let step : empty_lines_at_start ys ≡ size + empty_lines_at_start (drop size ys) =
      rw is at (empty_lines_more ys (rw is some)) in
      let rest : drop size ys ≡ drop (at + size) bytes ++ more =
      drop-append-le size (drop at bytes) more line.fits ∙ ap (λ xs. xs ++ more) (drop-drop size at bytes) in
      omega (arith, skips.all more, step, ap empty_lines_at_start rest);
  fits = omega (arith, skips.fits, line.fits, length-drop at bytes);
}

-- no empty line follows those that were passed over
pub skips_all : (bytes : List ℕ) (at : ℕ) → Skips bytes at → IsLine (drop at bytes) 0
    → at ≡ empty_lines_at_start bytes
skips_all bytes at skips line =
    let none : empty_lines_at_start (drop at bytes ++ []) ≡ 0 = no_empty_line (drop at bytes ++ []) (line.all []) in
    omega (arith, skips.all [], none, ap empty_lines_at_start (append-nil bytes))

pub skips_cut : (bytes : List ℕ) (at : ℕ) → Skips bytes at → IsCut (drop at bytes)
    → at ≡ empty_lines_at_start bytes
skips_cut bytes at skips cut =
    let none : empty_lines_at_start (drop at bytes ++ []) ≡ 0 =
    elim cut.cut [ inl e ↦ rw e refl | inr e ↦ rw e refl ] in
    omega (arith, skips.all [], none, ap empty_lines_at_start (append-nil bytes))

-- nothing was passed yet
pub skips_none : (bytes : List ℕ) → Skips bytes 0
skips_none bytes = record { all = λ more. omega arith; fits = omega arith }

pub passes_none : (bytes : List ℕ) → Passes bytes 0
passes_none bytes = record { all = λ more. sym (no_step (head_length (bytes ++ more))); fits = omega arith }

-- what follows a line feed
pub feed_cons : (bytes : List ℕ) (feed : ℕ) → IsFeed bytes feed
    → drop feed bytes ≡ 10 ∷ drop (feed + 1) bytes
feed_cons bytes feed is = drop_more bytes feed 0 is.below ∙ ap (λ byte. byte ∷ drop (feed + 1) bytes) is.is

-- a run without line feed is passed
pub passes_run : (bytes ys : List ℕ) (at k : ℕ) → ys ≡ drop at bytes → k ≤ length ys
    → Nowhere (PassesTest (is_byte 10) ys) 0 k → Passes bytes at → Passes bytes (at + k)
passes_run bytes ys at k is fits apart passes = record {
  all = λ more.
      let other : (j : ℕ) → j < k → get_or (ys ++ more) j 0 ≡ 10 → ⊥ =
      λ j below feed. apart j (omega arith) below
      (eq-eqb (get_or ys j 0) 10 (sym (get_or_append_left ys more 0 j (omega arith)) ∙ feed)) in
      let run : head_length (ys ++ more) ≡ option_map (λ n. k + n) (head_length (drop k (ys ++ more))) =
      head_run (ys ++ more) k (omega (arith, length-append ys more)) other in
      let rest : drop k (ys ++ more) ≡ drop (at + k) bytes ++ more =
      drop-append-le k ys more fits ∙ ap (λ xs. drop k xs ++ more) is
      ∙ ap (λ xs. xs ++ more) (drop-drop k at bytes) in
      passes.all more ∙ ap (λ xs. option_map (λ n. at + n) (head_length (xs ++ more))) (sym is)
      ∙ ap (option_map (λ n. at + n)) (run ∙ ap (λ xs. option_map (λ n. k + n) (head_length xs)) rest)
      ∙ step_step at k (head_length (drop (at + k) bytes ++ more));
  fits = omega (arith, passes.fits, fits, ap length is, length-drop at bytes);
}

-- a line feed that no empty line follows is passed
pub passes_feed : (bytes : List ℕ) (feed : ℕ) → IsFeed bytes feed → IsLine (drop (feed + 1) bytes) 0
    → Passes bytes (feed + 1)
passes_feed bytes feed is line = record {
  all = λ more.
      let cons : drop feed bytes ++ more ≡ 10 ∷ (drop (feed + 1) bytes ++ more) =
      ap (λ xs. xs ++ more) (feed_cons bytes feed is) in
      let here : head_length (drop feed bytes ++ more) ≡ option_map suc (head_length (drop (feed + 1) bytes ++ more)) =
      ap head_length cons ∙ head_line (drop (feed + 1) bytes ++ more) (line.all more) in
      is.passes.all more ∙ ap (option_map (λ n. feed + n)) here
      ∙ step_suc feed (head_length (drop (feed + 1) bytes ++ more));
  fits = omega (arith, is.below);
}

-- a line feed that an empty line follows ends the head
pub feed_ends : (bytes : List ℕ) (feed size : ℕ) → IsFeed bytes feed → IsLine (drop (feed + 1) bytes) size
    → 0 < size → head_length bytes ≡ Some ((feed + 1) + size)
feed_ends bytes feed size is line some =
    let cons : drop feed bytes ++ [] ≡ 10 ∷ (drop (feed + 1) bytes ++ []) =
    ap (λ xs. xs ++ []) (feed_cons bytes feed is) in
    let here : head_length (drop feed bytes ++ []) ≡ Some (suc size) =
    ap head_length cons ∙ head_end (drop (feed + 1) bytes ++ []) size (line.all []) some in
    let sum : feed + suc size ≡ (feed + 1) + size = omega arith in
    ap head_length (sym (append-nil bytes)) ∙ is.passes.all [] ∙ ap (option_map (λ n. feed + n)) here
    ∙ ap Some sum

-- the byte behind a line feed, which would decide, has not come
pub feed_cut : (bytes : List ℕ) (feed : ℕ) → IsFeed bytes feed → IsCut (drop (feed + 1) bytes)
    → head_length bytes ≡ None
feed_cut bytes feed is cut =
    let cons : drop feed bytes ++ [] ≡ 10 ∷ (drop (feed + 1) bytes ++ []) =
    ap (λ xs. xs ++ []) (feed_cons bytes feed is) in
    let here : head_length (drop feed bytes ++ []) ≡ None =
    ap head_length cons ∙ (elim cut.cut [ inl e ↦ rw e refl | inr e ↦ rw e refl ]) in
    ap head_length (sym (append-nil bytes)) ∙ is.passes.all [] ∙ ap (option_map (λ n. feed + n)) here

-- no head ends in bytes that were passed whole
pub passes_all : (bytes : List ℕ) → Passes bytes (length bytes) → head_length bytes ≡ None
passes_all bytes passes =
    let here : drop (length bytes) bytes ++ [] ≡ [] = ap (λ xs. xs ++ []) (drop_all (length bytes) bytes (omega arith)) in
    ap head_length (sym (append-nil bytes)) ∙ passes.all []
    ∙ ap (λ xs. option_map (λ n. length bytes + n) (head_length xs)) here
