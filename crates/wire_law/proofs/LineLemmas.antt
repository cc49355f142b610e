-- The text of a reply's head ends with its first empty line, which is its last bytes.
use Rattle.std.proofs.Common.{◌≡◌, ℕ, zero, suc, ◌+◌, ◌-◌, ◌<◌, ◌≤◌, Bool, true, false, not, List, [], ◌∷◌, ◌++◌, length, take, drop, get_or, refl, sym, ◌∙◌, ap, subst, arith, inl, inr, append_assoc, nat_le}
use Rattle.std.proofs.Math.Seq.{take-append-add}
use Rattle.std.proofs.lemmas.Bool.{cases_Bool, cases_lt, and_parts, and_from, lt-leb}
use Rattle.std.proofs.lemmas.Bool.Decides.{nat_tests}
use Rattle.std.proofs.lemmas.List.{append-nil, length-append, length-take-le, take_all, take_at, take-append-le}
use Rattle.std.proofs.lemmas.List.Elements.{All-head, All-tail}
use Rattle.std.proofs.lemmas.List.Folds.{list_all-append}
use Rattle.std.specs.Char.{is_ascii_digit}
use Rattle.std.specs.List.{list_all, flat_map}
use Rattle.std.specs.Prelude.{Option, Some, None, codes, option_map, ◌==◌, All}
use Rattle.httparse.specs.Grammar.{AllPass, Field, IsField, IsResponseHead, LineEnd, ResponseHead, crlf, lf, is_token_byte, is_value_byte, print_blank, print_end, print_field, print_reason, print_response, print_section, print_version, reason_phrase}
use Rattle.httparse.proofs.GrammarLemmas.{print_response-append}
use Rattle.http_message.specs.Limits.{head_limit}
use Rattle.http_message.specs.Text.{Text, Unfinished, behind_empty_lines, beginning_by, beginning_of, begins_bare_cr, empty_line, empty_lines_at_start, head_length, window}
use Rattle.http_message.proofs.ScanLemmas.{head_line, no_empty_line, no_step, suc_step}

-- ---- texts without a line feed

abbrev is_other : ℕ → Bool
is_other b = not (b == 10)

-- No byte is a line feed.
record HasNoFeed (text : List ℕ) : Type 0 where
  all : list_all is_other text ≡ true

no_feed-append : {xs ys : List ℕ} → HasNoFeed xs → HasNoFeed ys → HasNoFeed (xs ++ ys)
no_feed-append {xs} {ys} p q = record { all = list_all-append is_other xs ys ∙ and_from _ _ p.all q.all }

no_feed_by : (p : ℕ → Bool) → ((b : ℕ) → p b ≡ true → is_other b ≡ true) → (text : List ℕ) → AllPass p text → HasNoFeed text
no_feed_by p each [] pass = record { all = refl }
no_feed_by p each (b ∷ text) pass =
    record {
      all = and_from _ _ (each b (All-head (λ x. p x ≡ true) b text pass))
          (no_feed_by p each text (All-tail (λ x. p x ≡ true) b text pass)).all;
    }

value_other : (b : ℕ) → is_value_byte b ≡ true → is_other b ≡ true
value_other b value = grind (arith, nat_tests)

digit_other : (b : ℕ) → is_ascii_digit b ≡ true → is_other b ≡ true
digit_other b digit = grind (arith, nat_tests)

token_feed : is_token_byte 10 ≡ false
unfolding is_token_byte
token_feed = refl

token_return : is_token_byte 13 ≡ false
unfolding is_token_byte
token_return = refl

apart : (p : ℕ → Bool) (b c : ℕ) → p c ≡ false → p b ≡ true → (b == c) ≡ false
apart p b c fails passes =
    elim (cases_Bool (b == c)) [
      | inl same ↦ let e : b ≡ c = grind (arith, nat_tests) in absurd (cc)
      | inr other ↦ other
    ]

token_other : (b : ℕ) → is_token_byte b ≡ true → is_other b ≡ true
token_other b token = let other : (b == 10) ≡ false = apart is_token_byte b 10 token_feed token in rw other refl

-- ---- where a head ends

-- no head ends in a text without a line feed
head_past : (xs rest : List ℕ) → list_all is_other xs ≡ true → head_length (xs ++ rest) ≡ option_map (λ n. length xs + n) (head_length rest)
head_past [] rest all = sym (no_step (head_length rest))
head_past (x ∷ xs) rest all =
    let parts = and_parts (is_other x) (list_all is_other xs) all in
    let first = parts.0 in
    let other : (x == 10) ≡ false = grind (arith, nat_tests) in
    rw other (ap (option_map suc) (head_past xs rest parts.1) ∙ suc_step (length xs) (head_length rest))

none_in : (xs : List ℕ) → list_all is_other xs ≡ true → head_length xs ≡ None
none_in xs all = ap head_length (sym (append-nil xs)) ∙ head_past xs [] all

take_other : (n : ℕ) (xs : List ℕ) → list_all is_other xs ≡ true → list_all is_other (take n xs) ≡ true
take_other zero xs all = refl
take_other (suc n) [] all = refl
take_other (suc n) (x ∷ xs) all =
    let parts = and_parts (is_other x) (list_all is_other xs) all in
    and_from _ _ parts.0 (take_other n xs parts.1)

-- Behind a line feed, a head ends with the last byte of the text, and no earlier.
record IsTail (text : List ℕ) : Type 0 where
  ends : (more : List ℕ) → head_length (10 ∷ (text ++ more)) ≡ Some (suc (length text))
  open_before : (n : ℕ) → n < length text → head_length (10 ∷ take n text) ≡ None

-- A head ends with the last byte of the text, and no earlier.
pub record IsWhole (text : List ℕ) : Type 0 where
  pub ends : (more : List ℕ) → head_length (text ++ more) ≡ Some (length text)
  pub open_before : (n : ℕ) → n < length text → head_length (take n text) ≡ None

-- an empty line
tail_last : (end : LineEnd) → IsTail (print_end end)
tail_last crlf = record { ends = λ more. refl; open_before = open_crlf }
  where
    open_crlf : (n : ℕ) → n < 2 → head_length (10 ∷ take n (13 ∷ 10 ∷ [])) ≡ None
    open_crlf zero few = refl
    open_crlf (suc zero) few = refl
    open_crlf (suc (suc n)) few = absurd (omega arith)
tail_last lf = record { ends = λ more. refl; open_before = open_lf }
  where
    open_lf : (n : ℕ) → n < 1 → head_length (10 ∷ take n (10 ∷ [])) ≡ None
    open_lf zero few = refl
    open_lf (suc n) few = absurd (omega arith)

-- a text without a line feed, a line feed, and a tail
whole_by : (zs t : List ℕ) → HasNoFeed zs → IsTail t → IsWhole (zs ++ 10 ∷ t)
whole_by zs t none tail = record {
  ends = λ more.
      let size : length (zs ++ 10 ∷ t) ≡ length zs + suc (length t) = length-append zs (10 ∷ t) in
      ap head_length (append_assoc zs (10 ∷ t) more) ∙ head_past zs (10 ∷ (t ++ more)) none.all
      ∙ ap (option_map (λ n. length zs + n)) (tail.ends more) ∙ ap Some (sym size);
  open_before = λ n few.
      let size : length (zs ++ 10 ∷ t) ≡ length zs + suc (length t) = length-append zs (10 ∷ t) in
      elim (cases_lt (length zs) n) [
        | inl more ↦
            let m = n - suc (length zs) in
            let n_is : n ≡ length zs + suc m = omega arith in
            let cut : take n (zs ++ 10 ∷ t) ≡ zs ++ 10 ∷ take m t =
            ap (λ k. take k (zs ++ 10 ∷ t)) n_is ∙ take-append-add zs (10 ∷ t) (suc m) in
            ap head_length cut ∙ head_past zs (10 ∷ take m t) none.all
            ∙ ap (option_map (λ k. length zs + k)) (tail.open_before m (omega (arith, few, size)))
        | inr within ↦
            ap head_length (take-append-le n zs (10 ∷ t) within) ∙ none_in (take n zs) (take_other n zs none.all)
      ];
}

-- a line and a tail
whole_line : (line : List ℕ) (end : LineEnd) (t : List ℕ) → HasNoFeed line → IsTail t → IsWhole (line ++ (print_end end ++ t))
whole_line line lf t none tail = whole_by line t none tail
whole_line line crlf t none tail =
    let return : HasNoFeed (13 ∷ []) = record { all = refl } in
    subst IsWhole (append_assoc line (13 ∷ []) (10 ∷ t)) (whole_by (line ++ 13 ∷ []) t (no_feed-append none return) tail)

no_line : (x : ℕ) (ys : List ℕ) → (x == 10) ≡ false → (x == 13) ≡ false → empty_line (x ∷ ys) ≡ 0
no_line x ys no_feed no_return = rw (no_feed, no_return) refl

-- what does not begin with an empty line and is whole is a tail
tail_from : (x : ℕ) (xs : List ℕ) → (x == 10) ≡ false → (x == 13) ≡ false → IsWhole (x ∷ xs) → IsTail (x ∷ xs)
tail_from x xs no_feed no_return whole = record {
  ends = λ more. head_line (x ∷ (xs ++ more)) (no_line x (xs ++ more) no_feed no_return) ∙ ap (option_map suc) (whole.ends more);
  open_before = before;
}
  where
    before : (n : ℕ) → n < length (x ∷ xs) → head_length (10 ∷ take n (x ∷ xs)) ≡ None
    before zero few = refl
    before (suc n) few = head_line (x ∷ take n xs) (no_line x (take n xs) no_feed no_return) ∙ ap (option_map suc) (whole.open_before (suc n) few)

-- ---- the lines of a head

tail_field_by : (name rest : List ℕ) → (0 < length name) × AllPass is_token_byte name → IsWhole (name ++ rest) → IsTail (name ++ rest)
tail_field_by [] rest token whole = absurd (omega (arith, token.0))
tail_field_by (x ∷ name) rest token whole =
    let first : is_token_byte x ≡ true = All-head (λ b. is_token_byte b ≡ true) x name token.1 in
    tail_from x (name ++ rest) (apart is_token_byte x 10 token_feed first) (apart is_token_byte x 13 token_return first) whole

tail_field : (f : Field) (t : List ℕ) → IsField f → IsTail t → IsTail (print_field f ++ t)
tail_field f t is tail =
    let name : HasNoFeed f.name = no_feed_by is_token_byte token_other f.name is.name.1 in
    let raw : HasNoFeed f.raw = no_feed_by is_value_byte value_other f.raw is.raw in
    let colon : HasNoFeed (58 ∷ []) = record { all = refl } in
    let value : HasNoFeed (58 ∷ f.raw) = no_feed-append colon raw in
    let whole : IsWhole ((f.name ++ 58 ∷ f.raw) ++ (print_end f.end ++ t)) = whole_line (f.name ++ 58 ∷ f.raw) f.end t (no_feed-append name value) tail in
    let named : IsWhole (f.name ++ ((58 ∷ f.raw) ++ (print_end f.end ++ t))) = subst IsWhole (append_assoc f.name (58 ∷ f.raw) (print_end f.end ++ t)) whole in
    let text : f.name ++ ((58 ∷ f.raw) ++ (print_end f.end ++ t)) ≡ print_field f ++ t =
    sym (append_assoc f.name (58 ∷ f.raw) (print_end f.end ++ t)) ∙ sym (append_assoc (f.name ++ 58 ∷ f.raw) (print_end f.end) t) in
    subst IsTail text (tail_field_by f.name ((58 ∷ f.raw) ++ (print_end f.end ++ t)) is.name named)

tail_section : (fields : List Field) (last : LineEnd) → All IsField fields → IsTail (print_section fields last)
tail_section [] last all = tail_last last
tail_section (f ∷ fields) last all =
    subst IsTail (sym (append_assoc (print_field f) (flat_map print_field fields) (print_end last)))
    (tail_field f (print_section fields last) (All-head IsField f fields all) (tail_section fields last (All-tail IsField f fields all)))

no_feed_reason : (reason : Option (List ℕ)) → AllPass is_value_byte (reason_phrase reason) → HasNoFeed (print_reason reason)
no_feed_reason None all = record { all = refl }
no_feed_reason (Some phrase) all =
    let space : HasNoFeed (32 ∷ []) = record { all = refl } in
    no_feed-append space (no_feed_by is_value_byte value_other phrase all)

no_feed_version : (minor : ℕ) → minor ≤ 1 → HasNoFeed (print_version minor)
no_feed_version minor low =
    let prefix : HasNoFeed (codes "HTTP/1.") = record { all = refl } in
    let digit : HasNoFeed ((48 + minor) ∷ []) = record { all = grind (arith, nat_tests) } in
    no_feed-append prefix digit

blank_first : (blank : List LineEnd) (rest : List ℕ) → get_or (print_blank blank ++ rest) 0 0 ≡ 72 → blank ≡ []
blank_first [] rest first = refl
blank_first (crlf ∷ ends) rest first = absurd (omega (arith, first))
blank_first (lf ∷ ends) rest first = absurd (omega (arith, first))

-- the text of a head that does not begin with an empty line is whole
pub whole_response : (h : ResponseHead) (text : List ℕ) → IsResponseHead h → text ≡ print_response h ++ [] → get_or text 0 0 ≡ 72 → IsWhole text
whole_response h text is text_is first =
    let line = print_version h.minor ++ (32 ∷ (h.digits ++ print_reason h.reason)) in
    let section = print_section h.fields h.last in
    let space : HasNoFeed (32 ∷ []) = record { all = refl } in
    let none : HasNoFeed line =
    no_feed-append (no_feed_version h.minor is.minor)
    (no_feed-append space (no_feed-append (no_feed_by is_ascii_digit digit_other h.digits is.digits.1) (no_feed_reason h.reason is.reason))) in
    let whole : IsWhole (line ++ (print_end h.line_end ++ section)) = whole_line line h.line_end section none (tail_section h.fields h.last is.fields) in
    let tail = print_end h.line_end ++ (section ++ []) in
    let spread : print_response h ++ [] ≡ print_blank h.blank ++ (print_version h.minor ++ 32 ∷ (h.digits ++ (print_reason h.reason ++ tail))) = print_response-append h [] in
    let blank : h.blank ≡ [] = blank_first h.blank _ (ap (λ (bytes : List ℕ). get_or bytes 0 0) (sym spread ∙ sym text_is) ∙ first) in
    let same : text ≡ line ++ (print_end h.line_end ++ section) =
    text_is ∙ spread
    ∙ ap (λ (ends : List LineEnd). print_blank ends ++ (print_version h.minor ++ 32 ∷ (h.digits ++ (print_reason h.reason ++ tail)))) blank
    ∙ ap (λ (bytes : List ℕ). print_version h.minor ++ 32 ∷ bytes) (sym (append_assoc h.digits (print_reason h.reason) tail))
    ∙ sym (append_assoc (print_version h.minor) (32 ∷ (h.digits ++ print_reason h.reason)) tail)
    ∙ ap (λ (bytes : List ℕ). line ++ (print_end h.line_end ++ bytes)) (append-nil section) in
    subst IsWhole (sym same) whole

-- ---- what a stream begins with

not_bare : (x : ℕ) (ys : List ℕ) → (x == 13) ≡ false → begins_bare_cr (x ∷ ys) ≡ false
not_bare x [] no_return = refl
not_bare x (y ∷ ys) no_return = rw no_return refl

behind_none : (bytes : List ℕ) (x : ℕ) (ys : List ℕ) → window bytes ≡ x ∷ ys → (x == 10) ≡ false → (x == 13) ≡ false → behind_empty_lines bytes ≡ x ∷ ys
behind_none bytes x ys shown no_feed no_return =
    ap (λ (w : List ℕ). drop (empty_lines_at_start w) w) shown
    ∙ ap (λ (n : ℕ). drop n (x ∷ ys)) (no_empty_line (x ∷ ys) (no_line x ys no_feed no_return))

beginning_at : (bytes : List ℕ) (x : ℕ) (ys : List ℕ) → window bytes ≡ x ∷ ys → (x == 10) ≡ false → (x == 13) ≡ false
    → beginning_of bytes ≡ beginning_by (option_map (λ n. take n (x ∷ ys)) (head_length (x ∷ ys))) (nat_le head_limit (length bytes))
unfolding beginning_of
beginning_at bytes x ys shown no_feed no_return =
    let behind = behind_none bytes x ys shown no_feed no_return in
    let bare = not_bare x ys no_return in
    rw (behind, bare) refl

-- The bytes begin with the text, whatever follows it, and fewer of them with none yet.
pub record BeginsBy (text : List ℕ) : Type 0 where
  pub shown : (more : List ℕ) → beginning_of (text ++ more) ≡ Text text
  pub open_before : (n : ℕ) → n < length text → beginning_of (take n text) ≡ Unfinished

window_whole : (text more : List ℕ) → length text ≤ head_limit → window (text ++ more) ≡ text ++ take (head_limit - length text) more
unfolding window
window_whole text more fits =
    let size : head_limit ≡ length text + (head_limit - length text) = omega arith in
    ap (λ n. take n (text ++ more)) size ∙ take-append-add text more (head_limit - length text)

window_short : (bytes : List ℕ) → length bytes ≤ head_limit → window bytes ≡ bytes
unfolding window
window_short bytes fits = take_all head_limit bytes fits

nothing_shown : beginning_of [] ≡ Unfinished
unfolding beginning_of window
nothing_shown = refl

begins_by : (x : ℕ) (xs : List ℕ) → (x == 10) ≡ false → (x == 13) ≡ false → length (x ∷ xs) ≤ head_limit → IsWhole (x ∷ xs) → BeginsBy (x ∷ xs)
begins_by x xs no_feed no_return fits whole = record {
  shown = λ more.
      let rest = take (head_limit - length (x ∷ xs)) more in
      beginning_at ((x ∷ xs) ++ more) x (xs ++ rest) (window_whole (x ∷ xs) more fits) no_feed no_return
      ∙ ap (λ (o : Option ℕ). beginning_by (option_map (λ n. take n (x ∷ (xs ++ rest))) o) (nat_le head_limit (length ((x ∷ xs) ++ more)))) (whole.ends rest)
      ∙ ap Text (take_at (x ∷ xs) rest (length (x ∷ xs)) refl);
  open_before = before;
}
  where
    before : (n : ℕ) → n < length (x ∷ xs) → beginning_of (take n (x ∷ xs)) ≡ Unfinished
    before zero few = nothing_shown
    before (suc n) few =
        let size : length (x ∷ take n xs) ≡ suc n = length-take-le (suc n) (x ∷ xs) (omega (arith, few)) in
        let space : nat_le head_limit (length (x ∷ take n xs)) ≡ false = lt-leb head_limit (length (x ∷ take n xs)) (omega (arith, size, few, fits)) in
        let none = whole.open_before (suc n) few in
        beginning_at (x ∷ take n xs) x (take n xs) (window_short (x ∷ take n xs) (omega (arith, size, few, fits))) no_feed no_return
        ∙ rw (none, space) refl

-- a whole text that begins with the letter of a head, within the limit
pub text_begins : (text : List ℕ) → get_or text 0 0 ≡ 72 → length text ≤ head_limit → IsWhole text → BeginsBy text
text_begins [] first fits whole = absurd (omega (arith, first))
text_begins (x ∷ xs) first fits whole =
    let no_feed : (x == 10) ≡ false = grind (arith, nat_tests) in
    let no_return : (x == 13) ≡ false = grind (arith, nat_tests) in
    begins_by x xs no_feed no_return fits whole
