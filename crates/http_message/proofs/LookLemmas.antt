-- From what a look at the window shows to what the stream begins with, and the search with more bytes.
use Rattle.std.proofs.Common.{◌≡◌, ℕ, ◌+◌, ◌-◌, ◌<◌, ◌≤◌, List, ◌++◌, length, take, drop, Some, None, option_map, true, false, sym, ◌∙◌, ap, subst, arith}
use Rattle.std.proofs.lemmas.List.{append_assoc, drop-append-le, take_all, length-drop, length-append}
use Rattle.http_message.specs.HeadFound.{IsBareCrAt, IsTextAt, IsTooLarge, IsUnread}
use Rattle.http_message.specs.HeadScan.{Skips, Passes, IsScanned}
use Rattle.http_message.specs.Text.{empty_lines_at_start, head_length, begins_bare_cr, window, behind_empty_lines, Text}
use Rattle.http_message.specs.declared.scan.HeadScan.{HeadScan}
use Rattle.http_message.specs.Limits.{head_limit}
use Rattle.http_message.proofs.BeginningLemmas.{window_is, window_fits, take_past, empty_lines_is, bare_cr_two, head_bounds, part_of_window, beginning_bare_cr, beginning_text, beginning_large, beginning_open}

-- a bare CR in the window
pub seen_bare_cr : (bytes : List ℕ) (empty_lines : ℕ) → empty_lines ≡ empty_lines_at_start (window bytes)
    → begins_bare_cr (drop empty_lines (window bytes)) ≡ true → IsBareCrAt bytes empty_lines
seen_bare_cr bytes empty_lines is bare =
    let fits = window_fits bytes in
    let two = bare_cr_two (drop empty_lines (window bytes)) bare in
    record {
      beginning = beginning_bare_cr bytes (ap (λ n. begins_bare_cr (drop n (window bytes))) (sym is) ∙ bare);
      empty_lines_is = is ∙ sym (empty_lines_is bytes);
      within = omega (arith, two, fits.1, length-drop empty_lines (window bytes));
      limit = omega (arith, two, fits.0, length-drop empty_lines (window bytes));
    }

-- a whole head in the window
pub seen_text : (bytes : List ℕ) (empty_lines size : ℕ) → empty_lines ≡ empty_lines_at_start (window bytes)
    → begins_bare_cr (drop empty_lines (window bytes)) ≡ false
    → head_length (drop empty_lines (window bytes)) ≡ Some size → IsTextAt bytes empty_lines size
seen_text bytes empty_lines size is other at =
    let fits = window_fits bytes in
    let bounds = head_bounds (drop empty_lines (window bytes)) size at in
    let whole : empty_lines + size ≤ length (window bytes) = omega (arith, bounds.0, bounds.1, length-drop empty_lines (window bytes)) in
    let limit : empty_lines + size ≤ head_limit = omega (arith, whole, fits.0) in
    let same : behind_empty_lines bytes ≡ drop empty_lines (window bytes) = ap (λ n. drop n (window bytes)) (sym is) in
    record {
      beginning = beginning_text bytes size (ap begins_bare_cr same ∙ other) (ap head_length same ∙ at)
          ∙ ap (λ xs. Text (take size xs)) same ∙ ap Text (part_of_window bytes empty_lines size limit);
      empty_lines_is = is ∙ sym (empty_lines_is bytes);
      some = omega (arith, bounds.0);
      within = omega (arith, whole, fits.1);
      limit = limit;
    }

-- no head in a window that is full, or that is not
pub seen_large : (bytes : List ℕ) (scan : HeadScan) → scan.empty_lines ≡ empty_lines_at_start (window bytes)
    → begins_bare_cr (drop scan.empty_lines (window bytes)) ≡ false
    → head_length (drop scan.empty_lines (window bytes)) ≡ None → head_limit ≤ length bytes → IsTooLarge bytes
seen_large bytes scan is other none full =
    let same : behind_empty_lines bytes ≡ drop scan.empty_lines (window bytes) = ap (λ n. drop n (window bytes)) (sym is) in
    record { beginning = beginning_large bytes (ap begins_bare_cr same ∙ other) (ap head_length same ∙ none) full; full = full }

pub seen_open : (bytes : List ℕ) (scan : HeadScan) → scan.empty_lines ≡ empty_lines_at_start (window bytes)
    → begins_bare_cr (drop scan.empty_lines (window bytes)) ≡ false
    → head_length (drop scan.empty_lines (window bytes)) ≡ None → length bytes < head_limit → IsUnread bytes
seen_open bytes scan is other none space =
    let same : behind_empty_lines bytes ≡ drop scan.empty_lines (window bytes) = ap (λ n. drop n (window bytes)) (sym is) in
    record { beginning = beginning_open bytes (ap begins_bare_cr same ∙ other) (ap head_length same ∙ none) space; space = space }

-- what is known holds still where more bytes have come
pub skips_append : (bytes got : List ℕ) (n : ℕ) → Skips bytes n → Skips (bytes ++ got) n
skips_append bytes got n skips = record {
  all = λ more.
      ap empty_lines_at_start (append_assoc bytes got more) ∙ skips.all (got ++ more)
      ∙ ap (λ xs. n + empty_lines_at_start xs)
      (sym (append_assoc (drop n bytes) got more) ∙ ap (λ xs. xs ++ more) (sym (drop-append-le n bytes got skips.fits)));
  fits = omega (arith, skips.fits, length-append bytes got);
}

pub passes_append : (bytes got : List ℕ) (n : ℕ) → Passes bytes n → Passes (bytes ++ got) n
passes_append bytes got n passes = record {
  all = λ more.
      ap head_length (append_assoc bytes got more) ∙ passes.all (got ++ more)
      ∙ ap (λ xs. option_map (λ m. n + m) (head_length xs))
      (sym (append_assoc (drop n bytes) got more) ∙ ap (λ xs. xs ++ more) (sym (drop-append-le n bytes got passes.fits)));
  fits = omega (arith, passes.fits, length-append bytes got);
}

pub scanned_append : (bytes got : List ℕ) (scan : HeadScan) → IsScanned bytes scan → IsScanned (bytes ++ got) scan
scanned_append bytes got scan scanned = record {
  skips = skips_append bytes got scan.empty_lines scanned.skips;
  passes =
      let P : List ℕ → Type 0 = λ xs. Passes xs scan.passed in
      subst P (sym (drop-append-le scan.empty_lines bytes got scanned.skips.fits))
      (passes_append (drop scan.empty_lines bytes) got scan.passed scanned.passes);
}

pub scanned_more : (before after got : List ℕ) (scan : HeadScan) → length before < head_limit → after ≡ before ++ got
    → IsScanned (window before) scan → IsScanned (window after) scan
scanned_more before after got scan space adds scanned =
    let same : window before ≡ before = window_is before ∙ take_all head_limit before (omega (arith, space)) in
    let more : window before ++ take (head_limit - length before) got ≡ window after =
    ap (λ xs. xs ++ take (head_limit - length before) got) same
    ∙ sym (take_past head_limit before got (omega (arith, space))) ∙ sym (window_is (before ++ got)) ∙ ap window (sym adds) in
    let P : List ℕ → Type 0 = λ xs. IsScanned xs scan in
    subst P more (scanned_append (window before) (take (head_limit - length before) got) scan scanned)
