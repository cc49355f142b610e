-- The search for the end of a reply's head, piece by piece.
use Rattle.std.proofs.Common.{◌≡◌, ℕ, suc, ◌+◌, ◌-◌, ◌<◌, ◌≤◌, Bool, List, [], ◌∷◌, ◌++◌, length, take, drop, get_or, Option, Some, None, option_map, true, false, nat_eq, nat_lt, refl, sym, ◌∙◌, ap, subst, arith, inl, inr}
use Rattle.std.proofs.lemmas.List.{append-nil, take_all, take_at, take-append-le, drop-append-le, drop_all, get_or-take, get_or_append_left, length-append, length-drop, length-take-le}
use Rattle.std.proofs.lemmas.Bool.{cases_Bool, cases_lt, ne_eqb, ltb-false}
use Rattle.std.proofs.Math.Seq.{take-append-add}
use Rattle.std.specs.Prelude.{Ok, Err}
use Rattle.q_outside.specs.Ends.{End, GaveFromBuffer, TookBytes}
use Rattle.q_outside.proofs.Chain.{took_both}
use Rattle.http_message.specs.HeadFound.{IsTextAt, IsUnread}
use Rattle.http_message.specs.HeadScan.{IsScanned}
use Rattle.http_message.specs.Limits.{head_limit}
use Rattle.http_message.specs.Text.{BareCr, TooLarge, Unfinished, beginning_of, empty_line, empty_lines_at_start, head_length, begins_bare_cr, window}
use Rattle.http_message.specs.declared.scan.HeadScan.{HeadScan}
use Rattle.http_message.proofs.BeginningLemmas.{bare_cr_beginning, empty_lines_cut}
use Rattle.http_message.proofs.LookLemmas.{seen_bare_cr, seen_text, seen_large, seen_open, scanned_append}
use Rattle.http_message.proofs.ScanLemmas.{head_run}
use Rattle.client_wire.specs.Heads.{IsCut, IsInLine, IsOpen, IsPiece, IsPieceTaken, TakesHead}
use Rattle.client_wire.specs.declared.head.Cut.{Cut}
use Rattle.client_wire.specs.declared.head.Cut.TheVariants as cut

-- bytes that are no more than a head may have are all in the window
pub in_window : (held : List ℕ) → length held ≤ head_limit → window held ≡ held
unfolding window
in_window held fits = take_all head_limit held fits

module _ (held : List ℕ) (empty_lines : ℕ) (fits : length held ≤ head_limit) (is : empty_lines ≡ empty_lines_at_start held) where
  in_view : empty_lines ≡ empty_lines_at_start (window held)
  in_view = is ∙ ap empty_lines_at_start (sym (in_window held fits))

  pub bare_cr_seen : begins_bare_cr (drop empty_lines held) ≡ true → beginning_of held ≡ BareCr
  bare_cr_seen bare =
      (seen_bare_cr held empty_lines in_view (ap (λ xs. begins_bare_cr (drop empty_lines xs)) (in_window held fits) ∙ bare)).beginning

  pub text_seen : (size : ℕ) → begins_bare_cr (drop empty_lines held) ≡ false → head_length (drop empty_lines held) ≡ Some size
      → IsTextAt held empty_lines size
  text_seen size other at =
      seen_text held empty_lines size in_view
      (ap (λ xs. begins_bare_cr (drop empty_lines xs)) (in_window held fits) ∙ other)
      (ap (λ xs. head_length (drop empty_lines xs)) (in_window held fits) ∙ at)

  pub large_seen : begins_bare_cr (drop empty_lines held) ≡ false → head_length (drop empty_lines held) ≡ None
      → head_limit ≤ length held → beginning_of held ≡ TooLarge
  large_seen other none full =
      (seen_large held (record { empty_lines = empty_lines; passed = 0 }) in_view
      (ap (λ xs. begins_bare_cr (drop empty_lines xs)) (in_window held fits) ∙ other)
      (ap (λ xs. head_length (drop empty_lines xs)) (in_window held fits) ∙ none) full).beginning

  pub open_seen : begins_bare_cr (drop empty_lines held) ≡ false → head_length (drop empty_lines held) ≡ None
      → length held < head_limit → IsUnread held
  open_seen other none space =
      seen_open held (record { empty_lines = empty_lines; passed = 0 }) in_view
      (ap (λ xs. begins_bare_cr (drop empty_lines xs)) (in_window held fits) ∙ other)
      (ap (λ xs. head_length (drop empty_lines xs)) (in_window held fits) ∙ none) space

-- ---- what comes behind bytes that show nothing yet

-- no byte is a line feed
abbrev NoFeed : List ℕ → Type 0
NoFeed bytes = (k : ℕ) → k < length bytes → get_or bytes k 0 ≡ 10 → ⊥

-- bytes without a line feed have no empty line at their start
no_line : (bytes : List ℕ) → NoFeed bytes → empty_line bytes ≡ 0
no_line [] apart = refl
no_line (a ∷ []) apart =
    let other : nat_eq a 10 ≡ false = ne_eqb a 10 (apart 0 (omega arith)) in
    elim (cases_Bool (nat_eq a 13)) [ inl return ↦ rw (other, return) refl | inr neither ↦ rw (other, neither) refl ]
no_line (a ∷ b ∷ bytes) apart =
    let other : nat_eq a 10 ≡ false = ne_eqb a 10 (apart 0 (omega arith)) in
    let bare : nat_eq b 10 ≡ false = ne_eqb b 10 (apart 1 (omega arith)) in
    elim (cases_Bool (nat_eq a 13)) [ inl return ↦ rw (other, return, bare) refl | inr neither ↦ rw (other, neither) refl ]

-- and bring none to bytes that have none
no_line_more : (bytes more : List ℕ) → empty_line bytes ≡ 0 → NoFeed more → empty_line (bytes ++ more) ≡ 0
no_line_more [] more none apart = no_line more apart
no_line_more (a ∷ b ∷ bytes) more none apart = none
no_line_more (a ∷ []) [] none apart = none
no_line_more (a ∷ []) (b ∷ more) none apart =
    let bare : nat_eq b 10 ≡ false = ne_eqb b 10 (apart 0 (omega arith)) in
    elim (cases_Bool (nat_eq a 10)) [
      | inl feed ↦ let clash : ◌≡◌ {A = ℕ} 1 0 = rw feed at none in absurd (omega arith)
      | inr other ↦ elim (cases_Bool (nat_eq a 13)) [ inl return ↦ rw (other, return, bare) refl | inr neither ↦ rw (other, neither) refl ]
    ]

-- no head ends in bytes without a line feed
no_head : (more : List ℕ) → NoFeed more → head_length more ≡ None
no_head more apart =
    let rest : drop (length more) more ≡ [] = drop_all (length more) more (omega arith) in
    head_run more (length more) (omega arith) apart
    ∙ ap (λ xs. option_map (λ n. length more + n) (head_length xs)) rest

-- what was no answer
was_none : (o : Option ℕ) → option_map suc o ≡ None → o ≡ None
was_none None none = refl
was_none (Some n) none = absurd (cc)

-- and none ends by them
no_head_more : (bytes more : List ℕ) → head_length bytes ≡ None → NoFeed more → head_length (bytes ++ more) ≡ None
no_head_more [] more none apart = no_head more apart
no_head_more (a ∷ bytes) more none apart =
    elim (cases_Bool (nat_eq a 10)) [
      | inl feed ↦
          elim (cases_Bool (nat_lt 0 (empty_line bytes))) [
            | inl ends ↦ let clash : Some (suc (empty_line bytes)) ≡ None = rw (feed, ends) at none in absurd (cc)
            | inr further ↦
                let later : option_map suc (head_length bytes) ≡ None = rw (feed, further) at none in
                let rest : head_length (bytes ++ more) ≡ None = no_head_more bytes more (was_none (head_length bytes) later) apart in
                let few : empty_line bytes ≡ 0 = omega (arith, ltb-false 0 (empty_line bytes) further) in
                rw (feed, no_line_more bytes more few apart, rest) refl
          ]
      | inr other ↦
          let later : option_map suc (head_length bytes) ≡ None = rw other at none in
          let rest : head_length (bytes ++ more) ≡ None = no_head_more bytes more (was_none (head_length bytes) later) apart in
          rw (other, rest) refl
    ]

-- bytes without a line feed, behind two bytes of a head
open_more : (held more : List ℕ) (scan : HeadScan) → IsOpen held scan → scan.empty_lines + 2 ≤ length held → NoFeed more
    → length (held ++ more) < head_limit → beginning_of (held ++ more) ≡ Unfinished
open_more held more scan seen two apart space =
    let all : take (length held) held ≡ held = take_all (length held) held (omega arith) in
    let skipped : empty_lines_at_start (held ++ more) ≡ scan.empty_lines =
    ap (λ xs. empty_lines_at_start (xs ++ more)) (sym all)
    ∙ empty_lines_cut held scan.empty_lines (length held) more (sym seen.empty_lines_is) two two in
    let rest : drop scan.empty_lines (held ++ more) ≡ drop scan.empty_lines held ++ more =
    drop-append-le scan.empty_lines held more (omega (arith, two)) in
    let size : 2 ≤ length (drop scan.empty_lines held) = omega (arith, two, length-drop scan.empty_lines held) in
    let whole : take (length (drop scan.empty_lines held)) (drop scan.empty_lines held) ≡ drop scan.empty_lines held =
    take_all (length (drop scan.empty_lines held)) (drop scan.empty_lines held) (omega arith) in
    let bare : begins_bare_cr (drop scan.empty_lines (held ++ more)) ≡ false =
    ap begins_bare_cr rest ∙ ap (λ xs. begins_bare_cr (xs ++ more)) (sym whole)
    ∙ bare_cr_beginning (drop scan.empty_lines held) (length (drop scan.empty_lines held)) more size size ∙ seen.no_bare_cr in
    let none : head_length (drop scan.empty_lines (held ++ more)) ≡ None =
    ap head_length rest ∙ no_head_more (drop scan.empty_lines held) more seen.no_end apart in
    (open_seen (held ++ more) scan.empty_lines (omega (arith, space)) (sym skipped) bare none space).beginning

-- no piece shows anything before it is whole
piece_open : (begun : Bool) (held piece : List ℕ) (scan : HeadScan) (part : ℕ) → IsOpen held scan
    → (begun ≡ true → scan.empty_lines + 2 ≤ length held) → IsPiece begun piece → part < length piece
    → length held + part < head_limit → beginning_of (held ++ take part piece) ≡ Unfinished
piece_open false held piece scan part seen two is below space =
    let none : part ≡ 0 = omega (arith, is, below) in
    let same : held ++ take part piece ≡ held = ap (λ n. held ++ take n piece) none ∙ append-nil held in
    ap beginning_of same ∙ seen.unread.beginning
piece_open true held piece scan part seen two is below space =
    let size : length (take part piece) ≡ part = length-take-le part piece (omega (arith, below)) in
    open_more held (take part piece) scan seen (two refl)
    (λ k low feed. (is k (omega (arith, low, size, below))).1 (sym (get_or-take part piece k 0 (omega (arith, low, size))) ∙ feed))
    (omega (arith, space, size, length-append held (take part piece)))

-- ---- a piece

-- what a source had in its buffer is what it gave
gave_at : (E : Type 0) (held after piece : List ℕ) (size k : ℕ) → GaveFromBuffer {E = E} held after piece (Ok size) → k < length held
    → k < length (take size piece) → get_or held k 0 ≡ get_or (take size piece) k 0
gave_at E [] after piece size k gave low below = absurd (omega arith)
gave_at E (b ∷ bytes) after piece size k gave low below =
    ap (λ xs. get_or xs k 0) gave ∙ get_or_append_left (take size piece) after 0 k below

piece_is : (E : Type 0) (begun : Bool) (held after piece : List ℕ) (size limit : ℕ) → GaveFromBuffer {E = E} held after piece (Ok size)
    → size ≤ length piece → size ≤ limit → IsInLine held limit → (begun ≡ false → limit ≡ 1) → IsPiece begun (take size piece)
piece_is E false held after piece size limit gave fits within line one =
    omega (arith, one refl, within, length-take-le size piece fits)
piece_is E true held after piece size limit gave fits within line one = λ k low.
    let inside = line k (omega (arith, low, within, length-take-le size piece fits)) in
    (omega (arith, low), λ feed. inside.1 (gave_at E held after piece size k gave inside.0 (omega (arith, low)) ∙ feed))

-- a piece that was taken to the start of a buffer
pub piece_taken : (E : Type 0) (source source' : End) (begun : Bool) (held after piece rest : List ℕ) (size limit : ℕ)
    → TookBytes source source' (take size piece) → size ≤ length piece → GaveFromBuffer {E = E} held after piece (Ok size)
    → 0 < size → size ≤ limit → IsInLine held limit → (begun ≡ false → limit ≡ 1)
    → IsPieceTaken source source' begun (piece ++ rest) size
piece_taken E source source' begun held after piece rest size limit took fits gave some within line one =
    let same : take size (piece ++ rest) ≡ take size piece = take-append-le size piece rest fits in
    record {
      some = some;
      within = omega (arith, fits, length-append piece rest);
      took = subst (λ (xs : List ℕ). TookBytes source source' xs) (sym same) took;
      is = subst (λ (xs : List ℕ). IsPiece begun xs) (sym same) (piece_is E begun held after piece size limit gave fits within line one);
    }

-- ---- the search

-- The first bytes of a buffer were taken, none of them shows what they begin with, and this is known of them.
pub record IsSearched (first middle : End) (buffer : List ℕ) (count : ℕ) (scan : HeadScan) : Type 0 where
  pub within : count ≤ length buffer
  pub took : TookBytes first middle (take count buffer)
  pub fewer : (n : ℕ) → n < count → beginning_of (take n (take count buffer)) ≡ Unfinished
  pub scanned : IsScanned (take count buffer) scan

-- a piece more
pub searched_more : (first middle last : End) (before piece rest : List ℕ) (count size : ℕ) (old new : HeadScan) (begun : Bool)
    → IsSearched first middle before count old → IsOpen (take count before) new → (begun ≡ true → new.empty_lines + 2 ≤ count)
    → IsPieceTaken middle last begun piece size → count + size ≤ head_limit
    → IsSearched first last (take count before ++ (piece ++ rest)) (count + size) new
searched_more first middle last before piece rest count size old new begun searched seen two came fits =
    let held : List ℕ = take count before in
    let got : List ℕ = take size piece in
    let long : length held ≡ count = length-take-le count before searched.within in
    let wide : length got ≡ size = length-take-le size piece came.within in
    let is : take (count + size) (held ++ (piece ++ rest)) ≡ held ++ got =
    ap (λ n. take (n + size) (held ++ (piece ++ rest))) (sym long)
    ∙ take-append-add held (piece ++ rest) size
    ∙ ap (λ xs. held ++ xs) (take-append-le size piece rest came.within) in
    record {
      within = omega (arith, long, came.within, length-append held (piece ++ rest), length-append piece rest);
      took = subst (λ (xs : List ℕ). TookBytes first last xs) (sym is) (took_both first middle last held got searched.took came.took);
      fewer = λ n below. elim (cases_lt n count) [
        | inl low ↦
            ap (λ xs. beginning_of (take n xs)) is
            ∙ ap beginning_of (take-append-le n held got (omega (arith, low, long)))
            ∙ searched.fewer n low
        | inr high ↦
            let sum : n ≡ length held + (n - count) = omega (arith, high, long) in
            let cut : take n (held ++ got) ≡ held ++ take (n - count) got =
            ap (λ m. take m (held ++ got)) sum ∙ take-append-add held got (n - count) in
            ap (λ xs. beginning_of (take n xs)) is ∙ ap beginning_of cut
            ∙ piece_open begun held got new (n - count) seen (λ e. omega (arith, two e, long)) came.is
            (omega (arith, below, high, wide)) (omega (arith, below, high, long, fits))
      ];
      scanned = subst (λ (xs : List ℕ). IsScanned xs new) (sym is) (scanned_append held got new seen.scanned);
    }

-- why no more came, counted from the first byte on
pub cut_since : (first middle last : End) (why : Cut) → first.faults ≤ middle.faults → IsCut middle last why → IsCut first last why
cut_since first middle last cut.Ended older is = is
cut_since first middle last cut.Failed older is = omega (arith, older, is)

-- the search has ended, for want of bytes
pub searched_all : (first middle last : End) (buffer tail : List ℕ) (count : ℕ) (scan new : HeadScan) (why : Cut)
    → IsSearched first middle buffer count scan → IsOpen (take count buffer) new → TookBytes middle last [] → IsCut middle last why
    → TakesHead first last (take count buffer ++ tail) (record { count = count; found = Err why })
searched_all first middle last buffer tail count scan new why searched seen came is_cut =
    let long : length (take count buffer) ≡ count = length-take-le count buffer searched.within in
    let same : take count (take count buffer ++ tail) ≡ take count buffer = take_at (take count buffer) tail count long in
    record {
      within = omega (arith, long, length-append (take count buffer) tail);
      took =
          let none : take count buffer ++ [] ≡ take count (take count buffer ++ tail) = append-nil (take count buffer) ∙ sym same in
          subst (λ (xs : List ℕ). TookBytes first last xs) none
          (took_both first middle last (take count buffer) [] searched.took came);
      fewer = λ n below. ap (λ xs. beginning_of (take n xs)) same ∙ searched.fewer n below;
      comes = subst (λ (xs : List ℕ). IsUnread xs × IsCut first last why) (sym same)
          (seen.unread, cut_since first middle last why searched.took.count is_cut);
    }
