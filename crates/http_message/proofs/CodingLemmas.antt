-- What follows of how a coding comes out: a stream begins with one coding at most.
use Rattle.std.proofs.Common.{◌≡◌, ◌≢◌, ℕ, zero, suc, ◌+◌, ◌<◌, ◌≤◌, true, false, List, [], ◌++◌, length, take, drop, refl, sym, ◌∙◌, ap, subst, arith, ◌⊎◌, inl, inr}
use Rattle.std.proofs.lemmas.Bool.{true≢false}
use Rattle.std.proofs.lemmas.List.{append_assoc, append-nil, length-append, take_at, drop_at}
use Rattle.httparse.proofs.ChunkLemmas.{chunk_line_unique}
use Rattle.httparse.specs.Ascii.{crlf_bytes}
use Rattle.httparse.specs.Grammar.{chunk_size}
use Rattle.http_message.specs.Coding.{Whole, Overlong, Short, Decodes, chunk, last, bad_line, long_line, large, bad_end, bad_trailers, long_trailers, short_line, short_chunk, short_trailers, Outcome, Decoded, Broken, Unfinished, behind, line_at, trailers_at, capacity_behind, overlong_at, fits, IsSizeLine, IsNoLine, AreTrailers, AreNoTrailers}
use Rattle.http_message.specs.declared.line.Sought.TheVariants.{Line, Trailers}
use Rattle.http_message.specs.declared.refusal.FramingRefusal.TheVariants.{BadLength, BodyTooLarge}
use Rattle.http_message.proofs.ChunkLemmas.{line_is, trailers_is, fits_parts}
use Rattle.http_message.specs.Limits.{coding_limit}
use Rattle.http_message.proofs.LineLemmas.{whole_here, overlong_here}

-- two fronts of the same length, of the same bytes, are one
pub split_same : (xs ys zs ws : List ℕ) → length xs ≡ length zs → xs ++ ys ≡ zs ++ ws → (xs ≡ zs) × (ys ≡ ws)
split_same xs ys zs ws size same = (
  sym (take_at xs ys (length xs) refl) ∙ ap (take (length xs)) same ∙ take_at zs ws (length xs) (sym size),
  sym (drop_at xs ys (length xs) refl) ∙ ap (drop (length xs)) same ∙ drop_at zs ws (length xs) (sym size),
)

-- the same, where nothing follows
pub all_same : (xs ys zs ws : List ℕ) → ys ≡ [] → ws ≡ [] → xs ++ ys ≡ zs ++ ws → xs ≡ zs
all_same xs ys zs ws none nothing same =
    sym (append-nil xs) ∙ ap (λ bytes. xs ++ bytes) (sym none) ∙ same ∙ ap (λ bytes. zs ++ bytes) nothing ∙ append-nil zs

-- a line has one size
pub size_unique : (line : List ℕ) (size other : ℕ) → IsSizeLine line size → IsSizeLine line other → size ≡ other
size_unique line size other a b =
    let same = chunk_line_unique line a.line b.line [] [] a.reads b.reads in
    sym a.size_is ∙ ap chunk_size same.0 ∙ b.size_is

-- the bytes of a line decide it
pub line_any : (coded : ℕ) (bytes line more : List ℕ) → line_at coded bytes ≡ Whole line
    → line_at coded (line ++ more) ≡ Whole line
line_any coded bytes line more at =
    line_is coded (line ++ more)
    ∙ (whole_here Line (capacity_behind coded) bytes line (sym (line_is coded bytes) ∙ at)).all more

pub line_sized : (coded : ℕ) (bytes line : List ℕ) → line_at coded bytes ≡ Whole line
    → (0 < length line) × (length line ≤ capacity_behind coded)
line_sized coded bytes line at =
    let here = whole_here Line (capacity_behind coded) bytes line (sym (line_is coded bytes) ∙ at) in
    (here.some, here.limit)

pub trailers_any : (coded : ℕ) (bytes text more : List ℕ) → trailers_at coded bytes ≡ Whole text
    → trailers_at coded (text ++ more) ≡ Whole text
trailers_any coded bytes text more at =
    trailers_is coded (text ++ more)
    ∙ (whole_here Trailers (capacity_behind coded) bytes text (sym (trailers_is coded bytes) ∙ at)).all more

pub trailers_sized : (coded : ℕ) (bytes text : List ℕ) → trailers_at coded bytes ≡ Whole text
    → length text ≤ capacity_behind coded
trailers_sized coded bytes text at =
    (whole_here Trailers (capacity_behind coded) bytes text (sym (trailers_is coded bytes) ∙ at)).limit

-- where they reach the limit, they decide that it is overlong
pub line_over : (coded : ℕ) (bytes more : List ℕ) → line_at coded bytes ≡ Overlong → length bytes ≡ capacity_behind coded
    → line_at coded (bytes ++ more) ≡ Overlong
line_over coded bytes more at size =
    line_is coded (bytes ++ more)
    ∙ overlong_here Line (capacity_behind coded) bytes more (sym (line_is coded bytes) ∙ at) size

pub trailers_over : (coded : ℕ) (bytes more : List ℕ) → trailers_at coded bytes ≡ Overlong
    → length bytes ≡ capacity_behind coded → trailers_at coded (bytes ++ more) ≡ Overlong
trailers_over coded bytes more at size =
    trailers_is coded (bytes ++ more)
    ∙ overlong_here Trailers (capacity_behind coded) bytes more (sym (trailers_is coded bytes) ∙ at) size

-- The outcome of the bytes after a chunk's line, before a rest.
pub data IsFilled (coded got size : ℕ) (after rest : List ℕ) (outcome : Outcome) : Type 0 where
  cut : length after < size + 2 → rest ≡ [] → outcome ≡ Unfinished → IsFilled coded got size after rest outcome
  filled : (content next : List ℕ) (inner : Outcome) → length content ≡ size → after ≡ content ++ (crlf_bytes ++ next)
      → outcome ≡ behind content inner → (inner ≡ Unfinished → rest ≡ []) → Decodes (coded + size + 2) (got + size) next inner
      → IsFilled coded got size after rest outcome
  misled : (content end : List ℕ) → length content ≡ size → length end ≡ 2 → end ≢ crlf_bytes → after ≡ content ++ end
      → outcome ≡ Broken BadLength → IsFilled coded got size after rest outcome

-- The same behind the last line.
pub data IsEnded (coded : ℕ) (after rest : List ℕ) (outcome : Outcome) : Type 0 where
  cut : trailers_at coded (after ++ rest) ≡ Short → rest ≡ [] → outcome ≡ Unfinished → IsEnded coded after rest outcome
  over : trailers_at coded (after ++ rest) ≡ Overlong → length after ≡ capacity_behind coded
      → outcome ≡ Broken (overlong_at coded) → IsEnded coded after rest outcome
  ended : trailers_at coded (after ++ rest) ≡ Whole after
      → (AreTrailers after × (outcome ≡ Decoded [])) ⊎ (AreNoTrailers after × (outcome ≡ Broken BadLength))
      → IsEnded coded after rest outcome

-- The same behind a line of this size.
pub data IsSized (coded got : ℕ) (line : List ℕ) (size : ℕ) (after rest : List ℕ) (outcome : Outcome) : Type 0 where
  over : 0 < size → fits coded got (length line) size ≡ false → after ≡ [] → outcome ≡ Broken BodyTooLarge
      → IsSized coded got line size after rest outcome
  part : 0 < size → fits coded got (length line) size ≡ true → IsFilled (coded + length line) got size after rest outcome
      → IsSized coded got line size after rest outcome
  end : size ≡ 0 → IsEnded (coded + length line) after rest outcome → IsSized coded got line size after rest outcome

-- The same behind a line.
pub data IsBehind (coded got : ℕ) (line after rest : List ℕ) (outcome : Outcome) : Type 0 where
  none : IsNoLine line → after ≡ [] → outcome ≡ Broken BadLength → IsBehind coded got line after rest outcome
  sized : (size : ℕ) → IsSizeLine line size → IsSized coded got line size after rest outcome
      → IsBehind coded got line after rest outcome

-- The outcome of the bytes of a coding, before a rest.
pub data IsSeen (coded got : ℕ) (first rest : List ℕ) (outcome : Outcome) : Type 0 where
  cut : line_at coded (first ++ rest) ≡ Short → rest ≡ [] → outcome ≡ Unfinished → IsSeen coded got first rest outcome
  over : line_at coded (first ++ rest) ≡ Overlong → length first ≡ capacity_behind coded
      → outcome ≡ Broken (overlong_at coded) → IsSeen coded got first rest outcome
  read : (line after : List ℕ) → line_at coded (first ++ rest) ≡ Whole line → first ≡ line ++ after
      → IsBehind coded got line after rest outcome → IsSeen coded got first rest outcome

-- one whose line is read
pub seen_read : (coded got : ℕ) (bytes line after rest : List ℕ) (outcome : Outcome) → line_at coded bytes ≡ Whole line
    → IsBehind coded got line after rest outcome → IsSeen coded got (line ++ after) rest outcome
seen_read coded got bytes line after rest outcome at is =
    read line after
    (ap (line_at coded) (append_assoc line after rest) ∙ line_any coded bytes line (after ++ rest) at) refl is

-- and one that is only a line
pub seen_line : (coded got : ℕ) (line rest : List ℕ) (outcome : Outcome) → line_at coded line ≡ Whole line
    → IsBehind coded got line [] rest outcome → IsSeen coded got line rest outcome
seen_line coded got line rest outcome at is =
    read line [] (line_any coded line line rest at) (sym (append-nil line)) is

-- each coding, as it is seen
pub seen : (coded got : ℕ) (first rest : List ℕ) (outcome : Outcome) → Decodes coded got first outcome
    → (outcome ≡ Unfinished → rest ≡ []) → IsSeen coded got first rest outcome
seen c g first rest o (chunk coded got size line content next inner at is some fit wide further) whole =
    seen_read coded got _ line (content ++ (crlf_bytes ++ next)) rest (behind content inner) at
    (sized size is (part some fit (filled content next inner wide refl refl
    (λ short. whole (ap (behind content) short)) further)))
seen c g first rest o (last coded got line text at is ends are) whole =
    seen_read coded got _ line text rest (Decoded []) at
    (sized 0 is (end refl (ended (trailers_any (coded + length line) text text rest ends) (inl (are, refl)))))
seen c g first rest o (bad_line coded got line at is) whole =
    seen_line coded got line rest (Broken BadLength) at (none is refl refl)
seen c g first rest o (long_line coded got bytes at size) whole =
    over (line_over coded bytes rest at size) size refl
seen c g first rest o (large coded got size line at is some fit) whole =
    seen_line coded got line rest (Broken BodyTooLarge) at (sized size is (over some fit refl refl))
seen c g first rest o (bad_end coded got size line content bytes at is some fit wide two other) whole =
    seen_read coded got _ line (content ++ bytes) rest (Broken BadLength) at
    (sized size is (part some fit (misled content bytes wide two other refl refl)))
seen c g first rest o (bad_trailers coded got line text at is ends are) whole =
    seen_read coded got _ line text rest (Broken BadLength) at
    (sized 0 is (end refl (ended (trailers_any (coded + length line) text text rest ends) (inr (are, refl)))))
seen c g first rest o (long_trailers coded got line bytes at is ends size) whole =
    seen_read coded got _ line bytes rest (Broken (overlong_at (coded + length line))) at
    (sized 0 is (end refl (over (trailers_over (coded + length line) bytes rest ends size) size refl)))
seen c g first rest o (short_line coded got bytes at) whole =
    cut (ap (λ xs. line_at coded (bytes ++ xs)) (whole refl) ∙ ap (line_at coded) (append-nil bytes) ∙ at) (whole refl) refl
seen c g first rest o (short_chunk coded got size line bytes at is some fit short) whole =
    seen_read coded got _ line bytes rest Unfinished at (sized size is (part some fit (cut short (whole refl) refl)))
seen c g first rest o (short_trailers coded got line bytes at is ends) whole =
    seen_read coded got _ line bytes rest Unfinished at
    (sized 0 is (end refl
    (cut (ap (λ xs. trailers_at (coded + length line) (bytes ++ xs)) (whole refl)
    ∙ ap (trailers_at (coded + length line)) (append-nil bytes) ∙ ends)
    (whole refl) refl)))

-- the claim for two codings of which the first is shorter than `n` bytes
abbrev pub OneBelow : ℕ → Type 0
OneBelow n =
    (coded got : ℕ) (first rest second others : List ℕ) (outcome other : Outcome) → length first < n
    → Decodes coded got first outcome → (outcome ≡ Unfinished → rest ≡ [])
    → Decodes coded got second other → (other ≡ Unfinished → others ≡ [])
    → first ++ rest ≡ second ++ others → (first ≡ second) × (outcome ≡ other)

-- bytes that are cut short are not those of a content and two more
pub too_short : (after rest second others content next : List ℕ) (size : ℕ) → length after < size + 2 → rest ≡ []
    → second ≡ content ++ next → length content ≡ size → 2 ≤ length next → after ++ rest ≡ second ++ others → ⊥
too_short after rest second others content next size short empty is wide two same =
    omega (
      arith,
      short,
      wide,
      two,
      ap length empty,
      ap length is,
      ap length same,
      length-append after rest,
      length-append second others,
      length-append content next,
    )

-- bytes by their content
pub by_content : (after content next rest : List ℕ) → after ≡ content ++ next → after ++ rest ≡ content ++ (next ++ rest)
by_content after content next rest is = ap (λ xs. xs ++ rest) is ∙ append_assoc content next rest

-- Two views of one stream, each of its first bytes before a rest: these are the same, and so is the outcome.
module _ (n : ℕ) (below : OneBelow n) (rest others : List ℕ) (outcome other : Outcome) where
  module _ (after second : List ℕ) (fewer : length after < n) (same : after ++ rest ≡ second ++ others) where
    -- behind a chunk's line
    filled_same : (coded got size : ℕ) → IsFilled coded got size after rest outcome
        → IsFilled coded got size second others other → (after ≡ second) × (outcome ≡ other)
    filled_same coded got size (cut s r o) (cut t q p) = (all_same after rest second others r q same, o ∙ sym p)
    filled_same coded got size (cut s r o) (filled content next inner wide is p w d) =
        absurd (too_short after rest second others content (crlf_bytes ++ next) size s r is wide (omega arith) same)
    filled_same coded got size (cut s r o) (misled content bytes wide two apart is p) =
        absurd (too_short after rest second others content bytes size s r is wide (omega (arith, two)) same)
    filled_same coded got size (filled content next inner wide is o w d) (cut t q p) =
        absurd (too_short second others after rest content (crlf_bytes ++ next) size t q is wide (omega arith) (sym same))
    filled_same coded got size (filled content next inner wide is o w d) (filled content' next' inner' wide' is' p w' d') =
        let whole : content ++ ((crlf_bytes ++ next) ++ rest) ≡ content' ++ ((crlf_bytes ++ next') ++ others) =
        sym (by_content after content (crlf_bytes ++ next) rest is) ∙ same ∙ by_content second content' (crlf_bytes ++ next') others is' in
        let parts = split_same content ((crlf_bytes ++ next) ++ rest) content' ((crlf_bytes ++ next') ++ others) (wide ∙ sym wide') whole in
        let content_same : content ≡ content' = parts.0 in
        let behind_end = split_same crlf_bytes (next ++ rest) crlf_bytes (next' ++ others) refl parts.1 in
        let smaller : length next < n =
        omega (arith, fewer, ap length is, length-append content (crlf_bytes ++ next)) in
        let inside = below (coded + size + 2) (got + size) next rest next' others inner inner' smaller d w d' w' behind_end.1 in
        let next_same : next ≡ next' = inside.0 in
        let inner_same : inner ≡ inner' = inside.1 in
        (cc, cc)
    filled_same coded got size (filled content next inner wide is o w d) (misled content' bytes wide' two apart is' p) =
        let whole : content ++ ((crlf_bytes ++ next) ++ rest) ≡ content' ++ (bytes ++ others) =
        sym (by_content after content (crlf_bytes ++ next) rest is) ∙ same ∙ by_content second content' bytes others is' in
        let parts = split_same content ((crlf_bytes ++ next) ++ rest) content' (bytes ++ others) (wide ∙ sym wide') whole in
        absurd (apart (sym (split_same crlf_bytes (next ++ rest) bytes others (sym two) parts.1).0))
    filled_same coded got size (misled content bytes wide two apart is o) (cut t q p) =
        absurd (too_short second others after rest content bytes size t q is wide (omega (arith, two)) (sym same))
    filled_same coded got size (misled content bytes wide two apart is o) (filled content' next inner wide' is' p w d) =
        let whole : content ++ (bytes ++ rest) ≡ content' ++ ((crlf_bytes ++ next) ++ others) =
        sym (by_content after content bytes rest is) ∙ same ∙ by_content second content' (crlf_bytes ++ next) others is' in
        let parts = split_same content (bytes ++ rest) content' ((crlf_bytes ++ next) ++ others) (wide ∙ sym wide') whole in
        absurd (apart (split_same bytes rest crlf_bytes (next ++ others) two parts.1).0)
    filled_same coded got size (misled content bytes wide two apart is o) (misled content' bytes' wide' two' apart' is' p) =
        let whole : content ++ (bytes ++ rest) ≡ content' ++ (bytes' ++ others) =
        sym (by_content after content bytes rest is) ∙ same ∙ by_content second content' bytes' others is' in
        let parts = split_same content (bytes ++ rest) content' (bytes' ++ others) (wide ∙ sym wide') whole in
        let content_same : content ≡ content' = parts.0 in
        let bytes_same : bytes ≡ bytes' = (split_same bytes rest bytes' others (two ∙ sym two') parts.1).0 in
        (cc, cc)

    -- one text is trailers or none
    trailers_same : after ≡ second → (AreTrailers after × (outcome ≡ Decoded [])) ⊎ (AreNoTrailers after × (outcome ≡ Broken BadLength))
        → (AreTrailers second × (other ≡ Decoded [])) ⊎ (AreNoTrailers second × (other ≡ Broken BadLength)) → outcome ≡ other
    trailers_same bytes_same (inl a) (inl b) = a.1 ∙ sym b.1
    trailers_same bytes_same (inl a) (inr b) = absurd (b.0.none (subst (λ (xs : List ℕ). AreTrailers xs) bytes_same a.0))
    trailers_same bytes_same (inr a) (inl b) = absurd (a.0.none (subst (λ (xs : List ℕ). AreTrailers xs) (sym bytes_same) b.0))
    trailers_same bytes_same (inr a) (inr b) = a.1 ∙ sym b.1

    -- behind the last line
    ended_same : (coded : ℕ) → IsEnded coded after rest outcome → IsEnded coded second others other
        → (after ≡ second) × (outcome ≡ other)
    ended_same coded (cut s r o) (cut t q p) = (all_same after rest second others r q same, o ∙ sym p)
    ended_same coded (cut s r o) (over t q p) =
        let clash : Short ≡ Overlong = sym s ∙ ap (trailers_at coded) same ∙ t in absurd (cc)
    ended_same coded (cut s r o) (ended t q) =
        let clash : Short ≡ Whole second = sym s ∙ ap (trailers_at coded) same ∙ t in absurd (cc)
    ended_same coded (over s r o) (cut t q p) =
        let clash : Overlong ≡ Short = sym s ∙ ap (trailers_at coded) same ∙ t in absurd (cc)
    ended_same coded (over s r o) (over t q p) =
        ((split_same after rest second others (r ∙ sym q) same).0, o ∙ sym p)
    ended_same coded (over s r o) (ended t q) =
        let clash : Overlong ≡ Whole second = sym s ∙ ap (trailers_at coded) same ∙ t in absurd (cc)
    ended_same coded (ended s r) (cut t q p) =
        let clash : Whole after ≡ Short = sym s ∙ ap (trailers_at coded) same ∙ t in absurd (cc)
    ended_same coded (ended s r) (over t q p) =
        let clash : Whole after ≡ Overlong = sym s ∙ ap (trailers_at coded) same ∙ t in absurd (cc)
    ended_same coded (ended s r) (ended t q) =
        let both : Whole after ≡ Whole second = sym s ∙ ap (trailers_at coded) same ∙ t in
        let bytes_same : after ≡ second = cc in
        (bytes_same, trailers_same bytes_same r q)

    -- behind a line of one size
    sized_same : (coded got : ℕ) (line : List ℕ) (size : ℕ) → IsSized coded got line size after rest outcome
        → IsSized coded got line size second others other → (after ≡ second) × (outcome ≡ other)
    sized_same coded got line size (over s f r o) (over t e q p) = (r ∙ sym q, o ∙ sym p)
    sized_same coded got line size (over s f r o) (part t e q) = absurd (true≢false (sym e ∙ f))
    sized_same coded got line size (over s f r o) (end t q) = absurd (omega (arith, s, t))
    sized_same coded got line size (part s f r) (over t e q p) = absurd (true≢false (sym f ∙ e))
    sized_same coded got line size (part s f r) (part t e q) = filled_same (coded + length line) got size r q
    sized_same coded got line size (part s f r) (end t q) = absurd (omega (arith, s, t))
    sized_same coded got line size (end s r) (over t e q p) = absurd (omega (arith, s, t))
    sized_same coded got line size (end s r) (part t e q) = absurd (omega (arith, s, t))
    sized_same coded got line size (end s r) (end t q) = ended_same (coded + length line) r q

    -- behind one line
    behind_same : (coded got : ℕ) (line : List ℕ) → IsBehind coded got line after rest outcome
        → IsBehind coded got line second others other → (after ≡ second) × (outcome ≡ other)
    behind_same coded got line (none i r o) (none j q p) = (r ∙ sym q, o ∙ sym p)
    behind_same coded got line (none i r o) (sized size is q) = absurd (i.none is.line is.reads)
    behind_same coded got line (sized size is r) (none j q p) = absurd (j.none is.line is.reads)
    behind_same coded got line (sized size is r) (sized size' is' q) =
        sized_same coded got line size r
        (subst (λ (m : ℕ). IsSized coded got line m second others other) (size_unique line size' size is' is) q)

  -- from its beginning
  seen_same : (coded got : ℕ) (first second : List ℕ) → length first < suc n → IsSeen coded got first rest outcome
      → IsSeen coded got second others other → first ++ rest ≡ second ++ others → (first ≡ second) × (outcome ≡ other)
  seen_same coded got first second fewer (cut s r o) (cut t q p) same =
      (all_same first rest second others r q same, o ∙ sym p)
  seen_same coded got first second fewer (cut s r o) (over t q p) same =
      let clash : Short ≡ Overlong = sym s ∙ ap (line_at coded) same ∙ t in absurd (cc)
  seen_same coded got first second fewer (cut s r o) (read line after t i q) same =
      let clash : Short ≡ Whole line = sym s ∙ ap (line_at coded) same ∙ t in absurd (cc)
  seen_same coded got first second fewer (over s r o) (cut t q p) same =
      let clash : Overlong ≡ Short = sym s ∙ ap (line_at coded) same ∙ t in absurd (cc)
  seen_same coded got first second fewer (over s r o) (over t q p) same =
      ((split_same first rest second others (r ∙ sym q) same).0, o ∙ sym p)
  seen_same coded got first second fewer (over s r o) (read line after t i q) same =
      let clash : Overlong ≡ Whole line = sym s ∙ ap (line_at coded) same ∙ t in absurd (cc)
  seen_same coded got first second fewer (read line after s i r) (cut t q p) same =
      let clash : Whole line ≡ Short = sym s ∙ ap (line_at coded) same ∙ t in absurd (cc)
  seen_same coded got first second fewer (read line after s i r) (over t q p) same =
      let clash : Whole line ≡ Overlong = sym s ∙ ap (line_at coded) same ∙ t in absurd (cc)
  seen_same coded got first second fewer (read line after s i r) (read line' after' t j q) same =
      let both : Whole line ≡ Whole line' = sym s ∙ ap (line_at coded) same ∙ t in
      let one : line' ≡ line = cc in
      let whole : line ++ (after ++ rest) ≡ line' ++ (after' ++ others) =
      sym (by_content first line after rest i) ∙ same ∙ by_content second line' after' others j in
      let parts = split_same line (after ++ rest) line' (after' ++ others) (ap length (sym one)) whole in
      let some = (line_sized coded (first ++ rest) line s).0 in
      let smaller : length after < n = omega (arith, fewer, some, ap length i, length-append line after) in
      let inside = behind_same after after' smaller parts.1 coded got line r
      (subst (λ (xs : List ℕ). IsBehind coded got xs after' others other) one q) in
      let after_same : after ≡ after' = inside.0 in
      (cc, inside.1)

pub one_in : (n : ℕ) → OneBelow n
one_in zero coded got first rest second others outcome other below a whole b also same = absurd (omega (arith, below))
one_in (suc n) coded got first rest second others outcome other below a whole b also same =
    seen_same n (one_in n) rest others outcome other coded got first second below
    (seen coded got first rest outcome a whole) (seen coded got second others other b also) same

-- two codings at the start of a stream are the same, where one that is cut short is all of it
pub one_coding : (coded got : ℕ) (first rest second others : List ℕ) (outcome other : Outcome)
    → Decodes coded got first outcome → (outcome ≡ Unfinished → rest ≡ [])
    → Decodes coded got second other → (other ≡ Unfinished → others ≡ [])
    → first ++ rest ≡ second ++ others → (first ≡ second) × (outcome ≡ other)
one_coding coded got first rest second others outcome other a whole b also same =
    one_in (suc (length first)) coded got first rest second others outcome other (omega arith) a whole b also same

-- a stream begins with one whole coding at most
pub one_outcome : (coded got : ℕ) (first rest second others : List ℕ) (outcome other : Outcome)
    → Decodes coded got first outcome → Decodes coded got second other → outcome ≢ Unfinished → other ≢ Unfinished
    → first ++ rest ≡ second ++ others → (first ≡ second) × (outcome ≡ other)
one_outcome coded got first rest second others outcome other a b done over_with same =
    one_coding coded got first rest second others outcome other a (λ short. absurd (done short)) b
    (λ short. absurd (over_with short)) same

-- a coding that is cut short begins with no whole one
pub none_in_unfinished : (coded got : ℕ) (first rest : List ℕ) (outcome : Outcome)
    → Decodes coded got first outcome → outcome ≢ Unfinished → Decodes coded got (first ++ rest) Unfinished → ⊥
none_in_unfinished coded got first rest outcome a done short =
    done (one_coding coded got first rest (first ++ rest) [] outcome Unfinished a (λ is. absurd (done is)) short (λ is. refl)
    (sym (append-nil (first ++ rest)))).1

-- a whole coding is within its limit
pub coding_within : (coded got : ℕ) (bytes : List ℕ) (outcome : Outcome) → Decodes coded got bytes outcome
    → outcome ≢ Unfinished → coded ≤ coding_limit → coded + length bytes ≤ coding_limit
coding_within c g bytes o (chunk coded got size line content next inner at is some fit wide further) done within =
    let limit = (fits_parts coded got (length line) size fit).1 in
    let rest = coding_within (coded + length line + size + 2) (got + size) next inner further
    (λ short. done (ap (behind content) short)) limit in
    omega (arith, rest, wide, length-append line (content ++ (crlf_bytes ++ next)), length-append content (crlf_bytes ++ next))
coding_within c g bytes o (last coded got line text at is ends are) done within =
    let one = line_sized coded _ line at in
    let two = trailers_sized (coded + length line) text text ends in
    omega (arith, one.1, two, length-append line text)
coding_within c g bytes o (bad_line coded got line at is) done within = omega (arith, (line_sized coded _ line at).1)
coding_within c g bytes o (long_line coded got text at size) done within = omega (arith, size)
coding_within c g bytes o (large coded got size line at is some fit) done within = omega (arith, (line_sized coded _ line at).1)
coding_within c g bytes o (bad_end coded got size line content text at is some fit wide two other) done within =
    let limit = (fits_parts coded got (length line) size fit).1 in
    omega (arith, limit, wide, two, length-append line (content ++ text), length-append content text)
coding_within c g bytes o (bad_trailers coded got line text at is ends are) done within =
    let one = line_sized coded _ line at in
    let two = trailers_sized (coded + length line) text text ends in
    omega (arith, one.1, two, length-append line text)
coding_within c g bytes o (long_trailers coded got line text at is ends size) done within =
    let one = line_sized coded _ line at in
    omega (arith, one.1, size, length-append line text)
coding_within c g bytes o (short_line coded got text at) done within = absurd (done refl)
coding_within c g bytes o (short_chunk coded got size line text at is some fit short) done within = absurd (done refl)
coding_within c g bytes o (short_trailers coded got line text at is ends) done within = absurd (done refl)
