-- The parts of a coding, each as it is taken.
use Rattle.std.proofs.Common.{◌≡◌, ℕ, ◌+◌, ◌<◌, ◌≤◌, Bool, true, false, nat_le, List, [], ◌++◌, length, take, drop, refl, sym, ◌∙◌, ap, subst, arith}
use Rattle.std.proofs.lemmas.Bool.{leb-true, and_parts, true≢false}
use Rattle.std.proofs.lemmas.List.{append_assoc, append-nil, length-append, length-take-le, length-drop}
use Rattle.std.proofs.lemmas.Slice.Eq.{bytes_eq-Decides}
use Rattle.std.specs.Str.{bytes_eq}
use Rattle.httparse.proofs.ChunkLemmas.{chunk_line_unique}
use Rattle.httparse.specs.Ascii.{crlf_bytes}
use Rattle.httparse.specs.Grammar.{ChunkLine, print_chunk_line}
use Rattle.httparse.specs.Spans.{IsChunkLineAt}
use Rattle.http_message.specs.Coded.{ComesOut, IsChunk, IsPart, IsLineHere, IsLineEnd, IsContent, EndsCoding, ConcludesSo, IsEnding}
use Rattle.http_message.specs.Coding.{Decodes, chunk, last, bad_line, long_line, large, bad_end, bad_trailers, long_trailers, short_line, short_chunk, short_trailers, Outcome, Decoded, Broken, Unfinished, behind, Whole, Overlong, Short, line_at, trailers_at, capacity_behind, overlong_at, fits, IsSizeLine, IsNoLine, AreTrailers, AreNoTrailers}
use Rattle.http_message.specs.Line.{text_at, EndsIn, Overruns, IsOpenIn}
use Rattle.http_message.specs.declared.chunk.Part.{Part}
use Rattle.http_message.specs.declared.chunk.Part.TheVariants as part
use Rattle.http_message.specs.declared.chunk.Progress.{Progress}
use Rattle.http_message.specs.declared.line.Sought.TheVariants.{Line, Trailers}
use Rattle.http_message.specs.declared.refusal.FramingRefusal.TheVariants.{BadLength, BodyTooLarge}
use Rattle.http_message.specs.Limits.{body_limit, coding_limit}
use Rattle.http_message.proofs.LineLemmas.{IsHere, ends_here, overruns_here, text_overlong, text_short}

-- a line that ends before the text does leaves no other
pub no_other_line : (text : List ℕ) (len size : ℕ) (line : ChunkLine) → IsChunkLineAt text len size line
    → (len ≡ length text → ⊥) → IsNoLine text
no_other_line text len size line at apart = record {
  none = λ other reads.
      let same = chunk_line_unique text line other (drop len text) [] at.reads reads in
      apart (omega (
        arith,
        ap length same.1,
        length-drop len text,
        at.len_is,
        ap length at.reads.1,
        length-append (print_chunk_line line) (drop len text),
      ));
}

-- what the bytes begin with, as it is searched for
pub line_is : (coded : ℕ) (bytes : List ℕ) → line_at coded bytes ≡ text_at Line (capacity_behind coded) bytes
unfolding line_at
line_is coded bytes = refl

pub trailers_is : (coded : ℕ) (bytes : List ℕ) → trailers_at coded bytes ≡ text_at Trailers (capacity_behind coded) bytes
unfolding trailers_at
trailers_is coded bytes = refl

pub line_of : (coded : ℕ) (text : List ℕ) → coded ≤ coding_limit → IsHere Line (capacity_behind coded) text → IsLineHere coded text
line_of coded text within here = record {
  all = λ more. line_is coded (text ++ more) ∙ here.all more;
  some = here.some;
  limit = omega (arith, here.limit);
}

-- What is left of the limit of a coding bounds the next text of it.
module _ (coded most : ℕ) (is : most ≡ capacity_behind coded) where
  -- the line was found
  pub line_found : (held : List ℕ) (size : ℕ) → coded ≤ coding_limit → EndsIn Line most held size
      → IsLineHere coded (take size held)
  line_found held size within ends =
      line_of coded (take size held) within
      (subst (λ (n : ℕ). IsHere Line n (take size held)) is (ends_here Line most held size ends))

  -- a text that does not end within its limit is refused
  pub line_overlong : (got : ℕ) (held : List ℕ) → Overruns Line most held
      → ComesOut coded got (coded + most) (Broken (overlong_at coded)) (take most held)
  line_overlong got held over =
      let text = take most held in
      let size : length text ≡ most = length-take-le most held over.full in
      let again : Overruns Line (capacity_behind coded) text =
      subst (λ (n : ℕ). Overruns Line n text) is
      (subst (λ (xs : List ℕ). Overruns Line most xs) (append-nil text) (overruns_here Line most held [] over)) in
      record {
        decodes = long_line coded got text
            (line_is coded text ∙ text_overlong Line (capacity_behind coded) text again) (size ∙ is);
        total_is = omega (arith, size);
      }

  -- and one that does not end is cut short
  pub line_short : (got : ℕ) (bytes : List ℕ) → IsOpenIn Line most bytes → Decodes coded got bytes Unfinished
  line_short got bytes cut =
      short_line coded got bytes
      (line_is coded bytes ∙ text_short Line (capacity_behind coded) bytes (subst (λ (n : ℕ). IsOpenIn Line n bytes) is cut))

  -- the trailers were found
  module _ (size : ℕ) (held : List ℕ) (ends : EndsIn Trailers most held size) (within : size ≤ length held) where
    trailers_found : trailers_at coded (take size held) ≡ Whole (take size held)
    trailers_found =
        let text = take size held in
        let here : IsHere Trailers (capacity_behind coded) text =
        subst (λ (n : ℕ). IsHere Trailers n text) is (ends_here Trailers most held size ends) in
        ap (trailers_at coded) (sym (append-nil text)) ∙ trailers_is coded (text ++ []) ∙ here.all []

    -- they are trailers, or none
    pub trailers_whole : AreTrailers (take size held) → ConcludesSo coded (coded + size) (Decoded []) (take size held)
    trailers_whole are = record {
      total_is = omega (arith, length-take-le size held within);
      ends = λ start got line here zero behind.
          last start got line (take size held) (here.all (take size held)) zero
          (subst (λ (n : ℕ). trailers_at n (take size held) ≡ Whole (take size held)) behind trailers_found) are;
    }

    pub trailers_bad : AreNoTrailers (take size held)
        → ConcludesSo coded (coded + size) (Broken BadLength) (take size held)
    trailers_bad none = record {
      total_is = omega (arith, length-take-le size held within);
      ends = λ start got line here zero behind.
          bad_trailers start got line (take size held) (here.all (take size held)) zero
          (subst (λ (n : ℕ). trailers_at n (take size held) ≡ Whole (take size held)) behind trailers_found) none;
    }

  -- they do not end within their limit
  pub trailers_overlong : (held : List ℕ) → Overruns Trailers most held
      → ConcludesSo coded (coded + most) (Broken (overlong_at coded)) (take most held)
  trailers_overlong held over =
      let text = take most held in
      let size : length text ≡ capacity_behind coded = length-take-le most held over.full ∙ is in
      let again : Overruns Trailers (capacity_behind coded) text =
      subst (λ (n : ℕ). Overruns Trailers n text) is
      (subst (λ (xs : List ℕ). Overruns Trailers most xs) (append-nil text) (overruns_here Trailers most held [] over)) in
      let at : trailers_at coded text ≡ Overlong =
      trailers_is coded text ∙ text_overlong Trailers (capacity_behind coded) text again in
      record {
        total_is = omega (arith, length-take-le most held over.full);
        ends = λ start got line here zero behind.
            subst (λ (n : ℕ). Decodes start got (line ++ text) (Broken (overlong_at n))) (sym behind)
            (long_trailers start got line text (here.all text) zero
            (subst (λ (n : ℕ). trailers_at n text ≡ Overlong) behind at)
            (subst (λ (n : ℕ). length text ≡ capacity_behind n) behind size));
      }

  -- they are cut short
  pub trailers_short : (bytes : List ℕ) → IsOpenIn Trailers most bytes → EndsCoding coded bytes Unfinished
  trailers_short bytes cut start got line here zero behind =
      let at : trailers_at coded bytes ≡ Short =
      trailers_is coded bytes
      ∙ text_short Trailers (capacity_behind coded) bytes (subst (λ (n : ℕ). IsOpenIn Trailers n bytes) is cut) in
      short_trailers start got line bytes (here.all bytes) zero (subst (λ (n : ℕ). trailers_at n bytes ≡ Short) behind at)

-- the text is the line, and decides it
line_alone : (coded : ℕ) (text : List ℕ) → IsLineHere coded text → line_at coded text ≡ Whole text
line_alone coded text here = ap (line_at coded) (sym (append-nil text)) ∙ here.all []

-- a line that is none
pub line_bad : (coded got line : ℕ) (held : List ℕ) → line ≤ length held → IsLineHere coded (take line held)
    → IsNoLine (take line held) → ComesOut coded got (coded + line) (Broken BadLength) (take line held)
line_bad coded got line held within here none = record {
  decodes = bad_line coded got (take line held) (line_alone coded (take line held) here) none;
  total_is = omega (arith, length-take-le line held within);
}

-- where a chunk fits, so do both sums
pub fits_parts : (coded got line size : ℕ) → fits coded got line size ≡ true
    → (got + size ≤ body_limit) × (coded + line + size + 2 ≤ coding_limit)
fits_parts coded got line size fit =
    let parts = and_parts (nat_le (got + size) body_limit) (nat_le (coded + line + size + 2) coding_limit) fit in
    (leb-true (got + size) body_limit parts.0, leb-true (coded + line + size + 2) coding_limit parts.1)

-- The first bytes are a line of this size.
pub record Announces (coded line size : ℕ) (held : List ℕ) : Type 0 where
  pub within : line ≤ length held
  pub here : IsLineHere coded (take line held)
  pub is : IsSizeLine (take line held) size

module _ (at : Progress) (line size : ℕ) (held : List ℕ) (a : Announces at.coded line size held) (some : 0 < size) where
  fits_text : fits at.coded at.got (length (take line held)) size ≡ fits at.coded at.got line size
  fits_text = ap (λ n. fits at.coded at.got n size) (length-take-le line held a.within)

  -- a chunk that does not fit
  pub chunk_large : fits at.coded at.got line size ≡ false
      → ComesOut at.coded at.got (at.coded + line) (Broken BodyTooLarge) (take line held)
  chunk_large over = record {
    decodes = large at.coded at.got size (take line held) (line_alone at.coded (take line held) a.here) a.is some
        (fits_text ∙ over);
    total_is = omega (arith, length-take-le line held a.within);
  }

  module _ (fit : fits at.coded at.got line size ≡ true) where
    -- one whose content is cut short
    pub chunk_short : (bytes : List ℕ) → length bytes < size + 2
        → Decodes at.coded at.got (take line held ++ bytes) Unfinished
    chunk_short bytes few =
        short_chunk at.coded at.got size (take line held) bytes (a.here.all bytes) a.is some (fits_text ∙ fit) few

    -- one that CR LF follows
    pub chunk_whole : (next : Progress) (content body body' bytes : List ℕ) → length content ≡ size
        → next.coded ≡ at.coded + line + size + 2 → next.got ≡ at.got + size
        → take next.got body' ≡ take at.got body ++ content → IsContent content true bytes
        → IsChunk at next body body' (take line held ++ bytes)
    chunk_whole next content body body' bytes size_is coded_is got_is content_is came =
        let text = take line held in
        let wide : length text ≡ line = length-take-le line held a.within in
        let limit = fits_parts at.coded at.got line size fit in
        let end : came.end ≡ crlf_bytes = (bytes_eq-Decides came.end crlf_bytes).0 (sym came.is.whole_is) in
        let whole : bytes ≡ content ++ crlf_bytes = came.bytes_are ∙ ap (λ xs. content ++ xs) end in
        record {
          content = content;
          decodes = λ others outcome further.
              let parts : (text ++ bytes) ++ others ≡ text ++ (content ++ (crlf_bytes ++ others)) =
              ap (λ xs. (text ++ xs) ++ others) whole ∙ append_assoc text (content ++ crlf_bytes) others
              ∙ ap (λ xs. text ++ xs) (append_assoc content crlf_bytes others) in
              let coded : next.coded ≡ at.coded + length text + size + 2 =
              coded_is ∙ ap (λ n. at.coded + n + size + 2) (sym wide) in
              let first : Decodes (at.coded + length text + size + 2) next.got others outcome =
              subst (λ (n : ℕ). Decodes n next.got others outcome) coded further in
              let second : Decodes (at.coded + length text + size + 2) (at.got + size) others outcome =
              subst (λ (n : ℕ). Decodes (at.coded + length text + size + 2) n others outcome) got_is first in
              subst (λ (xs : List ℕ). Decodes at.coded at.got xs (behind content outcome)) (sym parts)
              (chunk at.coded at.got size text content others outcome (a.here.all (content ++ (crlf_bytes ++ others))) a.is some
              (fits_text ∙ fit) size_is second);
          content_is = content_is;
          further = omega (arith, coded_is);
          coded_is = omega (arith, coded_is, wide, size_is, ap length whole, length-append text bytes, length-append content crlf_bytes);
          limits = record { coded = omega (arith, coded_is, limit.1); got = omega (arith, got_is, limit.0) };
        }

    -- and one that other bytes follow
    pub chunk_bad : (content bytes : List ℕ) → length content ≡ size → IsContent content false bytes
        → ComesOut at.coded at.got (at.coded + line + size + 2) (Broken BadLength) (take line held ++ bytes)
    chunk_bad content bytes size_is came =
        let text = take line held in
        let other : came.end ≡ crlf_bytes → ⊥ = λ same.
        true≢false (sym (came.is.whole_is ∙ ap (λ xs. bytes_eq xs crlf_bytes) same)) in
        record {
          decodes = subst (λ (xs : List ℕ). Decodes at.coded at.got (text ++ xs) (Broken BadLength)) (sym came.bytes_are)
              (bad_end at.coded at.got size text content came.end (a.here.all (content ++ came.end)) a.is some
              (fits_text ∙ fit) size_is came.is.two other);
          total_is = omega (
            arith,
            length-take-le line held a.within,
            size_is,
            came.is.two,
            ap length came.bytes_are,
            length-append text bytes,
            length-append content came.end,
          );
        }

-- a content, and the two bytes behind it
pub content_behind : (content used : List ℕ) (whole : Bool) (bytes : List ℕ) → used ≡ content → IsLineEnd whole bytes
    → IsContent content whole (used ++ bytes)
content_behind content used whole bytes same is =
    record { end = bytes; bytes_are = ap (λ xs. xs ++ bytes) same; is = is }

pub content_short : (content used bytes : List ℕ) → used ≡ content → length bytes < 2
    → length (used ++ bytes) < length content + 2
content_short content used bytes same few = omega (arith, few, ap length same, length-append used bytes)

-- behind the last line
module _ (at : Progress) (line : ℕ) (held : List ℕ) (a : Announces at.coded line 0 held) where
  wide : at.coded + line ≡ at.coded + length (take line held)
  wide = ap (λ n. at.coded + n) (sym (length-take-le line held a.within))

  pub ending_short : (bytes : List ℕ) → EndsCoding (at.coded + line) bytes Unfinished
      → Decodes at.coded at.got (take line held ++ bytes) Unfinished
  ending_short bytes ends = ends at.coded at.got (take line held) a.here a.is wide

  ending_out : (total : ℕ) (outcome : Outcome) (bytes : List ℕ) → ConcludesSo (at.coded + line) total outcome bytes
      → ComesOut at.coded at.got total outcome (take line held ++ bytes)
  ending_out total outcome bytes so = record {
    decodes = so.ends at.coded at.got (take line held) a.here a.is wide;
    total_is = omega (arith, wide, so.total_is, length-append (take line held) bytes);
  }

  pub ending_part : (body : List ℕ) (part : Part) (bytes : List ℕ) → IsEnding (at.coded + line) part bytes
      → IsPart at body body part (take line held ++ bytes)
  ending_part body (part.Chunk next) bytes so = absurd so
  ending_part body (part.End total) bytes so = (ending_out total (Decoded []) bytes so, refl)
  ending_part body (part.Broken refused total) bytes so = ending_out total (Broken refused) bytes so
