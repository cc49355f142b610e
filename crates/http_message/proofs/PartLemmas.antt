-- What the calls did that take a body and the parts of a coding.
use Rattle.std.proofs.Common.{◌≡◌, ℕ, ◌+◌, ◌<◌, ◌≤◌, Bool, true, false, List, [], ◌++◌, length, take, drop, sym, subst, arith}
use Rattle.std.specs.Prelude.{Result, Ok, Err}
use Rattle.std.specs.Str.{bytes_eq}
use Rattle.std.proofs.lemmas.List.{length-take-le}
use Rattle.httparse.specs.Ascii.{crlf_bytes}
use Rattle.q_outside.specs.Ends.{End}
use Rattle.http_message.specs.Bodied.{IsBody}
use Rattle.http_message.specs.Coded.{IsCutShort, IsCoded, IsPart, IsLineEnd, IsContent, EndsCoding, IsEnding}
use Rattle.http_message.specs.Coding.{Unfinished, capacity_behind, overlong_at, fits}
use Rattle.http_message.specs.Input.{NoMoreBytes, Grows, Reads}
use Rattle.http_message.specs.Item.{IsCut, chunked}
use Rattle.http_message.specs.Limits.{body_limit}
use Rattle.http_message.specs.Line.{Overruns, IsOpenIn}
use Rattle.http_message.specs.declared.chunk.Part.{Part}
use Rattle.http_message.specs.declared.chunk.Part.TheVariants as part
use Rattle.http_message.specs.declared.chunk.Progress.{Progress}
use Rattle.http_message.specs.declared.coding.Coded.{Coded}
use Rattle.http_message.specs.declared.coding.Coded.TheVariants as coded
use Rattle.http_message.specs.declared.framing.Framing.TheVariants.{Sized, Chunked}
use Rattle.http_message.specs.declared.line.Sought.TheVariants.{Line}
use Rattle.http_message.specs.declared.refusal.FramingRefusal.{FramingRefusal}
use Rattle.http_message.specs.declared.refusal.FramingRefusal.TheVariants.{BadLength}
use Rattle.http_message.specs.declared.incomplete.Incomplete.{Incomplete}
use Rattle.http_message.proofs.ChunkLemmas.{Announces, chunk_short, chunk_whole, chunk_bad, content_behind, content_short, line_overlong, line_short, ending_short, ending_part}
use Rattle.http_message.proofs.InputLemmas.{Behind, behind_read, behind_grown, behind_held, behind_ok, behind_stop, reads_behind, reads_as, reads_stop, reads_grown, reads_short}
use Rattle.http_message.proofs.StepLemmas.{DecodesTo, decoding_short, decoding_more, decoding_ends, decoding_breaks}
use Rattle.http_message.proofs.TakenLemmas.{body_sized, cut_sized, body_coded}

-- two bytes that came
pub line_end_reads : (source last : End) (held grown rest : List ℕ) (whole : Bool)
    → Grows source last (λ bytes. length bytes < 2) held grown → rest ≡ drop 2 grown → 2 ≤ length grown
    → whole ≡ bytes_eq (take 2 grown) crlf_bytes
    → Reads source last held rest (λ bytes. length bytes < 2) IsLineEnd (Ok whole)
line_end_reads source last held grown rest whole grows skipped two is =
    reads_grown (λ bytes. length bytes < 2) grows (λ bytes few. few) rest 2 IsLineEnd whole skipped
    (record { two = length-take-le 2 grown two; whole_is = is })

-- a content, and two bytes behind it
pub content_reads : {T : Type 0} (source middle last : End) (held rest held' into : List ℕ) (filled : T) (result : Result Bool Incomplete)
    → Reads source middle held rest (λ bytes. length bytes < length into) (λ (_ : T) used. used ≡ into) (Ok filled)
    → Reads middle last rest held' (λ bytes. length bytes < 2) IsLineEnd result
    → Reads source last held held' (λ bytes. length bytes < length into + 2) (IsContent into) result
content_reads {T} source middle last held rest held' into filled result first second =
    let used = first.came.used in
    reads_behind
    (behind_read source middle last held rest (λ bytes. length bytes < length into) (λ (_ : T) xs. xs ≡ into)
    (λ bytes. length bytes < 2) (λ bytes. length bytes < length into + 2) filled first
    (λ bytes few. omega (arith, few)) (λ bytes few. content_short into used bytes first.came.says few))
    held' IsLineEnd (IsContent into) result
    (λ whole bytes is. content_behind into used whole bytes first.came.says is) second

-- a chunk whose line was taken
module _ (source last : End) (held rest held' content body body' : List ℕ) (at : Progress) (line size : ℕ)
    (a : Announces at.coded line size held) (some : 0 < size) (fit : fits at.coded at.got line size ≡ true)
    (skipped : rest ≡ drop line held) (size_is : length content ≡ size) where
  chunk_behind : Behind source source last held rest [] (take line held) (λ _. ⊥) (λ bytes. length bytes < length content + 2)
      (IsCutShort at.coded at.got)
  chunk_behind =
      behind_held source last held rest line (λ bytes. length bytes < length content + 2) (IsCutShort at.coded at.got) skipped
      (λ bytes few. chunk_short at line size held a some fit bytes (omega (arith, few, size_is)))

  pub chunk_stops : (rest' : List ℕ) (incomplete : Incomplete)
      → Reads source last rest held' (λ bytes. length bytes < length content + 2) (IsContent content) (Err incomplete)
      → Reads source last held rest' (IsCutShort at.coded at.got) (IsPart at body body') (Err incomplete)
  chunk_stops rest' incomplete = behind_stop chunk_behind held' rest' (IsContent content) (IsPart at body body') incomplete

  pub chunk_taken : (next : Progress) → next.coded ≡ at.coded + line + size + 2 → next.got ≡ at.got + size
      → take next.got body' ≡ take at.got body ++ content
      → Reads source last rest held' (λ bytes. length bytes < length content + 2) (IsContent content) (Ok true)
      → Reads source last held held' (IsCutShort at.coded at.got) (IsPart at body body') (Ok (part.Chunk next))
  chunk_taken next coded_is got_is content_is =
      behind_ok chunk_behind held' (IsContent content) (IsPart at body body') true (part.Chunk next)
      (λ bytes came. chunk_whole at line size held a some fit next content body body' bytes size_is coded_is got_is content_is came)

  pub chunk_refused : Reads source last rest held' (λ bytes. length bytes < length content + 2) (IsContent content) (Ok false)
      → Reads source last held held' (IsCutShort at.coded at.got) (IsPart at body body')
      (Ok (part.Broken BadLength (at.coded + line + size + 2)))
  chunk_refused =
      behind_ok chunk_behind held' (IsContent content) (IsPart at body body') false
      (part.Broken BadLength (at.coded + line + size + 2))
      (λ bytes came. chunk_bad at line size held a some fit content bytes size_is came)

-- the last line was taken
pub ending_reads : (source last : End) (held rest held' body : List ℕ) (at : Progress) (line : ℕ) (result : Result Part Incomplete)
    → Announces at.coded line 0 held → rest ≡ drop line held
    → Reads source last rest held' (λ bytes. EndsCoding (at.coded + line) bytes Unfinished) (IsEnding (at.coded + line)) result
    → Reads source last held held' (IsCutShort at.coded at.got) (IsPart at body body) result
ending_reads source last held rest held' body at line result a skipped second =
    reads_behind
    (behind_held source last held rest line (λ bytes. EndsCoding (at.coded + line) bytes Unfinished) (IsCutShort at.coded at.got)
    skipped (ending_short at line held a))
    held' (IsEnding (at.coded + line)) (IsPart at body body) result (ending_part at line held a body) second

-- a part whose line was looked for
module _ (source middle : End) (held grown : List ℕ) (at : Progress) (most : ℕ) (is : most ≡ capacity_behind at.coded)
    (grows : Grows source middle (IsOpenIn Line most) held grown) where
  pub part_reads : (last : End) (held' body body' : List ℕ) (result : Result Part Incomplete)
      → Reads middle last grown held' (IsCutShort at.coded at.got) (IsPart at body body') result
      → Reads source last held held' (IsCutShort at.coded at.got) (IsPart at body body') result
  part_reads last held' body body' result =
      reads_behind
      (behind_grown (IsCutShort at.coded at.got) grows (line_short at.coded most is at.got) last (IsCutShort at.coded at.got)
      (λ bytes cut. cut))
      held' (IsPart at body body') (IsPart at body body') result (λ reply bytes came. came)

  pub part_overlong : (rest body body' : List ℕ) → Overruns Line most grown → rest ≡ drop most grown
      → Reads source middle held rest (IsCutShort at.coded at.got) (IsPart at body body')
      (Ok (part.Broken (overlong_at at.coded) (at.coded + most)))
  part_overlong rest body body' over skipped =
      reads_grown (IsCutShort at.coded at.got) grows (line_short at.coded most is at.got) rest most (IsPart at body body')
      (part.Broken (overlong_at at.coded) (at.coded + most)) skipped (line_overlong at.coded most is at.got grown over)

  pub part_stops : (rest body body' : List ℕ) (incomplete : Incomplete) → IsOpenIn Line most grown × NoMoreBytes source middle incomplete
      → Reads source middle held rest (IsCutShort at.coded at.got) (IsPart at body body') (Err incomplete)
  part_stops rest body body' incomplete =
      reads_short (IsCutShort at.coded at.got) grows (line_short at.coded most is at.got) rest (IsPart at body body') incomplete

-- a part behind the chunks so far
module _ (source middle last : End) (held grown held' body body' : List ℕ) (at : Progress)
    (d : Reads source middle held grown (IsCutShort 0 0) (DecodesTo body) (Ok at)) where
  chunks_behind : Behind source middle last held grown d.got d.came.used (IsCutShort 0 0) (IsCutShort at.coded at.got) (IsCutShort 0 0)
  chunks_behind =
      behind_read source middle last held grown (IsCutShort 0 0) (DecodesTo body) (IsCutShort at.coded at.got) (IsCutShort 0 0) at d
      (λ bytes cut. cut) (decoding_short body at d.came.used d.came.says)

  pub coding_more : (next : Progress)
      → Reads middle last grown held' (IsCutShort at.coded at.got) (IsPart at body body') (Ok (part.Chunk next))
      → Reads source last held held' (IsCutShort 0 0) (DecodesTo body') (Ok next)
  coding_more next =
      behind_ok chunks_behind held' (IsPart at body body') (DecodesTo body') (part.Chunk next) next
      (λ bytes came. decoding_more body body' at next d.came.used d.came.says bytes came)

  pub coding_ends : (total : ℕ)
      → Reads middle last grown held' (IsCutShort at.coded at.got) (IsPart at body body') (Ok (part.End total))
      → Reads source last held held' (IsCutShort 0 0) (IsCoded body') (Ok (coded.Whole at.got total))
  coding_ends total =
      behind_ok chunks_behind held' (IsPart at body body') (IsCoded body') (part.End total) (coded.Whole at.got total)
      (λ bytes came.
      let P : List ℕ → Type 0 = λ xs. IsCoded xs (coded.Whole at.got total) (d.came.used ++ bytes) in
      subst P (sym came.1)
      (d.came.says.limits.got, decoding_ends body at total d.came.used d.came.says bytes came.0))

  pub coding_breaks : (refused : FramingRefusal) (total : ℕ)
      → Reads middle last grown held' (IsCutShort at.coded at.got) (IsPart at body body') (Ok (part.Broken refused total))
      → Reads source last held held' (IsCutShort 0 0) (IsCoded body') (Ok (coded.Broken refused total))
  coding_breaks refused total =
      behind_ok chunks_behind held' (IsPart at body body') (IsCoded body') (part.Broken refused total) (coded.Broken refused total)
      (λ bytes came. decoding_breaks body at total refused d.came.used d.came.says bytes came)

  pub coding_stops : (rest' : List ℕ) (incomplete : Incomplete)
      → Reads middle last grown held' (IsCutShort at.coded at.got) (IsPart at body body') (Err incomplete)
      → Reads source last held rest' (IsCutShort 0 0) (IsCoded body') (Err incomplete)
  coding_stops rest' incomplete = behind_stop chunks_behind held' rest' (IsPart at body body') (IsCoded body') incomplete

-- a body of a stated length
module _ {T : Type 0} (source last : End) (held held' into behind : List ℕ) (size : ℕ) (long : length into ≡ size) where
  pub sized_reads : (filled : T) → size ≤ body_limit
      → Reads source last held held' (λ bytes. length bytes < length into) (λ (_ : T) used. used ≡ into) (Ok filled)
      → Reads source last held held' (IsCut (Sized size)) (IsBody (Sized size) (into ++ behind)) (Ok (coded.Whole size size))
  sized_reads filled small first =
      reads_as (IsCut (Sized size)) (IsBody (Sized size) (into ++ behind)) (cut_sized size (length into) long)
      (coded.Whole size size) first (λ bytes same. body_sized into behind bytes size long small same)

  pub sized_stops : (rest' : List ℕ) (incomplete : Incomplete)
      → Reads source last held held' (λ bytes. length bytes < length into) (λ (_ : T) used. used ≡ into) (Err incomplete)
      → Reads source last held rest' (IsCut (Sized size)) (IsBody (Sized size) (into ++ behind)) (Err incomplete)
  sized_stops rest' incomplete first =
      reads_stop (IsCut (Sized size)) (IsBody (Sized size) (into ++ behind)) (cut_sized size (length into) long) rest' first

-- and a chunked one
pub coded_reads : (source last : End) (held held' body : List ℕ) (result : Result Coded Incomplete) → length body ≡ body_limit
    → Reads source last held held' (IsCutShort 0 0) (IsCoded body) result
    → Reads source last held held' (IsCut Chunked) (IsBody Chunked body) result
coded_reads source last held held' body (Ok answer) long r =
    reads_as (IsCut Chunked) (IsBody Chunked body) (λ (bytes : List ℕ) (cut : IsCutShort 0 0 bytes). chunked bytes cut) answer r (body_coded body long answer)
coded_reads source last held held' body (Err incomplete) long r =
    reads_stop (IsCut Chunked) (IsBody Chunked body) (λ (bytes : List ℕ) (cut : IsCutShort 0 0 bytes). chunked bytes cut) held' r
