-- The parts of a coding one after the other.
use Rattle.std.proofs.Common.{◌≡◌, ℕ, List, [], ◌++◌, length, take, refl, sym, ◌∙◌, ap, subst, inl, arith}
use Rattle.std.specs.Prelude.{Ok}
use Rattle.std.proofs.lemmas.List.{append_assoc, append-nil, length-append}
use Rattle.q_outside.specs.Ends.{End}
use Rattle.q_outside.proofs.Chain.{took_nothing}
use Rattle.http_message.specs.Coded.{IsCutShort, ComesOut, IsProgress, IsChunk}
use Rattle.http_message.specs.Coding.{Decodes, Outcome, Decoded, Broken, Unfinished, behind}
use Rattle.http_message.specs.Input.{Reads}
use Rattle.http_message.specs.declared.chunk.Progress.{Progress}
use Rattle.http_message.specs.declared.refusal.FramingRefusal.{FramingRefusal}

-- The bytes are the chunks so far, and what follows comes out behind their content.
pub record DecodesTo (body : List ℕ) (at : Progress) (bytes : List ℕ) : Type 0 where
  pub decodes : (rest : List ℕ) (outcome : Outcome) → Decodes at.coded at.got rest outcome
      → Decodes 0 0 (bytes ++ rest) (behind (take at.got body) outcome)
  pub limits : IsProgress at
  pub coded_is : at.coded ≡ length bytes

-- behind two contents, one after the other
pub behind_twice : (first second : List ℕ) (outcome : Outcome)
    → behind (first ++ second) outcome ≡ behind first (behind second outcome)
behind_twice first second (Decoded body) = ap Decoded (append_assoc first second body)
behind_twice first second (Broken refused) = refl
behind_twice first second Unfinished = refl

pub behind_none : (outcome : Outcome) → behind [] outcome ≡ outcome
behind_none (Decoded body) = refl
behind_none (Broken refused) = refl
behind_none Unfinished = refl

-- no chunk was taken
pub decoding_none : (source : End) (held body : List ℕ) (at : Progress) → at.coded ≡ 0 → at.got ≡ 0
    → Reads source source held held (IsCutShort 0 0) (DecodesTo body) (Ok at)
decoding_none source held body at coded got = record {
  got = [];
  took = took_nothing source;
  waits = inl (record { same = refl; none = refl });
  came = record {
    used = [];
    splits = append-nil held;
    says = record {
      decodes = λ rest outcome decodes.
          let first : Decodes 0 at.got rest outcome = subst (λ (n : ℕ). Decodes n at.got rest outcome) coded decodes in
          let second : Decodes 0 0 rest outcome = subst (λ (n : ℕ). Decodes 0 n rest outcome) got first in
          let content : take at.got body ≡ [] = ap (λ n. take n body) got in
          subst (λ (o : Outcome). Decodes 0 0 rest o)
          (sym (behind_none outcome) ∙ ap (λ xs. behind xs outcome) (sym content)) second;
      limits = record { coded = omega (arith, coded); got = omega (arith, got) };
      coded_is = coded;
    };
  };
}

-- what follows the chunks so far is cut short, and so is all
pub decoding_short : (body : List ℕ) (at : Progress) (used : List ℕ) → DecodesTo body at used → (bytes : List ℕ)
    → IsCutShort at.coded at.got bytes → IsCutShort 0 0 (used ++ bytes)
decoding_short body at used d bytes cut = d.decodes bytes Unfinished cut

-- one more chunk
pub decoding_more : (body body' : List ℕ) (at next : Progress) (used : List ℕ) → DecodesTo body at used → (bytes : List ℕ)
    → IsChunk at next body body' bytes → DecodesTo body' next (used ++ bytes)
decoding_more body body' at next used d bytes t = record {
  decodes = λ rest outcome decodes.
      let whole : used ++ (bytes ++ rest) ≡ (used ++ bytes) ++ rest = sym (append_assoc used bytes rest) in
      let same : behind (take at.got body) (behind t.content outcome) ≡ behind (take next.got body') outcome =
      sym (behind_twice (take at.got body) t.content outcome) ∙ ap (λ xs. behind xs outcome) (sym t.content_is) in
      let all : Decodes 0 0 ((used ++ bytes) ++ rest) (behind (take at.got body) (behind t.content outcome)) =
      subst (λ (xs : List ℕ). Decodes 0 0 xs (behind (take at.got body) (behind t.content outcome))) whole
      (d.decodes (bytes ++ rest) (behind t.content outcome) (t.decodes rest outcome decodes)) in
      subst (λ (o : Outcome). Decodes 0 0 ((used ++ bytes) ++ rest) o) same all;
  limits = t.limits;
  coded_is = omega (arith, d.coded_is, t.coded_is, length-append used bytes);
}

-- the last part
pub decoding_ends : (body : List ℕ) (at : Progress) (total : ℕ) (used : List ℕ) → DecodesTo body at used → (bytes : List ℕ)
    → ComesOut at.coded at.got total (Decoded []) bytes → ComesOut 0 0 total (Decoded (take at.got body)) (used ++ bytes)
decoding_ends body at total used d bytes t = record {
  decodes = subst (λ (xs : List ℕ). Decodes 0 0 (used ++ bytes) (Decoded xs)) (append-nil (take at.got body))
      (d.decodes bytes (Decoded []) t.decodes);
  total_is = omega (arith, t.total_is, d.coded_is, length-append used bytes);
}

-- a part that is refused
pub decoding_breaks : (body : List ℕ) (at : Progress) (total : ℕ) (refused : FramingRefusal) (used : List ℕ) → DecodesTo body at used
    → (bytes : List ℕ) → ComesOut at.coded at.got total (Broken refused) bytes → ComesOut 0 0 total (Broken refused) (used ++ bytes)
decoding_breaks body at total refused used d bytes t = record {
  decodes = d.decodes bytes (Broken refused) t.decodes;
  total_is = omega (arith, t.total_is, d.coded_is, length-append used bytes);
}
