-- Texts that a sink is given by way of a buffer.
use Rattle.std.proofs.Common.{◌≡◌, ℕ, List, [], ◌++◌, take, Result, Ok, Err, sym, ap, ◌∙◌, subst, append_assoc, append-nil}
use Rattle.q_outside.specs.Ends.{End, GaveBytes, GavePart, Gave}
use Rattle.q_outside.proofs.Chain.{gave_nothing, gave_both, part_behind}
use Rattle.http_front.specs.Buffered.{IsBuffered, Adds}
use Rattle.http_front.proofs.PieceLemmas.{gave_behind, part_of}

-- nothing of a text is given or waits yet
pub begins : (sink : End) (waiting text parts : List ℕ) → text ≡ parts → IsBuffered sink sink (waiting ++ text) waiting parts
begins sink waiting text parts is = record { given = []; gave = gave_nothing sink; text_is = ap (λ t. waiting ++ t) is }

-- all that is not given waits
pub all_waits : (before after : End) (given waiting text : List ℕ) → GaveBytes before after given → text ≡ given ++ waiting → IsBuffered before after text waiting []
all_waits before after given waiting text gave is =
    record { given = given; gave = gave; text_is = is ∙ ap (λ t. given ++ t) (sym (append-nil waiting)) }

module _ (first mid last : End) (text waiting : List ℕ) where
  -- a piece is added
  pub goes_on : (piece rest next : List ℕ) → IsBuffered first mid text waiting (piece ++ rest) → IsBuffered mid last (waiting ++ piece) next [] → IsBuffered first last text next rest
  goes_on piece rest next old new = record {
    given = old.given ++ new.given;
    gave = gave_both first mid last old.given new.given old.gave new.gave;
    text_is =
        old.text_is
        ∙ ap (λ t. old.given ++ t) (sym (append_assoc waiting piece rest) ∙ ap (λ t. t ++ rest) (new.text_is ∙ ap (λ t. new.given ++ t) (append-nil next)) ∙ append_assoc new.given next rest)
        ∙ sym (append_assoc old.given new.given (next ++ rest));
  }

  -- the last piece is added
  pub goes_to_end : (piece next : List ℕ) → IsBuffered first mid text waiting piece → IsBuffered mid last (waiting ++ piece) next [] → IsBuffered first last text next []
  goes_to_end piece next old new =
      goes_on piece [] next (subst (λ p. IsBuffered first mid text waiting p) (sym (append-nil piece)) old) new

  -- the sink failed inside what waited and a piece
  pub fails : (piece rest : List ℕ) → IsBuffered first mid text waiting (piece ++ rest) → GavePart mid last (waiting ++ piece) → GavePart first last text
  fails piece rest old part =
      let whole : (old.given ++ (waiting ++ piece)) ++ rest ≡ text =
      append_assoc old.given (waiting ++ piece) rest ∙ ap (λ t. old.given ++ t) (append_assoc waiting piece rest) ∙ sym old.text_is in
      subst (λ t. GavePart first last t) whole
      (part_of first last (old.given ++ (waiting ++ piece)) rest (part_behind first mid last old.given (waiting ++ piece) old.gave part))

  -- it failed inside the last piece
  pub fails_at_end : (piece : List ℕ) → IsBuffered first mid text waiting piece → GavePart mid last (waiting ++ piece) → GavePart first last text
  fails_at_end piece old part = fails piece [] (subst (λ p. IsBuffered first mid text waiting p) (sym (append-nil piece)) old) part

  -- what waits at the end is given, or the sink fails inside it
  pub gave_rest : {T E : Type 0} (result : Result T E) → IsBuffered first mid text waiting [] → Gave mid last waiting result → Gave first last text result
  gave_rest result old gave =
      subst (λ t. Gave first last t result) (sym (old.text_is ∙ ap (λ t. old.given ++ t) (append-nil waiting)))
      (gave_behind first mid last old.given waiting result old.gave gave)

-- the last piece of a text is added, or the sink failed inside it
pub adds_last : {E : Type 0} (first mid last : End) (start text waiting piece buffer : List ℕ) (result : Result ℕ E) → IsBuffered first mid (start ++ text) waiting piece
    → Adds mid last waiting piece buffer result → Adds first last start text buffer result
adds_last first mid last start text waiting piece buffer (Ok end) old new =
    (new.0, goes_to_end first mid last (start ++ text) waiting piece (take end buffer) old new.1)
adds_last first mid last start text waiting piece buffer (Err failed) old new =
    fails_at_end first mid last (start ++ text) waiting piece old new
