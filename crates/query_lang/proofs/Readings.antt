-- What is read well is a list of tokens of the grammar, said once of filters and of orders.
use Rattle.std.proofs.Common.{◌≡◌, ℕ, suc, ◌-◌, ◌<◌, nat_lt, List, [], ◌∷◌, length, Option, Some, None, Result, Ok, Err, refl, sym, ap, ◌∙◌, subst, inl, inr, arith, ltb-true, if◌then◌else◌}
use Rattle.query_lang.specs.declared.refusal.Cause.{Cause}
use Rattle.query_lang.specs.declared.refusal.Cause.TheVariants as cause
use Rattle.query_lang.specs.FilterReading.{segment_of}
use Rattle.query_lang.specs.FilterText.{IsWhole}
use Rattle.query_lang.specs.Grammar.{Segment, bare, in_quotes, segment_token, segment_key}
use Rattle.query_lang.specs.Reading.{Tokens, done, next, tokens, Rules, run, after_token}
use Rattle.query_lang.specs.Refusals.{refused}
use Rattle.query_lang.specs.Spelling.{Tokenizes}
use Rattle.query_lang.specs.Tokens.{Token, name, quoted, bad_number}
use Rattle.query_lang.proofs.Runs.{outcome_of}
use Rattle.query_lang.proofs.TextReading.{Reads, NoBad, spelled_read, read_spelled}
use Rattle.query_lang.proofs.Utf8Lemmas.{tested}

-- a refusal at a token is of no whole answer
pub refusal_not_whole : (A : Type 0) (field place : ℕ) (e : Cause) → IsWhole {A = A} (Err (refused field place e)) → ⊥
refusal_not_whole A field place cause.Syntax good = good
refusal_not_whole A field place e good = good

-- ---- a token that is taken

-- what is below its limit is taken
pub below_limit : {S : Type 0} (n m : ℕ) (x after : S) (e : Cause) → (if nat_lt n m then Ok x else Err e) ≡ Ok after → (n < m) × ◌≡◌ {A = Result S Cause} (Ok x) (Ok after)
below_limit {S} n m x after e is =
    elim (tested (nat_lt n m)) [
      | inl below ↦ (let taken : ◌≡◌ {A = Result S Cause} (Ok x) (Ok after) = rw below at is in (ltb-true n m below, taken))
      | inr full ↦ (let no = rw full at is in cc)
    ]

-- a token that is taken as a segment is one, below the limit
pub segment_taken : {S : Type 0} (takes : Option (List ℕ) → Result S Cause) (n m : ℕ) (with_key : List ℕ → S) (e above : Cause)
    → takes None ≡ Err e → ((k : List ℕ) → takes (Some k) ≡ (if nat_lt n m then Ok (with_key k) else Err above)) → (t : Token) (after : S) → takes (segment_of t) ≡ Ok after
    → (seg : Segment) × (segment_token seg ≡ t) × (n < m) × ◌≡◌ {A = Result S Cause} (Ok (with_key (segment_key seg))) (Ok after)
segment_taken takes n m with_key e above no_key some_key (name k) after is =
    let (below, same) = below_limit n m (with_key k) after above (sym (some_key k) ∙ is) in (bare k, refl, below, same)
segment_taken takes n m with_key e above no_key some_key (quoted k) after is =
    let (below, same) = below_limit n m (with_key k) after above (sym (some_key k) ∙ is) in (in_quotes k, refl, below, same)
segment_taken takes n m with_key e above no_key some_key t after is = (let no = sym no_key ∙ is in cc)

-- What was read together with a token is the beginning of something again, whose tokens are those that were read.
pub record Follows {C S : Type 0} (Stands : C → S → Type 0) (before : C → List Token → List Token) (c : C) (t : Token) (s : S) : Type 0 where
  pub shadow : C
  pub stands : Stands shadow s
  pub same : (rest : List Token) → before shadow rest ≡ before c (t ∷ rest)

-- the state that an `Ok` holds
pub taken : {C S : Type 0} {Stands : C → S → Type 0} {before : C → List Token → List Token} {c : C} {t : Token} {x s : S}
    → ◌≡◌ {A = Result S Cause} (Ok x) (Ok s) → Follows Stands before c t x → Follows Stands before c t s
taken {Stands} {before} {c} {t} {x} {s} e follows = let same : x ≡ s = cc in subst (Follows Stands before c t) same follows

-- ---- lists of tokens and texts

module _ {S A : Type 0} (rules : Rules S A) (alike : (m n : ℕ) (s : S) → IsWhole (rules.ends m s) → rules.ends n s ≡ rules.ends m s) where
  -- tokens that are read well as a list are read well in their text
  list_run : (total : ℕ) (toks : Tokens) (ts : List Token) (s : S) → Reads toks ts → IsWhole (outcome_of rules s ts) → run rules total s toks ≡ outcome_of rules s ts
  list_run total done [] s reads good = alike 0 total s good
  list_run total (next left t more) (u ∷ us) s reads good =
      subst (λ v. IsWhole (outcome_of rules s (v ∷ us)) → run rules total s (next left t more) ≡ outcome_of rules s (v ∷ us)) reads.0
      (λ whole. after (rules.takes s t) whole (λ x. list_run total more us x reads.1)) good
    where
      after : (r : Result S Cause) → IsWhole (after_token (λ x. outcome_of rules x us) rules.field 0 r) → ((x : S) → IsWhole (outcome_of rules x us) → run rules total x more ≡ outcome_of rules x us)
          → after_token (λ x. run rules total x more) rules.field (total - left) r ≡ after_token (λ x. outcome_of rules x us) rules.field 0 r
      after (Ok x) whole again = again x whole
      after (Err e) whole again = absurd (refusal_not_whole A rules.field 0 e whole)
  list_run total toks ts s reads good = absurd reads

  -- a text of these tokens is read as they are
  pub written_read : (bytes : List ℕ) (ts : List Token) (s : S) → Tokenizes bytes ts → IsWhole (outcome_of rules s ts) → run rules (length bytes) s (tokens bytes) ≡ outcome_of rules s ts
  unfolding tokens
  written_read bytes ts s text good = list_run (length bytes) (tokens bytes) ts s (spelled_read ts (suc (length bytes)) bytes text (omega arith)) good

  module _ (no_bad : (s after : S) → rules.takes s bad_number ≡ Ok after → ⊥) where
    -- a text that is read well has its list of tokens, and no refused number
    run_list : (total : ℕ) (toks : Tokens) (s : S) → IsWhole (run rules total s toks) → (ts : List Token) × Reads toks ts × NoBad ts × (outcome_of rules s ts ≡ run rules total s toks)
    run_list total done s good = ([], tt, tt, alike total 0 s good)
    run_list total (next left t more) s good = after (rules.takes s t) refl good (λ x whole. run_list total more x whole) where
      after : (r : Result S Cause) → rules.takes s t ≡ r → IsWhole (after_token (λ x. run rules total x more) rules.field (total - left) r)
          → ((x : S) → IsWhole (run rules total x more) → (us : List Token) × Reads more us × NoBad us × (outcome_of rules x us ≡ run rules total x more))
          → (ts : List Token) × Reads (next left t more) ts × NoBad ts × (outcome_of rules s ts ≡ run rules total s (next left t more))
      after (Ok x) is whole again =
          let (us, reads, good_us, same) = again x whole in (
            t ∷ us,
            (refl, reads),
            ((λ b. no_bad s x (subst (λ v. rules.takes s v ≡ Ok x) b is)), good_us),
            ap (after_token (λ y. outcome_of rules y us) rules.field 0) is ∙ same ∙ sym (ap (after_token (λ y. run rules total y more) rules.field (total - left)) is),
          )
      after (Err e) is whole again = absurd (refusal_not_whole A rules.field (total - left) e whole)
    run_list total toks s good = absurd good

    pub read_written : (bytes : List ℕ) (s : S) → IsWhole (run rules (length bytes) s (tokens bytes)) → (ts : List Token) × Tokenizes bytes ts × (outcome_of rules s ts ≡ run rules (length bytes) s (tokens bytes))
    unfolding tokens
    read_written bytes s good =
        let (ts, reads, good_ts, same) = run_list (length bytes) (tokens bytes) s good in
        (ts, read_spelled (suc (length bytes)) bytes ts (omega arith) reads good_ts, same)

-- what is read well after what was read is the rest of something whole
module _ {C S A : Type 0} (rules : Rules S A) (Stands : C → S → Type 0) (before : C → List Token → List Token) (Has : List Token → Type 0)
    (ends : (c : C) (s : S) → Stands c s → IsWhole (rules.ends 0 s) → Has (before c []))
    (follows : (c : C) (s : S) (t : Token) (after : S) → Stands c s → rules.takes s t ≡ Ok after → Follows Stands before c t after) where
  pub outcome_has : (ts : List Token) (c : C) (s : S) → Stands c s → IsWhole (outcome_of rules s ts) → Has (before c ts)
  outcome_has [] c s stands good = ends c s stands good
  outcome_has (t ∷ ts) c s stands good = after (rules.takes s t) refl good (outcome_has ts) where
    after : (r : Result S Cause) → rules.takes s t ≡ r → IsWhole (after_token (λ x. outcome_of rules x ts) rules.field 0 r)
        → ((d : C) (x : S) → Stands d x → IsWhole (outcome_of rules x ts) → Has (before d ts)) → Has (before c (t ∷ ts))
    after (Ok x) is whole again = let f = follows c s t x stands is in subst Has (f.same ts) (again f.shadow x f.stands whole)
    after (Err e) is whole again = absurd (refusal_not_whole A rules.field 0 e whole)
