-- Ranges of a buffer, and what several calls do with the bytes that are held and those of a source.
use Rattle.std.proofs.Common.{◌≡◌, ◌⊎◌, ℕ, ◌+◌, ◌-◌, ◌≤◌, List, [], ◌++◌, length, take, drop, refl, sym, ◌∙◌, ap, subst, inl, inr, arith}
use Rattle.std.specs.Prelude.{Result, Ok, Err}
use Rattle.std.proofs.Math.Seq.{take-add}
use Rattle.std.proofs.lemmas.List.{append_assoc, append-nil, drop-append-le, drop-drop, length-drop, length-take, length-take-le, take-append-drop}
use Rattle.std.proofs.lemmas.Slice.{between_is}
use Rattle.std.specs.List.{slice_range}
use Rattle.q_outside.specs.Ends.{End, TookBytes}
use Rattle.q_outside.proofs.Chain.{took_nothing, took_both}
use Rattle.http_message.specs.Input.{NoMoreBytes, IsIdle, Grows, Adds, AddsNone, Reads}
use Rattle.http_message.specs.declared.incomplete.Incomplete.{Incomplete}
use Rattle.http_message.specs.declared.incomplete.Incomplete.TheVariants.{InputEnd, Truncated, ReadFault, WriteFault}

-- the first bytes of a range are dropped
pub range_skip : (bytes : List ℕ) (i j k : ℕ) → slice_range bytes (i + k) j ≡ drop k (slice_range bytes i j)
range_skip bytes i j k =
    between_is bytes (i + k) j ∙ sym (drop-drop k i (take j bytes)) ∙ ap (drop k) (sym (between_is bytes i j))

-- a range with the bytes behind it
pub range_more : (before after : List ℕ) (i j n : ℕ) → i ≤ j → j ≤ length after → take j after ≡ take j before
    → slice_range after i (j + n) ≡ slice_range before i j ++ slice_range after j (j + n)
range_more before after i j n ordered within same_before =
    let first : drop i (take j after) ≡ slice_range before i j = ap (drop i) same_before ∙ sym (between_is before i j) in
    let rest : take n (drop j after) ≡ slice_range after j (j + n) =
    let e : n ≡ j + n - j = omega arith in ap (λ m. take m (drop j after)) e in
    between_is after i (j + n) ∙ ap (drop i) (take-add j n after)
    ∙ drop-append-le i (take j after) (take n (drop j after)) (omega (arith, length-take j after))
    ∙ ap (λ xs. xs ++ take n (drop j after)) first
    ∙ ap (λ xs. slice_range before i j ++ xs) rest

-- a range that a write behind it leaves
pub range_same : (before after : List ℕ) (i j : ℕ) → take j after ≡ take j before
    → slice_range after i j ≡ slice_range before i j
range_same before after i j same_before = between_is after i j ∙ ap (drop i) same_before ∙ sym (between_is before i j)

-- a range within the bytes has as many as it says
pub range_size : (bytes : List ℕ) (i n : ℕ) → i + n ≤ length bytes → length (slice_range bytes i (i + n)) ≡ n
range_size bytes i n within =
    omega (
      arith,
      ap length (between_is bytes i (i + n)),
      length-drop i (take (i + n) bytes),
      length-take-le (i + n) bytes within,
    )

-- why a later call got no more bytes is why both did
pub incomplete_later : (first middle last : End) (incomplete : Incomplete) → first.faults ≤ middle.faults
    → NoMoreBytes middle last incomplete → NoMoreBytes first last incomplete
incomplete_later first middle last InputEnd count is = is
incomplete_later first middle last Truncated count is = is
incomplete_later first middle last ReadFault count is = omega (arith, count, is)
incomplete_later first middle last WriteFault count is = is

-- a source from which nothing was taken, and then nothing again
pub idle_both : (first middle last : End) (xs ys : List ℕ) → IsIdle first middle xs → IsIdle middle last ys
    → IsIdle first last (xs ++ ys)
idle_both first middle last xs ys a b = record {
  same = b.same ∙ a.same;
  none = ap (λ zs. zs ++ ys) a.none ∙ b.none;
}

module _ (short : List ℕ → Type 0) where
  -- no byte came yet
  pub grows_none : (source : End) (held : List ℕ) → Grows source source short held held
  grows_none source held = record {
    got = [];
    took = took_nothing source;
    adds = sym (append-nil held);
    waits = inl (record { same = refl; none = refl });
  }

  -- one call more, of bytes that are short
  waits_on : (first middle : End) (xs ys : List ℕ) (g : Grows first middle short xs ys) → short ys → short xs
  waits_on first middle xs ys g cut =
      elim g.waits [
        | inl idle ↦ subst short (g.adds ∙ ap (λ zs. xs ++ zs) idle.none ∙ append-nil xs) cut
        | inr cut ↦ cut
      ]

  pub grows_more : (first middle last : End) (xs ys zs : List ℕ) → Grows first middle short xs ys → short ys
      → Adds middle last ys zs → Grows first last short xs zs
  grows_more first middle last xs ys zs a cut b = record {
    got = a.got ++ b.got;
    took = took_both first middle last a.got b.got a.took b.took;
    adds = b.adds ∙ ap (λ bytes. bytes ++ b.got) a.adds ∙ append_assoc xs a.got b.got;
    waits = inr (waits_on first middle xs ys a cut);
  }

  -- and one that brought none
  pub grows_stop : (first middle last : End) (xs ys zs : List ℕ) (incomplete : Incomplete) → Grows first middle short xs ys → short ys
      → AddsNone middle last ys zs incomplete → Grows first last short xs zs
  grows_stop first middle last xs ys zs incomplete a cut b = record {
    got = a.got ++ [];
    took = took_both first middle last a.got [] a.took b.took;
    adds = b.same ∙ a.adds ∙ ap (λ bytes. xs ++ bytes) (sym (append-nil a.got));
    waits = inr (waits_on first middle xs ys a cut);
  }

  -- why it brought none
  pub stop_is : (first middle last : End) (xs ys zs : List ℕ) (incomplete : Incomplete) → Grows first middle short xs ys
      → AddsNone middle last ys zs incomplete → short ys → short zs × NoMoreBytes first last incomplete
  stop_is first middle last xs ys zs incomplete a b cut =
      (subst short (sym b.same) cut, incomplete_later first middle last incomplete a.took.count b.is)

-- What a call did may be said otherwise.
module _ {T U : Type 0} {source last : End} {held rest : List ℕ} {short : List ℕ → Type 0} {is : T → List ℕ → Type 0}
    (others : List ℕ → Type 0) (later : U → List ℕ → Type 0) (cut : (bytes : List ℕ) → short bytes → others bytes) where
  pub reads_as : {reply : T} (answer : U) → Reads source last held rest short is (Ok reply)
      → ((bytes : List ℕ) → is reply bytes → later answer bytes) → Reads source last held rest others later (Ok answer)
  reads_as answer r fine = record {
    got = r.got;
    took = r.took;
    waits = elim r.waits [ inl idle ↦ inl idle | inr few ↦ inr (cut held few) ];
    came = record { used = r.came.used; splits = r.came.splits; says = fine r.came.used r.came.says };
  }

  -- and why it got no more
  pub reads_stop : {incomplete : Incomplete} (rest' : List ℕ) → Reads source last held rest short is (Err incomplete)
      → Reads source last held rest' others later (Err incomplete)
  reads_stop rest' r = record {
    got = r.got;
    took = r.took;
    waits = elim r.waits [ inl idle ↦ inl idle | inr few ↦ inr (cut held few) ];
    came = (cut (held ++ r.got) r.came.0, r.came.1);
  }

-- A call that used bytes, and a second one that is made behind them.
pub record Behind
    (source middle last : End) (held rest got used : List ℕ) (short behind others : List ℕ → Type 0) : Type 0 where
  pub took : TookBytes source middle got
  pub waits : IsIdle source middle got ⊎ short held
  pub splits : held ++ got ≡ used ++ rest
  pub cut : (bytes : List ℕ) → short bytes → others bytes
  pub cut_behind : (bytes : List ℕ) → behind bytes → others (used ++ bytes)

module _ {source middle last : End} {held rest got used : List ℕ} {short behind others : List ℕ → Type 0}
    (first : Behind source middle last held rest got used short behind others) where
  -- all the bytes
  behind_all : (more : List ℕ) → used ++ (rest ++ more) ≡ held ++ (got ++ more)
  behind_all more =
      sym (append_assoc used rest more) ∙ ap (λ bytes. bytes ++ more) (sym first.splits) ∙ append_assoc held got more

  -- both took nothing, or the bytes that are held are short
  behind_waits : (more : List ℕ) → IsIdle middle last more ⊎ behind rest → IsIdle source last (got ++ more) ⊎ others held
  behind_waits more second =
      elim first.waits [
        | inr few ↦ inr (first.cut held few)
        | inl idle ↦
            elim second [
              | inl still ↦ inl (idle_both source middle last got more idle still)
              | inr few ↦
                  inr (subst others (sym first.splits ∙ ap (λ bytes. held ++ bytes) idle.none ∙ append-nil held)
                  (first.cut_behind rest few))
            ]
      ]

  -- what the second answered is what both answer
  pub behind_ok : {T U : Type 0} (held' : List ℕ) (after : T → List ℕ → Type 0) (later : U → List ℕ → Type 0) (reply : T) (answer : U)
      → ((bytes : List ℕ) → after reply bytes → later answer (used ++ bytes))
      → Reads middle last rest held' behind after (Ok reply) → Reads source last held held' others later (Ok answer)
  behind_ok held' after later reply answer fine second = record {
    got = got ++ second.got;
    took = took_both source middle last got second.got first.took second.took;
    waits = behind_waits second.got second.waits;
    came = record {
      used = used ++ second.came.used;
      splits = sym (behind_all second.got) ∙ ap (λ bytes. used ++ bytes) second.came.splits
          ∙ sym (append_assoc used second.came.used held');
      says = fine second.came.used second.came.says;
    };
  }

  -- and why it got no more is why both did
  pub behind_stop : {T U : Type 0} (held' rest' : List ℕ) (after : T → List ℕ → Type 0) (later : U → List ℕ → Type 0) (incomplete : Incomplete)
      → Reads middle last rest held' behind after (Err incomplete) → Reads source last held rest' others later (Err incomplete)
  behind_stop held' rest' after later incomplete second = record {
    got = got ++ second.got;
    took = took_both source middle last got second.got first.took second.took;
    waits = behind_waits second.got second.waits;
    came = (
      subst others (behind_all second.got) (first.cut_behind (rest ++ second.got) second.came.0),
      incomplete_later source middle last incomplete first.took.count second.came.1,
    );
  }

  -- by the answer
  pub reads_behind : {T : Type 0} (held' : List ℕ) (after later : T → List ℕ → Type 0) (result : Result T Incomplete)
      → ((reply : T) (bytes : List ℕ) → after reply bytes → later reply (used ++ bytes))
      → Reads middle last rest held' behind after result → Reads source last held held' others later result
  reads_behind held' after later (Ok reply) fine second = behind_ok held' after later reply reply (fine reply) second
  reads_behind held' after later (Err incomplete) fine second = behind_stop held' held' after later incomplete second

-- a call that used bytes, as the first of two
pub behind_read : {T : Type 0} (source middle last : End) (held rest : List ℕ) (short : List ℕ → Type 0) (is : T → List ℕ → Type 0)
    (behind others : List ℕ → Type 0) (answer : T) (first : Reads source middle held rest short is (Ok answer))
    → ((bytes : List ℕ) → short bytes → others bytes)
    → ((bytes : List ℕ) → behind bytes → others (first.came.used ++ bytes))
    → Behind source middle last held rest first.got first.came.used short behind others
behind_read source middle last held rest short is behind others answer first cut cut_behind =
    record { took = first.took; waits = first.waits; splits = first.came.splits; cut = cut; cut_behind = cut_behind }

-- the first of the bytes that are held
pub behind_held : (source last : End) (held rest : List ℕ) (size : ℕ) (behind others : List ℕ → Type 0) → rest ≡ drop size held
    → ((bytes : List ℕ) → behind bytes → others (take size held ++ bytes))
    → Behind source source last held rest [] (take size held) (λ _. ⊥) behind others
behind_held source last held rest size behind others skipped cut_behind = record {
  took = took_nothing source;
  waits = inl (record { same = refl; none = refl });
  splits = append-nil held ∙ sym (take-append-drop size held) ∙ ap (λ bytes. take size held ++ bytes) (sym skipped);
  cut = λ bytes none. absurd none;
  cut_behind = cut_behind;
}

-- the first of the bytes that are held are used
pub reads_held : {T : Type 0} (source : End) (held rest : List ℕ) (size : ℕ) (others : List ℕ → Type 0)
    (is : T → List ℕ → Type 0) (answer : T) → rest ≡ drop size held → is answer (take size held)
    → Reads source source held rest others is (Ok answer)
reads_held source held rest size others is answer skipped fine = record {
  got = [];
  took = took_nothing source;
  waits = inl (record { same = refl; none = refl });
  came = record {
    used = take size held;
    splits = append-nil held ∙ sym (take-append-drop size held) ∙ ap (λ bytes. take size held ++ bytes) (sym skipped);
    says = fine;
  };
}

-- Bytes that came.
module _ {source last : End} {held grown : List ℕ} {short : List ℕ → Type 0} (others : List ℕ → Type 0)
    (grows : Grows source last short held grown) (cut : (bytes : List ℕ) → short bytes → others bytes) where
  grows_waits : IsIdle source last grows.got ⊎ others held
  grows_waits = elim grows.waits [ inl idle ↦ inl idle | inr few ↦ inr (cut held few) ]

  -- they are held
  pub behind_grown : (later : End) (behind : List ℕ → Type 0) → ((bytes : List ℕ) → behind bytes → others bytes)
      → Behind source last later held grown grows.got [] short behind others
  behind_grown later behind cut_behind =
      record { took = grows.took; waits = grows.waits; splits = sym grows.adds; cut = cut; cut_behind = cut_behind }

  -- the first of them are used
  pub reads_grown : {T : Type 0} (rest : List ℕ) (size : ℕ) (is : T → List ℕ → Type 0) (answer : T) → rest ≡ drop size grown
      → is answer (take size grown) → Reads source last held rest others is (Ok answer)
  reads_grown rest size is answer skipped fine = record {
    got = grows.got;
    took = grows.took;
    waits = grows_waits;
    came = record {
      used = take size grown;
      splits = sym grows.adds ∙ sym (take-append-drop size grown) ∙ ap (λ bytes. take size grown ++ bytes) (sym skipped);
      says = fine;
    };
  }

  -- no more came
  pub reads_short : {T : Type 0} (rest : List ℕ) (is : T → List ℕ → Type 0) (incomplete : Incomplete)
      → short grown × NoMoreBytes source last incomplete → Reads source last held rest others is (Err incomplete)
  reads_short rest is incomplete why = record {
    got = grows.got;
    took = grows.took;
    waits = grows_waits;
    came = (subst others grows.adds (cut grown why.0), why.1);
  }
