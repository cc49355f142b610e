-- What is read of a head is what the disk has there.
use Rattle.std.proofs.Common.{◌≡◌, ◌⊎◌, ℕ, suc, ◌+◌, ◌-◌, ◌<◌, ◌≤◌, ◌==◌, Bool, true, false, ◌&&◌, nat_eq, nat_lt, List, [], ◌∷◌, ◌++◌, length, take, drop, Option, Some, None, Result, Ok, Err, refl, ap, sym, ◌∙◌, subst, inl, inr, append_assoc, arith, length-append, ne_eqb, option_map, option_and_then, unwrap_or, cond}
use Rattle.std.specs.Int.{w64, to_be_bytes}
use Rattle.std.specs.Result.{result_ok}
use Rattle.std.proofs.lemmas.Bool.{and_parts, ltb-false}
use Rattle.std.proofs.lemmas.Bool.Decides.{nat_tests}
use Rattle.std.proofs.lemmas.List.{take_at, take-append-drop, take-append-le, length-take-le}
use Rattle.disks.specs.Histories.{History}
use Rattle.q_base.specs.Name.{IsName, read_name, name_unless, first_bad}
use Rattle.q_base.specs.declared.name.NameRefusal.{NameRefusal}
use Rattle.q_base.specs.declared.name.NameRefusal.TheVariants.{Empty, TooLong as TooLongName}
use Rattle.record_log.specs.Records.{named}
use Rattle.record_log.proofs.RecordLemmas.{named_again}
use Rattle.store_base.specs.declared.base.RecordName.{RecordName}
use Rattle.store_base.specs.declared.head.HeadStart.{HeadStart}
use Rattle.store_base.specs.declared.refusal.BaseRefusal.{BaseRefusal}
use Rattle.store_base.specs.declared.refusal.BaseRefusal.TheVariants.{NoBase, Torn, BadNumber, BadTail, Falls, AboveHorizon, TooLong, BadChange, NoTail, BadSize, DiskFault, Memory}
use Rattle.store_base.specs.Heads.{HasMark, StartsHead, AreNumbers, JudgesNumbers, HasNoNumbers, FindsNumbers, HasNoTail, FindsTail, HasNoCount, FindsCount, HasNoHead, FindsHead}
use Rattle.store_base.specs.Sound.{IsTail}
use Rattle.store_base.specs.Tails.{has_no_tail, with_id, with_collection, tail_in}
use Rattle.store_base.specs.Texts.{mark, start_text, tail_text}
use Rattle.store_base.specs.Windows.{WindowView, Shows, IsAhead, IsFilled, IsReadFault}
use Rattle.store_base.proofs.RowReading.{rest_is, rest_all, shows_next, shows_filled, ahead_is}

-- ---- the mark and the numbers

pub numbers_fault : (place : ℕ) (rest : List ℕ) (e : BaseRefusal) → IsReadFault e → HasNoNumbers place rest e
numbers_fault place rest DiskFault f = tt
numbers_fault place rest Memory f = tt
numbers_fault place rest NoBase f = absurd f
numbers_fault place rest (Torn bad) f = absurd f
numbers_fault place rest (BadNumber bad) f = absurd f
numbers_fault place rest (BadTail bad) f = absurd f
numbers_fault place rest (Falls bad) f = absurd f
numbers_fault place rest (AboveHorizon bad) f = absurd f
numbers_fault place rest (TooLong bad) f = absurd f
numbers_fault place rest (BadChange bad) f = absurd f
numbers_fault place rest (NoTail bad) f = absurd f
numbers_fault place rest (BadSize bad) f = absurd f

pub tail_fault : (place : ℕ) (rest : List ℕ) (e : BaseRefusal) → IsReadFault e → HasNoTail place rest e
tail_fault place rest DiskFault f = tt
tail_fault place rest Memory f = tt
tail_fault place rest NoBase f = absurd f
tail_fault place rest (Torn bad) f = absurd f
tail_fault place rest (BadNumber bad) f = absurd f
tail_fault place rest (BadTail bad) f = absurd f
tail_fault place rest (Falls bad) f = absurd f
tail_fault place rest (AboveHorizon bad) f = absurd f
tail_fault place rest (TooLong bad) f = absurd f
tail_fault place rest (BadChange bad) f = absurd f
tail_fault place rest (NoTail bad) f = absurd f
tail_fault place rest (BadSize bad) f = absurd f

pub count_fault : (place : ℕ) (rest : List ℕ) (e : BaseRefusal) → IsReadFault e → HasNoCount place rest e
count_fault place rest DiskFault f = tt
count_fault place rest Memory f = tt
count_fault place rest NoBase f = absurd f
count_fault place rest (Torn bad) f = absurd f
count_fault place rest (BadNumber bad) f = absurd f
count_fault place rest (BadTail bad) f = absurd f
count_fault place rest (Falls bad) f = absurd f
count_fault place rest (AboveHorizon bad) f = absurd f
count_fault place rest (TooLong bad) f = absurd f
count_fault place rest (BadChange bad) f = absurd f
count_fault place rest (NoTail bad) f = absurd f
count_fault place rest (BadSize bad) f = absurd f

-- bytes that were read ahead begin with the mark, and so do all
pub mark_rest : (rest ahead behind : List ℕ) → take 4 ahead ≡ mark → rest ≡ ahead ++ behind → HasMark rest
mark_rest rest ahead behind m r =
    (drop 4 ahead ++ behind, r ∙ ap (λ (l : List ℕ). l ++ behind) (sym (take-append-drop 4 ahead) ∙ ap (λ (l : List ℕ). l ++ drop 4 ahead) m))

pub no_mark : (history : Option History) (place : ℕ) (rest ahead : List ℕ) → Shows history place rest → IsAhead history place ahead → IsFilled history place ahead 36 → (take 4 ahead ≡ mark → ⊥) → HasMark rest → ⊥
no_mark history place rest ahead s a f none has = by (sizes (length ahead))
  where
    sizes : (n : ℕ) → (4 ≤ n) ⊎ (n < 36)
    sizes n = grind arith

    first : take 4 rest ≡ mark
    first = ap (take 4) has.1

    by : (4 ≤ length ahead) ⊎ (length ahead < 36) → ⊥
    by (inl enough) =
        let behind = rest_is history place rest ahead s a in
        none (sym (take-append-le 4 ahead behind.0 enough) ∙ ap (take 4) (sym behind.1) ∙ first)
    by (inr low) = none (ap (take 4) (sym (rest_all history place 36 rest ahead s f low)) ∙ first)

pub numbers_torn : (history : Option History) (place : ℕ) (rest ahead : List ℕ) → Shows history place rest → IsAhead history place ahead → IsFilled history place ahead 36 → take 4 ahead ≡ mark → length ahead < 36 → HasNoNumbers place rest (Torn place)
numbers_torn history place rest ahead s a f m low =
    let behind = rest_is history place rest ahead s a in
    (mark_rest rest ahead behind.0 m behind.1, refl, omega (arith, low, ap (λ (l : List ℕ). length l) (rest_all history place 36 rest ahead s f low)))

pub numbers_rest : (rest ahead more behind : List ℕ) (start : HeadStart) → ahead ≡ start_text start.size start.horizon start.clock start.moment ++ more → rest ≡ ahead ++ behind → StartsHead rest start (more ++ behind)
numbers_rest rest ahead more behind start a r =
    r ∙ ap (λ (l : List ℕ). l ++ behind) a ∙ append_assoc (start_text start.size start.horizon start.clock start.moment) more behind

pub numbers_refused : (place : ℕ) (rest more : List ℕ) (start : HeadStart) (e : BaseRefusal) → StartsHead rest start more → JudgesNumbers place start (Err e) → HasNoNumbers place rest e
numbers_refused place rest more start DiskFault s r = tt
numbers_refused place rest more start Memory s r = tt
numbers_refused place rest more start (BadNumber bad) s r = (start, more, s, r)
numbers_refused place rest more start NoBase s r = absurd r
numbers_refused place rest more start (Torn bad) s r = absurd r
numbers_refused place rest more start (BadTail bad) s r = absurd r
numbers_refused place rest more start (Falls bad) s r = absurd r
numbers_refused place rest more start (AboveHorizon bad) s r = absurd r
numbers_refused place rest more start (TooLong bad) s r = absurd r
numbers_refused place rest more start (BadChange bad) s r = absurd r
numbers_refused place rest more start (NoTail bad) s r = absurd r
numbers_refused place rest more start (BadSize bad) s r = absurd r

pub numbers_found : (old new : WindowView) (rest more : List ℕ) (start : HeadStart) → Shows old.history old.place rest → StartsHead rest start more → AreNumbers start
    → new.history ≡ old.history → new.place ≡ old.place + 36 → FindsNumbers old.place rest new (Ok (Some start))
numbers_found old new rest more start s b i h p = (more, b, i, shows_next old new rest (start_text start.size start.horizon start.clock start.moment) more s b h p, p)

-- ---- the tail

pub tail_again : (tail : Option RecordName) (more : List ℕ) → IsTail tail → tail_in (tail_text tail ++ more) ≡ Some (tail, more)
tail_again None more t = refl
tail_again (Some name) more t = by name.collection refl
  where
    text : (length name.collection ∷ name.collection) ++ (length name.id ∷ name.id) ++ more ≡ length name.collection ∷ (name.collection ++ (length name.id ∷ (name.id ++ more)))
    text = append_assoc (length name.collection ∷ name.collection) (length name.id ∷ name.id) more

    both : with_collection (named (length name.collection ∷ (name.collection ++ (length name.id ∷ (name.id ++ more))))) ≡ Some (Some name, more)
    both =
        ap with_collection (named_again name.collection (length name.id ∷ (name.id ++ more)) t.0)
        ∙ ap (with_id name.collection) (named_again name.id more t.1)

    by : (collection : List ℕ) → name.collection ≡ collection → tail_in (tail_text (Some name) ++ more) ≡ Some (Some name, more)
    by [] e = (let some = t.0.some in absurd (omega (arith, some, ap (λ (l : List ℕ). length l) e)))
    by (byte ∷ bytes) e =
        let one : has_no_tail (length name.collection ∷ (name.collection ++ (length name.id ∷ (name.id ++ more)))) ≡ false
        = ap (λ (l : List ℕ). has_no_tail (length l ∷ (l ++ (length name.id ∷ (name.id ++ more))))) e
        ∙ ap (λ (b : Bool). b && nat_eq byte 0) (ne_eqb (suc (length bytes)) 0 (λ k. omega (arith, k))) in
        ap tail_in text ∙ rw one both

-- a name that was read
read_is : (bytes name : List ℕ) → read_name bytes ≡ Ok name → (bytes ≡ name) × IsName bytes
read_is bytes name e = by (length bytes == 0) refl (nat_lt 64 (length bytes)) refl (first_bad bytes) refl e
  where
    by : (u : Bool) → (length bytes == 0) ≡ u → (v : Bool) → nat_lt 64 (length bytes) ≡ v → (o : Option ℕ) → first_bad bytes ≡ o
        → ◌≡◌ {A = Result (List ℕ) NameRefusal} (cond u (Err Empty) (cond v (Err (TooLongName (length bytes))) (name_unless bytes o))) (Ok name)
        → (bytes ≡ name) × IsName bytes
    by true q v w o b is = absurd (cc)
    by false q true w o b is = absurd (cc)
    by false q false w (Some offset) b is = absurd (cc)
    by false q false w None b is = (cc, record { some = grind (arith, nat_tests); few = ltb-false 64 (length bytes) w; good = b })

-- a name behind its length that was read
named_is : (bytes name rest : List ℕ) → named bytes ≡ Some (name, rest) → (bytes ≡ length name ∷ (name ++ rest)) × IsName name
named_is [] name rest e = absurd (cc)
named_is (size ∷ bytes) name rest e = by (nat_lt (length bytes) size) refl (read_name (take size bytes)) refl e
  where
    by : (b : Bool) → nat_lt (length bytes) size ≡ b → (r : Result (List ℕ) NameRefusal) → read_name (take size bytes) ≡ r
        → ◌≡◌ {A = Option (List ℕ × List ℕ)} (cond b None (option_map (λ (n : List ℕ). (n, drop size bytes)) (result_ok r))) (Some (name, rest))
        → (size ∷ bytes ≡ length name ∷ (name ++ rest)) × IsName name
    by true q r w is = absurd (cc)
    by false q (Err x) w is = absurd (cc)
    by false q (Ok n) w is =
        let names : n ≡ name = ap (λ (o : Option (List ℕ × List ℕ)). unwrap_or (option_map (λ (p : List ℕ × List ℕ). p.0) o) []) is in
        let rests : drop size bytes ≡ rest = ap (λ (o : Option (List ℕ × List ℕ)). unwrap_or (option_map (λ (p : List ℕ × List ℕ). p.1) o) []) is in
        let read = read_is (take size bytes) n w in
        let whole : take size bytes ≡ name = read.0 ∙ names in
        let sizes : size ≡ length name = sym (length-take-le size bytes (ltb-false (length bytes) size q)) ∙ ap (λ (l : List ℕ). length l) whole in
        let P : List ℕ → Type 0 = λ l. IsName l in (
          ap (λ (k : ℕ). k ∷ bytes) sizes ∙ ap (λ (l : List ℕ). length name ∷ l) (sym (take-append-drop size bytes) ∙ ap (λ (l : List ℕ). l ++ drop size bytes) whole ∙ ap (λ (l : List ℕ). name ++ l) rests),
          subst P whole read.1,
        )

zeros : (bytes : List ℕ) → has_no_tail bytes ≡ true → bytes ≡ 0 ∷ 0 ∷ drop 2 bytes
zeros [] e = absurd (cc)
zeros (first ∷ []) e = absurd (cc)
zeros (first ∷ second ∷ rest) e =
    let parts = and_parts (nat_eq first 0) (nat_eq second 0) e in
    let one : first ≡ 0 = grind (arith, nat_tests, parts.0) in
    let two : second ≡ 0 = grind (arith, nat_tests, parts.1) in
    ap (λ (k : ℕ). k ∷ second ∷ rest) one ∙ ap (λ (k : ℕ). 0 ∷ k ∷ rest) two

-- what a reader of a tail gave
abbrev tail_from : Option (Option RecordName × List ℕ) → Option RecordName
tail_from o = option_and_then (λ (p : Option RecordName × List ℕ). p.0) o

abbrev rest_from : Option (Option RecordName × List ℕ) → List ℕ
rest_from o = unwrap_or (option_map (λ (p : Option RecordName × List ℕ). p.1) o) []

-- bytes begin with a tail
abbrev BeginsWith : List ℕ → Option RecordName → List ℕ → Type 0
BeginsWith bytes tail rest = IsTail tail × (bytes ≡ tail_text tail ++ rest)

-- a tail that was read
pub tail_is : (bytes : List ℕ) (tail : Option RecordName) (rest : List ℕ) → tail_in bytes ≡ Some (tail, rest) → IsTail tail × (bytes ≡ tail_text tail ++ rest)
tail_is bytes tail rest e = by (has_no_tail bytes) refl e
  where
    second : (c : List ℕ × List ℕ) → named bytes ≡ Some c → (o : Option (List ℕ × List ℕ)) → named c.1 ≡ o → with_id c.0 o ≡ Some (tail, rest) → BeginsWith bytes tail rest
    second c n None m is = absurd (cc)
    second c n (Some d) m is =
        let tails : Some (record { collection = c.0; id = d.0 }) ≡ tail = ap tail_from is in
        let rests : d.1 ≡ rest = ap rest_from is in
        let collection = named_is bytes c.0 c.1 n in
        let id = named_is c.1 d.0 d.1 m in
        let P : Option RecordName → Type 0 = λ t. IsTail t × (bytes ≡ tail_text t ++ rest) in
        subst P tails (
          (collection.1, id.1),
          collection.0 ∙ ap (λ (l : List ℕ). length c.0 ∷ (c.0 ++ l)) id.0
              ∙ sym (append_assoc (length c.0 ∷ c.0) (length d.0 ∷ d.0) d.1)
              ∙ ap (λ (l : List ℕ). (length c.0 ∷ c.0) ++ (length d.0 ∷ d.0) ++ l) rests,
        )

    first : (o : Option (List ℕ × List ℕ)) → named bytes ≡ o → with_collection o ≡ Some (tail, rest) → BeginsWith bytes tail rest
    first None n is = absurd (cc)
    first (Some c) n is = second c n (named c.1) refl is

    by : (b : Bool) → has_no_tail bytes ≡ b → ◌≡◌ {A = Option (Option RecordName × List ℕ)} (cond b (Some (None, drop 2 bytes)) (with_collection (named bytes))) (Some (tail, rest)) → BeginsWith bytes tail rest
    by true q is =
        let tails : None ≡ tail = ap tail_from is in
        let rests : drop 2 bytes ≡ rest = ap rest_from is in
        let P : Option RecordName → Type 0 = λ t. IsTail t × (bytes ≡ tail_text t ++ rest) in
        subst P tails (tt, zeros bytes q ∙ ap (λ (l : List ℕ). 0 ∷ 0 ∷ l) rests)
    by false q is = first (named bytes) refl is

tail_size : (tail : Option RecordName) → IsTail tail → length (tail_text tail) ≤ 130
tail_size None t = omega arith
tail_size (Some name) t =
    let few = t.0.few in
    let few_id = t.1.few in
    omega (arith, few, few_id, length-append (length name.collection ∷ name.collection) (length name.id ∷ name.id))

pub no_tail : (history : Option History) (place : ℕ) (rest ahead : List ℕ) → Shows history place rest → IsAhead history place ahead → IsFilled history place ahead 130 → tail_in ahead ≡ None
    → (tail : Option RecordName) (more : List ℕ) → IsTail tail → rest ≡ tail_text tail ++ more → ⊥
no_tail history place rest ahead s a f none tail more t e = by (sizes (length ahead))
  where
    sizes : (n : ℕ) → (130 ≤ n) ⊎ (n < 130)
    sizes n = grind arith

    never : (behind : List ℕ) → ahead ≡ tail_text tail ++ behind → ⊥
    never behind is =
        absurd (let read : ◌≡◌ {A = Option (Option RecordName × List ℕ)} None (Some (tail, behind)) = sym none ∙ ap tail_in is ∙ tail_again tail behind t in cc)

    by : (130 ≤ length ahead) ⊎ (length ahead < 130) → ⊥
    by (inl enough) =
        let behind = rest_is history place rest ahead s a in
        let low : length (tail_text tail) ≤ length ahead = omega (arith, enough, tail_size tail t) in
        let first : take (length (tail_text tail)) ahead ≡ tail_text tail
        = sym (take-append-le (length (tail_text tail)) ahead behind.0 low) ∙ ap (take (length (tail_text tail))) (sym behind.1 ∙ e) ∙ take_at (tail_text tail) more (length (tail_text tail)) refl in
        never (drop (length (tail_text tail)) ahead)
        (sym (take-append-drop (length (tail_text tail)) ahead) ∙ ap (λ (l : List ℕ). l ++ drop (length (tail_text tail)) ahead) first)
    by (inr low) = never more (sym (rest_all history place 130 rest ahead s f low) ∙ e)

-- ---- in the steps of the readers: the window before, once it has read ahead, and once it has gone on

pub numbers_refused_at : (place : ℕ) (old mid : WindowView) (rest ahead more : List ℕ) (start : HeadStart) (e : BaseRefusal) → mid.history ≡ old.history → mid.place ≡ old.place → place ≡ mid.place
    → ahead ≡ mid.ahead → IsAhead mid.history mid.place mid.ahead → ahead ≡ start_text start.size start.horizon start.clock start.moment ++ more → JudgesNumbers place start (Err e) → Shows old.history old.place rest → HasNoNumbers old.place rest e
numbers_refused_at place old mid rest ahead more start e h p q a is t r s =
    let found = ahead_is old mid rest ahead h p a is s in
    let P : ℕ → Type 0 = λ n. JudgesNumbers n start (Err e) in
    numbers_refused old.place rest (more ++ found.0) start e (numbers_rest rest ahead more found.0 start t found.1) (subst P (q ∙ p) r)

pub numbers_found_at : (old mid new : WindowView) (rest ahead more : List ℕ) (start : HeadStart) → mid.history ≡ old.history → mid.place ≡ old.place
    → ahead ≡ mid.ahead → IsAhead mid.history mid.place mid.ahead → ahead ≡ start_text start.size start.horizon start.clock start.moment ++ more → AreNumbers start
    → new.history ≡ mid.history → new.place ≡ mid.place + 36 → Shows old.history old.place rest → FindsNumbers old.place rest new (Ok (Some start))
numbers_found_at old mid new rest ahead more start h p a is t i h' p' s =
    let found = ahead_is old mid rest ahead h p a is s in
    numbers_found old new rest (more ++ found.0) start s (numbers_rest rest ahead more found.0 start t found.1) i (h' ∙ h) (p' ∙ ap (λ (n : ℕ). n + 36) p)

pub no_mark_at : (old mid : WindowView) (rest ahead : List ℕ) → mid.history ≡ old.history → mid.place ≡ old.place → ahead ≡ mid.ahead → IsAhead mid.history mid.place mid.ahead
    → IsFilled mid.history mid.place mid.ahead 36 → (take 4 ahead ≡ mark → ⊥) → Shows old.history old.place rest → HasMark rest → ⊥
no_mark_at old mid rest ahead h p a is f none s =
    no_mark mid.history mid.place rest mid.ahead (shows_filled old mid rest s h p) is f (λ m. none (ap (take 4) a ∙ m))

pub numbers_torn_at : (place : ℕ) (old mid : WindowView) (rest ahead : List ℕ) → mid.history ≡ old.history → mid.place ≡ old.place → place ≡ mid.place → ahead ≡ mid.ahead → IsAhead mid.history mid.place mid.ahead
    → IsFilled mid.history mid.place mid.ahead 36 → take 4 ahead ≡ mark → length ahead < 36 → Shows old.history old.place rest → HasNoNumbers old.place rest (Torn place)
numbers_torn_at place old mid rest ahead h p q a is f m low s =
    let torn = numbers_torn mid.history mid.place rest mid.ahead (shows_filled old mid rest s h p) is f (ap (take 4) (sym a) ∙ m) (omega (arith, low, ap (λ (l : List ℕ). length l) a)) in
    (torn.0, q ∙ p, torn.2)

pub tail_refused_at : (place : ℕ) (old mid : WindowView) (rest ahead : List ℕ) → mid.history ≡ old.history → mid.place ≡ old.place → place ≡ mid.place → ahead ≡ mid.ahead → IsAhead mid.history mid.place mid.ahead
    → IsFilled mid.history mid.place mid.ahead 130 → tail_in ahead ≡ None → Shows old.history old.place rest → HasNoTail old.place rest (BadTail place)
tail_refused_at place old mid rest ahead h p q a is f none s =
    (q ∙ p, no_tail mid.history mid.place rest mid.ahead (shows_filled old mid rest s h p) is f (ap tail_in (sym a) ∙ none))

pub tail_found_at : (size : ℕ) (old mid new : WindowView) (rest ahead more : List ℕ) (tail : Option RecordName) → mid.history ≡ old.history → mid.place ≡ old.place → ahead ≡ mid.ahead → IsAhead mid.history mid.place mid.ahead
    → tail_in ahead ≡ Some (tail, more) → size ≡ length ahead - length more → new.history ≡ mid.history → new.place ≡ mid.place + size → Shows old.history old.place rest → FindsTail old.place rest new (Ok tail)
tail_found_at size old mid new rest ahead more tail h p a is t z h' p' s =
    let found = ahead_is old mid rest ahead h p a is s in
    let read = tail_is ahead tail more t in
    let whole : rest ≡ tail_text tail ++ (more ++ found.0) = found.1 ∙ ap (λ (l : List ℕ). l ++ found.0) read.1 ∙ append_assoc (tail_text tail) more found.0 in
    let sizes : size ≡ length (tail_text tail) = omega (arith, z, ap (λ (l : List ℕ). length l) read.1, length-append (tail_text tail) more) in
    let next : new.place ≡ old.place + length (tail_text tail) = omega (arith, p, p', sizes) in
    (more ++ found.0, read.0, whole, shows_next old new rest (tail_text tail) (more ++ found.0) s whole (h' ∙ h) next, next)

pub count_found_at : (old mid new : WindowView) (rest ahead more : List ℕ) (count : ℕ) → mid.history ≡ old.history → mid.place ≡ old.place → ahead ≡ mid.ahead → IsAhead mid.history mid.place mid.ahead
    → ahead ≡ to_be_bytes w64 count ++ more → new.history ≡ mid.history → new.place ≡ mid.place + 8 → Shows old.history old.place rest → FindsCount old.place rest new (Ok count)
count_found_at old mid new rest ahead more count h p a is t h' p' s =
    let found = ahead_is old mid rest ahead h p a is s in
    let whole : rest ≡ to_be_bytes w64 count ++ (more ++ found.0) = found.1 ∙ ap (λ (l : List ℕ). l ++ found.0) t ∙ append_assoc (to_be_bytes w64 count) more found.0 in
    (more ++ found.0, whole, shows_next old new rest (to_be_bytes w64 count) (more ++ found.0) s whole (h' ∙ h) (p' ∙ ap (λ (n : ℕ). n + 8) p))

-- ---- all of the head

pub head_no_tail : (place : ℕ) (rest : List ℕ) (mid after : WindowView) (start : HeadStart) (e : BaseRefusal) → FindsNumbers place rest mid (Ok (Some start))
    → ((more : List ℕ) → Shows mid.history mid.place more → FindsTail mid.place more after (Err e)) → HasNoHead place rest e
head_no_tail place rest mid after start e f g =
    let P : ℕ → Type 0 = λ n. HasNoTail n f.0 e in
    inr (inl (start, f.0, f.1, subst P f.4 (g f.0 f.3)))

pub head_no_count : (place : ℕ) (rest : List ℕ) (mid next after : WindowView) (start : HeadStart) (tail : Option RecordName) (e : BaseRefusal) → FindsNumbers place rest mid (Ok (Some start))
    → ((more : List ℕ) → Shows mid.history mid.place more → FindsTail mid.place more next (Ok tail)) → ((more : List ℕ) → Shows next.history next.place more → FindsCount next.place more after (Err e)) → HasNoHead place rest e
head_no_count place rest mid next after start tail e f g k =
    let found = g f.0 f.3 in
    let P : ℕ → Type 0 = λ n. HasNoCount n found.0 e in
    inr (inr (
      start,
      tail,
      found.0,
      found.1,
      f.1 ∙ ap (λ (l : List ℕ). start_text start.size start.horizon start.clock start.moment ++ l) found.2,
      subst P (found.4 ∙ ap (λ (n : ℕ). n + length (tail_text tail)) f.4) (k found.0 found.3),
    ))

pub head_found : (place : ℕ) (rest : List ℕ) (mid next after : WindowView) (start : HeadStart) (tail : Option RecordName) (count : ℕ) → FindsNumbers place rest mid (Ok (Some start))
    → ((more : List ℕ) → Shows mid.history mid.place more → FindsTail mid.place more next (Ok tail)) → ((more : List ℕ) → Shows next.history next.place more → FindsCount next.place more after (Ok count))
    → FindsHead place rest after (Ok (Some (record { size = start.size; count = count; head = record { horizon = start.horizon; clock = start.clock; moment = start.moment; tail = tail } })))
head_found place rest mid next after start tail count f g k =
    let found = g f.0 f.3 in
    let number = k found.0 found.3 in
    let front : List ℕ = start_text start.size start.horizon start.clock start.moment in (
      number.0,
      f.1 ∙ ap (λ (l : List ℕ). front ++ l) (found.2 ∙ ap (λ (l : List ℕ). tail_text tail ++ l) number.1 ∙ sym (append_assoc (tail_text tail) (to_be_bytes w64 count) number.0))
          ∙ sym (append_assoc front (tail_text tail ++ to_be_bytes w64 count) number.0),
      record { horizon = f.2.horizon; clock = f.2.clock; moment = f.2.moment; tail = found.1 },
      number.2,
    )

-- what is behind a tail is no longer than all
pub behind_less : (bytes : List ℕ) (tail : Option RecordName) (rest : List ℕ) → tail_in bytes ≡ Some (tail, rest) → length rest ≤ length bytes
behind_less bytes tail rest e =
    let read = tail_is bytes tail rest e in
    omega (arith, ap (λ (l : List ℕ). length l) read.1, length-append (tail_text tail) rest)
