-- What is read of a row is what the disk has there.
use Rattle.std.proofs.Common.{◌≡◌, ◌⊎◌, ℕ, ◌+◌, ◌<◌, ◌≤◌, List, ◌++◌, length, take, drop, Option, Some, None, Ok, Err, refl, ap, sym, ◌∙◌, subst, inl, inr, append_assoc, arith}
use Rattle.std.proofs.lemmas.List.{drop-drop, drop_at, take-append-drop, length-take-le}
use Rattle.disks.specs.Histories.{History, device_of}
use Rattle.commit_book.specs.declared.change.Change.{Change}
use Rattle.store_base.specs.declared.fields.RowStart.{RowStart}
use Rattle.store_base.specs.declared.refusal.BaseRefusal.{BaseRefusal}
use Rattle.store_base.specs.declared.refusal.BaseRefusal.TheVariants.{NoBase, Torn, BadNumber, BadTail, Falls, AboveHorizon, TooLong, BadChange, NoTail, BadSize, DiskFault, Memory}
use Rattle.store_base.specs.Rows.{StartsWith, IsStart, RefusesStart, HasNoStart, FindsStart, IsPutIn, HasNoChange, FindsChange, HasNoRow, FindsRow}
use Rattle.store_base.specs.Texts.{row_start}
use Rattle.store_base.specs.Windows.{WindowView, Shows, IsAhead, IsFilled, IsReadFault}

-- ---- a window on a disk that shows its bytes

-- what was read ahead is the beginning of what is there
pub rest_is : (history : Option History) (place : ℕ) (rest ahead : List ℕ) → Shows history place rest → IsAhead history place ahead → (more : List ℕ) × (rest ≡ ahead ++ more)
rest_is None place rest ahead s a = absurd s
rest_is (Some h) place rest ahead s a = (a.0, sym s ∙ a.1)

-- where less was read than was asked for, it is all
pub rest_all : (history : Option History) (place count : ℕ) (rest ahead : List ℕ) → Shows history place rest → IsFilled history place ahead count → length ahead < count → rest ≡ ahead
rest_all None place count rest ahead s f low = absurd s
rest_all (Some h) place count rest ahead s f low = by f
  where
    by : (count ≤ length ahead) ⊎ (drop place (device_of h).seen ≡ ahead) → rest ≡ ahead
    by (inl enough) = absurd (omega (arith, enough, low))
    by (inr all) = sym s ∙ all

-- what is behind some bytes
pub shows_behind : (history : Option History) (place : ℕ) (rest front more : List ℕ) → Shows history place rest → rest ≡ front ++ more → Shows history (place + length front) more
shows_behind None place rest front more s e = absurd s
shows_behind (Some h) place rest front more s e =
    sym (drop-drop (length front) place (device_of h).seen) ∙ ap (drop (length front)) (s ∙ e) ∙ drop_at front more (length front) refl

-- the same of a window that has gone on
pub shows_next : (old new : WindowView) (rest front more : List ℕ) → Shows old.history old.place rest → rest ≡ front ++ more → new.history ≡ old.history → new.place ≡ old.place + length front → Shows new.history new.place more
shows_next old new rest front more s e h p =
    let P : Option History → Type 0 = λ m. Shows m new.place more in
    let Q : ℕ → Type 0 = λ n. Shows old.history n more in
    subst P (sym h) (subst Q (sym p) (shows_behind old.history old.place rest front more s e))

-- a window that has read ahead shows what it did
pub shows_filled : (old new : WindowView) (rest : List ℕ) → Shows old.history old.place rest → new.history ≡ old.history → new.place ≡ old.place → Shows new.history new.place rest
shows_filled old new rest s h p =
    let P : Option History → Type 0 = λ m. Shows m new.place rest in
    let Q : ℕ → Type 0 = λ n. Shows old.history n rest in
    subst P (sym h) (subst Q (sym p) s)

-- ---- what stands before a body

pub start_fault : (last horizon place : ℕ) (rest : List ℕ) (e : BaseRefusal) → IsReadFault e → HasNoStart last horizon place rest e
start_fault last horizon place rest NoBase f = absurd f
start_fault last horizon place rest DiskFault f = tt
start_fault last horizon place rest Memory f = tt
start_fault last horizon place rest (Torn bad) f = absurd f
start_fault last horizon place rest (BadNumber bad) f = absurd f
start_fault last horizon place rest (BadTail bad) f = absurd f
start_fault last horizon place rest (Falls bad) f = absurd f
start_fault last horizon place rest (AboveHorizon bad) f = absurd f
start_fault last horizon place rest (TooLong bad) f = absurd f
start_fault last horizon place rest (BadChange bad) f = absurd f
start_fault last horizon place rest (NoTail bad) f = absurd f
start_fault last horizon place rest (BadSize bad) f = absurd f

pub start_torn : (last horizon : ℕ) (history : Option History) (place : ℕ) (rest ahead : List ℕ) → Shows history place rest → IsFilled history place ahead 20 → length ahead < 20 → HasNoStart last horizon place rest (Torn place)
start_torn last horizon history place rest ahead s f low = (refl, omega (arith, low, ap (λ (l : List ℕ). length l) (rest_all history place 20 rest ahead s f low)))

-- bytes that were read ahead begin so, and so do all
pub start_rest : (rest ahead more behind : List ℕ) (start : RowStart) → ahead ≡ row_start start.commit start.clock start.size ++ more → rest ≡ ahead ++ behind → StartsWith rest start (more ++ behind)
start_rest rest ahead more behind start a r =
    r ∙ ap (λ (l : List ℕ). l ++ behind) a ∙ append_assoc (row_start start.commit start.clock start.size) more behind

pub start_refused : (last horizon place : ℕ) (rest more : List ℕ) (start : RowStart) (e : BaseRefusal) → StartsWith rest start more → RefusesStart last horizon place start e → HasNoStart last horizon place rest e
start_refused last horizon place rest more start NoBase s r = absurd r
start_refused last horizon place rest more start DiskFault s r = tt
start_refused last horizon place rest more start Memory s r = tt
start_refused last horizon place rest more start (Torn bad) s r = absurd r
start_refused last horizon place rest more start (BadNumber bad) s r = (start, more, s, r)
start_refused last horizon place rest more start (BadTail bad) s r = absurd r
start_refused last horizon place rest more start (Falls bad) s r = (start, more, s, r)
start_refused last horizon place rest more start (AboveHorizon bad) s r = (start, more, s, r)
start_refused last horizon place rest more start (TooLong bad) s r = (start, more, s, r)
start_refused last horizon place rest more start (BadChange bad) s r = absurd r
start_refused last horizon place rest more start (NoTail bad) s r = absurd r
start_refused last horizon place rest more start (BadSize bad) s r = absurd r

pub start_found : (last horizon : ℕ) (old new : WindowView) (rest more : List ℕ) (start : RowStart) → Shows old.history old.place rest → StartsWith rest start more → IsStart last horizon start
    → new.history ≡ old.history → new.place ≡ old.place + 20 → FindsStart last horizon old.place rest new (Ok start)
start_found last horizon old new rest more start s b i h p = (more, b, i, shows_next old new rest (row_start start.commit start.clock start.size) more s b h p, p)

-- ---- a body

pub change_fault : (place size : ℕ) (rest : List ℕ) (e : BaseRefusal) → IsReadFault e → HasNoChange place size rest e
change_fault place size rest NoBase f = absurd f
change_fault place size rest DiskFault f = tt
change_fault place size rest Memory f = tt
change_fault place size rest (Torn bad) f = absurd f
change_fault place size rest (BadNumber bad) f = absurd f
change_fault place size rest (BadTail bad) f = absurd f
change_fault place size rest (Falls bad) f = absurd f
change_fault place size rest (AboveHorizon bad) f = absurd f
change_fault place size rest (TooLong bad) f = absurd f
change_fault place size rest (BadChange bad) f = absurd f
change_fault place size rest (NoTail bad) f = absurd f
change_fault place size rest (BadSize bad) f = absurd f

pub change_torn : (history : Option History) (place size : ℕ) (rest ahead : List ℕ) → Shows history place rest → IsFilled history place ahead size → length ahead < size → HasNoChange place size rest (Torn place)
change_torn history place size rest ahead s f low = (refl, omega (arith, low, ap (λ (l : List ℕ). length l) (rest_all history place size rest ahead s f low)))

-- the body among what was read ahead
pub body_rest : (size : ℕ) (rest ahead behind : List ℕ) → rest ≡ ahead ++ behind → rest ≡ take size ahead ++ (drop size ahead ++ behind)
body_rest size rest ahead behind r =
    r ∙ ap (λ (l : List ℕ). l ++ behind) (sym (take-append-drop size ahead)) ∙ append_assoc (take size ahead) (drop size ahead) behind

pub change_refused : (place size : ℕ) (rest body more : List ℕ) (e : BaseRefusal) → rest ≡ body ++ more → length body ≡ size → IsPutIn place body (Err e) → HasNoChange place size rest e
change_refused place size rest body more NoBase r n p = absurd p
change_refused place size rest body more DiskFault r n p = tt
change_refused place size rest body more Memory r n p = tt
change_refused place size rest body more (Torn bad) r n p = absurd p
change_refused place size rest body more (BadNumber bad) r n p = absurd p
change_refused place size rest body more (BadTail bad) r n p = absurd p
change_refused place size rest body more (Falls bad) r n p = absurd p
change_refused place size rest body more (AboveHorizon bad) r n p = absurd p
change_refused place size rest body more (TooLong bad) r n p = absurd p
change_refused place size rest body more (BadChange bad) r n p = (body, more, p.0, r, n, p.1)
change_refused place size rest body more (NoTail bad) r n p = absurd p
change_refused place size rest body more (BadSize bad) r n p = absurd p

pub change_found : (size : ℕ) (old new : WindowView) (rest body more : List ℕ) (change : Change) → Shows old.history old.place rest → rest ≡ body ++ more → length body ≡ size → IsPutIn old.place body (Ok change)
    → new.history ≡ old.history → new.place ≡ old.place + size → FindsChange old.place size rest new (Ok change)
change_found size old new rest body more change s r n p h q =
    (body, more, r, n, p.0, p.1, shows_next old new rest body more s r h (q ∙ ap (λ (k : ℕ). old.place + k) (sym n)), q)

-- ---- in the steps of the readers: the window before, once it has read ahead, and once it has gone on

-- what a window that has read ahead has there
pub ahead_is : (old mid : WindowView) (rest ahead : List ℕ) → mid.history ≡ old.history → mid.place ≡ old.place → ahead ≡ mid.ahead → IsAhead mid.history mid.place mid.ahead → Shows old.history old.place rest
    → (more : List ℕ) × (rest ≡ ahead ++ more)
ahead_is old mid rest ahead h p e a s =
    let found = rest_is mid.history mid.place rest mid.ahead (shows_filled old mid rest s h p) a in
    (found.0, found.1 ∙ ap (λ (l : List ℕ). l ++ found.0) (sym e))

pub start_refused_at : (last horizon place : ℕ) (old mid : WindowView) (rest ahead more : List ℕ) (start : RowStart) (e : BaseRefusal) → mid.history ≡ old.history → mid.place ≡ old.place → place ≡ mid.place
    → ahead ≡ mid.ahead → IsAhead mid.history mid.place mid.ahead → ahead ≡ row_start start.commit start.clock start.size ++ more → RefusesStart last horizon place start e → Shows old.history old.place rest → HasNoStart last horizon old.place rest e
start_refused_at last horizon place old mid rest ahead more start e h p q a is t r s =
    let found = ahead_is old mid rest ahead h p a is s in
    let P : ℕ → Type 0 = λ n. RefusesStart last horizon n start e in
    start_refused last horizon old.place rest (more ++ found.0) start e (start_rest rest ahead more found.0 start t found.1) (subst P (q ∙ p) r)

pub start_found_at : (last horizon : ℕ) (old mid new : WindowView) (rest ahead more : List ℕ) (start : RowStart) → mid.history ≡ old.history → mid.place ≡ old.place
    → ahead ≡ mid.ahead → IsAhead mid.history mid.place mid.ahead → ahead ≡ row_start start.commit start.clock start.size ++ more → IsStart last horizon start
    → new.history ≡ mid.history → new.place ≡ mid.place + 20 → Shows old.history old.place rest → FindsStart last horizon old.place rest new (Ok start)
start_found_at last horizon old mid new rest ahead more start h p a is t i h' p' s =
    let found = ahead_is old mid rest ahead h p a is s in
    start_found last horizon old new rest (more ++ found.0) start s (start_rest rest ahead more found.0 start t found.1) i (h' ∙ h) (p' ∙ ap (λ (n : ℕ). n + 20) p)

pub change_refused_at : (size place : ℕ) (old mid : WindowView) (rest ahead : List ℕ) (e : BaseRefusal) → mid.history ≡ old.history → mid.place ≡ old.place → place ≡ mid.place
    → ahead ≡ mid.ahead → IsAhead mid.history mid.place mid.ahead → size ≤ length ahead → IsPutIn place (take size ahead) (Err e) → Shows old.history old.place rest → HasNoChange old.place size rest e
change_refused_at size place old mid rest ahead e h p q a is low put s =
    let found = ahead_is old mid rest ahead h p a is s in
    let P : ℕ → Type 0 = λ n. IsPutIn n (take size ahead) (Err e) in
    change_refused old.place size rest (take size ahead) (drop size ahead ++ found.0) e (body_rest size rest ahead found.0 found.1) (length-take-le size ahead low) (subst P (q ∙ p) put)

pub change_found_at : (size place : ℕ) (old mid new : WindowView) (rest ahead : List ℕ) (change : Change) → mid.history ≡ old.history → mid.place ≡ old.place
    → ahead ≡ mid.ahead → IsAhead mid.history mid.place mid.ahead → size ≤ length ahead → IsPutIn place (take size ahead) (Ok change)
    → new.history ≡ mid.history → new.place ≡ mid.place + size → Shows old.history old.place rest → FindsChange old.place size rest new (Ok change)
change_found_at size place old mid new rest ahead change h p a is low put h' p' s =
    let found = ahead_is old mid rest ahead h p a is s in
    change_found size old new rest (take size ahead) (drop size ahead ++ found.0) change s (body_rest size rest ahead found.0 found.1) (length-take-le size ahead low) put (h' ∙ h) (p' ∙ ap (λ (n : ℕ). n + size) p)

-- ---- both

pub row_no_start : (last horizon place : ℕ) (rest : List ℕ) (after : WindowView) (e : BaseRefusal) → FindsStart last horizon place rest after (Err e) → HasNoRow last horizon place rest e
row_no_start last horizon place rest after e f = inl f

pub row_no_change : (last horizon place : ℕ) (rest : List ℕ) (mid after : WindowView) (start : RowStart) (e : BaseRefusal) → FindsStart last horizon place rest mid (Ok start)
    → ((more : List ℕ) → Shows mid.history mid.place more → FindsChange mid.place start.size more after (Err e)) → HasNoRow last horizon place rest e
row_no_change last horizon place rest mid after start e f g =
    let P : ℕ → Type 0 = λ n. HasNoChange n start.size f.0 e in
    inr (start, f.0, f.1, f.2, subst P f.4 (g f.0 f.3))

pub row_found : (last horizon place : ℕ) (rest : List ℕ) (mid after : WindowView) (start : RowStart) (change : Change) → FindsStart last horizon place rest mid (Ok start)
    → ((more : List ℕ) → Shows mid.history mid.place more → FindsChange mid.place start.size more after (Ok change)) → FindsRow last horizon place rest after (Ok (record { commit = start.commit; clock = start.clock; change = change }))
row_found last horizon place rest mid after start change f g =
    let found = g f.0 f.3 in
    let P : ℕ → Type 0 = λ n. IsStart last horizon (record { commit = start.commit; clock = start.clock; size = n }) in (
      found.1,
      record {
        body = found.0;
        text = f.1 ∙ ap (λ (n : ℕ). row_start start.commit start.clock n ++ f.0) (sym found.3) ∙ ap (λ (l : List ℕ). row_start start.commit start.clock (length found.0) ++ l) found.2;
        start = subst P (sym found.3) f.2;
        change = found.4;
        puts = found.5;
      },
      found.6,
    )
