-- What holds where a call succeeds, and what a record's commit is.
use Rattle.std.proofs.Common.{◌≡◌, ℕ, ◌+◌, List, [], ◌∷◌, length, min, Option, Some, Result, Ok, Err, IfOk, OnOk, OnErr, sym, ap, ◌∙◌, subst, arith}
use Rattle.commit_book.specs.declared.change.Change.{Change}
use Rattle.hub_model.specs.declared.entry.Entry.{Entry}
use Rattle.kept_desk.specs.Filling.{Writes}
use Rattle.kept_desk.specs.Kept.{ReadsAll, kept_by}
use Rattle.kept_desk.specs.Optional.{kept_with, opened_with}
use Rattle.kept_desk.proofs.FillLemmas.{writes_none}
use Rattle.q_base.specs.Moment.{greatest_moment}
use Rattle.record_log.specs.Logs.{LogView}
use Rattle.record_log.specs.declared.log_record.LogRecord.{LogRecord}
use Rattle.record_log.specs.declared.log_record.LogRecord.TheVariants.{Commit, Moment}
use Rattle.shared_log.specs.declared.mark.AtOpening.{AtOpening}

pub on_ok : {X E : Type 0} (r : Result X E) (P : Type 0) → P → OnOk r P
on_ok (Ok x) P p = p
on_ok (Err e) P p = tt

pub on_ok_map : {X E : Type 0} (r : Result X E) (P Q : Type 0) → (P → Q) → OnOk r P → OnOk r Q
on_ok_map (Ok x) P Q f p = f p
on_ok_map (Err e) P Q f p = tt

pub on_err_map : {X E : Type 0} (r : Result X E) (P Q : Type 0) → (P → Q) → OnErr r P → OnErr r Q
on_err_map (Ok x) P Q f p = tt
on_err_map (Err e) P Q f p = f p

pub on_ok_both : {X E : Type 0} (r : Result X E) (P Q : Type 0) → OnOk r P → OnOk r Q → OnOk r (P × Q)
on_ok_both (Ok x) P Q p q = (p, q)
on_ok_both (Err e) P Q p q = tt

-- what somebody keeps who was there is what was kept
pub kept_taken : {Q X E : Type 0} (r : Result X E) (P : Q → List (ℕ × Change) → Type 0) (o : Option Q) (q : Q) (mine_old mine_new : List (ℕ × Entry)) → o ≡ Some q
    → OnOk r ((changes : List (ℕ × Change)) × P q changes × Writes mine_old mine_new changes) → OnOk r ((changes : List (ℕ × Change)) × kept_with P o changes × Writes mine_old mine_new changes)
kept_taken {Q} r P o q mine_old mine_new is wrote =
    subst (λ (x : Option Q). OnOk r ((changes : List (ℕ × Change)) × kept_with P x changes × Writes mine_old mine_new changes)) (sym is) wrote

pub opened_taken : {Q L X E : Type 0} (r : Result X E) (P : Q → L → Type 0) (o : Option Q) (q : Q) (now : Option L) → o ≡ Some q → OnOk r ((place : L) → now ≡ Some place → P q place) → OnOk r ((place : L) → now ≡ Some place → opened_with P o place)
opened_taken {Q} {L} r P o q now is opened = subst (λ (x : Option Q). OnOk r ((place : L) → now ≡ Some place → opened_with P x place)) (sym is) opened

-- what was read to its end is told
pub read_told : {E : Type 0} (r : Result AtOpening E) (at : AtOpening) (old new : LogView) (mine_old mine_new : List (ℕ × Entry)) → IfOk r (λ a. a ≡ at) → ReadsAll old new mine_old mine_new at.commits at.moment → IfOk r (λ a. ReadsAll old new mine_old mine_new a.commits a.moment)
read_told (Ok a) at old new mine_old mine_new is p = subst (λ (x : AtOpening). ReadsAll old new mine_old mine_new x.commits x.moment) (sym is) p
read_told (Err e) at old new mine_old mine_new is p = tt

-- ---- the record of a commit

pub commit_kept : (said : LogRecord) (clock at : ℕ) (change : Change) → said ≡ Commit clock change → at ≡ min clock greatest_moment → kept_by said ≡ (at, change) ∷ []
commit_kept said clock at change is at_is = ap (λ (r : LogRecord). kept_by r) is ∙ ap (λ (m : ℕ). (m, change) ∷ []) (sym at_is)

pub commit_written : {X E : Type 0} (r : Result X E) (said : LogRecord) (clock at : ℕ) (change : Change) (mine_old mine_new : List (ℕ × Entry)) → said ≡ Commit clock change → at ≡ min clock greatest_moment
    → OnOk r (Writes mine_old mine_new ((at, change) ∷ [])) → OnOk r (Writes mine_old mine_new (kept_by said))
commit_written r said clock at change mine_old mine_new is at_is wrote =
    on_ok_map r (Writes mine_old mine_new ((at, change) ∷ [])) (Writes mine_old mine_new (kept_by said))
    (λ w. subst (λ (l : List (ℕ × Change)). Writes mine_old mine_new l) (sym (commit_kept said clock at change is at_is)) w) wrote

pub commit_counted : {X E : Type 0} (r : Result X E) (said : LogRecord) (clock : ℕ) (change : Change) (old new : ℕ) → said ≡ Commit clock change → OnOk r (new ≡ old + 1) → OnOk r (new ≡ old + length (kept_by said))
commit_counted r said clock change old new is counted =
    let one : length (kept_by said) ≡ 1 = ap (λ (x : LogRecord). length (kept_by x)) is in
    on_ok_map r (new ≡ old + 1) (new ≡ old + length (kept_by said)) (λ more. omega (arith, more, one)) counted

-- ---- the record of a moment

pub moment_written : (said : LogRecord) (clock : ℕ) (mine : List (ℕ × Entry)) → said ≡ Moment clock → Writes mine mine (kept_by said)
moment_written said clock mine is = subst (λ (x : LogRecord). Writes mine mine (kept_by x)) (sym is) (writes_none mine)

pub moment_counted : (said : LogRecord) (clock count : ℕ) → said ≡ Moment clock → count ≡ count + length (kept_by said)
moment_counted said clock count is =
    let none : length (kept_by said) ≡ 0 = ap (λ (x : LogRecord). length (kept_by x)) is in omega (arith, none)
